-- Examples: where some lines are wrong.
use Rattle.std.specs.Prelude.{◌≡◌, ℕ, List, [], ◌∷◌, codes, Option, Some, None, pos, refl, true, false}
use Rattle.acta_table.specs.declared.event.EventKind.TheVariants.{Begin, Operate}
use Rattle.acta_table.specs.declared.model.AtCommit.TheVariants.{Keeps}
use Rattle.acta_table.specs.declared.model.Extent.TheVariants.{Any}
use Rattle.acta_table.specs.declared.model.Kind.TheVariants.{Register}
use Rattle.acta_table.specs.declared.model.Parts.{Parts}
use Rattle.acta_table.specs.declared.model.Scope.TheVariants.{Others}
use Rattle.acta_table.specs.declared.policy.Policy.TheVariants.{Refuse}
use Rattle.acta_words.specs.Text.{words_of}
use Rattle.acta_script.specs.declared.command_words.BreakKind.TheVariants as break_kind
use Rattle.acta_script.specs.declared.command_words.CommandKind.TheVariants as command_kind
use Rattle.acta_script.specs.declared.diagnosis.Diagnostic.{Diagnostic}
use Rattle.acta_script.specs.declared.diagnosis.Expected.{Expected}
use Rattle.acta_script.specs.declared.diagnosis.Expected.TheVariants.{Part, EventForm, OperationForm, CommandForm, BreakForm}
use Rattle.acta_script.specs.declared.diagnosis.LinePart.TheVariants.{Event, Kind, Operation, Transaction, Operations, Class, Object, Return, Seat, Count, Command, Break}
use Rattle.acta_script.specs.declared.diagnosis.WordPlace.{WordPlace}
use Rattle.acta_script.specs.declared.diagnosis.WordPlace.TheVariants.{Wrong, Missing}
use Rattle.acta_script.specs.declared.fault.LineFault.{LineFault}
use Rattle.acta_script.specs.declared.fault.LineFault.TheVariants.{Empty, Word, Arity, Number, Name}
use Rattle.acta_script.specs.declared.op_kind.OpKind.TheVariants as op_kind
use Rattle.acta_script.specs.Diagnosis.{wrong_event, wrong_kept, wrong_seated, wrong_command}

-- a register and a class
abbrev model : Parts (Unit {0})
model = record {
  objects = (record { name = codes "x"; kind = Register (pos 0) }) ∷ [];
  classes = (record { name = codes "part"; starts = record { begin = true; spawned = false; split = true }; may = 0; scope = Others; policy = Refuse; at_commit = Keeps; extent = Any; spawn_edges = []; split_edges = [] }) ∷ [];
}

abbrev event : List ℕ → Option Diagnostic
event line = wrong_event model 0 (words_of line)

abbrev kept : List ℕ → Option Diagnostic
kept line = wrong_kept model (words_of line)

abbrev seated : List ℕ → Option Diagnostic
seated line = wrong_seated model 16 (words_of line)

abbrev command : List ℕ → Option Diagnostic
command line = wrong_command model (words_of line)

abbrev found : LineFault → WordPlace → Expected → Option Diagnostic
found fault place expected = Some (record { fault = fault; place = place; expected = expected })

good : event (codes "begin 1 part") ≡ None
good = refl

misspelt : event (codes "bgin 1") ≡ found Word (Wrong 0) (Part Event)
misspelt = refl

-- the first wrong number, and not the wrong name after it
first_number : event (codes "begin x nosuch") ≡ found Number (Wrong 1) (Part Transaction)
first_number = refl

-- a wrong number has the lower fault, though a wrong name is before it
list_after_class : event (codes "split 1 2 nosuch 3,,4") ≡ found Number (Wrong 4) (Part Operations)
list_after_class = refl

no_class : event (codes "begin 1 x") ≡ found Name (Wrong 2) (Part Class)
no_class = refl

no_object : event (codes "do 1 part read") ≡ found Name (Wrong 2) (Part Object)
no_object = refl

-- the first word too many, though a word before it is no number
one_too_many : event (codes "begin x part part part") ≡ found Arity (Wrong 3) (EventForm Begin)
one_too_many = refl

-- an unknown operation has the lower fault, whatever follows it
unknown_operation : event (codes "do x y reed 1 2") ≡ found Word (Wrong 3) (Part Operation)
unknown_operation = refl

unknown_kind : event (codes "form XX") ≡ found Word (Wrong 1) (Part Kind)
unknown_kind = refl

-- the number of a write is missing, and so is the operation of a `do`
no_number : event (codes "do 1 x write # 5") ≡ found Arity (Missing 4) (OperationForm op_kind.Write)
no_number = refl

no_operation : event (codes "do 1 x") ≡ found Arity (Missing 3) (EventForm Operate)
no_operation = refl

number_of_read : event (codes "do 1 x read 5") ≡ found Arity (Wrong 4) (OperationForm op_kind.Read)
number_of_read = refl

no_event : kept (codes "= done") ≡ found Empty (Missing 0) (Part Event)
no_event = refl

no_return : kept (codes "begin 1 part =") ≡ found Arity (Missing 4) (Part Return)
no_return = refl

wrong_return : kept (codes "begin 1 part = maybe") ≡ found Number (Wrong 4) (Part Return)
wrong_return = refl

-- the lower fault counts, and of equal faults that of the event
both_numbers : kept (codes "begin x part = maybe") ≡ found Number (Wrong 1) (Part Transaction)
both_numbers = refl

lower_return : kept (codes "begin x part = done done") ≡ found Arity (Wrong 5) (Part Return)
lower_return = refl

good_seat : seated (codes "16 begin 1 part") ≡ None
good_seat = refl

no_seat : seated (codes "17 begin 1 part") ≡ found Number (Wrong 0) (Part (Seat 16))
no_seat = refl

-- the event has the lower fault
lower_event : seated (codes "0 begin 1") ≡ found Arity (Missing 3) (EventForm Begin)
lower_event = refl

-- of equal faults that of the seat
seat_first : seated (codes "x begin y part") ≡ found Number (Wrong 0) (Part (Seat 16))
seat_first = refl

-- the seat has the lower fault
lower_seat : seated (codes "x begin 1 nosuch") ≡ found Number (Wrong 0) (Part (Seat 16))
lower_seat = refl

behind_seat : seated (codes "1 begin 1 nosuch") ≡ found Name (Wrong 3) (Part Class)
behind_seat = refl

seat_alone : seated (codes "x # 1") ≡ found Arity (Missing 1) (Part Event)
seat_alone = refl

misspelt_command : command (codes "stpe 1") ≡ found Word (Wrong 0) (Part Command)
misspelt_command = refl

goto_far : command (codes "goto 4294967296") ≡ found Number (Wrong 1) (Part Count)
goto_far = refl

goto_nowhere : command (codes "goto") ≡ found Arity (Missing 1) (CommandForm command_kind.Goto)
goto_nowhere = refl

long_step : command (codes "step 2") ≡ found Arity (Wrong 1) (CommandForm command_kind.Step)
long_step = refl

no_value : command (codes "value y") ≡ found Name (Wrong 1) (Part Object)
no_value = refl

no_break : command (codes "break") ≡ found Arity (Missing 1) (Part Break)
no_break = refl

unknown_break : command (codes "break class part") ≡ found Word (Wrong 1) (Part Break)
unknown_break = refl

unknown_event : command (codes "break kind bgin x") ≡ found Word (Wrong 2) (Part Event)
unknown_event = refl

long_break : command (codes "break txn x y") ≡ found Arity (Wrong 3) (BreakForm break_kind.Txn)
long_break = refl

no_txn : command (codes "break ended 65536") ≡ found Number (Wrong 2) (Part Transaction)
no_txn = refl
