-- Programs: for each seat the lines that it does one after another, each a choice among events.
use Rattle.std.specs.Prelude.{ℕ, ◌+◌, Bool, true, false, ◌&&◌, ◌==◌, List, ◌∷◌, map, length, find, slice_get, if◌then◌else◌, Option, Some, None, is_none, option_and_then, option_map, unwrap_or}
use Rattle.std.specs.List.{list_any, position_from, filter_map, range_with_len}
use Rattle.acta_table.specs.declared.event.Event.{Event}
use Rattle.acta_table.specs.declared.event.Event.TheVariants.{Split, Delegate, Operate}
use Rattle.acta_table.specs.declared.event.OpNo.{OpNo}
use Rattle.acta_table.specs.Numbered.{item_at, numbers_from}
use Rattle.acta_table.specs.Sets.{each_once}
use Rattle.acta_script.specs.declared.programs.ProgramLine.{ProgramLine}
use Rattle.acta_explore.specs.declared.point.Done.{Done}
use Rattle.acta_explore.specs.declared.point.Step.{Step}

-- the lines of all programs, in the order of the input; the first has the position 0
abbrev pub Programs : Type 0 → Type 0
Programs A = List (ProgramLine A)

-- whether the step did the line at position l
abbrev pub is_of_line : ℕ → Step → Bool
is_of_line l s = s.line == l

-- what a step did: the alternative, and its return
abbrev pub done_by : Step → Done
done_by s = record { alternative = s.alternative; ret = s.ret }

-- what the line at position l did, if it was done
abbrev pub done_at : List Step → ℕ → Option Done
done_at steps l = option_map done_by (find (is_of_line l) steps)

-- the same for each line of the programs
abbrev pub lines_done : {A : Type 0} → Programs A → List Step → List (Option Done)
lines_done programs steps = map (done_at steps) (range_with_len 0 (length programs))

-- the first line of the seat that is not done; the first line of the list has the position n
abbrev pub next_from : {A : Type 0} → ℕ → List (ProgramLine A) → List (Option Done) → ℕ → Option ℕ
next_from n (line ∷ lines) (done ∷ others) seat =
    if (line.seat == seat) && is_none done then Some n else next_from (n + 1) lines others seat
next_from n _ _ seat = None

-- the position of the seat's next line
abbrev pub next_line : {A : Type 0} → Programs A → List Step → ℕ → Option ℕ
next_line programs steps seat = next_from 0 programs (lines_done programs steps) seat

-- whether the event is an operation
abbrev pub is_operation : {A : Type 0} → Event A → Bool
is_operation (Operate t ob op) = true
is_operation _ = false

-- whether the line contains a `do`
abbrev pub has_operation : {A : Type 0} → ProgramLine A → Bool
has_operation line = list_any is_operation line.alternatives

-- the positions of the lines that contain a `do`, in order: programs name operations by their numbers in this list
abbrev pub operation_lines : {A : Type 0} → Programs A → List ℕ
operation_lines programs = numbers_from has_operation 0 programs

-- the line of a step that did an operation
abbrev pub operated_line : Step → Option ℕ
operated_line s = option_map (λ ret. s.line) s.ret

-- the lines that did operations, in the order of the steps: the nth did the machine's operation n
abbrev pub operated_lines : List Step → List ℕ
operated_lines steps = filter_map operated_line steps

-- the machine's number of the operation that a line did; `None` if it is not done
abbrev pub number_of_line : List Step → ℕ → Option ℕ
number_of_line steps l = position_from (λ m. m == l) 1 (operated_lines steps)

-- the machine's number of the operation with this number in the programs; 0, which no operation has, before it is done
abbrev pub number_now : {A : Type 0} → Programs A → List Step → OpNo → OpNo
number_now programs steps op =
    record { 0 = unwrap_or (option_and_then (number_of_line steps) (item_at (operation_lines programs) op.0)) 0 }

-- the event with the machine's numbers of its operations
abbrev pub event_now : {A : Type 0} → Programs A → List Step → Event A → Event A
event_now programs steps (Split t u class ops) = Split t u class (each_once (map (number_now programs steps) ops))
event_now programs steps (Delegate t u ops) = Delegate t u (each_once (map (number_now programs steps) ops))
event_now programs steps event = event

-- the event of an alternative, from 0, of the line at position l
abbrev pub event_at : {A : Type 0} → Programs A → List Step → ℕ → ℕ → Option (Event A)
event_at programs steps l alternative =
    option_map (event_now programs steps) (option_and_then (λ line. slice_get line.alternatives alternative) (slice_get programs l))
