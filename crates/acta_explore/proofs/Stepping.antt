-- Steps, and what they change.
use Rattle.std.proofs.Common.{◌≡◌, ◌≤◌, ℕ, ◌+◌, zero, suc, Bool, true, false, ◌&&◌, ◌==◌, cond, List, [], ◌∷◌, ◌++◌, map, length, Option, Some, None, is_none, refl, sym, ap, subst, ◌∙◌, not, arith, inl, inr}
use Rattle.std.specs.Prelude.{if◌then◌else◌, option_and_then, option_map, slice_get, find, nat_le}
use Rattle.std.specs.List.{range_with_len, AllByRecursion}
use Rattle.std.proofs.lemmas.Bool.Decides.{nat_tests}
use Rattle.std.proofs.lemmas.List.{map-append}
use Rattle.std.proofs.lemmas.List.Elements.{filter_map-append}
use Rattle.std.proofs.lemmas.Option.{slice_get_cases}
use Rattle.acta_table.specs.declared.answer.Refusal.{Refusal}
use Rattle.acta_table.specs.declared.answer.Rule.{Rule}
use Rattle.acta_table.specs.declared.answer.Rule.TheVariants.{BadObject}
use Rattle.acta_table.specs.declared.event.Event.{Event}
use Rattle.acta_table.specs.declared.event.Event.TheVariants.{Begin, Spawn, Split, Join, Delegate, Form, Operate, Commit, Abort, Permit}
use Rattle.acta_table.specs.declared.event.ObjId.{ObjId}
use Rattle.acta_table.specs.declared.event.Op.{Op}
use Rattle.acta_table.specs.declared.event.OpNo.{OpNo}
use Rattle.acta_table.specs.declared.event.Ret.{Ret}
use Rattle.acta_table.specs.declared.event.TxnId.{TxnId}
use Rattle.acta_table.specs.declared.model.Kind.{Kind}
use Rattle.acta_table.specs.declared.model.Parts.{Parts}
use Rattle.acta_table.specs.Classes.{kind_at}
use Rattle.acta_table.specs.Events.{operations_named}
use Rattle.acta_table.specs.Numbered.{item_at}
use Rattle.acta_table.specs.Refusals.{broken_if}
use Rattle.acta_table.specs.WellFormed.{bad_object}
use Rattle.acta_table.specs.Sets.{each_once}
use Rattle.acta_machine.specs.Changes.{effect, summary_of}
use Rattle.acta_machine.specs.Rules.{lowest_broken}
use Rattle.acta_machine.specs.Summary.{Summary}
use Rattle.acta_machine.specs.Table.{State, kept_as, moved_on, refusal_in, after}
use Rattle.acta_machine.specs.Values.{live_ops, return_due, value_of}
use Rattle.acta_objects.specs.Objects.{first_state, state_after, returned}
use Rattle.acta_machine.proofs.Histories.{summary_more}
use Rattle.acta_machine.proofs.Unbroken.{unbroken, none-earlier}
use Rattle.acta_explore.specs.declared.point.Done.{Done}
use Rattle.acta_explore.specs.declared.point.Step.{Step}
use Rattle.acta_explore.specs.declared.point.Turn.{Turn}
use Rattle.acta_script.specs.declared.programs.ProgramLine.{ProgramLine}
use Rattle.acta_explore.specs.Equivalence.{known}
use Rattle.acta_explore.specs.Points.{Point, gone_on, tried, stepped, order_of, turn_of}
use Rattle.acta_explore.specs.Programs.{Programs, is_of_line, done_by, done_at, next_from, next_line, is_operation, operation_lines, operated_line, operated_lines, number_now, event_now, event_at}
use Rattle.acta_explore.proofs.Numbering.{Differ, numbered_lines}
use Rattle.acta_explore.proofs.Rules.{with_ops}
use Rattle.acta_explore.proofs.Effects.{lines_after}

-- the event of an alternative, as the programs have it
abbrev pub event_in : {A : Type 0} → Programs A → ℕ → ℕ → Option (Event A)
event_in programs l alternative = option_and_then (λ line. slice_get line.alternatives alternative) (slice_get programs l)

-- a step from p to q
pub record IsStep {A : Type 0} (programs : Programs A) (p : Point A) (turn : Turn) (q : Point A) : Type 0 where
  pub line : ℕ
  pub event : Event A
  pub next : next_line programs p.steps turn.seat ≡ Some line
  pub at : event_in programs line turn.alternative ≡ Some event
  pub admitted : refusal_in p.state (event_now programs p.steps event) ≡ None
  pub gone : q ≡ gone_on p turn line (event_now programs p.steps event)

tried-none : {A : Type 0} (p q : Point A) (turn : Turn) (l : ℕ) (e : Event A) → (r : Option Refusal) → (if is_none r then Some (gone_on p turn l e) else None) ≡ Some q → (r ≡ None) × (q ≡ gone_on p turn l e)
tried-none p q turn l e None h = (refl, cc)
tried-none p q turn l e (Some r) h = absurd cc

from-event : {A : Type 0} (programs : Programs A) (p : Point A) (turn : Turn) (q : Point A) (l : ℕ) → next_line programs p.steps turn.seat ≡ Some l → (e : Option (Event A)) → event_in programs l turn.alternative ≡ e → option_and_then (tried p turn l) (option_map (event_now programs p.steps) e) ≡ Some q → IsStep programs p turn q
from-event programs p turn q l next None at h = absurd cc
from-event programs p turn q l next (Some event) at h =
    let e = event_now programs p.steps event in
    let both : (refusal_in p.state e ≡ None) × (q ≡ gone_on p turn l e) = tried-none p q turn l e (refusal_in p.state e) h in
    record { line = l; event = event; next = next; at = at; admitted = both.0; gone = both.1 }

from-line : {A : Type 0} (programs : Programs A) (p : Point A) (turn : Turn) (q : Point A) (l : Option ℕ) → next_line programs p.steps turn.seat ≡ l → option_and_then (λ l. option_and_then (tried p turn l) (event_at programs p.steps l turn.alternative)) l ≡ Some q → IsStep programs p turn q
from-line programs p turn q None next h = absurd cc
from-line programs p turn q (Some l) next h = from-event programs p turn q l next (event_in programs l turn.alternative) refl h

-- what `stepped` gives is a step
pub is_step : {A : Type 0} (programs : Programs A) (p : Point A) (turn : Turn) (q : Point A) → stepped programs p turn ≡ Some q → IsStep programs p turn q
unfolding stepped
is_step programs p turn q h = from-line programs p turn q (next_line programs p.steps turn.seat) refl h

tried-so : {A : Type 0} (p : Point A) (turn : Turn) (l : ℕ) (e : Event A) (r : Option Refusal) → r ≡ None → (if is_none r then Some (gone_on p turn l e) else None) ≡ Some (gone_on p turn l e)
tried-so p turn l e None h = refl
tried-so p turn l e (Some r) h = absurd cc

-- a step is what `stepped` gives
pub stepped_so : {A : Type 0} (programs : Programs A) (p : Point A) (turn : Turn) (l : ℕ) (event : Event A) → next_line programs p.steps turn.seat ≡ Some l → event_in programs l turn.alternative ≡ Some event → refusal_in p.state (event_now programs p.steps event) ≡ None → stepped programs p turn ≡ Some (gone_on p turn l (event_now programs p.steps event))
unfolding stepped
stepped_so programs p turn l event next at admitted =
    let e = event_now programs p.steps event in
    ap (option_and_then (λ l. option_and_then (tried p turn l) (event_at programs p.steps l turn.alternative))) next
    ∙ (ap (λ (o : Option (Event _)). option_and_then (tried p turn l) (option_map (event_now programs p.steps) o)) at
    ∙ tried-so p turn l e (refusal_in p.state e) admitted)

-- an admitted event is kept
pub after-admitted : {A : Type 0} (s : State A) (e : Event A) → refusal_in s e ≡ None → after s e ≡ record s { kept = s.kept ++ kept_as s e ∷ [] }
unfolding after
after-admitted s e none = ap (moved_on s e) none

pub model-after : {A : Type 0} (s : State A) (e : Event A) → refusal_in s e ≡ None → (after s e).model ≡ s.model
model-after s e none = ap (λ (t : State _). t.model) (after-admitted s e none)

pub summary-after : {A : Type 0} (s : State A) (e : Event A) → refusal_in s e ≡ None → summary_of (after s e).model (after s e).kept ≡ effect s.model (summary_of s.model s.kept) e
summary-after s e none = ap (λ (t : State _). summary_of t.model t.kept) (after-admitted s e none) ∙ summary_more s.model s.kept (kept_as s e)

-- the order has one turn more
pub order-step : {A : Type 0} (programs : Programs A) (p : Point A) (turn : Turn) (q : Point A) → stepped programs p turn ≡ Some q → order_of q ≡ order_of p ++ turn ∷ []
order-step programs p turn q h =
    let one = is_step programs p turn q h in
    ap order_of one.gone ∙ map-append turn_of p.steps ((record { seat = turn.seat; line = one.line; alternative = turn.alternative; ret = (kept_as p.state (event_now programs p.steps one.event)).ret }) ∷ [])

-- the model stays the same
pub model-step : {A : Type 0} (programs : Programs A) (p : Point A) (turn : Turn) (q : Point A) → stepped programs p turn ≡ Some q → q.state.model ≡ p.state.model
model-step programs p turn q h =
    let one = is_step programs p turn q h in
    ap (λ (r : Point _). r.state.model) one.gone ∙ model-after p.state (event_now programs p.steps one.event) one.admitted

-- the seat's next line was not done
next-by : (f : ℕ → Option Done) (n l : ℕ) (o : Option ℕ) (b : Bool) → (o ≡ Some l → f l ≡ None) → (d : Option Done) → f n ≡ d → (if b && is_none d then Some n else o) ≡ Some l → f l ≡ None
next-by f n l o true later None here e = let same : n ≡ l = cc in subst (λ (k : ℕ). f k ≡ None) same here
next-by f n l o true later (Some d) here e = later e
next-by f n l o false later d here e = later e

next-undone : {A : Type 0} (f : ℕ → Option Done) (n l seat : ℕ) (lines : List (ProgramLine A)) (k : ℕ) → next_from n lines (map f (range_with_len n k)) seat ≡ Some l → f l ≡ None
next-undone f n l seat [] k e = absurd cc
next-undone f n l seat (line ∷ lines) zero e = absurd cc
next-undone f n l seat (line ∷ lines) (suc k) e =
    next-by f n l (next_from (n + 1) lines (map f (range_with_len (n + 1) k)) seat) (line.seat == seat) (next-undone f (n + 1) l seat lines k) (f n) refl e

undone-step : (l : ℕ) (s : Step) (steps : List Step) (b : Bool) → is_of_line l s ≡ b → (option_map done_by (find (is_of_line l) steps) ≡ None → AllByRecursion (λ r. Differ r.line l) steps) → option_map done_by (cond b (Some s) (find (is_of_line l) steps)) ≡ None → AllByRecursion (λ r. Differ r.line l) (s ∷ steps)
undone-step l s steps true e later h = absurd cc
undone-step l s steps false e later h = (e, later h)

undone-lines : (l : ℕ) (steps : List Step) → done_at steps l ≡ None → AllByRecursion (λ r. Differ r.line l) steps
undone-lines l [] e = tt
undone-lines l (s ∷ steps) e = undone-step l s steps (is_of_line l s) refl (undone-lines l steps) e

-- no step did the seat's next line
pub next-new : {A : Type 0} (programs : Programs A) (steps : List Step) (seat l : ℕ) → next_line programs steps seat ≡ Some l → AllByRecursion (λ r. Differ r.line l) steps
next-new programs steps seat l e = undone-lines l steps (next-undone (done_at steps) 0 l seat programs (length programs) e)

-- the event by its operations
numbers-now : {A : Type 0} (programs : Programs A) (steps : List Step) (ops : List OpNo) → map (number_now programs steps) ops ≡ numbered_lines (operated_lines steps) (map (λ o. item_at (operation_lines programs) o.0) ops)
numbers-now programs steps [] = refl
numbers-now programs steps (o ∷ ops) = ap (λ (ns : List OpNo). number_now programs steps o ∷ ns) (numbers-now programs steps ops)

-- the lines whose operations an event names
abbrev pub lines_named : {A : Type 0} → Programs A → Event A → List (Option ℕ)
lines_named programs e = map (λ o. item_at (operation_lines programs) o.0) (operations_named e)

pub now-with : {A : Type 0} (programs : Programs A) (steps : List Step) (e : Event A) → event_now programs steps e ≡ with_ops e (each_once (numbered_lines (operated_lines steps) (lines_named programs e)))
now-with programs steps (Begin t class) = refl
now-with programs steps (Spawn t c class) = refl
now-with programs steps (Split t u class ops) = ap (λ (ns : List OpNo). Split t u class (each_once ns)) (numbers-now programs steps ops)
now-with programs steps (Join t u) = refl
now-with programs steps (Delegate t u ops) = ap (λ (ns : List OpNo). Delegate t u (each_once ns)) (numbers-now programs steps ops)
now-with programs steps (Form kind j i) = refl
now-with programs steps (Operate t ob op) = refl
now-with programs steps (Commit t) = refl
now-with programs steps (Abort t) = refl
now-with programs steps (Permit t u ob) = refl

true-false : true ≡ false → ⊥
true-false e = cc

-- an operation that is admitted returns something, and no other event does
returns-by : {A : Type 0} (m : Parts A) (s : Summary) (ob : ℕ) → nat_le (length m.objects) ob ≡ false → is_none (kind_at m ob) ≡ false
returns-by m s ob e = elim ((slice_get_cases m.objects ob).1) [
  | inl found ↦ ap (λ (o : Option _). is_none (option_map (λ x. x.kind) o)) found.2
  | inr past ↦ let (long, is) = past in absurd (true-false (sym (le-true (length m.objects) ob (omega arith)) ∙ e))
]
  where
    le-true : (a b : ℕ) → a ≤ b → nat_le a b ≡ true
    le-true a b h = grind (arith, nat_tests)

append-nil : {X : Type 0} (xs : List X) → xs ++ [] ≡ xs
append-nil [] = refl
append-nil (x ∷ xs) = ap (λ (ys : List _). x ∷ ys) (append-nil xs)

broken-none : (b : Bool) (rule : Rule) → broken_if b rule ≡ None → b ≡ false
broken-none true rule e = absurd cc
broken-none false rule e = refl

in-model : {A : Type 0} (m : Parts A) (t : TxnId) (ob : ObjId) (op : Op) → bad_object m (Operate t ob op) ≡ None → nat_le (length m.objects) ob.0 ≡ false
unfolding bad_object
in-model m t ob op e = broken-none (nat_le (length m.objects) ob.0) BadObject e

some-return : {A : Type 0} (m : Parts A) (s : Summary) (op : Op) (ob : ℕ) (k : Option Kind) → kind_at m ob ≡ k → is_none k ≡ false → is_none (option_map (λ value. returned value op) (value_of m s ob)) ≡ false
some-return {A} m s op ob None e none = absurd (true-false none)
some-return {A} m s op ob (Some kind) e none = ap (λ (k : Option Kind). is_none (option_map (λ value. returned {A = A} value op) (option_map (λ kind. state_after {A = A} (first_state kind) (live_ops kind s.operations ob)) k))) e

-- the lines that did operations, after a step
lines-by : (steps : List Step) (seat l alternative : ℕ) (ret : Option Ret) (b : Bool) → is_none ret ≡ not b → operated_lines (steps ++ (record { seat = seat; line = l; alternative = alternative; ret = ret }) ∷ []) ≡ (if b then operated_lines steps ++ l ∷ [] else operated_lines steps)
lines-by steps seat l alternative None true e = absurd cc
lines-by steps seat l alternative (Some r) true e = filter_map-append operated_line steps ((record { seat = seat; line = l; alternative = alternative; ret = Some r }) ∷ [])
lines-by steps seat l alternative None false e = filter_map-append operated_line steps ((record { seat = seat; line = l; alternative = alternative; ret = None }) ∷ []) ∙ append-nil (operated_lines steps)
lines-by steps seat l alternative (Some r) false e = absurd cc

ret-of : {A : Type 0} (m : Parts A) (s : Summary) (e : Event A) (ops : List OpNo) → lowest_broken m s (with_ops e ops) ≡ None → is_none (return_due m s (with_ops e ops)) ≡ not (is_operation e)
ret-of m s (Begin t class) ops none = refl
ret-of m s (Spawn t c class) ops none = refl
ret-of m s (Split t u class named) ops none = refl
ret-of m s (Join t u) ops none = refl
ret-of m s (Delegate t u named) ops none = refl
ret-of m s (Form kind j i) ops none = refl
ret-of m s (Operate t ob op) ops none =
    some-return m s op ob.0 (kind_at m ob.0) refl (returns-by m s ob.0 (in-model m t ob op (unbroken m s (Operate t ob op) (none-earlier m s (Operate t ob op) none)).object))
ret-of m s (Commit t) ops none = refl
ret-of m s (Abort t) ops none = refl
ret-of m s (Permit t u ob) ops none = refl

-- the same, of an event of the programs
pub lines-gone : {A : Type 0} (programs : Programs A) (p : Point A) (turn : Turn) (l : ℕ) (e : Event A) → refusal_in p.state (event_now programs p.steps e) ≡ None → operated_lines (gone_on p turn l (event_now programs p.steps e)).steps ≡ lines_after e l (operated_lines p.steps)
lines-gone programs p turn l e none =
    let ops = each_once (numbered_lines (operated_lines p.steps) (lines_named programs e)) in
    let same = now-with programs p.steps e in
    lines-by p.steps turn.seat l turn.alternative (kept_as p.state (event_now programs p.steps e)).ret (is_operation e)
    (ap (λ (f : Event _). is_none (return_due p.state.model (known p) f)) same
    ∙ ret-of p.state.model (known p) e ops (sym (ap (refusal_in p.state) same) ∙ none))
