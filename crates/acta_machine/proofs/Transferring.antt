-- The rules on transferred operations agree with the axioms on them.
use Rattle.std.proofs.Common.{◌≡◌, ℕ, Bool, true, false, ◌&&◌, ◌||◌, not, ◌==◌, List, [], ◌∷◌, filter, find, Option, Some, None, is_none, refl, sym, ap, ◌∙◌}
use Rattle.std.specs.Prelude.{if◌then◌else◌}
use Rattle.std.specs.List.{AllByRecursion}
use Rattle.std.specs.Option.{option_map_or}
use Rattle.std.proofs.lemmas.Bool.{true≢false, eqb-true}
use Rattle.acta_table.specs.declared.answer.Rule.TheVariants.{NotResponsible, BadSet}
use Rattle.acta_table.specs.declared.event.Event.{Event}
use Rattle.acta_table.specs.declared.event.Event.TheVariants.{Begin, Spawn, Split, Join, Delegate, Form, Operate, Commit, Abort, Permit}
use Rattle.acta_table.specs.declared.event.OpNo.{OpNo}
use Rattle.acta_table.specs.declared.model.Parts.{Parts}
use Rattle.acta_table.specs.Events.{acting, operations_named}
use Rattle.acta_table.specs.Numbered.{numbers_where, smallest}
use Rattle.acta_table.specs.Sets.{numbers_of, is_named}
use Rattle.acta_axioms.specs.Faults.{has_number}
use Rattle.acta_axioms.proofs.Numbers.{holds, has-held}
use Rattle.acta_sets.specs.declared.held_op.HeldOp.{HeldOp}
use Rattle.acta_sets.specs.Operations.{is_held, operation_at, are_held}
use Rattle.acta_machine.specs.Summary.{Summary}
use Rattle.acta_machine.specs.Rules.{is_of_another, not_held, unknown_in, left_out, not_responsible, bad_set}
use Rattle.acta_machine.proofs.Broken.{by_none}
use Rattle.acta_machine.proofs.Unbroken.{Unbroken}

-- if there is no smallest number, there is no number
none-smallest : (ns : List ℕ) → smallest ns ≡ None → ns ≡ []
none-smallest [] e = refl
none-smallest (n ∷ ns) e = cc

none-here : {X : Type 0} (test : X → Bool) (x : X) (xs : List X) → filter test (x ∷ xs) ≡ [] → (test x ≡ false) × (filter test xs ≡ [])
none-here test x xs e = of (test x) refl e
  where
    of : (b : Bool) → test x ≡ b → (if b then x ∷ filter test xs else filter test xs) ≡ [] → (test x ≡ false) × (filter test xs ≡ [])
    of true is e = cc
    of false is e = (is, e)

not_false : (b : Bool) → not b ≡ false → b ≡ true
not_false true e = refl
not_false false e = cc

-- an operation that exists and is not another's is held
held-there : (t : ℕ) (i : Option HeldOp) → option_map_or (λ x. not (is_held t x)) i false ≡ false → is_none i ≡ false → option_map_or (is_held t) i false ≡ true
held-there t None e there = absurd (true≢false there)
held-there t (Some i) e there = not_false (is_held t i) e

all-held : (s : Summary) (t : ℕ) (ns : List ℕ) → filter (is_of_another s t) ns ≡ [] → filter (λ n. is_none (operation_at s.operations n)) ns ≡ [] → AllByRecursion (λ n. holds s.operations t n ≡ true) ns
all-held s t [] others none = tt
all-held s t (n ∷ ns) others none =
    let here = none-here (is_of_another s t) n ns others in
    let there = none-here (λ k. is_none (operation_at s.operations k)) n ns none in
    (held-there t (operation_at s.operations n) here.0 there.0, all-held s t ns here.1 there.1)

-- if no named operation is another's or unknown, t holds all of them
pub named-held : (s : Summary) (ops : List OpNo) (t : ℕ) → not_held s ops t ≡ None → unknown_in s ops ≡ None → AllByRecursion (λ n. holds s.operations t n ≡ true) (numbers_of ops)
named-held s ops t others none =
    all-held s t (numbers_of ops) (none-smallest _ others) (none-smallest _ none)

-- so t holds all named operations, as the table requires
pub named-all : (items : List HeldOp) (t : ℕ) (ops : List OpNo) → AllByRecursion (λ n. holds items t n ≡ true) (numbers_of ops) → are_held t ops items ≡ true
named-all items t [] all = refl
named-all items t (o ∷ ops) all = λ i. all.0 i && named-all items t ops all.1 i

-- an operation that is named is in the list
pub held-named : (items : List HeldOp) (t : ℕ) (ops : List OpNo) → AllByRecursion (λ n. holds items t n ≡ true) (numbers_of ops) → (n : ℕ) → is_named ops n ≡ true → holds items t n ≡ true
held-named items t [] all n named = absurd (true≢false (sym named))
held-named items t (o ∷ ops) all n named = of (o.0 == n) refl named (held-named items t ops all.1 n)
  where
    of : (b : Bool) → (o.0 == n) ≡ b → (b || is_named ops n) ≡ true → (is_named ops n ≡ true → holds items t n ≡ true) → holds items t n ≡ true
    of true is e later = ap (holds items t) (sym (eqb-true o.0 n is)) ∙ all.0
    of false is e later = later e

-- if t holds all named operations, each is in its access set
pub none-unheld : (items : List HeldOp) (t : ℕ) (ns : List ℕ) → AllByRecursion (λ n. holds items t n ≡ true) ns → filter (λ n. not (has_number (numbers_where (is_held t) items) n)) ns ≡ []
none-unheld items t [] all = refl
none-unheld items t (n ∷ ns) all =
    λ i. if not ((has-held items t n ∙ all.0) i) then n ∷ filter (λ k. not (has_number (numbers_where (is_held t) items) k)) ns else none-unheld items t ns all.1 i

-- if no first item is found, there is none
none-found : (test : ℕ → Bool) (ns : List ℕ) → find test ns ≡ None → filter test ns ≡ []
none-found test [] e = refl
none-found test (n ∷ ns) e = of (test n) e (none-found test ns)
  where
    of : (b : Bool) → (if b then Some n else find test ns) ≡ None → (find test ns ≡ None → filter test ns ≡ []) → (if b then n ∷ filter test ns else filter test ns) ≡ []
    of true e later = cc
    of false e later = later e

-- if the table finds no operation left out, there is none by places
pub none-left : (s : Summary) (ops : List OpNo) (t : ℕ) (b : Bool) → (if b then left_out s ops t else None) ≡ None → (if b then filter (λ n. not (is_named ops n)) (numbers_where (is_held t) s.operations) else []) ≡ []
none-left s ops t true none = none-found (λ n. not (is_named ops n)) (numbers_where (is_held t) s.operations) none
none-left s ops t false none = refl

-- so for each event that breaks none of the earlier rules
pub event-held : {A : Type 0} (m : Parts A) (s : Summary) (e : Event A) → Unbroken m s e → option_map_or (λ t. are_held t (operations_named e) s.operations) (acting e) true ≡ true
unfolding not_responsible bad_set
event-held m s (Begin t class) u = refl
event-held m s (Spawn t c class) u = refl
event-held m s (Split t v class ops) u = named-all s.operations t.0 ops (named-held s ops t.0 (by_none NotResponsible _ u.responsible) (by_none BadSet _ u.set))
event-held m s (Join t v) u = refl
event-held m s (Delegate t v ops) u = named-all s.operations t.0 ops (named-held s ops t.0 (by_none NotResponsible _ u.responsible) (by_none BadSet _ u.set))
event-held m s (Form kind j i) u = refl
event-held m s (Operate t ob op) u = refl
event-held m s (Commit t) u = refl
event-held m s (Abort t) u = refl
event-held m s (Permit t v ob) u = refl
