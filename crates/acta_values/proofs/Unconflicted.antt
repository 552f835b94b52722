-- If no operation of another conflicts, exempt or not, there is no conflict.
use Rattle.std.proofs.Common.{if◌then◌else◌, ◌≡◌, ℕ, Bool, true, false, not, ◌&&◌, ◌||◌, ◌==◌, ◌+◌, cond, List, [], ◌∷◌, map, filter, Some, None, refl, sym, ap, ◌∙◌}
use Rattle.std.specs.List.{list_any, position_from}
use Rattle.std.proofs.lemmas.Bool.{or_parts}
use Rattle.acta_table.specs.declared.event.Op.{Op}
use Rattle.acta_table.specs.Fates.{is_open}
use Rattle.acta_table.specs.Numbered.{first_number, ascending}
use Rattle.acta_sets.specs.declared.held_op.HeldOp.{HeldOp}
use Rattle.acta_sets.specs.Operations.{is_against, is_against_but, ops_conflict}

fewer-by : (a s o c : Bool) → (a && not false && o && c) ≡ false → (a && not s && o && c) ≡ false
fewer-by true true o c none = refl
fewer-by true false o c none = none
fewer-by false s o c none = refl

any-fewer : (p q : HeldOp → Bool) → ((i : HeldOp) → p i ≡ false → q i ≡ false) → (items : List HeldOp) → list_any p items ≡ false → list_any q items ≡ false
any-fewer p q fewer [] none = refl
any-fewer p q fewer (i ∷ items) none =
    let parts = or_parts (p i) (list_any p items) none in
    λ x. fewer i parts.0 x || any-fewer p q fewer items parts.1 x

any-fewer-but : (t : ℕ) (exempt : ℕ → Bool) (ob : ℕ) (op : Op) (items : List HeldOp) → list_any (is_against t [] ob op) items ≡ false → list_any (is_against_but t exempt ob op) items ≡ false
any-fewer-but t exempt ob op =
    any-fewer (is_against t [] ob op) (is_against_but t exempt ob op)
    (λ i. fewer-by (is_open i.fate && not (i.holder.0 == t)) (exempt i.holder.0) (i.ob.0 == ob) (ops_conflict i.op op))

-- exempting transactions can only remove conflicting operations
pub not_exempt : (w : Bool) (t : ℕ) (exempt : ℕ → Bool) (ob : ℕ) (op : Op) (items : List HeldOp) → (w && list_any (is_against t [] ob op) items) ≡ false → (w && list_any (is_against_but t exempt ob op) items) ≡ false
not_exempt true t exempt ob op items none = any-fewer-but t exempt ob op items none
not_exempt false t exempt ob op items none = refl

no-first : (p : HeldOp → Bool) (n : ℕ) (items : List HeldOp) → list_any p items ≡ false → None ≡ position_from p n items
no-first p n [] none = refl
no-first p n (i ∷ items) none =
    let parts = or_parts (p i) (list_any p items) none in
    no-first p (n + 1) items parts.1 ∙ ap (λ b. cond b (Some n) (position_from p (n + 1) items)) (sym parts.0)

pub none_if : (w b : Bool) → b ≡ false → (w && b) ≡ false
none_if true b none = none
none_if false b none = refl

-- then there is no first conflicting operation
pub first-unconflicted : (w : Bool) (p : HeldOp → Bool) (items : List HeldOp) → (w && list_any p items) ≡ false → None ≡ (if w then first_number p items else None)
first-unconflicted true p items none = no-first p 1 items none
first-unconflicted false p items none = refl

none-left : (p : HeldOp → Bool) (items : List HeldOp) → list_any p items ≡ false → [] ≡ filter p items
none-left p [] none = refl
none-left p (i ∷ items) none =
    let parts = or_parts (p i) (list_any p items) none in
    none-left p items parts.1 ∙ ap (λ b. cond b (i ∷ filter p items) (filter p items)) (sym parts.0)

-- and no conflicting holder
pub holders-unconflicted : (w : Bool) (p : HeldOp → Bool) (items : List HeldOp) → (w && list_any p items) ≡ false → [] ≡ (if w then ascending (map (λ i. i.holder.0) (filter p items)) else [])
holders-unconflicted true p items none = ap (λ (xs : List HeldOp). ascending (map (λ (i : HeldOp). i.holder.0) xs)) (none-left p items none)
holders-unconflicted false p items none = refl
