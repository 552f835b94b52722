-- The committed operations of a history by their last holders, one item further.
use Rattle.std.proofs.Common.{arith, ◌≡◌, ℕ, ◌+◌, ◌<◌, ◌≤◌, ◌==◌, Bool, true, false, ◌&&◌, cond, List, [], ◌∷◌, ◌++◌, length, get_or, take, drop, map, filter, refl, sym, ap, ◌∙◌, subst}
use Rattle.std.specs.Prelude.{if◌then◌else◌}
use Rattle.std.specs.List.{filter_map, cons_option}
use Rattle.std.proofs.lemmas.List.{append-nil, append_assoc, map-append, length-map, length-append, take_more, take_all, take-append-drop}
use Rattle.std.proofs.lemmas.List.Elements.{filter-append, filter_map-append}
use Rattle.acta_table.specs.declared.answer.Fate.{Fate}
use Rattle.acta_table.specs.declared.answer.Fate.TheVariants.{Committed}
use Rattle.acta_table.specs.declared.event.Event.{Event}
use Rattle.acta_table.specs.declared.event.Event.TheVariants.{Operate}
use Rattle.acta_table.specs.declared.event.Kept.{Kept}
use Rattle.acta_table.specs.declared.event.ObjId.{ObjId}
use Rattle.acta_table.specs.declared.event.Op.{Op}
use Rattle.acta_table.specs.declared.event.TxnId.{TxnId}
use Rattle.acta_table.specs.declared.model.Parts.{Parts}
use Rattle.acta_table.specs.Fates.{is_committed}
use Rattle.acta_sets.specs.declared.held_op.HeldOp.{HeldOp}
use Rattle.acta_axioms.specs.History.{places_after, places}
use Rattle.acta_axioms.specs.Operations.{Operation, Standing, is_operate, number_after, operation_at, operation_in, operations, standing}
use Rattle.acta_axioms.specs.Serial.{is_of_group, group_of}
use Rattle.acta_axioms.specs.Walks.{held_op, held_ops}
use Rattle.acta_axioms.proofs.Growth.{at_end, added, operations-push, number_after-push, places_after-append}
use Rattle.acta_order.specs.declared.item.Item.{Item}
use Rattle.acta_order.specs.Search.{item_of}

-- the committed operations of these items are gathered by their holders; and the number of operations
pub record AreGathered {A : Type 0} (m : Parts A) (h front : List (Kept A)) (number : ℕ) (groups : List (List Item)) : Type 0 where
  pub counted : number ≡ length (operations front)
  pub numbered : number + 1 ≡ number_after front
  pub so_far : (t : ℕ) → get_or groups t [] ≡ map item_of (filter (λ o. is_of_group t (standing m h o)) (operations front))

one-more : {X : Type 0} (xs : List X) (i : ℕ) (x : X) → i < length xs → x ≡ get_or xs i x → take (i + 1) xs ≡ take i xs ++ x ∷ []
one-more xs i x within is = take_more xs i x within ∙ ap (λ y. take i xs ++ y ∷ []) (sym is)

-- the operations that an event adds are as many as it counts for
added-long : {A : Type 0} (front : List (Kept A)) (k : Kept A) → length (added front k) ≡ cond (is_operate k.event) 1 0
added-long {A} front k = of k.event
  where
    of : (e : Event A) → length (cons_option (operation_in (at_end front k) e) []) ≡ cond (is_operate e) 1 0
    of (Operate u ob op) = refl
    of _ = refl

-- the items that an event adds to a group
abbrev more_of : {A : Type 0} → Parts A → List (Kept A) → List (Kept A) → Kept A → ℕ → List Item
more_of m h front k t = map item_of (filter (λ o. is_of_group t (standing m h o)) (added front k))

gathered-push : {A : Type 0} (m : Parts A) (h front : List (Kept A)) (k : Kept A) (number further : ℕ) (groups grown : List (List Item)) → AreGathered m h front number groups
    → further ≡ number + length (added front k) → ((t : ℕ) → get_or grown t [] ≡ get_or groups t [] ++ more_of m h front k t) → AreGathered m h (front ++ k ∷ []) further grown
gathered-push {A} m h front k number further groups grown before counted put = record {
  numbered = let pushed = number_after-push front k in let one = added-long front k in let was = before.numbered in omega (arith, pushed, one, was, counted);
  counted = counted ∙ ap (λ n. n + length (added front k)) before.counted ∙ sym (ap length (operations-push front k) ∙ length-append (operations front) (added front k));
  so_far = λ t.
      put t
      ∙ ap (λ (xs : List Item). xs ++ more_of m h front k t) (before.so_far t)
      ∙ sym (map-append item_of (filter (test t) (operations front)) (filter (test t) (added front k)))
      ∙ ap (map item_of) (sym (filter-append (test t) (operations front) (added front k)) ∙ ap (filter (test t)) (sym (operations-push front k)));
}
  where
    test : ℕ → Operation → Bool
    test t o = is_of_group t (standing m h o)

-- the operation of an event
abbrev pub done_by : {A : Type 0} → List (Kept A) → Kept A → TxnId → ObjId → Op → Operation
done_by front k u ob op = record { number = number_after front; place = length front + 1; invoker = u.0; object = ob.0; op = op; ret = k.ret }

added-is : {A : Type 0} (front : List (Kept A)) (k : Kept A) (u : TxnId) (ob : ObjId) (op : Op) → k.event ≡ Operate u ob op → added front k ≡ done_by front k u ob op ∷ []
added-is front k u ob op is = ap (λ e. cons_option (operation_in (at_end front k) e) []) is

get-mid : {X Y : Type 0} (f : X → Y) (xs : List X) (x : X) (ys : List X) (d : Y) → get_or (map f (xs ++ x ∷ ys)) (length xs) d ≡ f x
get-mid f [] x ys d = refl
get-mid f (z ∷ xs) x ys d = get-mid f xs x ys d

long-mid : {X : Type 0} (xs : List X) (x : X) (ys : List X) → length xs < length (xs ++ x ∷ ys)
long-mid [] x ys = omega arith
long-mid (z ∷ xs) x ys = let later = long-mid xs x ys in omega (arith, later)

-- the operations of a list, about the one at a place
abbrev rest_of : {A : Type 0} → List (Kept A) → ℕ → List Operation
rest_of kept i = filter_map operation_at (places_after (take (i + 1) kept) (drop (i + 1) kept))

about : {A : Type 0} (kept : List (Kept A)) (i : ℕ) (k : Kept A) (u : TxnId) (ob : ObjId) (op : Op) → i < length kept → k ≡ get_or kept i k → k.event ≡ Operate u ob op
    → operations kept ≡ operations (take i kept) ++ done_by (take i kept) k u ob op ∷ rest_of kept i
about kept i k u ob op within is operates =
    ap operations (sym (take-append-drop (i + 1) kept))
    ∙ ap (filter_map operation_at) (places_after-append [] (take (i + 1) kept) (drop (i + 1) kept))
    ∙ filter_map-append operation_at (places (take (i + 1) kept)) (places_after (take (i + 1) kept) (drop (i + 1) kept))
    ∙ ap (λ (os : List Operation). os ++ rest_of kept i)
    (ap operations (one-more kept i k within is) ∙ operations-push (take i kept) k ∙ ap (λ (os : List Operation). operations (take i kept) ++ os) (added-is (take i kept) k u ob op operates))
    ∙ append_assoc (operations (take i kept)) (done_by (take i kept) k u ob op ∷ []) (rest_of kept i)

-- the one that is held at its number
held-is : {A : Type 0} (m : Parts A) (kept : List (Kept A)) (i : ℕ) (k : Kept A) (u : TxnId) (ob : ObjId) (op : Op) (number : ℕ) (x : HeldOp) → i < length kept → k ≡ get_or kept i k → k.event ≡ Operate u ob op
    → number ≡ length (operations (take i kept)) → x ≡ get_or (held_ops m kept) number x → x ≡ held_op (done_by (take i kept) k u ob op) (standing m kept (done_by (take i kept) k u ob op))
held-is m kept i k u ob op number x within is operates counted at =
    at ∙ ap (λ n. get_or (held_ops m kept) n x) counted
    ∙ ap (λ (os : List Operation). get_or (map (λ (o : Operation). held_op o (standing m kept o)) os) (length (operations (take i kept))) x) (about kept i k u ob op within is operates)
    ∙ get-mid (λ (o : Operation). held_op o (standing m kept o)) (operations (take i kept)) (done_by (take i kept) k u ob op) (rest_of kept i) x

-- what it adds to the group of t
adds : (t : ℕ) (o : Operation) (s : Standing) (item : Item) → item ≡ item_of o → is_committed s.fate ≡ true → (if s.holder == t then item ∷ [] else []) ≡ map item_of (cond (is_of_group t s) (o ∷ []) [])
adds t o s item is committed = of (s.holder == t) ∙ ap (λ b. map item_of (cond ((s.holder == t) && b) (o ∷ []) [])) (sym committed)
  where
    of : (b : Bool) → (if b then item ∷ [] else []) ≡ map item_of (cond (b && true) (o ∷ []) [])
    of true = ap (λ (i : Item). i ∷ []) is
    of false = refl

adds-nothing : (t : ℕ) (o : Operation) (s : Standing) → is_committed s.fate ≡ false → [] ≡ map item_of (cond (is_of_group t s) (o ∷ []) [])
adds-nothing t o s not = of (s.holder == t) ∙ ap (λ b. map item_of (cond ((s.holder == t) && b) (o ∷ []) [])) (sym not)
  where
    of : (b : Bool) → [] ≡ map item_of (cond (b && false) (o ∷ []) [])
    of true = refl
    of false = refl

open_fate : (f : Fate) → (f ≡ Committed → ⊥) → is_committed f ≡ false
open_fate Committed not = absurd (not refl)
open_fate _ not = refl

pub gathered-next : {A : Type 0} (m : Parts A) (kept : List (Kept A)) (i : ℕ) (k : Kept A) (u : TxnId) (ob : ObjId) (op : Op) (number own : ℕ) (x : HeldOp) (groups grown : List (List Item)) → own ≡ number + 1
    → i < length kept → k ≡ get_or kept i k → k.event ≡ Operate u ob op → x ≡ get_or (held_ops m kept) number x → x.fate ≡ Committed → AreGathered m kept (take i kept) number groups
    → ((t : ℕ) → get_or grown t [] ≡ get_or groups t [] ++ (if x.holder.0 == t then (record { number = record { 0 = own }; ob = ob; op = op; ret = k.ret }) ∷ [] else []))
    → AreGathered m kept (take (i + 1) kept) (number + 1) grown
gathered-next {A} m kept i k u ob op number own x groups grown is_own within is operates at committed before put =
    subst (λ (h : List (Kept A)). AreGathered m kept h (number + 1) grown) (sym (one-more kept i k within is))
    (gathered-push m kept (take i kept) k number (number + 1) groups grown before (ap (λ (os : List Operation). number + length os) (sym adding))
    (λ t. put t
    ∙ ap (λ (xs : List Item). get_or groups t [] ++ xs)
    (ap (λ (y : HeldOp). if y.holder.0 == t then item ∷ [] else []) same
    ∙ adds t o (standing m kept o) item (λ j. record { number = record { 0 = (is_own ∙ before.numbered) j }; ob = ob; op = op; ret = k.ret }) (ap (λ (y : HeldOp). is_committed y.fate) (sym same) ∙ ap is_committed committed)
    ∙ ap (λ (os : List Operation). map item_of (filter (λ q. is_of_group t (standing m kept q)) os)) (sym adding))))
  where
    o : Operation
    o = done_by (take i kept) k u ob op

    item : Item
    item = record { number = record { 0 = own }; ob = ob; op = op; ret = k.ret }

    adding : added (take i kept) k ≡ o ∷ []
    adding = added-is (take i kept) k u ob op operates

    same : x ≡ held_op o (standing m kept o)
    same = held-is m kept i k u ob op number x within is operates before.counted at

pub gathered-open : {A : Type 0} (m : Parts A) (kept : List (Kept A)) (i : ℕ) (k : Kept A) (u : TxnId) (ob : ObjId) (op : Op) (number : ℕ) (x : HeldOp) (groups : List (List Item))
    → i < length kept → k ≡ get_or kept i k → k.event ≡ Operate u ob op → x ≡ get_or (held_ops m kept) number x → (x.fate ≡ Committed → ⊥) → AreGathered m kept (take i kept) number groups
    → AreGathered m kept (take (i + 1) kept) (number + 1) groups
gathered-open {A} m kept i k u ob op number x groups within is operates at not before =
    subst (λ (h : List (Kept A)). AreGathered m kept h (number + 1) groups) (sym (one-more kept i k within is))
    (gathered-push m kept (take i kept) k number (number + 1) groups groups before (ap (λ (os : List Operation). number + length os) (sym adding))
    (λ t. sym (append-nil (get_or groups t []))
    ∙ ap (λ (xs : List Item). get_or groups t [] ++ xs)
    (adds-nothing t o (standing m kept o) (ap (λ (y : HeldOp). is_committed y.fate) (sym same) ∙ open_fate x.fate not)
    ∙ ap (λ (os : List Operation). map item_of (filter (λ q. is_of_group t (standing m kept q)) os)) (sym adding))))
  where
    o : Operation
    o = done_by (take i kept) k u ob op

    adding : added (take i kept) k ≡ o ∷ []
    adding = added-is (take i kept) k u ob op operates

    same : x ≡ held_op o (standing m kept o)
    same = held-is m kept i k u ob op number x within is operates before.counted at

-- there is one
pub gathered-there : {A : Type 0} (m : Parts A) (kept : List (Kept A)) (i : ℕ) (k : Kept A) (u : TxnId) (ob : ObjId) (op : Op) (number : ℕ) → i < length kept → k ≡ get_or kept i k → k.event ≡ Operate u ob op
    → number ≡ length (operations (take i kept)) → length (held_ops m kept) ≤ number → ⊥
gathered-there m kept i k u ob op number within is operates counted past =
    let low = long-mid (operations (take i kept)) (done_by (take i kept) k u ob op) (rest_of kept i) in
    let all = ap length (about kept i k u ob op within is operates) in
    let many = length-map (operations kept) (λ (o : Operation). held_op o (standing m kept o)) in
    omega (arith, low, all, many, counted, past)

pub gathered-idle : {A : Type 0} (m : Parts A) (kept : List (Kept A)) (i : ℕ) (k : Kept A) (number : ℕ) (groups : List (List Item)) → i < length kept → k ≡ get_or kept i k → ((u : TxnId) (ob : ObjId) (op : Op) → k.event ≡ Operate u ob op → ⊥)
    → AreGathered m kept (take i kept) number groups → AreGathered m kept (take (i + 1) kept) number groups
gathered-idle {A} m kept i k number groups within is never before =
    subst (λ (h : List (Kept A)). AreGathered m kept h number groups) (sym (one-more kept i k within is))
    (gathered-push m kept (take i kept) k number number groups groups before (and_none number ∙ ap (λ (os : List Operation). number + length os) (sym none))
    (λ t. sym (append-nil (get_or groups t [])) ∙ ap (λ (os : List Operation). get_or groups t [] ++ map item_of (filter (λ q. is_of_group t (standing m kept q)) os)) (sym none)))
  where
    no_added : (e : Event A) → ((u : TxnId) (ob : ObjId) (op : Op) → e ≡ Operate u ob op → ⊥) → cons_option (operation_in (at_end (take i kept) k) e) [] ≡ []
    no_added (Operate u ob op) none = absurd (none u ob op refl)
    no_added _ none = refl

    none : added (take i kept) k ≡ []
    none = no_added k.event never

    and_none : (n : ℕ) → n ≡ n + 0
    and_none n = omega arith

-- at the end of the list
pub gathered-whole : {A : Type 0} (m : Parts A) (kept front : List (Kept A)) (i number : ℕ) (groups : List (List Item)) → length kept ≤ i → kept ≡ front → AreGathered m kept (take i kept) number groups → (t : ℕ) → get_or groups t [] ≡ map item_of (group_of m front t)
gathered-whole {A} m kept front i number groups past is all t =
    all.so_far t ∙ ap (λ (h : List (Kept A)). map item_of (filter (λ o. is_of_group t (standing m kept o)) (operations h))) (take_all i kept past) ∙ ap (λ (h : List (Kept A)). map item_of (group_of m h t)) is
