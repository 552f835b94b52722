-- The groups of operations after one more item are those of the longer history.
use Rattle.std.proofs.Common.{arith, ◌≡◌, ℕ, ◌+◌, ◌<◌, ◌==◌, Bool, true, false, cond, List, [], ◌∷◌, ◌++◌, length, get_or, take, filter, Option, Some, None, refl, sym, ap, ◌∙◌, subst}
use Rattle.std.specs.Prelude.{if◌then◌else◌}
use Rattle.std.specs.List.{filter_map, flat_map, cons_option}
use Rattle.std.proofs.lemmas.Bool.{eqb-true}
use Rattle.std.proofs.lemmas.Grind.{flat_map-append}
use Rattle.std.proofs.lemmas.List.{append-nil, take_more}
use Rattle.std.proofs.lemmas.List.Elements.{filter-append, filter_map-append}
use Rattle.acta_table.specs.declared.event.Event.{Event}
use Rattle.acta_table.specs.declared.event.Event.TheVariants.{Operate}
use Rattle.acta_table.specs.declared.event.Kept.{Kept}
use Rattle.acta_table.specs.declared.event.ObjId.{ObjId}
use Rattle.acta_table.specs.declared.event.Op.{Op}
use Rattle.acta_table.specs.declared.event.Ret.{Ret}
use Rattle.acta_table.specs.declared.event.TxnId.{TxnId}
use Rattle.acta_axioms.specs.Operations.{is_operate, number_after, operation_in, operations}
use Rattle.acta_axioms.proofs.Growth.{at_end, added, operations-push, number_after-push}
use Rattle.acta_axioms.specs.declared.serial.SerialItem.{SerialItem}
use Rattle.acta_axioms.specs.Serial.{committed_by, commit_order}
use Rattle.acta_axioms.specs.SerialItems.{item_of, items_of}

-- one more item of a list
one-more : {X : Type 0} (xs : List X) (i : ℕ) (x : X) → i < length xs → x ≡ get_or xs i x → take (i + 1) xs ≡ take i xs ++ x ∷ []
one-more xs i x within is = take_more xs i x within ∙ ap (λ y. take i xs ++ y ∷ []) (sym is)

-- commits

groups-push : {A X : Type 0} (g : ℕ → List X) (h : List (Kept A)) (k : Kept A) → flat_map g (commit_order (h ++ k ∷ [])) ≡ flat_map g (commit_order h) ++ flat_map g (cons_option (committed_by k.event) [])
groups-push g h k =
    ap (flat_map g) (filter_map-append (λ q. committed_by q.event) h (k ∷ [])) ∙ flat_map-append g (commit_order h) (cons_option (committed_by k.event) [])

-- the group of the transaction that commits, if one does, is appended to those so far
pub groups-next : {A X : Type 0} (g : ℕ → List X) (kept : List (Kept A)) (i : ℕ) (k : Kept A) (who : Option ℕ) (items new : List X) → i < length kept → k ≡ get_or kept i k → who ≡ committed_by k.event → items ≡ flat_map g (commit_order (take i kept)) → new ≡ items ++ flat_map g (cons_option who [])
    → new ≡ flat_map g (commit_order (take (i + 1) kept))
groups-next g kept i k who items new within is commits so_far grown =
    grown
    ∙ (λ x. so_far x ++ flat_map g (cons_option (commits x) []))
    ∙ sym (groups-push g (take i kept) k)
    ∙ ap (λ h. flat_map g (commit_order h)) (sym (one-more kept i k within is))

-- operations

-- the operations of these items are grouped by transaction, and the next operation has this number
pub record AreGrouped {A : Type 0} (h : List (Kept A)) (number : ℕ) (groups : List (List SerialItem)) : Type 0 where
  pub numbered : number ≡ number_after h
  pub so_far : (t : ℕ) → get_or groups t [] ≡ items_of h t

items-push : {A : Type 0} (h : List (Kept A)) (k : Kept A) (t : ℕ) → items_of (h ++ k ∷ []) t ≡ items_of h t ++ filter_map (item_of t) (filter (λ o. o.invoker == t) (added h k))
items-push h k t =
    ap (λ os. filter_map (item_of t) (filter (λ o. o.invoker == t) os)) (operations-push h k)
    ∙ ap (filter_map (item_of t)) (filter-append (λ o. o.invoker == t) (operations h) (added h k))
    ∙ filter_map-append (item_of t) (filter (λ o. o.invoker == t) (operations h)) (filter (λ o. o.invoker == t) (added h k))

-- the second groups are the first with one more item of u
abbrev ArePut : TxnId → SerialItem → List (List SerialItem) → List (List SerialItem) → Type 0
ArePut u item groups grown = (t : ℕ) → get_or grown t [] ≡ get_or groups t [] ++ (if u.0 == t then item ∷ [] else [])

-- an operation with a return
grouped-item : {A : Type 0} (h : List (Kept A)) (u : TxnId) (ob : ObjId) (op : Op) (ret : Ret) (number : ℕ) (groups grown : List (List SerialItem)) → AreGrouped h number groups
    → ArePut u (record { number = record { 0 = number }; txn = u; ob = ob; op = op; ret = ret }) groups grown
    → AreGrouped (h ++ (record { event = Operate u ob op; ret = Some ret }) ∷ []) (number + 1) grown
grouped-item {A} h u ob op ret number groups grown before put =
    record {
      numbered = ap (λ n. n + 1) before.numbered ∙ sym (number_after-push h k);
      so_far = λ t. put t ∙ (λ i. before.so_far t i ++ (if u.0 == t then item (before.numbered i) ∷ [] else [])) ∙ ap (λ items. items_of h t ++ items) (listed t (u.0 == t) refl) ∙ sym (items-push h k t);
    }
  where
    k : Kept A
    k = record { event = Operate u ob op; ret = Some ret }

    item : ℕ → SerialItem
    item n = record { number = record { 0 = n }; txn = u; ob = ob; op = op; ret = ret }

    -- the item is what is listed of the operation
    listed : (t : ℕ) (b : Bool) → (u.0 == t) ≡ b
        → (if b then item (number_after h) ∷ [] else [])
        ≡ filter_map (item_of t) (cond b ((record { number = number_after h; place = length h + 1; invoker = u.0; object = ob.0; op = op; ret = Some ret }) ∷ []) [])
    listed t true same = ap (λ n. (record { number = record { 0 = number_after h }; txn = record { 0 = n }; ob = ob; op = op; ret = ret }) ∷ []) (eqb-true u.0 t same)
    listed t false apart = refl

-- an operation without a return
grouped-silent : {A : Type 0} (h : List (Kept A)) (u : TxnId) (ob : ObjId) (op : Op) (number : ℕ) (groups : List (List SerialItem)) → AreGrouped h number groups → AreGrouped (h ++ (record { event = Operate u ob op; ret = None }) ∷ []) (number + 1) groups
grouped-silent {A} h u ob op number groups before =
    record {
      numbered = ap (λ n. n + 1) before.numbered ∙ sym (number_after-push h k);
      so_far = λ t. before.so_far t ∙ sym (append-nil (items_of h t)) ∙ ap (λ items. items_of h t ++ items) (nothing t (u.0 == t)) ∙ sym (items-push h k t);
    }
  where
    k : Kept A
    k = record { event = Operate u ob op; ret = None }

    nothing : (t : ℕ) (b : Bool) → [] ≡ filter_map (item_of t) (cond b ((record { number = number_after h; place = length h + 1; invoker = u.0; object = ob.0; op = op; ret = None }) ∷ []) [])
    nothing t true = refl
    nothing t false = refl

and_none : (n : ℕ) → n + 0 ≡ n
and_none n = omega arith

-- an event that is no operation
grouped-idle : {A : Type 0} (h : List (Kept A)) (k : Kept A) (number : ℕ) (groups : List (List SerialItem)) → is_operate k.event ≡ false → added h k ≡ [] → AreGrouped h number groups → AreGrouped (h ++ k ∷ []) number groups
grouped-idle h k number groups never none before =
    record {
      numbered = before.numbered ∙ sym (number_after-push h k ∙ ap (λ b. number_after h + cond b 1 0) never ∙ and_none (number_after h));
      so_far = λ t. before.so_far t ∙ sym (append-nil (items_of h t)) ∙ ap (λ os. items_of h t ++ filter_map (item_of t) (filter (λ o. o.invoker == t) os)) (sym none) ∙ sym (items-push h k t);
    }

-- the same at a place of a list

pub grouped-next : {A : Type 0} (kept : List (Kept A)) (i : ℕ) (k : Kept A) (u : TxnId) (ob : ObjId) (op : Op) (ret : Ret) (number : ℕ) (groups grown : List (List SerialItem)) → i < length kept → k ≡ get_or kept i k → k.event ≡ Operate u ob op → k.ret ≡ Some ret
    → AreGrouped (take i kept) number groups → ArePut u (record { number = record { 0 = number }; txn = u; ob = ob; op = op; ret = ret }) groups grown → AreGrouped (take (i + 1) kept) (number + 1) grown
grouped-next kept i k u ob op ret number groups grown within is operates returns before put =
    subst (λ h. AreGrouped h (number + 1) grown)
    ((λ x. take i kept ++ (record { event = sym operates x; ret = sym returns x }) ∷ []) ∙ sym (one-more kept i k within is))
    (grouped-item (take i kept) u ob op ret number groups grown before put)

pub grouped-next-silent : {A : Type 0} (kept : List (Kept A)) (i : ℕ) (k : Kept A) (u : TxnId) (ob : ObjId) (op : Op) (number : ℕ) (groups : List (List SerialItem)) → i < length kept → k ≡ get_or kept i k → k.event ≡ Operate u ob op → k.ret ≡ None
    → AreGrouped (take i kept) number groups → AreGrouped (take (i + 1) kept) (number + 1) groups
grouped-next-silent kept i k u ob op number groups within is operates returns before =
    subst (λ h. AreGrouped h (number + 1) groups)
    ((λ x. take i kept ++ (record { event = sym operates x; ret = sym returns x }) ∷ []) ∙ sym (one-more kept i k within is))
    (grouped-silent (take i kept) u ob op number groups before)

pub grouped-next-idle : {A : Type 0} (kept : List (Kept A)) (i : ℕ) (k : Kept A) (number : ℕ) (groups : List (List SerialItem)) → i < length kept → k ≡ get_or kept i k → ((u : TxnId) (ob : ObjId) (op : Op) → k.event ≡ Operate u ob op → ⊥)
    → AreGrouped (take i kept) number groups → AreGrouped (take (i + 1) kept) number groups
grouped-next-idle {A} kept i k number groups within is never before =
    subst (λ h. AreGrouped h number groups) (sym (one-more kept i k within is))
    (grouped-idle (take i kept) k number groups (no_operate k.event never) (no_added k.event never) before)
  where
    no_operate : (e : Event A) → ((u : TxnId) (ob : ObjId) (op : Op) → e ≡ Operate u ob op → ⊥) → is_operate e ≡ false
    no_operate (Operate u ob op) none = absurd (none u ob op refl)
    no_operate _ none = refl

    no_added : (e : Event A) → ((u : TxnId) (ob : ObjId) (op : Op) → e ≡ Operate u ob op → ⊥) → cons_option (operation_in (at_end (take i kept) k) e) [] ≡ []
    no_added (Operate u ob op) none = absurd (none u ob op refl)
    no_added _ none = refl
