-- Operations after one more item.
use Rattle.std.proofs.Common.{if◌then◌else◌, ◌≡◌, ℕ, suc, ◌+◌, ◌≤◌, ◌==◌, Bool, true, false, ◌&&◌, cond, List, [], ◌∷◌, ◌++◌, length, map, Option, Some, None, refl, sym, ap, ◌∙◌, arith}
use Rattle.std.specs.Prelude.{option_to_list}
use Rattle.std.specs.List.{find, filter_map, cons_option}
use Rattle.std.specs.Option.{option_map, option_map_or, option_or}
use Rattle.std.proofs.lemmas.Bool.{eqb-true}
use Rattle.std.proofs.lemmas.List.{length-map, length_push}
use Rattle.std.proofs.lemmas.Option.{none-some, same_Some}
use Rattle.std.proofs.lemmas.List.Folds.{find-append}
use Rattle.acta_table.specs.declared.answer.Fate.{Fate}
use Rattle.acta_table.specs.declared.answer.Fate.TheVariants.{InProgress, Committed, Aborted}
use Rattle.acta_table.specs.declared.event.Event.{Event}
use Rattle.acta_table.specs.declared.event.Event.TheVariants.{Split, Join, Delegate, Operate, Commit, Abort}
use Rattle.acta_table.specs.declared.event.Kept.{Kept}
use Rattle.acta_table.specs.declared.event.TxnId.{TxnId}
use Rattle.acta_table.specs.declared.model.Parts.{Parts}
use Rattle.acta_table.specs.Sets.{is_named}
use Rattle.acta_sets.specs.declared.held_op.HeldOp.{HeldOp}
use Rattle.acta_axioms.specs.History.{places_after, places}
use Rattle.acta_axioms.specs.Operations.{Operation, is_operate, number_after, operation_in, operation_at, operations, Standing, held_by, ended_by, heir, followed, carried, standing, standing_of}
use Rattle.acta_axioms.specs.Walks.{held_op, held_ops}
use Rattle.acta_axioms.specs.inside.Holding.{in_hand, brought, brought_from, op_done, followed_on, next_number}
use Rattle.acta_axioms.specs.inside.TxnRecords.{heir_by}
use Rattle.acta_axioms.specs.inside.Walking.{standing_in}
use Rattle.acta_axioms.proofs.Growth.{found-passes, at_end, length-places, added, operations-push, number_after-push, shown-push, standing-push, standing-new, operation_place, operations_within}

-- the standing of an operation after one more item
brought-carried : {A : Type 0} (m : Parts A) (h : List (Kept A)) (k : Kept A) (o : Operation) (s : Standing) → brought (heir_by m h k.event) k.event o.number (held_op o s) ≡ held_op o (carried m o.number s (at_end h k))
brought-carried {A} m h k o s = of_fate s.fate
  where
    of_test : (b : Bool) (u : TxnId) → (if b then in_hand u (held_op o (held_by s.holder)) else held_op o (held_by s.holder)) ≡ held_op o (if b then held_by u.0 else held_by s.holder)
    of_test true u = refl
    of_test false u = refl

    of_heir : (left : Option TxnId) → option_map_or (λ u. in_hand u (held_op o (held_by s.holder))) left (held_op o (ended_by s.holder Committed)) ≡ held_op o (option_map_or (λ u. held_by u.0) left (ended_by s.holder Committed))
    of_heir None = refl
    of_heir (Some u) = refl

    of_commit : (b : Bool) (t : TxnId) → (t.0 == s.holder) ≡ b →
        (if b then option_map_or (λ u. in_hand u (held_op o (held_by s.holder))) (heir m h t.0) (held_op o (ended_by s.holder Committed)) else held_op o (held_by s.holder))
        ≡ held_op o (if b then option_map_or (λ u. held_by u.0) (heir m h s.holder) (ended_by s.holder Committed) else held_by s.holder)
    of_commit true t is = of_heir (heir m h t.0) ∙ ap (λ n. held_op o (option_map_or (λ (u : TxnId). held_by u.0) (heir m h n) (ended_by s.holder Committed))) (eqb-true t.0 s.holder is)
    of_commit false t is = refl

    of_abort : (b : Bool) → (if b then held_op o (ended_by s.holder Aborted) else held_op o (held_by s.holder)) ≡ held_op o (if b then ended_by s.holder Aborted else held_by s.holder)
    of_abort true = refl
    of_abort false = refl

    of_event : (e : Event A) → brought (heir_by m h e) e o.number (held_op o (held_by s.holder)) ≡ held_op o (followed m h o.number s.holder e)
    of_event (Split t u class ops) = of_test ((t.0 == s.holder) && is_named ops o.number) u
    of_event (Join t u) = of_test (t.0 == s.holder) u
    of_event (Delegate t u ops) = of_test ((t.0 == s.holder) && is_named ops o.number) u
    of_event (Commit t) = of_commit (t.0 == s.holder) t refl
    of_event (Abort t) = of_abort (t.0 == s.holder)
    of_event _ = refl

    of_fate : (f : Fate) → brought (heir_by m h k.event) k.event o.number (held_op o (ended_by s.holder f)) ≡ held_op o (carried m o.number (ended_by s.holder f) (at_end h k))
    of_fate InProgress = of_event k.event
    of_fate Committed = refl
    of_fate Aborted = refl

-- the operations are numbered from 1
brought-numbered : {A B : Type 0} (left : Option TxnId) (e : Event B) (show : Operation → HeldOp) (before ks : List (Kept A)) →
    brought_from left e (number_after before) (map show (filter_map operation_at (places_after before ks))) ≡ map (λ o. brought left e o.number (show o)) (filter_map operation_at (places_after before ks))
brought-numbered left e show before [] = refl
brought-numbered {A} left e show before (k ∷ ks) = of_event k.event (number_after-push before k) (brought-numbered left e show (before ++ k ∷ []) ks)
  where
    rest : List Operation
    rest = filter_map operation_at (places_after (before ++ k ∷ []) ks)

    of_event : (f : Event A) → number_after (before ++ k ∷ []) ≡ number_after before + cond (is_operate f) 1 0 →
        brought_from left e (number_after (before ++ k ∷ [])) (map show rest) ≡ map (λ o. brought left e o.number (show o)) rest →
        brought_from left e (number_after before) (map show (cons_option (operation_in (record { before = before; kept = k }) f) rest))
        ≡ map (λ o. brought left e o.number (show o)) (cons_option (operation_in (record { before = before; kept = k }) f) rest)
    of_event (Operate t object op) grown later = ap (λ xs. brought left e (number_after before) (show (record { number = number_after before; place = length before + 1; invoker = t.0; object = object.0; op = op; ret = k.ret })) ∷ xs) (ap (λ n. brought_from left e n (map show rest)) (sym grown) ∙ later)
    of_event _ grown later = let same : number_after before ≡ number_after (before ++ k ∷ []) = omega arith in ap (λ n. brought_from left e n (map show rest)) same ∙ later

-- the operation that an item at the end adds
done-added : {A : Type 0} (h : List (Kept A)) (k : Kept A) → option_to_list (op_done k.event) ≡ map (λ o. held_op o (held_by o.invoker)) (added h k)
done-added {A} h k = of_event k.event
  where
    of_event : (e : Event A) → option_to_list (op_done e) ≡ map (λ o. held_op o (held_by o.invoker)) (cons_option (operation_in (at_end h k) e) [])
    of_event (Operate t object op) = refl
    of_event _ = refl

-- there are no more operations than items
fewer : {X Y : Type 0} (f : X → Option Y) (xs : List X) → length (filter_map f xs) ≤ length xs
fewer f [] = omega arith
fewer {X} {Y} f (x ∷ xs) = of_result (f x) (fewer f xs)
  where
    of_result : (o : Option Y) → length (filter_map f xs) ≤ length xs → length (cons_option o (filter_map f xs)) ≤ suc (length xs)
    of_result None low = omega (arith, low)
    of_result (Some y) low = omega (arith, low)

pub few-operations : {A : Type 0} (m : Parts A) (h : List (Kept A)) → length (held_ops m h) ≤ length h
few-operations m h =
    let all = length-map (operations h) (λ (o : Operation). held_op o (standing m h o)) in
    let few = fewer operation_at (places h) in
    omega (arith, all, few, length-places h)

-- the operations with their standings after one more item
pub held_ops-push : {A : Type 0} (m : Parts A) (h : List (Kept A)) (k : Kept A) →
    brought_from (heir_by m h k.event) k.event 1 (held_ops m h) ++ option_to_list (op_done k.event) ≡ held_ops m (h ++ k ∷ [])
held_ops-push m h k =
    (λ i. (brought-numbered (heir_by m h k.event) k.event (λ o. held_op o (standing m h o)) [] h ∙ (λ j. map (λ (o : Operation). brought-carried m h k o (standing m h o) j) (operations h))) i ++ done-added h k i)
    ∙ sym (shown-push held_op m h k)

-- one operation, followed along the items

-- in the form in which a walk keeps it, whatever its object
carried-in : {A : Type 0} (m : Parts A) (h : List (Kept A)) (k : Kept A) (o : ℕ) (x : HeldOp) → standing_in (brought (heir_by m h k.event) k.event o x) ≡ carried m o (standing_in x) (at_end h k)
carried-in m h k o x = ap standing_in (brought-carried m h k (record { number = o; place = 0; invoker = 0; object = x.ob.0; op = x.op; ret = None }) (standing_in x))

-- the item's own operation, if it has this number
begun-here : {A : Type 0} (m : Parts A) (h : List (Kept A)) (k : Kept A) (o : ℕ) →
    option_map standing_in (if number_after h == o then op_done k.event else None) ≡ option_map (standing m (h ++ k ∷ [])) (find (λ q. q.number == o) (added h k))
begun-here {A} m h k o = of_event k.event (λ q is. new q is)
  where
    new : (q : Operation) → operation_at (at_end h k) ≡ Some q → standing m (h ++ k ∷ []) q ≡ held_by q.invoker
    new q is = standing-new m (h ++ k ∷ []) q (let at = operation_place (at_end h k) q is in let grown = length_push h k in omega arith)

    none : (b : Bool) → option_map standing_in (if b then None else None) ≡ None
    none true = refl
    none false = refl

    of_test : (b : Bool) (q : Operation) (x : HeldOp) → standing_in x ≡ standing m (h ++ k ∷ []) q → option_map standing_in (if b then Some x else None) ≡ option_map (standing m (h ++ k ∷ [])) (cond b (Some q) None)
    of_test true q x is = ap Some is
    of_test false q x is = refl

    of_event : (e : Event A) → ((q : Operation) → operation_in (at_end h k) e ≡ Some q → standing m (h ++ k ∷ []) q ≡ held_by q.invoker) →
        option_map standing_in (if number_after h == o then op_done e else None) ≡ option_map (standing m (h ++ k ∷ [])) (find (λ q. q.number == o) (cons_option (operation_in (at_end h k) e) []))
    of_event (Operate t object op) is = of_test (number_after h == o) _ _ (sym (is _ refl))
    of_event _ is = none (number_after h == o)

-- an operation that exists is followed, and a new one is added
pub standing-more : {A : Type 0} (m : Parts A) (h : List (Kept A)) (k : Kept A) (o : ℕ) (held : Option HeldOp) → option_map standing_in held ≡ standing_of m h o →
    option_map standing_in (followed_on (heir_by m h k.event) k.event o (number_after h) held) ≡ standing_of m (h ++ k ∷ []) o
standing-more {A} m h k o held is =
    of_found (find (λ q. q.number == o) (operations h)) refl held is
    ∙ sym (ap (option_map (standing m (h ++ k ∷ []))) (ap (find (λ (q : Operation). q.number == o)) (operations-push h k) ∙ find-append (λ q. q.number == o) (operations h) (added h k)))
  where
    of_found : (f : Option Operation) → find (λ q. q.number == o) (operations h) ≡ f → (x : Option HeldOp) → option_map standing_in x ≡ option_map (standing m h) f →
        option_map standing_in (followed_on (heir_by m h k.event) k.event o (number_after h) x) ≡ option_map (standing m (h ++ k ∷ [])) (option_or f (find (λ q. q.number == o) (added h k)))
    of_found None at None same = begun-here m h k o
    of_found None at (Some x) same = absurd (none-some _ (sym same))
    of_found (Some q) at None same = absurd (none-some _ same)
    of_found (Some q) at (Some x) same =
        let there = found-passes (λ p. p.number == o) (λ p. p.place ≤ length h) (operations h) q (operations_within h) at in
        ap Some
        (carried-in m h k o x
        ∙ (λ i. carried m (sym (eqb-true q.number o there.0) i) (same_Some _ _ same i) (at_end h k))
        ∙ sym (standing-push m h k q there.1))

pub number-more : {A : Type 0} (h : List (Kept A)) (k : Kept A) → next_number k.event (number_after h) ≡ number_after (h ++ k ∷ [])
number-more {A} h k = of_event k.event (number_after-push h k)
  where
    of_event : (e : Event A) → number_after (h ++ k ∷ []) ≡ number_after h + cond (is_operate e) 1 0 → next_number e (number_after h) ≡ number_after (h ++ k ∷ [])
    of_event (Operate t object op) grown = sym grown
    of_event _ grown = omega (arith, grown)

pub number-low : {A : Type 0} (e : Event A) (n : ℕ) → next_number e n ≤ n + 1
number-low (Operate t object op) n = omega arith
number-low _ n = omega arith
