-- The data that a walk keeps, after one more item.
use Rattle.std.proofs.Common.{subst, ◌≡◌, ◌≤◌, ◌==◌, inl, inr, if◌then◌else◌, Bool, true, false, None, ℕ, zero, suc, ◌+◌, ◌<◌, List, [], ◌∷◌, ◌++◌, length, take, drop, get_or, Option, Some, is_some, refl, sym, ap, ◌∙◌, arith}
use Rattle.std.specs.Prelude.{slice_get, option_to_list}
use Rattle.std.specs.List.{All}
use Rattle.std.proofs.lemmas.List.{take_more, length-drop}
use Rattle.std.proofs.lemmas.Option.{none-some, same_Some}
use Rattle.acta_table.specs.declared.dep.Edge.{Edge}
use Rattle.acta_table.specs.declared.event.Event.{Event}
use Rattle.acta_table.specs.declared.event.Event.TheVariants.{Begin, Spawn, Split, Join, Delegate, Form, Operate, Commit, Abort, Permit}
use Rattle.acta_table.specs.declared.event.Kept.{Kept}
use Rattle.acta_table.specs.declared.event.TxnId.{TxnId}
use Rattle.acta_table.specs.declared.model.Parts.{Parts}
use Rattle.acta_table.specs.Edges.{formed}
use Rattle.acta_table.specs.Events.{named}
use Rattle.acta_sets.specs.Lineages.{Lineage, parent_in}
use Rattle.acta_values.specs.Stores.{Stored}
use Rattle.acta_axioms.specs.declared.txn_record.TxnRecord.{TxnRecord}
use Rattle.acta_axioms.specs.Edges.{formed_by, edges}
use Rattle.acta_axioms.specs.Walks.{Walked, stepped, with_next, held_ops}
use Rattle.acta_axioms.specs.inside.Holding.{brought_from, op_done}
use Rattle.acta_axioms.specs.inside.TxnRecords.{unbegun, begun_in, ended_in, is_late, further, heir_in, started, or_at}
use Rattle.acta_axioms.specs.inside.Walking.{permits_after, is_left, AreRemembered, IsKept}
use Rattle.acta_axioms.proofs.Permitting.{left-push}
use Rattle.acta_sets.specs.Permits.{Permitted}
use Rattle.acta_axioms.specs.History.{end, starts}
use Rattle.acta_axioms.proofs.Bringing.{held_ops-push}
use Rattle.acta_axioms.proofs.EdgeGrowth.{edges-push}
use Rattle.acta_axioms.proofs.TxnRecords.{lines-more, heir-tabled}

-- the item at the current place
pub record IsNext {A : Type 0} (h : List (Kept A)) (n : ℕ) (k : Kept A) : Type 0 where
  pub within : n < length h
  pub here : k ≡ get_or h n k
  pub ahead : drop n h ≡ k ∷ drop (n + 1) h

pub next-item : {A : Type 0} (h : List (Kept A)) (n : ℕ) (k : Kept A) → slice_get (drop n h) 0 ≡ Some k → IsNext h n k
next-item [] zero k is = absurd (none-some k is)
next-item [] (suc n) k is = absurd (none-some k is)
next-item (x ∷ xs) zero k is =
    let same = same_Some x k is in
    record { within = omega arith; here = sym same; ahead = ap (λ q. q ∷ xs) same }
next-item (x ∷ xs) (suc n) k is =
    let later = next-item xs n k is in
    let low : n < length xs = later.within in
    let past : suc (n + 1) ≡ suc n + 1 = omega arith in
    record { within = omega arith; here = later.here; ahead = later.ahead ∙ ap (λ j. k ∷ drop j (x ∷ xs)) past }

-- the items before the next place
pub front-more : {A : Type 0} (h : List (Kept A)) (n : ℕ) (k : Kept A) → IsNext h n k → take n h ++ k ∷ [] ≡ take (n + 1) h
front-more h n k next = ap (λ q. take n h ++ q ∷ []) next.here ∙ sym (take_more h n k next.within)

-- the abstract state
pub shown-more : {A : Type 0} (m : Parts A) (h : List (Kept A)) (n : ℕ) (k : Kept A) (w : Walked A) → IsNext h n k → (let v : Walked A = record { model = m; front = take n h; ahead = drop n h } in v) ≡ w →
    (let v : Walked A = record { model = m; front = take (n + 1) h; ahead = drop (n + 1) h } in v) ≡ stepped w
shown-more {A} m h n k w next is =
    (λ i. let v : Walked A = record { model = m; front = sym (front-more h n k next) i; ahead = drop (n + 1) h } in v)
    ∙ (λ i. with_next (record { model = m; front = take n h; ahead = drop n h }) (sym next.ahead i))
    ∙ ap stepped is

same_if : (b : Bool) (new line : TxnRecord) → new.parent ≡ line.parent → (if b then new else line).parent ≡ line.parent
same_if true new line e = e
same_if false new line e = refl

-- the parent of a transaction that an event does not start
parent_kept : {A : Type 0} (place : ℕ) (begun : ℕ → Bool) (e : Event A) (t : ℕ) (line : TxnRecord) → starts t e ≡ false → (further place begun e t line).parent ≡ line.parent
parent_kept place begun (Begin s class) t line off = ap (λ b. (if b then started place class None line else line).parent) off
parent_kept place begun (Spawn v s class) t line off = ap (λ b. (if b then started place class (if begun v.0 then Some v else None) line else line).parent) off
parent_kept place begun (Split v s class ops) t line off = ap (λ b. (if b then started place class None line else line).parent) off
parent_kept place begun (Join s u) t line off = same_if (s.0 == t) (record line { course = record line.course { join = or_at place line.course.join } }) line refl
parent_kept place begun (Delegate s u ops) t line off = refl
parent_kept place begun (Form kind j i) t line off = refl
parent_kept place begun (Operate s ob op) t line off = refl
parent_kept place begun (Commit s) t line off = same_if (s.0 == t) (record line { course = record line.course { commit = or_at place line.course.commit } }) line refl
parent_kept place begun (Abort s) t line off = same_if (s.0 == t) (record line { course = record line.course { abort = or_at place line.course.abort } }) line refl
parent_kept place begun (Permit s u ob) t line off = refl

remembered_more : {A : Type 0} (place : ℕ) (begun : ℕ → Bool) (e : Event A) (lines new_lines : List TxnRecord) (old new : Lineage) → ((t : ℕ) → get_or new_lines t unbegun ≡ further place begun e t (get_or lines t unbegun))
    → ((t : ℕ) (p : TxnId) → parent_in old t ≡ Some p → (get_or lines t unbegun).parent ≡ Some p) → AreRemembered old new new_lines e → (t : ℕ) (p : TxnId) → parent_in new t ≡ Some p → (get_or new_lines t unbegun).parent ≡ Some p
remembered_more place begun e lines new_lines old new noted before are t p is = elim (are t p is) [
  | inl kept ↦ ap (λ (line : TxnRecord). line.parent) (noted t) ∙ parent_kept place begun e t (get_or lines t unbegun) kept.0 ∙ before t p kept.1
  | inr here ↦ here
]

-- the kept data
pub kept-more : {A : Type 0} (m : Parts A) (h : List (Kept A)) (n : ℕ) (k : Kept A) (lines new_lines : List TxnRecord) (store new_store : Stored) (es new_es : List Edge) (ps new_ps : Permitted) (left : Option TxnId) (parents : Lineage) → IsNext h n k →
    IsKept m h n lines store es ps → new_es ≡ formed es (formed_by m (take n h) k.event) → left ≡ heir_in m lines k.event → new_store ≡ record store { items = brought_from left k.event 1 store.items ++ option_to_list (op_done k.event) } → new_ps ≡ permits_after (is_late (ended_in lines) k.event) k.event ps →
    length new_lines ≡ length lines → ((t : ℕ) → get_or new_lines t unbegun ≡ further (n + 1) (begun_in lines) k.event t (get_or lines t unbegun)) → AreRemembered store.lineage parents new_lines k.event → parents.most ≤ store.lineage.most + 1 → IsKept m h (n + 1) new_lines (record new_store { lineage = parents }) new_es new_ps
kept-more m h n k lines new_lines store new_store es new_es ps new_ps left parents next kept formed_are left_is brought_are permitted_are long noted remembered_are most =
    let within : n < length h = next.within in
    let front = front-more h n k next in
    record {
      within = omega arith;
      few = kept.few;
      wide = subst (λ c. All (λ q. All (λ t. t < c) (named q.event)) h) (sym long) kept.wide;
      lines_are = lines-more h n k lines new_lines within kept.lines_are (λ t. noted t ∙ ap (λ (q : Kept _). further (n + 1) (begun_in lines) q.event t (get_or lines t unbegun)) next.here);
      kinds_are = ap (λ (s : Stored). s.kinds) brought_are ∙ kept.kinds_are;
      items_are =
          ap (λ (s : Stored). s.items) brought_are
          ∙ (λ i. brought_from ((left_is ∙ heir-tabled m (take n h) lines k.event kept.lines_are) i) k.event 1 (kept.items_are i) ++ option_to_list (op_done k.event))
          ∙ held_ops-push m (take n h) k
          ∙ ap (held_ops m) front;
      permits_are = λ s t object.
          ap (λ (p : Permitted). p s t object) (permitted_are ∙ (λ i. permits_after (is_late (λ u. is_some (end (kept.lines_are u i).course)) k.event) k.event (λ u v o. kept.permits_are u v o i)))
          ∙ sym (left-push (take n h) k s t object)
          ∙ ap (λ g. is_left g s t object) front;
      remembered = remembered_more (n + 1) (begun_in lines) k.event lines new_lines store.lineage parents noted kept.remembered remembered_are;
      deep = let deep = kept.deep in omega (arith, most, deep);
      edges_are = formed_are ∙ ap (λ fs. formed fs (formed_by m (take n h) k.event)) kept.edges_are ∙ sym (edges-push m (take n h) k) ∙ ap (edges m) front;
    }

-- a walk that goes on after the first n items
pub goes-on : {A : Type 0} (m : Parts A) (h : List (Kept A)) (n : ℕ) (w : Walked A) → n < length h → w ≡ record { model = m; front = take n h; ahead = drop n h } →
    stepped w ≡ record { model = m; front = take (n + 1) h; ahead = drop (n + 1) h }
goes-on {A} m h n w within is = of_ahead (drop n h) refl
  where
    of_ahead : (ks : List (Kept A)) → drop n h ≡ ks → stepped w ≡ record { model = m; front = take (n + 1) h; ahead = drop (n + 1) h }
    of_ahead [] none = let long = length-drop n h in let some = ap length none in absurd (omega (arith, within, long, some))
    of_ahead (k ∷ ks) some = sym (shown-more m h n k w (next-item h n k (ap (λ xs. slice_get xs 0) some)) (sym is))
