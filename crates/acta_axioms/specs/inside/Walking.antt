-- The data that a walk keeps, and the searches in it.
use Rattle.std.specs.Prelude.{ℕ, ◌≡◌, ◌≤◌, ◌<◌, Bool, ◌&&◌, not, ◌==◌, List, length, map, take, get_or, if◌then◌else◌, [], ◌⊎◌, false, Some}
use Rattle.std.specs.List.{All, list_any}
use Rattle.acta_table.specs.declared.dep.Edge.{Edge}
use Rattle.acta_table.specs.declared.event.Event.{Event}
use Rattle.acta_table.specs.declared.event.Event.TheVariants.{Join, Commit, Abort, Permit}
use Rattle.acta_table.specs.declared.event.Kept.{Kept}
use Rattle.acta_table.specs.declared.event.Op.{Op}
use Rattle.acta_table.specs.declared.event.OpNo.{OpNo}
use Rattle.acta_table.specs.declared.event.TxnId.{TxnId}
use Rattle.acta_table.specs.declared.limits.TheConstants.{MOST_EVENTS}
use Rattle.acta_table.specs.declared.model.Parts.{Parts}
use Rattle.acta_table.specs.Classes.{exempts}
use Rattle.acta_table.specs.Events.{named}
use Rattle.acta_table.specs.Numbered.{numbers_where, ascending}
use Rattle.acta_objects.specs.Conflicts.{conflict_on}
use Rattle.acta_sets.specs.declared.held_op.HeldOp.{HeldOp}
use Rattle.acta_sets.specs.Permits.{Permitted, with_permit, without_permits}
use Rattle.acta_sets.specs.Lineages.{Lineage, parent_in}
use Rattle.acta_values.specs.KeptValues.{kinds_of}
use Rattle.acta_values.specs.Stores.{Stored}
use Rattle.acta_axioms.specs.declared.txn_record.TxnRecord.{TxnRecord}
use Rattle.acta_axioms.specs.declared.seeking.Sought.{Sought}
use Rattle.acta_axioms.specs.declared.seeking.Sought.TheVariants.{Others, Against}
use Rattle.acta_axioms.specs.History.{has_class, has_ended, ancestors, starts}
use Rattle.acta_axioms.specs.Operations.{Standing, is_exempt, is_of_others}
use Rattle.acta_axioms.specs.Permits.{has_permitted}
use Rattle.acta_axioms.specs.Edges.{edges}
use Rattle.acta_axioms.specs.Walks.{held_ops}
use Rattle.acta_axioms.specs.inside.TxnRecords.{unbegun, txn_record}

-- the permits that remain after an event: those of the transaction that it ends are removed
abbrev pub permits_left : {A : Type 0} → Event A → Permitted → Permitted
permits_left (Join t u) p = without_permits p t.0
permits_left (Commit t) p = without_permits p t.0
permits_left (Abort t) p = without_permits p t.0
permits_left _ p = p

-- the permits after an event: a permit is added, unless it is late
abbrev pub permits_after : {A : Type 0} → Bool → Event A → Permitted → Permitted
permits_after late (Permit t u ob) p = if late then p else with_permit p t.0 u.0 ob.0
permits_after late e p = permits_left e p

-- whether s has permitted t to work on the object, and neither has ended
unfoldable pub is_left : {A : Type 0} → List (Kept A) → ℕ → ℕ → ℕ → Bool
is_left h s t object = has_permitted h s t object && not (has_ended h s) && not (has_ended h t)

-- each parent that is remembered after an event was remembered before, and the event starts another transaction, or it is
-- the one in the table
abbrev pub AreRemembered : {A : Type 0} → Lineage → Lineage → List TxnRecord → Event A → Type 0
AreRemembered old new lines e =
    (t : ℕ) (p : TxnId) → parent_in new t ≡ Some p → ((starts t e ≡ false) × (parent_in old t ≡ Some p)) ⊎ ((get_or lines t unbegun).parent ≡ Some p)

-- the data agree with the definitions after the first n items: the record of each transaction, the operations on the
-- objects of the model, the edges, and the permits that can still be in force; and the parents that are remembered are right
pub record IsKept {A : Type 0} (m : Parts A) (h : List (Kept A)) (n : ℕ)
    (lines : List TxnRecord) (store : Stored) (formed : List Edge) (permitted : Permitted) : Type 0 where
  pub within : n ≤ length h
  pub few : length h ≤ MOST_EVENTS
  pub wide : All (λ k. All (λ t. t < length lines) (named k.event)) h
  pub lines_are : (t : ℕ) → get_or lines t unbegun ≡ txn_record (take n h) t
  pub kinds_are : store.kinds ≡ kinds_of m.objects
  pub items_are : store.items ≡ held_ops m (take n h)
  pub edges_are : formed ≡ edges m (take n h)
  pub permits_are : (s t object : ℕ) → permitted s t object ≡ is_left (take n h) s t object
  pub remembered : (t : ℕ) (p : TxnId) → parent_in store.lineage t ≡ Some p → (get_or lines t unbegun).parent ≡ Some p
  pub deep : store.lineage.most ≤ n

-- the standing of the operation
abbrev pub standing_in : HeldOp → Standing
standing_in x = record { holder = x.holder.0; fate = x.fate }

-- the ancestors of t that its class exempts
abbrev pub exempt : {A : Type 0} → Parts A → List (Kept A) → ℕ → List TxnId
exempt m h t = if has_class (λ k. exempts k.scope) m h t then ancestors h t else []

-- the same by number, ascending, each once
abbrev pub exempt_numbers : {A : Type 0} → Parts A → List (Kept A) → ℕ → List ℕ
exempt_numbers m h t = ascending (map (λ u. u.0) (exempt m h t))

-- these are the transactions whose operations on the object are exempt from conflicts with t
abbrev pub AreExempt : {A : Type 0} → Parts A → List (Kept A) → ℕ → ℕ → List ℕ → Type 0
AreExempt m h t object us = (u : ℕ) → list_any (λ k. k == u) us ≡ is_exempt m h t object u

-- whether the operation is on this object, in t's conflict set, and conflicts with `op`
abbrev pub is_against : {A : Type 0} → Parts A → List (Kept A) → ℕ → ℕ → Op → HeldOp → Bool
is_against m h t object op x =
    (x.ob.0 == object) && (is_of_others m h t object (standing_in x) && conflict_on m object x.op op)

-- whether the operation matches the search
abbrev pub is_sought : {A : Type 0} → Parts A → List (Kept A) → ℕ → Sought → HeldOp → Bool
is_sought m h t Others x = is_of_others m h t x.ob.0 (standing_in x)
is_sought m h t (Against object op) x = is_against m h t object.0 op x

-- the numbers of the operations that pass the test
abbrev pub numbers_of : (HeldOp → Bool) → List HeldOp → List OpNo
numbers_of test items = map (λ n. record { 0 = n }) (numbers_where test items)
