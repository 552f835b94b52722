-- The parents that are remembered.
use Rattle.std.specs.Prelude.{◌≡◌, ◌≤◌, ◌+◌, ℕ, Some, None}
use Rattle.acta_table.specs.declared.event.Event.{Event}
use Rattle.acta_table.specs.declared.event.Event.TheVariants.{Begin, Spawn, Split}
use Rattle.acta_table.specs.declared.event.TxnId.{TxnId}
use Rattle.acta_sets.specs.Lineages.{Lineage, parent_in, IsEntered}
use Rattle.acta_machine.specs.Summary.{Summary}

-- each parent that is remembered is right, and a transaction has fewer ancestors than there were events
pub record IsRemembered (l : Lineage) (s : Summary) : Type 0 where
  pub right : (t : ℕ) (p : TxnId) → parent_in l t ≡ Some p → s.parent t ≡ Some p
  pub few : l.most ≤ s.kept

-- what is remembered after an event: the parent of the transaction that it begins, if it has one
abbrev pub IsNoted : {A : Type 0} → Lineage → Lineage → Event A → Type 0
IsNoted old new (Begin t class) = IsEntered old new t.0 None × (new.most ≤ old.most + 1)
IsNoted old new (Spawn t c class) = IsEntered old new c.0 (Some t) × (new.most ≤ old.most + 1)
IsNoted old new (Split t u class ops) = IsEntered old new u.0 None × (new.most ≤ old.most + 1)
IsNoted old new _ = new ≡ old
