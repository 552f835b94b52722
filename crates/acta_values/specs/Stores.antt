-- The abstract state of a store of objects and operations.
use Rattle.std.specs.Prelude.{List}
use Rattle.acta_table.specs.declared.model.Kind.{Kind}
use Rattle.acta_sets.specs.declared.held_op.HeldOp.{HeldOp}
use Rattle.acta_sets.specs.Lineages.{Lineage}

-- the kinds of the objects, by their numbers; the operations on them, with holders and fates; and the parents of transactions
-- that are remembered
pub record Stored : Type 0 where
  pub kinds : List Kind
  pub items : List HeldOp
  pub lineage : Lineage
