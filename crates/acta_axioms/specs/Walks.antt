-- The abstract state of a walk through a history: the items taken, and the items ahead.
use Rattle.std.specs.Prelude.{List, [], ◌∷◌, ◌++◌, map}
use Rattle.acta_table.specs.declared.event.Kept.{Kept}
use Rattle.acta_table.specs.declared.event.OpNo.{OpNo}
use Rattle.acta_table.specs.declared.model.Parts.{Parts}
use Rattle.acta_sets.specs.declared.held_op.HeldOp.{HeldOp}
use Rattle.acta_axioms.specs.Operations.{Operation, Standing, standing, operations}

-- a model, the items before the current place, and the items from it on
pub record Walked (A : Type 0) : Type 0 where
  pub model : Parts A
  pub front : List (Kept A)
  pub ahead : List (Kept A)

-- the walk with these items ahead, after the first of them, if any, is taken
abbrev pub with_next : {A : Type 0} → Walked A → List (Kept A) → Walked A
with_next w [] = w
with_next w (k ∷ ks) = record { model = w.model; front = w.front ++ k ∷ []; ahead = ks }

-- the walk one item further; at the end of the history it is unchanged
abbrev pub stepped : {A : Type 0} → Walked A → Walked A
stepped w = with_next w w.ahead

-- an operation with its holder and its fate
abbrev pub held_op : Operation → Standing → HeldOp
held_op o s = record {
  ob = record { 0 = o.object };
  op = o.op;
  holder = record { 0 = s.holder };
  fate = s.fate;
}

-- the operations of a history, with holders and fates
abbrev pub held_ops : {A : Type 0} → Parts A → List (Kept A) → List HeldOp
held_ops m h = map (λ o. held_op o (standing m h o)) (operations h)

-- the numbers of operations
abbrev pub op_numbers : List Operation → List OpNo
op_numbers os = map (λ o. record { 0 = o.number }) os

-- a model and a history
pub record ModelAndHistory (A : Type 0) : Type 0 where
  pub model : Parts A
  pub history : List (Kept A)
