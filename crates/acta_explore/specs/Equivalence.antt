-- Points from which programs continue in the same way.
use Rattle.std.specs.Prelude.{◌≡◌, ℕ, Bool, ◌==◌, List, [], ◌∷◌, filter, length}
use Rattle.std.specs.List.{list_any}
use Rattle.acta_table.specs.declared.dep.Edge.{Edge}
use Rattle.acta_sets.specs.declared.held_op.HeldOp.{HeldOp}
use Rattle.acta_machine.specs.Changes.{summary_of}
use Rattle.acta_machine.specs.Summary.{Summary}
use Rattle.acta_explore.specs.declared.key.LineOp.{LineOp}
use Rattle.acta_explore.specs.Points.{Point}
use Rattle.acta_explore.specs.Programs.{Programs, lines_done, operated_lines}

-- operations, each with the line that did it
abbrev pub by_line : List ℕ → List HeldOp → List LineOp
by_line (l ∷ lines) (held ∷ items) = record { line = l; held = held } ∷ by_line lines items
by_line _ _ = []

-- the machine's summary at the point
abbrev pub known : {A : Type 0} → Point A → Summary
known p = summary_of p.state.model p.state.kept

-- the operations that were done, in order, each with the line that did it
abbrev pub line_ops : {A : Type 0} → Point A → List LineOp
line_ops p = by_line (operated_lines p.steps) (known p).operations

-- whether the operation is on this object
abbrev pub is_on : ℕ → LineOp → Bool
is_on ob o = o.held.ob.0 == ob

-- the same operations on each object, in the same order; across objects the order may differ
abbrev pub AreSameByObject : List LineOp → List LineOp → Type 0
AreSameByObject xs ys = (ob : ℕ) → filter (is_on ob) xs ≡ filter (is_on ob) ys

-- the same edges in any order: a test that an edge of one list passes, an edge of the other passes
pub record AreSameEdges (xs ys : List Edge) : Type 0 where
  pub many : length xs ≡ length ys
  pub among : (test : Edge → Bool) → list_any test xs ≡ list_any test ys

-- all but the operations and the edges: the number of events, statuses, classes, parents and permits
abbrev pub without_lists : Summary → Summary
without_lists s = record s { operations = []; edges = [] }

-- two points on one model: each line did the same with the same return; statuses, classes, parents and permits are the same; the edges are the
-- same; and the operations on each object, each with its line, its holder and its fate
pub record AreEquivalent {A : Type 0} (programs : Programs A) (p q : Point A) : Type 0 where
  pub lines : lines_done programs p.steps ≡ lines_done programs q.steps
  pub rest : without_lists (known p) ≡ without_lists (known q)
  pub edges : AreSameEdges (known p).edges (known q).edges
  pub operations : AreSameByObject (line_ops p) (line_ops q)

-- the two points are not equivalent
abbrev pub AreApart : {A : Type 0} → Programs A → Point A → Point A → Type 0
AreApart programs p q = AreEquivalent programs p q → ⊥
