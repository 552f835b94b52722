-- What later events leave unchanged in a history.
use Rattle.std.specs.Prelude.{◌≡◌, ◌≤◌, ◌⊎◌, ℕ, true, false, ⊤, List, [], ◌∷◌, ◌++◌, Some}
use Rattle.acta_table.specs.declared.answer.Status.{Status}
use Rattle.acta_table.specs.declared.answer.Status.TheVariants.{Committed, Aborted}
use Rattle.acta_table.specs.declared.dep.Edge.{Edge}
use Rattle.acta_table.specs.declared.dep.Missing.{Missing}
use Rattle.acta_table.specs.declared.dep.Missing.TheVariants.{Commit, Abort}
use Rattle.acta_table.specs.Fates.{is_open}
use Rattle.acta_table.specs.Numbered.{item_at}
use Rattle.acta_deps.specs.Debts.{debt_of}
use Rattle.acta_deps.specs.Statuses.{has_begun, has_ended}
use Rattle.acta_sets.specs.declared.held_op.HeldOp.{HeldOp}
use Rattle.acta_machine.specs.Summary.{Summary}

-- an operation keeps its object and its action, and its fate once it has one
pub record IsOpLater (i j : HeldOp) : Type 0 where
  pub object : j.ob ≡ i.ob
  pub op : j.op ≡ i.op
  pub fate : is_open i.fate ≡ false → j.fate ≡ i.fate

-- every operation so far is still there under its number; more may follow
abbrev pub AreLater : List HeldOp → List HeldOp → Type 0
AreLater [] js = ⊤
AreLater (i ∷ is) [] = ⊥
AreLater (i ∷ is) (j ∷ js) = IsOpLater i j × AreLater is js

-- the status of a transaction that has paid its debt
abbrev pub paid : Missing → Status
paid Commit = Committed
paid Abort = Aborted

-- a debt of an edge is still owed by it, or paid
abbrev pub StaysOwed : Summary → Summary → Type 0
StaysOwed s l =
    (n : ℕ) (f : Edge) (missing : Missing) → item_at s.edges n ≡ Some f → debt_of s.status f ≡ Some missing → (debt_of l.status f ≡ Some missing) ⊎ (l.status f.j.0 ≡ paid missing)

-- the second summary is the first or a later one
pub record IsLater (s l : Summary) : Type 0 where
  pub kept : s.kept ≤ l.kept
  pub begun : (t : ℕ) → has_begun (s.status t) ≡ true → has_begun (l.status t) ≡ true
  pub ended : (t : ℕ) → has_ended (s.status t) ≡ true → l.status t ≡ s.status t
  pub class : (t : ℕ) → has_begun (s.status t) ≡ true → l.class t ≡ s.class t
  pub parent : (t : ℕ) → has_begun (s.status t) ≡ true → l.parent t ≡ s.parent t
  pub operations : AreLater s.operations l.operations
  pub edges : (more : List Edge) × (l.edges ≡ s.edges ++ more)
  pub debts : StaysOwed s l
