-- An edge blocks only its party.
use Rattle.std.proofs.Common.{◌≡◌, ℕ, Bool, true, ◌&&◌, ◌==◌, List, is_some}
use Rattle.std.proofs.lemmas.Bool.{and_parts, eqb-true}
use Rattle.acta_table.specs.declared.dep.Edge.{Edge}
use Rattle.acta_table.specs.declared.dep.Missing.{Missing}
use Rattle.acta_table.specs.declared.dep.Missing.TheVariants.{Commit, Abort}
use Rattle.acta_table.specs.declared.answer.Status.{Status}
use Rattle.acta_deps.specs.Debts.{debt_of, owes_both}
use Rattle.acta_deps.specs.declared.block_kind.BlockKind.{BlockKind}
use Rattle.acta_deps.specs.declared.block_kind.BlockKind.TheVariants.{AwaitsBegin, AwaitsEnd, AwaitsCommit, AwaitsAbort, EndsAfter, CommittedFirst, BeganFirst, CannotPayCommit, CannotPayAbort, OwesCommit, OwesAbort}
use Rattle.acta_deps.specs.inside.BlockKinds.{blocks, party, owes, would_owe_both}

same : (a b : ℕ) (x : Bool) → ((a == b) && x) ≡ true → a ≡ b
same a b x h = eqb-true a b (and_parts (a == b) x h).0

pub bars_party : (block_kind : BlockKind) (status : ℕ → Status) (t : ℕ) (e : Edge) → blocks block_kind status t e ≡ true → party block_kind e ≡ t
bars_party AwaitsBegin status t e h = same e.j.0 t _ h
bars_party AwaitsEnd status t e h = same e.j.0 t _ h
bars_party AwaitsCommit status t e h = same e.j.0 t _ h
bars_party AwaitsAbort status t e h = same e.j.0 t _ h
bars_party EndsAfter status t e h = same e.j.0 t _ h
bars_party CommittedFirst status t e h = same e.i.0 t _ h
bars_party BeganFirst status t e h = same e.i.0 t _ h
bars_party CannotPayCommit status t e h = same e.i.0 t _ h
bars_party CannotPayAbort status t e h = same e.i.0 t _ h
bars_party OwesCommit status t e h = same e.j.0 t _ h
bars_party OwesAbort status t e h = same e.j.0 t _ h

pub owes_party : (missing : Missing) (status : ℕ → Status) (t : ℕ) (e : Edge) → owes missing status t e ≡ true → e.j.0 ≡ t
owes_party Commit status t e h = same e.j.0 t _ h
owes_party Abort status t e h = same e.j.0 t _ h

pub would_owe_both_party : (status : ℕ → Status) (es : List Edge) (t : ℕ) (e : Edge) → would_owe_both status es t e ≡ true → e.i.0 ≡ t
would_owe_both_party status es t e h = same e.i.0 t (is_some (debt_of status e)) (and_parts ((e.i.0 == t) && is_some (debt_of status e)) (owes_both status es e.j.0) h).0
