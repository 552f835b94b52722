-- The parts of an outcome.
use Rattle.std.proofs.Common.{◌≡◌, ℕ, ◌+◌, zero, suc, List, [], ◌∷◌, drop, Option, Some, None, ap, refl, ◌∙◌, arith}
use Rattle.std.specs.Prelude.{slice_get, option_map, if◌then◌else◌}
use Rattle.std.specs.List.{filter_map, cons_option}
use Rattle.acta_table.specs.declared.answer.Status.{Status}
use Rattle.acta_table.specs.declared.answer.Status.TheVariants.{NotBegun}
use Rattle.acta_table.specs.declared.dep.Edge.{Edge}
use Rattle.acta_table.specs.declared.dep.Missing.{Missing}
use Rattle.acta_table.specs.declared.dep.Owed.{Owed}
use Rattle.acta_table.specs.Numbered.{item_at}
use Rattle.acta_deps.specs.Debts.{debt_of, owed_at, owed_from, owed_in}
use Rattle.acta_deps.specs.Statuses.{has_begun}
use Rattle.acta_explore.specs.declared.debt.Debt.{Debt}
use Rattle.acta_explore.specs.Outcomes.{begun_status, debt_by}
use Rattle.acta_explore.specs.inside.Shown.{debt_among}

first-dropped : {X : Type 0} (all : List X) (n : ℕ) (x : X) (xs : List X) → drop n all ≡ x ∷ xs → slice_get all n ≡ Some x
first-dropped [] zero x xs e = absurd cc
first-dropped [] (suc n) x xs e = absurd cc
first-dropped (y ∷ ys) zero x xs e = ap (λ (l : List _). slice_get l 0) e
first-dropped (y ∷ ys) (suc n) x xs e = first-dropped ys n x xs e

rest-dropped : {X : Type 0} (all : List X) (n : ℕ) (x : X) (xs : List X) → drop n all ≡ x ∷ xs → drop (suc n) all ≡ xs
rest-dropped [] zero x xs e = absurd cc
rest-dropped [] (suc n) x xs e = absurd cc
rest-dropped (y ∷ ys) zero x xs e = ap (λ (l : List _). drop 1 l) e
rest-dropped (y ∷ ys) (suc n) x xs e = rest-dropped ys n x xs e

-- a debt by an edge's number is the debt by the edge
by-number : (all : List Edge) (m : ℕ) (x : Edge) (missing : Option Missing) (ys : List Owed) (zs : List Debt) → item_at all m ≡ Some x → filter_map (debt_among all) ys ≡ zs → filter_map (debt_among all) (cons_option (owed_at m x missing) ys) ≡ cons_option (option_map (λ m. record { kind = x.kind; txn = x.j; on = x.i }) missing) zs
by-number all m x None ys zs found rest = rest
by-number all m x (Some missing) ys zs found rest =
    ap (λ (o : Option Edge). cons_option (option_map (λ e. record { kind = e.kind; txn = e.j; on = e.i }) o) (filter_map (debt_among all) ys)) found
    ∙ ap (λ (ds : List Debt). record { kind = x.kind; txn = x.j; on = x.i } ∷ ds) rest

numbered-from : (status : ℕ → Status) (all edges : List Edge) (n m : ℕ) → m ≡ suc n → drop n all ≡ edges → filter_map (debt_among all) (owed_from status m edges) ≡ filter_map (debt_by status) edges
numbered-from status all [] n m e d = refl
numbered-from status all (x ∷ xs) n m e d =
    let next : m + 1 ≡ suc (suc n) = ap (λ (k : ℕ). k + 1) e ∙ plus-one (suc n) in
    by-number all m x (debt_of status x) (owed_from status (m + 1) xs) (filter_map (debt_by status) xs)
    (ap (item_at all) e ∙ first-dropped all n x xs d)
    (numbered-from status all xs (suc n) (m + 1) next (rest-dropped all n x xs d))
  where
    plus-one : (n : ℕ) → n + 1 ≡ suc n
    plus-one n = omega arith

-- the debts that a machine lists are those by its edges
pub same-debts : (status : ℕ → Status) (edges : List Edge) → filter_map (debt_among edges) (owed_in status edges) ≡ filter_map (debt_by status) edges
same-debts status edges = numbered-from status edges edges 0 1 refl refl

-- a transaction that has not begun has no status to tell
pub not-begun : (status : ℕ → Status) (t : ℕ) → status t ≡ NotBegun → begun_status status t ≡ None
not-begun status t e = ap (λ (s : Status). if has_begun s then Some (record { txn = record { 0 = t }; status = status t }) else None) e
