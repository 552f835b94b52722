-- The transactions that owe both a commit and an abort: by the debts of a history as by its edges.
use Rattle.std.proofs.Common.{◌≡◌, ℕ, ◌+◌, Bool, true, false, ◌&&◌, ◌||◌, ◌==◌, List, [], ◌∷◌, map, filter, refl, ap, ◌∙◌}
use Rattle.std.specs.Prelude.{Option, Some, None, option_map, filter_map, if◌then◌else◌}
use Rattle.std.specs.List.{list_any, enumerate_from, cons_option}
use Rattle.std.specs.Ordering.{nat_cmp}
use Rattle.std.specs.BTreeMap.{is_at}
use Rattle.acta_table.specs.declared.dep.Edge.{Edge}
use Rattle.acta_table.specs.declared.dep.Missing.{Missing}
use Rattle.acta_table.specs.declared.dep.Owed.{Owed}
use Rattle.acta_table.specs.declared.event.Kept.{Kept}
use Rattle.acta_table.specs.declared.model.Parts.{Parts}
use Rattle.acta_table.specs.Dependencies.{is_commit, is_abort}
use Rattle.acta_table.proofs.AscendingSets.{in-passing}
use Rattle.acta_axioms.specs.Edges.{edges}
use Rattle.acta_axioms.specs.Legal.{debt_in, owed_on, owed, owes_abort_in}
use Rattle.acta_judge.specs.Broken.{clashing}
use Rattle.acta_judge.specs.inside.Edges.{aborting, owes_abort, clashing_among}

-- a transaction is in the set if by some debt it owes an abort
pub in_aborting : (debts : List Owed) (t : ℕ) → list_any (is_at (nat_cmp t)) (aborting debts) ≡ list_any (owes_abort t) debts
in_aborting debts t = in-passing (λ o. is_abort (Some o.missing)) (λ o. o.txn.0) t debts

skipped : (b c : Bool) → c ≡ ((b && false) || c)
skipped true c = refl
skipped false c = refl

module _ {A : Type 0} (h : List (Kept A)) where
  abbrev debts-from : ℕ → List Edge → List Owed
  debts-from n es = filter_map (λ e. option_map (owed_on e) (debt_in h e.1)) (enumerate_from n es)

  abort-first : (t n : ℕ) (e : Edge) (debts : List Owed) (later : Bool) → list_any (owes_abort t) debts ≡ later → (d : Option Missing) →
      list_any (owes_abort t) (cons_option (option_map (owed_on (n, e)) d) debts) ≡ (((e.j.0 == t) && is_abort d) || later)
  abort-first t n e debts later same None = same ∙ skipped (e.j.0 == t) later
  abort-first t n e debts later same (Some missing) = ap (λ (b : Bool). ((e.j.0 == t) && is_abort (Some missing)) || b) same

  -- t owes an abort by the debts of some edges if it owes one by the edges
  aborts-by-debts : (t n : ℕ) (es : List Edge) → list_any (owes_abort t) (debts-from n es) ≡ list_any (owes_abort_in h t) es
  aborts-by-debts t n [] = refl
  aborts-by-debts t n (e ∷ es) = abort-first t n e (debts-from (n + 1) es) (list_any (owes_abort_in h t) es) (aborts-by-debts t (n + 1) es) (debt_in h e)

  module _ (test : ℕ → Bool) where
    abbrev committing : List Owed → List ℕ
    committing debts = map (λ o. o.txn.0) (filter (λ o. is_commit (Some o.missing) && test o.txn.0) debts)

    abbrev committing-in : List Edge → List ℕ
    committing-in es = map (λ e. e.j.0) (filter (λ e. is_commit (debt_in h e) && test e.j.0) es)

    commit-passes : (b : Bool) (o : Owed) (debts : List Owed) (e : Edge) (es : List Edge) → o.txn.0 ≡ e.j.0 → map (λ (o : Owed). o.txn.0) debts ≡ map (λ (e : Edge). e.j.0) es →
        map (λ (o : Owed). o.txn.0) (if b then o ∷ debts else debts) ≡ map (λ (e : Edge). e.j.0) (if b then e ∷ es else es)
    commit-passes true o debts e es first rest = λ i. first i ∷ rest i
    commit-passes false o debts e es first rest = rest

    commit-first : (n : ℕ) (e : Edge) (debts : List Owed) (es : List Edge) → committing debts ≡ committing-in es → (d : Option Missing) →
        committing (cons_option (option_map (owed_on (n, e)) d) debts)
        ≡ map (λ (e : Edge). e.j.0) (if is_commit d && test e.j.0 then e ∷ filter (λ e. is_commit (debt_in h e) && test e.j.0) es else filter (λ e. is_commit (debt_in h e) && test e.j.0) es)
    commit-first n e debts es same None = same
    commit-first n e debts es same (Some missing) = commit-passes (is_commit (Some missing) && test e.j.0) _ _ _ _ refl same

    -- the transactions that owe a commit and pass a test, by the debts of some edges and by the edges
    commits-by-debts : (n : ℕ) (es : List Edge) → committing (debts-from n es) ≡ committing-in es
    commits-by-debts n [] = refl
    commits-by-debts n (e ∷ es) = commit-first n e (debts-from (n + 1) es) es (commits-by-debts (n + 1) es) (debt_in h e)

pub clashing-by-debts : {A : Type 0} (m : Parts A) (h : List (Kept A)) → clashing_among (owed m h) ≡ clashing m h
unfolding owed
clashing-by-debts m h =
    let es = edges m h in
    (λ i. map (λ (o : Owed). o.txn.0) (filter (λ o. is_commit (Some o.missing) && aborts-by-debts h o.txn.0 1 es i) (owed m h)))
    ∙ commits-by-debts h (λ t. list_any (owes_abort_in h t) es) 1 es
