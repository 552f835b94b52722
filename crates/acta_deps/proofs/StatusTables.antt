-- A table of statuses after one was set.
use Rattle.std.proofs.Common.{◌≡◌, zero, suc, refl, arith, [], ◌∷◌, sym, ◌∙◌, ℕ, ◌<◌, List, length, get_or, slice_set, eq-eqb, inl, inr}
use Rattle.std.proofs.lemmas.Bool.{ne_eqb, cases_eq}
use Rattle.std.proofs.lemmas.Option.{unwrap_or-slice_get}
use Rattle.std.proofs.lemmas.List.{get_or-set_same, get_or-set_other}
use Rattle.acta_table.specs.declared.answer.Status.{Status}
use Rattle.acta_table.specs.declared.answer.Status.TheVariants.{NotBegun}
use Rattle.acta_deps.specs.Deps.{status_listed}
use Rattle.acta_deps.specs.Statuses.{with_status}

at_set : (xs : List Status) (t : ℕ) (s : Status) → t < length xs → (u : ℕ) → status_listed (slice_set xs t s) u ≡ with_status (status_listed xs) t s u
at_set xs t s h u =
    unwrap_or-slice_get (slice_set xs t s) u NotBegun ∙ elim (cases_eq u t) [
      | inl e ↦ rw (eq-eqb u t e, e) (get_or-set_same xs t s NotBegun h)
      | inr ne ↦ rw (ne_eqb u t ne) (get_or-set_other xs t u s NotBegun ne ∙ sym (unwrap_or-slice_get xs u NotBegun))
    ]

pub status_set : (xs : List Status) (t : ℕ) (s : Status) → t < length xs → status_listed (slice_set xs t s) ≡ with_status (status_listed xs) t s
status_set xs t s h = λ i u. at_set xs t s h u i

-- the first entry is unchanged when another is set
pub front_kept : (xs : List Status) (t : ℕ) (s : Status) → 0 < t → status_listed (slice_set xs t s) 0 ≡ status_listed xs 0
front_kept [] t s h = refl
front_kept (x ∷ xs) zero s h = absurd (omega arith)
front_kept (x ∷ xs) (suc t) s h = refl

-- tables with equal entries have the same abstraction
pub same_listed : (xs ys : List Status) → ((t : ℕ) → get_or xs t NotBegun ≡ get_or ys t NotBegun) → status_listed xs ≡ status_listed ys
same_listed xs ys same = λ i t. (unwrap_or-slice_get xs t NotBegun ∙ same t ∙ sym (unwrap_or-slice_get ys t NotBegun)) i
