-- The table of records with one entry changed.
use Rattle.std.proofs.Common.{◌≡◌, ℕ, ◌<◌, List, length, get_or, set, sym, ap, ◌∙◌, eq-eqb, inl, inr}
use Rattle.std.specs.Prelude.{if◌then◌else◌}
use Rattle.std.proofs.lemmas.Bool.{ne_eqb, cases_eq}
use Rattle.std.proofs.lemmas.List.{get_or-set_other}
use Rattle.std.proofs.lemmas.Grind.{get_or-set_at}
use Rattle.std.proofs.lemmas.Option.{unwrap_or-slice_get}
use Rattle.acta_machine.specs.declared.machine_state.TxnRecord.{TxnRecord}
use Rattle.acta_machine.specs.Summary.{with_entry}
use Rattle.acta_machine.specs.inside.Abstraction.{unbegun, record_in}

-- an entry's property is that of the new record at t, and unchanged elsewhere
pub record_of-entered : {X : Type 0} (show : TxnRecord → X) (records : List TxnRecord) (t : ℕ) (o : TxnRecord) → t < length records → (u : ℕ) → show (record_in (set records t o) u) ≡ with_entry (λ v. show (record_in records v)) t (show o) u
record_of-entered show records t o within u =
    ap show (unwrap_or-slice_get (set records t o) u unbegun)
    ∙ elim (cases_eq u t) [
      | inl e ↦
          ap show (get_or-set_at records t u o unbegun e within)
          ∙ sym (ap (λ b. if b then show o else show (record_in records u)) (eq-eqb u t e))
      | inr ne ↦
          ap show (get_or-set_other records t u o unbegun ne ∙ sym (unwrap_or-slice_get records u unbegun))
          ∙ sym (ap (λ b. if b then show o else show (record_in records u)) (ne_eqb u t ne))
    ]

-- tables with the same entries have the same records
pub same_records : (xs ys : List TxnRecord) → ((u : ℕ) → get_or xs u unbegun ≡ get_or ys u unbegun) → (u : ℕ) → record_in xs u ≡ record_in ys u
same_records xs ys same u = unwrap_or-slice_get xs u unbegun ∙ same u ∙ sym (unwrap_or-slice_get ys u unbegun)
