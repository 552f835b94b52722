use Rattle.std.specs.Prelude.{◌≡◌, ◌==◌, ℕ, Option, Some, option_map, false, get_or}
use Rattle.std.specs.Option.{option_map_or}
use Rattle.std.proofs.Common.{inl, inr, ap, sym, ◌∙◌}
use Rattle.std.proofs.lemmas.Bool.{ne_eqb}
use Rattle.acta_table.specs.declared.event.TxnId.{TxnId}
use Rattle.acta_table.specs.Events.{started}
use Rattle.acta_axioms.specs.declared.txn_record.TxnRecord.{TxnRecord}
use Rattle.acta_axioms.specs.inside.TxnRecords.{unbegun}
use Rattle.acta_axioms.proofs.taking.remember.Goals as goal

pub returns-in-Some-clause-remembered : goal.returns-in-Some-clause-remembered
returns-in-Some-clause-remembered g c = λ t p e.
    let begins : started c.args.event.now ≡ Some c.in-Some.t.0 = sym c.started.ensures ∙ ap (option_map (λ (u : TxnId). u.0)) c.in-Some.is in
    elim (c.enter.ensures.entered t p e) [
      | inl before ↦ inl (ap (λ (o : Option ℕ). option_map_or (λ u. u == t) o false) begins ∙ ne_eqb c.in-Some.t.0 t (λ same. before.0 (sym same)), before.1)
      | inr here ↦ inr (ap (λ k. (get_or c.args.lines.now k unbegun).parent) here.0 ∙ ap (λ (line : TxnRecord). line.parent) (sym c.record_of.ensures) ∙ here.1)
    ]
