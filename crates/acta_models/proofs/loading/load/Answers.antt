use Rattle.std.proofs.Common.{ℕ, List, subst, ap, sym, ◌∙◌}
use Rattle.acta_lang.specs.Meaning.{meaning, IsWhy}
use Rattle.acta_models.proofs.Meanings.{is_canonical, no_fault}
use Rattle.acta_models.proofs.loading.load.Goals as goal

-- no text has a fault
pub unreachable-requires : goal.unreachable-requires
unreachable-requires g c =
    let meant = λ (text : List ℕ). meaning {A = g.row.A.Denot} text in
    no_fault {A = g.row.A.Denot} c.args.name c.in-Err-Fault.field-0-0 (ap meant (sym (c.as_bytes.ensures.value ∙ c.text.ensures)) ∙ subst (IsWhy (meant c.as_bytes.result.now)) c.in-Err-Fault.field-0-is c.in-Err-Fault.ensures.fault)

-- each text is canonical
pub returns-in-Ok-clause-canonical : goal.returns-in-Ok-clause-canonical
returns-in-Ok-clause-canonical g c =
    let meant = λ (text : List ℕ). meaning {A = g.row.A.Denot} text in
    is_canonical c.args.name c.in-Ok.model (ap meant (sym (c.as_bytes.ensures.value ∙ c.text.ensures)) ∙ c.in-Ok.ensures.ok)
