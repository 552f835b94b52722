use Rattle.std.proofs.Common.{◌≡◌, Some, None, sym, ap, ◌∙◌}
use Rattle.acta_table.specs.Faults.{lowest_fault}
use Rattle.acta_lang.specs.Drafts.{parts_of}
use Rattle.acta_lang.specs.inside.Abstraction.{abstraction}
use Rattle.acta_lang.proofs.Sound.{is_sound}
use Rattle.acta_lang.proofs.assembling.assemble.Goals as goal

-- a model from a text has no fault
pub unreachable-requires : goal.unreachable-requires
unreachable-requires g c =
    let none = ap lowest_fault c.in_ok-parts.ensures ∙ is_sound c.args.text.now (parts_of (abstraction c.in_ok-draft.draft)) c.in_ok-draft.ensures.ok in
    let clash : None ≡ Some c.in-Err.field-0 = sym none ∙ c.in-Err.ensures.fault in
    cc
