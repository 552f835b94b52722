use Rattle.std.proofs.Common.{◌≡◌, Ok, Err, sym, ap, ◌∙◌}
use Rattle.acta_image.specs.declared.fault.LoadError.TheVariants as error
use Rattle.acta_image.specs.Reading.{loaded, read_head, without_field}
use Rattle.acta_image.proofs.Images.{without_field-err}
use Rattle.acta_image.proofs.loading.load.Goals as goal

pub returns-in-Ok-clause-early : goal.returns-in-Ok-clause-early
returns-in-Ok-clause-early g c = λ e faulty.
    let d = without_field-err (read_head _ c.args.bytes.now) e faulty in
    let clash = sym c.in-Ok.is ∙ c.read.ensures.early d.0 d.1 in
    absurd cc
