use Rattle.acta_image.proofs.FieldCodes.{starts-field}
use Rattle.acta_image.proofs.fields.starts.Goals as goal

pub returns-clause-field : goal.returns-clause-field
returns-clause-field c = starts-field c.args.size c.args.bytes.now c.in_ok-bits.bits c.in_ok-bits.rest.now c.in_ok-bits.ensures.field
