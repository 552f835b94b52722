use Rattle.acta_io.proofs.ImageLines.{whole}
use Rattle.acta_io.proofs.faults.push_image_fault.Goals as goal

pub returns : goal.returns
returns g c =
    whole c.args.fault c.args.text.now.items c.push_number.new.text.items c.push_rest.new.text.items c.in_ok-push_number.ensures c.in_ok-push_rest.ensures
