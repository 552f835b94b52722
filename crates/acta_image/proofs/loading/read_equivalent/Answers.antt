use Rattle.std.proofs.Common.{◌≡◌, Ok, subst}
use Rattle.acta_image.specs.Reading.{loaded}
use Rattle.acta_image.proofs.Images.{image-again, image-only}
use Rattle.acta_image.proofs.loading.read_equivalent.Goals as goal

pub returns-clause-had : goal.returns-clause-had
returns-clause-had g c = λ m is. (image-only m c.args.bytes.now (λ i. (c.type_inv.bytes i).fits) is).1.0

pub returns-clause-spelled : goal.returns-clause-spelled
returns-clause-spelled g c = λ m is. (image-only m c.args.bytes.now (λ i. (c.type_inv.bytes i).fits) is).1.1

pub returns-clause-only : goal.returns-clause-only
returns-clause-only g c = λ version m of has is. subst (λ bytes. loaded bytes ≡ Ok m) is (image-again version m of has)
