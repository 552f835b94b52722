use Rattle.std.proofs.Common.{subst, sym}
use Rattle.acta_table.specs.declared.event.Op.{Op}
use Rattle.acta_sets.specs.declared.mode.LockMode.TheVariants.{Reads, Writes, Gets, Adds, Changes}
use Rattle.acta_sets.specs.Chains.{AreRivals}
use Rattle.acta_sets.proofs.Clearing.{rival-Read, rival-Write, rival-Get, rival-Add, rival-Has, rival-Size}
use Rattle.acta_sets.proofs.chains.rivals.Goals as goal

pub returns-in-Read : goal.returns-in-Read
returns-in-Read c = subst (λ (p : Op). AreRivals Writes Writes p) (sym c.in-Read.is) rival-Read

pub returns-in-Write : goal.returns-in-Write
returns-in-Write c = subst (λ (p : Op). AreRivals Reads Writes p) (sym c.in-Write.is) (rival-Write c.in-Write.field-0)

pub returns-in-Get : goal.returns-in-Get
returns-in-Get c = subst (λ (p : Op). AreRivals Adds Adds p) (sym c.in-Get.is) rival-Get

pub returns-in-Add : goal.returns-in-Add
returns-in-Add c = subst (λ (p : Op). AreRivals Gets Gets p) (sym c.in-Add.is) (rival-Add c.in-Add.field-0)

pub returns-in-Has : goal.returns-in-Has
returns-in-Has c = subst (λ (p : Op). AreRivals Changes Changes p) (sym c.in-Has.is) (rival-Has c.in-Has.field-0)

pub returns-in-Size : goal.returns-in-Size
returns-in-Size c = subst (λ (p : Op). AreRivals Changes Changes p) (sym c.in-Size.is) rival-Size
