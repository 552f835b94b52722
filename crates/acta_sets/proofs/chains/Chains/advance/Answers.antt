use Rattle.std.specs.Prelude.{◌<◌, ℕ, List, length}
use Rattle.std.proofs.Common.{rules, subst, sym}
use Rattle.acta_sets.specs.declared.mode.Holder.TheVariants.{Anyone}
use Rattle.acta_sets.specs.Chains.{IsMarked, AreChained}
use Rattle.acta_sets.proofs.Chaining.{AreChained-set}
use Rattle.acta_sets.proofs.chains.Chains.advance.Goals as goal

pub returns-clause-chained : goal.returns-clause-chained
returns-clause-chained g c =
    let below : c.in-Some.place < length c.lengthen.new.items.items = search rules in
    AreChained-set c.args.table.now c.self.inside.lineage c.self.inside.marks.items c.lengthen.new.items.items c.in-Some.place c.further-mark.result (record { holder = Anyone; ob = c.args.ob; mode = c.args.mode })
    (sym c.in-Some.ensures.place) below c.lengthen.ensures.same (subst (AreChained c.args.table.now) (sym c.self.view_is) c.requires)
    (subst (λ (ns : List ℕ). IsMarked c.self.inside.lineage c.args.table.now ns c.further-mark.result) c.in_mode.ensures c.further-mark.ensures)
