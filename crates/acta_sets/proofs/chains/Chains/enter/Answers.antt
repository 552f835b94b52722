use Rattle.std.specs.Prelude.{◌≡◌, true}
use Rattle.std.proofs.Common.{rules, sym, subst}
use Rattle.acta_sets.specs.Chains.{Chained, AreChained}
use Rattle.acta_sets.specs.Lineages.{IsEntered}
use Rattle.acta_sets.proofs.Chaining.{AreChained-still}
use Rattle.acta_sets.proofs.chains.Chains.enter.Goals as goal

pub returns-then-not-enter-clause-entered : goal.returns-then-not-enter-clause-entered
returns-then-not-enter-clause-entered g c = subst (λ (x : Chained). IsEntered x.lineage c.enter.new.self c.args.t.0 c.args.parent) c.self.view_is c.enter.ensures.entered

pub returns-else-not-enter-clause-entered : goal.returns-else-not-enter-clause-entered
returns-else-not-enter-clause-entered g c = subst (λ (x : Chained). IsEntered x.lineage c.enter.new.self c.args.t.0 c.args.parent) c.self.view_is c.enter.ensures.entered

pub returns-else-not-enter-clause-chained : goal.returns-else-not-enter-clause-chained
returns-else-not-enter-clause-chained g c = λ items are.
    let known : c.enter.result ≡ true = search rules in
    AreChained-still items c.self.inside.lineage c.enter.new.self c.self.inside.marks.items (c.enter.ensures.still known) (subst (AreChained items) (sym c.self.view_is) are)
