use Rattle.std.specs.Prelude.{◌≡◌, ◌≤◌, ℕ, true}
use Rattle.std.proofs.Common.{rules, subst}
use Rattle.acta_sets.specs.Chains.{Chained}
use Rattle.acta_sets.specs.Lineages.{depth_in}
use Rattle.acta_sets.proofs.Clearing.{clear}
use Rattle.acta_sets.proofs.chains.Chains.is_clear.Goals as goal

pub returns : goal.returns
returns g c = λ exempt are is.
    let low : depth_in c.args.self.now.lineage c.args.t.0 ≤ c.args.self.now.lineage.most =
    subst (λ (x : Chained). depth_in x.lineage c.args.t.0 ≤ x.lineage.most) c.self.view_is (subst (λ (d : ℕ). d ≤ c.self.inside.lineage.most) c.depth.ensures.depth c.depth.ensures.shallow) in
    let passed : c.is_clear_of.result ≡ true = search rules in
    clear c.args.self.now.lineage c.args.t.0 exempt low are c.args.table.now c.args.ob.0 c.args.op.now c.in-Some.first c.in-Some.second c.in-Some.ensures (c.is_clear_of.ensures passed) (c.is_clear_of-2.ensures is)
