use Rattle.std.specs.Prelude.{◌≡◌, ◌+◌, ℕ, suc, take}
use Rattle.std.specs.List.{list_all}
use Rattle.std.proofs.Common.{arith, subst, true}
use Rattle.acta_sets.specs.Chains.{is_passed}
use Rattle.acta_sets.specs.inside.Listing.{passes_at}
use Rattle.acta_sets.proofs.Chaining.{all-from, all-more}
use Rattle.acta_sets.proofs.chains.Chains.further.Goals as goal

pub loop-upto-preserved : goal.loop-upto-preserved
loop-upto-preserved g c =
    let before = passes_at (is_passed c.args.self.now.lineage c.loop-upto.lowest) c.args.table.now in
    let after = passes_at (is_passed c.args.self.now.lineage c.in-Some.next) c.args.table.now in
    let one : suc c.loop-upto.upto ≡ c.loop-upto.upto + 1 = omega arith in (
      omega (arith, c.loop-upto-test.true),
      subst (λ (k : ℕ). list_all after (take k c.args.numbers.now) ≡ true) one
          (all-more after c.args.numbers.now c.loop-upto.upto _ c.loop-upto-test.true (all-from before after c.in-Some.ensures.kept (take c.loop-upto.upto c.args.numbers.now) c.loop-upto.invariant.1) c.in-Some.ensures.passed),
    )
