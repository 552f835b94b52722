use Rattle.std.specs.Prelude.{◌<◌, [], List}
use Rattle.std.proofs.Common.{arith, refl, ap, ◌∙◌}
use Rattle.acta_sets.specs.declared.listing.ModeList.{ModeList}
use Rattle.acta_sets.specs.inside.Modes.{total_place}
use Rattle.acta_sets.specs.inside.Listing.{in_table, numbers_in, front_in}
use Rattle.acta_sets.proofs.Listed.{more-read}
use Rattle.acta_sets.proofs.coarse_lists.grow_to.Goals as goal

pub loop-preserved : goal.loop-preserved
loop-preserved g c =
    let w : ModeList g.row.A.Denot = record { numbers = c.new.result; front = 0 } in
    record {
      numbers = λ q. ap (λ (ls : List (ModeList g.row.A.Denot)). numbers_in (in_table ls) q) c.in_ok-push.ensures.items
          ∙ more-read (λ (l : ModeList g.row.A.Denot). l.numbers.items) [] c.loop.lists.items w (total_place q) c.new.ensures.items ∙ c.loop.invariant.numbers q;
      fronts = λ q. ap (λ (ls : List (ModeList g.row.A.Denot)). front_in (in_table ls) q) c.in_ok-push.ensures.items
          ∙ more-read (λ (l : ModeList g.row.A.Denot). l.front) 0 c.loop.lists.items w (total_place q) refl ∙ c.loop.invariant.fronts q;
      long = omega (arith, c.in_ok-push.ensures.len, c.loop.invariant.long);
    }

pub overflow_add-end : goal.overflow_add-end
overflow_add-end g c =
    let small : c.args.place < 4294967296 = c.requires in
    omega (arith, small)
