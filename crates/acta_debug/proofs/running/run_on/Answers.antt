use Rattle.std.proofs.Common.{◌≡◌, arith, length, subst, sym}
use Rattle.acta_debug.specs.inside.Shown.{IsInside, session_of}
use Rattle.acta_debug.proofs.Standing.{inside-at}
use Rattle.acta_debug.proofs.Stopping.{goes-on, stops-end, stops-here, turn-inside, turn-kept, turn-model}
use Rattle.acta_debug.proofs.running.run_on.Goals as goal

pub returns-in-Some-clause-stop : goal.returns-in-Some-clause-stop
returns-in-Some-clause-stop g c =
    stops-here c.args.machine.now c.loop-k.machine c.take.new.self c.args.history.now c.args.at c.args.breaks.now c.requires c.loop-k.k c.index-history-k.result c.in_ok-number.field-0
    c.loop-k.invariant.kept c.loop-k-test.true c.index-history-k.is c.in_ok-take.ensures.ok c.in_ok-take.ensures.follows c.loop-k.invariant.reported c.in_ok-number.ensures
    c.in-Some.number c.in-Some.is

pub returns-in-Some-clause-inside : goal.returns-in-Some-clause-inside
returns-in-Some-clause-inside g c =
    turn-inside c.args.machine.now c.loop-k.machine c.take.new.self c.args.history.now c.args.at c.args.breaks.now c.requires c.loop-k.k c.index-history-k.result c.in_ok-number.field-0
    c.loop-k.invariant.kept c.loop-k-test.true c.index-history-k.is c.in_ok-take.ensures.ok c.in_ok-take.ensures.follows c.loop-k.invariant.reported c.in_ok-number.ensures

pub returns-in-Some-clause-model : goal.returns-in-Some-clause-model
returns-in-Some-clause-model g c =
    turn-model c.args.machine.now c.loop-k.machine c.take.new.self c.args.history.now c.args.at c.args.breaks.now c.requires c.loop-k.k c.index-history-k.result c.in_ok-number.field-0
    c.loop-k.invariant.kept c.loop-k-test.true c.index-history-k.is c.in_ok-take.ensures.ok c.in_ok-take.ensures.follows c.loop-k.invariant.reported c.in_ok-number.ensures

pub loop-k-preserved : goal.loop-k-preserved
loop-k-preserved g c = record {
  within = omega arith;
  kept =
      turn-kept c.args.machine.now c.loop-k.machine c.take.new.self c.args.history.now c.args.at c.args.breaks.now c.requires c.loop-k.k c.index-history-k.result c.in_ok-number.field-0
      c.loop-k.invariant.kept c.loop-k-test.true c.index-history-k.is c.in_ok-take.ensures.ok c.in_ok-take.ensures.follows c.loop-k.invariant.reported c.in_ok-number.ensures;
  follows = c.in_ok-take.ensures.follows;
  reported =
      goes-on c.args.machine.now c.loop-k.machine c.take.new.self c.args.history.now c.args.at c.args.breaks.now c.requires c.loop-k.k c.index-history-k.result c.in_ok-number.field-0
      c.loop-k.invariant.kept c.loop-k-test.true c.index-history-k.is c.in_ok-take.ensures.ok c.in_ok-take.ensures.follows c.loop-k.invariant.reported c.in_ok-number.ensures
      c.in_default.is;
}

pub returns-clause-stop : goal.returns-clause-stop
returns-clause-stop g c =
    sym (stops-end (session_of c.args.machine.now c.args.history.now c.args.at c.args.breaks.now) c.loop-k.k c.loop-k-test.false c.loop-k.invariant.reported)

pub returns-clause-inside : goal.returns-clause-inside
returns-clause-inside g c =
    let t = c.loop-k.machine in
    let end : c.loop-k.k ≡ length c.args.history.now = omega arith in
    subst (λ n. IsInside t c.args.history.now n) end
    (inside-at c.args.machine.now.model c.args.history.now c.loop-k.k t c.requires.whole c.loop-k.invariant.within c.requires.few c.loop-k.invariant.kept c.loop-k.invariant.follows)
