use Rattle.std.proofs.Common.{rules}
use Rattle.acta_tool.specs.Driving.{scripts_of}
use Rattle.acta_tool.proofs.SeatsInTurn.{turn, ends}
use Rattle.acta_tool.proofs.drive.scripts_of.Goals as goal

pub loop-k-preserved : goal.loop-k-preserved
loop-k-preserved g c = record {
  made = turn c.args.parsed.now c.args.workers c.loop-k.k c.loop-k.scripts.items (scripts_of c.args.workers c.args.parsed.now) c.push.new.self.items (search rules) (search rules) c.loop-k.invariant.made;
  within = search rules;
}

pub returns : goal.returns
returns g c = ends c.args.parsed.now c.args.workers c.loop-k.k c.loop-k.scripts.items (scripts_of c.args.workers c.args.parsed.now) (search rules) c.loop-k.invariant.made
