use Rattle.std.proofs.Common.{sym, ◌∙◌}
use Rattle.acta_explore.proofs.Keying.{put-found, put-keyed, put-new}
use Rattle.acta_explore.proofs.search.put.Goals as goal

pub returns-then-contains_key-clause-put : goal.returns-then-contains_key-clause-put
returns-then-contains_key-clause-put g c = put-found c.args.plan.now c.args.point c.args.key c.args.level.now.entries c.requires.keyed c.requires.key (sym c.contains_key.ensures ∙ c.if-contains_key.true)

pub returns-clause-keyed : goal.returns-clause-keyed
returns-clause-keyed g c =
    put-keyed c.args.plan.now c.args.point c.args.key c.args.level.now.entries c.insert.new.self.entries c.requires.keyed c.requires.key (sym c.contains_key.ensures ∙ c.if-contains_key.false) c.in_ok-insert.ensures.entries

pub returns-clause-put : goal.returns-clause-put
returns-clause-put g c =
    put-new c.args.plan.now c.args.point c.args.key c.args.level.now.entries c.insert.new.self.entries c.requires.keyed c.requires.key (sym c.contains_key.ensures ∙ c.if-contains_key.false) c.in_ok-insert.ensures.entries
