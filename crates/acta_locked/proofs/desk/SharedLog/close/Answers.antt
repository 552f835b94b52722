use Rattle.std.proofs.Common.{◌∙◌, sym}
use Rattle.acta_locked.proofs.desk.SharedLog.close.Goals as goal

pub returns-clause-counted : goal.returns-clause-counted
returns-clause-counted g c = c.args.self.counted ∙ sym (c.audit.ensures.whole c.requires)
