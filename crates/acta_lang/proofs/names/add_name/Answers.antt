use Rattle.std.proofs.Common.{◌∙◌}
use Rattle.acta_lang.proofs.NameLists.{goes_last}
use Rattle.acta_lang.proofs.names.add_name.Goals as goal

pub returns : goal.returns
returns g c = c.in_ok-insert.ensures.entries ∙ goes_last c.args.name c.args.value c.args.named.now.entries c.requires
