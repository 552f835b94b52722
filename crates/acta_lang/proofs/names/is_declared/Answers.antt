use Rattle.std.proofs.Common.{◌∙◌}
use Rattle.std.specs.Str.{bytes_eq}
use Rattle.acta_lang.proofs.NameLists.{is_found}
use Rattle.acta_lang.proofs.names.is_declared.Goals as goal

pub returns : goal.returns
returns g c = c.contains_key.ensures ∙ is_found (bytes_eq c.args.name.now) c.args.named.now.entries
