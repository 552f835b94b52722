use Rattle.std.proofs.Common.{rules}
use Rattle.std.proofs.lemmas.Fn.{filter_same}
use Rattle.acta_debug.specs.inside.Shown.{has_kept_within}
use Rattle.acta_debug.proofs.debugger.keep_within.Goals as goal

pub returns : goal.returns
returns g c = filter_same _ (has_kept_within c.args.events) _ (λ x b f says. search rules) _ _ c.retain.ensures.filtered
