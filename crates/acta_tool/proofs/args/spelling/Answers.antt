use Rattle.std.proofs.Common.{Some, None, option_map}
use Rattle.acta_tool.proofs.Named.{named_is}
use Rattle.acta_tool.proofs.args.spelling.Goals as goal

pub returns-in_default-get_str : goal.returns-in_default-get_str
returns-in_default-get_str c =
    named_is c.args.matches.now c.in-Some.inner.now c.in-Some.command.now c.is_set-is_kept.result (option_map (λ w. w.now) c.get_str-workers.result) (option_map (λ w. w.now) c.get_str-watch.result) None
    c.in-Some.ensures.name c.in-Some.ensures.rows c.is_set-is_kept.ensures c.get_str-workers.ensures c.get_str-watch.ensures c.in_default-get_str.ensures

pub returns : goal.returns
returns c =
    named_is c.args.matches.now c.in-Some.inner.now c.in-Some.command.now c.is_set-is_kept.result (option_map (λ w. w.now) c.get_str-workers.result) (option_map (λ w. w.now) c.get_str-watch.result) (Some c.in-Some-get_str.model.now)
    c.in-Some.ensures.name c.in-Some.ensures.rows c.is_set-is_kept.ensures c.get_str-workers.ensures c.get_str-watch.ensures c.in-Some-get_str.ensures
