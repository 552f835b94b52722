use Rattle.std.proofs.Common.{ℕ, List, ◌++◌, ◌∙◌, ap}
use Rattle.acta_tool.specs.Output.{reported, reported_last}
use Rattle.acta_words.specs.Text.{text_of}
use Rattle.acta_tool.proofs.run.render_run.Goals as goal

pub returns : goal.returns
returns g c =
    let r = c.args.run.now in
    c.in_ok-render_end.ensures ∙ ap (λ (t : List ℕ). t ++ text_of (reported_last c.args.is_kept r.machine c.args.stop))
    (c.in_ok-render_events.ensures ∙ ap (λ (t : List ℕ). t ++ text_of (reported c.args.is_kept r.answers r.machine)) c.new-text.ensures.items)
