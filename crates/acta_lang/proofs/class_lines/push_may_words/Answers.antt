use Rattle.std.proofs.Common.{arith, ◌∙◌}
use Rattle.acta_table.specs.Kinds.{has_kind}
use Rattle.acta_lang.specs.Words.{may_kinds, may_word}
use Rattle.acta_lang.proofs.Writing.{word_step}
use Rattle.acta_lang.proofs.class_lines.push_may_words.Goals as goal

pub loop-kind-preserved : goal.loop-kind-preserved
loop-kind-preserved g c =
    word_step may_word (has_kind c.args.kinds) may_kinds c.loop-kind.kind-index _ c.loop-kind.text.items _ c.as_bytes.result.now c.has.result (omega arith) c.in_ok-push_word_if.ensures c.has.ensures (c.as_bytes.ensures.value ∙ c.may_word.ensures)
    ∙ c.loop-kind.invariant
