use Rattle.std.specs.Prelude.{◌≡◌, ◌≤◌, ◌++◌, drop, length}
use Rattle.acta_words.specs.Text.{words_of}
use Rattle.acta_words.specs.inside.NextSpans.{words_between}
use Rattle.acta_words.proofs.few.few_words.Given as goal

-- the words so far, followed by those to come, are all
abbrev pub invariant-loop-span : goal.invariant-loop-span
invariant-loop-span l = record {
  within : l.at ≤ length l.bytes;
  words : l.words ++ words_between (drop l.at l.bytes) ≡ words_of l.line;
}

abbrev pub decreases-loop-span : goal.decreases-loop-span
decreases-loop-span l = length (words_between (drop l.at l.bytes))
