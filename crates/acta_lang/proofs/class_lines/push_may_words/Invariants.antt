use Rattle.std.proofs.Common.{◌≡◌, ◌++◌, drop, filter, map}
use Rattle.acta_table.specs.Kinds.{has_kind}
use Rattle.acta_lang.specs.Canonical.{may_words}
use Rattle.acta_lang.specs.Words.{may_kinds, may_word}
use Rattle.acta_lang.specs.inside.Written.{spaced}
use Rattle.acta_lang.proofs.class_lines.push_may_words.Given as goal

-- with the rest, it is all
abbrev pub invariant-loop-kind : goal.invariant-loop-kind
invariant-loop-kind g l =
    l.text.items ++ spaced (map may_word (filter (has_kind l.kinds) (drop l.kind-index may_kinds))) ≡ l.initial.text.items ++ spaced (may_words l.kinds)
