use Rattle.std.proofs.Common.{◌≡◌, ◌++◌, drop, filter, map}
use Rattle.acta_table.specs.Dependencies.{all_kinds, has_dep, word_of}
use Rattle.acta_lang.specs.Canonical.{dep_words}
use Rattle.acta_lang.specs.inside.Written.{spaced}
use Rattle.acta_lang.proofs.class_lines.push_dep_words.Given as goal

-- with the rest, it is all
abbrev pub invariant-loop-kind : goal.invariant-loop-kind
invariant-loop-kind g l =
    l.text.items ++ spaced (map word_of (filter (has_dep l.kinds) (drop l.kind-index all_kinds))) ≡ l.initial.text.items ++ spaced (dep_words l.kinds)
