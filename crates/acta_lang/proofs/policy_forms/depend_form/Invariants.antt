use Rattle.std.proofs.Common.{◌≡◌, drop, map, fold, bit_or, option_map}
use Rattle.acta_table.specs.Dependencies.{only_dep}
use Rattle.acta_words.specs.Text.{each_read}
use Rattle.acta_lang.specs.Words.{dep_named, deps_of}
use Rattle.acta_lang.proofs.policy_forms.depend_form.Given as goal

-- what is left, with the kinds so far, gives what all give
abbrev pub invariant-loop-word : goal.invariant-loop-word
invariant-loop-word l =
    option_map (λ kinds. fold (λ bits kind. bit_or bits (only_dep kind)) l.kinds kinds) (each_read dep_named (map (λ w. w.now) (drop l.word-index l.words))) ≡ option_map deps_of (each_read dep_named (map (λ w. w.now) l.words))
