use Rattle.std.proofs.Common.{ap, map, string_bytes, inl, inr, sym, subst, ◌∙◌}
use Rattle.clap.specs.Words.{IsAmong, fault_of, kind_of, is_simple, is_simple_and_free, subcommand_of}
use Rattle.acta_tool.specs.CommandLines.{faults_of, named_by, named_in}
use Rattle.acta_tool.proofs.args.spelled_by.Goals as goal

-- the words were read as the program's are
pub returns-in-Ok-clause-ok : goal.returns-in-Ok-clause-ok
unfolding faults_of named_by
returns-in-Ok-clause-ok c =
    let words = map string_bytes c.args.words.now in
    let read = c.in-Ok.ensures.ok.2 (ap is_simple c.requires) in (
      sym (ap (λ app. fault_of app words) c.requires) ∙ c.in-Ok.ensures.kinds (ap is_simple_and_free c.requires),
      c.spelling.ensures ∙ ap named_in (read.1 ∙ ap (λ app. subcommand_of app words) c.requires),
    )

-- an error that isn't for lack of memory has one of the kinds of the words
pub returns : goal.returns
unfolding faults_of
returns c =
    let words = map string_bytes c.args.words.now in
    record {
      ok = tt;
      err = elim (c.in-Err.ensures.kinds (ap is_simple_and_free c.requires)) [
        | inl out ↦ absurd (c.in_default.not-OutOfMemory (c.kind.ensures ∙ out))
        | inr among ↦ inl (subst (λ app. IsAmong (kind_of c.in-Err.e) (fault_of app words)) c.requires among)
      ];
    }
