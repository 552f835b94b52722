use Rattle.std.proofs.Common.{ap, ◌∙◌}
use Rattle.acta_trace.specs.Steps.{begins, does, ends, forms, is_number}
use Rattle.acta_trace.specs.inside.Firsts.{forgotten}
use Rattle.acta_trace.proofs.Noting.{firsts-forgotten}
use Rattle.acta_trace.proofs.index.Index.forget.Goals as goal

pub returns : goal.returns
returns g c = λ steps at indexed.
    let step = c.args.step.now in
    let old = c.args.self.now in
    let place = c.args.place in
    record {
      begins = firsts-forgotten begins steps step old.begun.places.items _ place at indexed.begins
          (λ n. c.forget.ensures.forgotten n ∙ ap (λ o. forgotten (is_number o) old.begun.places.items place n) (c.number_of.ensures ∙ c.began.ensures));
      ends = firsts-forgotten ends steps step old.ended.places.items _ place at indexed.ends
          (λ n. c.forget-2.ensures.forgotten n ∙ ap (λ o. forgotten (is_number o) old.ended.places.items place n) (c.number_of-2.ensures ∙ c.ended.ensures));
      does = firsts-forgotten does steps step old.operations.places.items _ place at indexed.does
          (λ n. c.forget-3.ensures.forgotten n ∙ ap (λ o. forgotten (is_number o) old.operations.places.items place n) c.number_of_op.ensures);
      forms = firsts-forgotten forms steps step old.edges.places.items _ place at indexed.forms c.forget_all.ensures.forgotten;
    }
