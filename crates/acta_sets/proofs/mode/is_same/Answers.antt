use Rattle.std.specs.Prelude.{Some}
use Rattle.std.proofs.Common.{ap, sym, ◌∙◌}
use Rattle.acta_sets.proofs.Keys.{modes_are}
use Rattle.acta_sets.proofs.mode.is_same.Goals as goal

pub returns-in-Some-Some : goal.returns-in-Some-Some
returns-in-Some-Some c = λ same.
    c.in-Some-Some.is-0 ∙ ap (λ m. Some m) (modes_are c.in-Some-Some.a c.in-Some-Some.b (sym c.eq.ensures ∙ same)) ∙ sym c.in-Some-Some.is-1
