use Rattle.std.proofs.Common.{List, ℕ, length, subst, sym, ap, ◌∙◌}
use Rattle.acta_compare.specs.declared.seen.Seen.{Seen}
use Rattle.acta_compare.specs.Differences.{Differs, compared}
use Rattle.acta_compare.specs.Selected.{Selects}
use Rattle.acta_compare.proofs.differences.Comparison.of.Goals as goal

pub returns-clause-lines : goal.returns-clause-lines
returns-clause-lines g c =
    c.len.ensures ∙ sym c.as_slice.ensures.len ∙ ap length (c.as_slice.ensures.value ∙ c.in_ok-numbers.ensures)

pub returns-clause-differences : goal.returns-clause-differences
returns-clause-differences g c =
    let found = c.in_ok-differences.differences.items in
    let numbers = c.as_slice.ensures.value ∙ c.in_ok-numbers.ensures in
    let one = c.as_slice-2.ensures.value ∙ c.in_ok-one.ensures.seen in
    let other = c.as_slice-3.ensures.value ∙ c.in_ok-other.ensures.seen in
    subst (λ (lines : List _). Selects Differs lines found) (λ k. compared (numbers k) (one k) (other k)) c.in_ok-differences.ensures

pub returns-clause-one : goal.returns-clause-one
returns-clause-one g c = c.in_ok-one.ensures.machine

pub returns-clause-other : goal.returns-clause-other
returns-clause-other g c = c.in_ok-other.ensures.machine
