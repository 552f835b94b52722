use Rattle.std.proofs.Common.{◌≡◌, []}
use Rattle.acta_sets.specs.declared.listing.ModeList.{ModeList}
use Rattle.acta_sets.proofs.Listed.{read-clone}
use Rattle.acta_sets.proofs.listing.copied.Goals as goal

pub returns-clause-numbers : goal.returns-clause-numbers
returns-clause-numbers g c =
    read-clone (λ (l : ModeList g.row.A.Denot). l.numbers.items) [] _ (λ v w. (w.numbers.items ≡ v.numbers.items) × (w.front ≡ v.front)) (λ x y e. e) (λ v w e. e.0)
    c.args.lists.now c.in_ok-clone.field-0 c.in_ok-clone.ensures.cases

pub returns-clause-fronts : goal.returns-clause-fronts
returns-clause-fronts g c =
    read-clone (λ (l : ModeList g.row.A.Denot). l.front) 0 _ (λ v w. (w.numbers.items ≡ v.numbers.items) × (w.front ≡ v.front)) (λ x y e. e) (λ v w e. e.1)
    c.args.lists.now c.in_ok-clone.field-0 c.in_ok-clone.ensures.cases
