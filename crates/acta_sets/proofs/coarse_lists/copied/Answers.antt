use Rattle.std.proofs.Common.{◌≡◌, []}
use Rattle.acta_sets.specs.declared.listing.ModeList.{ModeList}
use Rattle.acta_sets.specs.inside.Modes.{total_place}
use Rattle.acta_sets.proofs.Listed.{zip-read}
use Rattle.acta_sets.proofs.coarse_lists.copied.Goals as goal

pub returns-clause-numbers : goal.returns-clause-numbers
returns-clause-numbers g c = λ q.
    zip-read (λ (l : ModeList g.row.A.Denot). l.numbers.items) [] (λ v w. (w.numbers.items ≡ v.numbers.items) × (w.front ≡ v.front)) (λ v w e. e.0)
    c.args.lists.now.items c.in_ok-clone.field-0.items (total_place q) c.in_ok-clone.ensures.cases.0

pub returns-clause-fronts : goal.returns-clause-fronts
returns-clause-fronts g c = λ q.
    zip-read (λ (l : ModeList g.row.A.Denot). l.front) 0 (λ v w. (w.numbers.items ≡ v.numbers.items) × (w.front ≡ v.front)) (λ v w e. e.1)
    c.args.lists.now.items c.in_ok-clone.field-0.items (total_place q) c.in_ok-clone.ensures.cases.0
