use Rattle.std.proofs.Common.{◌≡◌, drop}
use Rattle.std.specs.Prelude.{Some}
use Rattle.acta_next.specs.Candidates.{lacking_of}
use Rattle.acta_next.specs.Next.{onto_list}
use Rattle.acta_next.proofs.lists.push_lacking_of.Given as goal

abbrev pub invariant-loop-kind : goal.invariant-loop-kind
invariant-loop-kind g l =
    onto_list (λ word. Some word) l.list.items (lacking_of l.machine l.t (drop l.kind-index l.kinds)) ≡ onto_list (λ word. Some word) l.initial.list.items (lacking_of l.machine l.t l.kinds)
