use Rattle.std.proofs.Common.{rules, ◌≡◌, ◌++◌, ◌∙◌, ap, sym, subst, List, true, w32}
use Rattle.std.specs.Prelude.{FitsSigned, ℤ}
use Rattle.std.proofs.lemmas.Int.{to_z-of_z}
use Rattle.acta_values.specs.LiveSets.{Marks, IsOrdered, is_on, elements_of}
use Rattle.acta_values.proofs.LiveSets.{members_more, elements_set}
use Rattle.acta_values.proofs.live_set.LiveSet.members.Goals as goal

pub loop-x-preserved-in_ok-insert : goal.loop-x-preserved-in_ok-insert
loop-x-preserved-in_ok-insert g c =
    let rest = c.in-Some.ensures.steps in
    let before = ap (λ (marks : Marks). c.loop-x.members ++ elements_of marks) (sym rest) ∙ c.loop-x.invariant in
    let set = elements_set c.args.self.now (subst (λ (marks : Marks). IsOrdered marks) c.self.view_is c.read_order.ensures.ordered) in
    let fits : FitsSigned w32 c.in-Some.x.now = search rules in
    let put = simp to_z-of_z at c.in_ok-insert.ensures.with in
    let on : is_on c.in-Some.trail.now ≡ true = sym c.last_or.ensures ∙ c.if-last_or.true in
    ap (λ (xs : List ℤ). xs ++ elements_of c.next.new.self) put
    ∙ members_more c.loop-x.members c.in-Some.x.now c.in-Some.trail.now c.next.new.self (elements_of c.args.self.now) set on before
