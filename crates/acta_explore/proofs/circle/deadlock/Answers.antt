use Rattle.std.proofs.Common.{◌≡◌, ◌≤◌, ◌-◌, ℕ, List, length, get_or, refl, subst}
use Rattle.acta_explore.specs.declared.circle.Link.{Link}
use Rattle.acta_explore.specs.inside.Circles.{IsChain}
use Rattle.acta_explore.proofs.Circling.{closed-circle}
use Rattle.acta_explore.proofs.circle.deadlock.Goals as goal

pub returns-then-is_chain-clause-circle : goal.returns-then-is_chain-clause-circle
returns-then-is_chain-clause-circle g c =
    let links = c.as_slice-then-is_closed.ensures.value in
    let chain = c.as_slice-then-is_closed-2.ensures.value in
    closed-circle c.args.plan.now c.args.point.now c.in_ok-links.links.items c.in_ok-chain.chain.items c.in_ok-links.ensures
    (subst (λ (ls : List Link). IsChain ls c.in_ok-chain.chain.items) links (subst (λ (ks : List ℕ). IsChain c.as_slice-then-is_closed.result.now ks) chain (c.if-is_chain.ensures refl)))
    (subst (λ (ks : List ℕ). 2 ≤ length ks) c.as_slice-2.ensures.value (c.if-is_closed.ensures.long refl))
    (subst (λ (ks : List ℕ). get_or ks (length ks - 1) 0 ≡ get_or ks 0 0) c.as_slice-2.ensures.value (c.if-is_closed.ensures.closed refl))
