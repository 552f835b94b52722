use Rattle.std.specs.Prelude.{◌≡◌, ◌<◌, ◌+◌, ◌&&◌, nat_lt, List, length, get_or}
use Rattle.std.proofs.Common.{rules, ap, sym, subst, ◌∙◌}
use Rattle.std.specs.List.Sorted.{IsStrictlySortedBy}
use Rattle.acta_table.specs.declared.event.TxnId.{TxnId}
use Rattle.acta_sets.specs.declared.permit.Permit.{Permit}
use Rattle.acta_sets.specs.Permits.{is_listed, permit_cmp}
use Rattle.acta_sets.specs.inside.Granted.{is_granted}
use Rattle.acta_sets.proofs.Grants.{grants_at-own}
use Rattle.acta_sets.proofs.PermitLists.{AreBelow, listed_none, listed_more, listed_all, sorted_none, sorted_more, below_more}
use Rattle.acta_sets.proofs.granted.permits.Goals as goal

pub loop-to-init : goal.loop-to-init
loop-to-init g c = record {
  listed = λ h t object.
      ap (λ permits. is_listed permits h t object) c.new-permits.ensures.items ∙ listed_none (is_granted c.args.table.now.items t object h) t;
  ascending = subst (IsStrictlySortedBy permit_cmp) (sym c.new-permits.ensures.items) sorted_none;
  below = subst (AreBelow 0) (sym c.new-permits.ensures.items) tt;
}

pub loop-to-preserved : goal.loop-to-preserved
loop-to-preserved g c =
    let table = c.args.table.now.items in
    let permits : List Permit = c.loop-to.permits.items in
    let to : TxnId = record { 0 = c.loop-to.to } in
    let grants = c.grants-item.result in
    let within : c.loop-to.to < length table = search rules in
    let is : grants ≡ get_or table c.loop-to.to grants = search rules in
    let put = c.in_ok-put_permits.ensures.put in
    record {
      listed = λ h t object.
          ap (λ permits. is_listed permits h t object) put
          ∙ listed_more table permits to grants.keys (grants_at-own table c.loop-to.to grants within is) c.loop-to.invariant.listed h t object;
      ascending = subst (IsStrictlySortedBy permit_cmp) (sym put) (sorted_more permits to grants.keys c.loop-to.invariant.below c.loop-to.invariant.ascending c.in_ok-put_permits.ensures.ascending);
      below = subst (AreBelow (c.loop-to.to + 1)) (sym put) (below_more permits to grants.keys c.loop-to.invariant.below);
    }

pub returns-clause-listed : goal.returns-clause-listed
returns-clause-listed g c =
    let table = c.args.table.now.items in
    let end : c.loop-to.to ≡ length table = search rules in
    listed_all table c.loop-to.permits.items
    (λ h t object. c.loop-to.invariant.listed h t object ∙ ap (λ n. nat_lt t n && is_granted table t object h) end)
