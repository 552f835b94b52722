use Rattle.std.specs.Prelude.{◌≡◌, map, filter}
use Rattle.std.proofs.Common.{rules, ap, sym, subst, ◌∙◌}
use Rattle.std.specs.Map.Iter.{deref}
use Rattle.std.proofs.lemmas.Map.Iter.{iter_end}
use Rattle.std.specs.declared.ops.Bound.TheVariants.{Included}
use Rattle.std.specs.BTreeMap.Range.{range_contains}
use Rattle.acta_sets.specs.declared.grant.Grant.{Grant}
use Rattle.acta_sets.specs.Operations.{is_among}
use Rattle.std.specs.List.Sorted.{IsStrictlySortedBy}
use Rattle.acta_sets.specs.Permits.{grant_cmp, txn_cmp}
use Rattle.acta_sets.specs.inside.Granted.{partners_of}
use Rattle.acta_sets.proofs.Grants.{partners_on}
use Rattle.acta_sets.proofs.Partners.{partners_sorted}
use Rattle.acta_sets.proofs.granted.partners_among.Goals as goal

pub returns : goal.returns
returns g c =
    let keys = c.args.grants.now.keys in
    let all : map (deref {X = Grant}) c.loop-grant.yielded ≡ c.range-grant-items.result = search (rules, iter_end) in
    let found = c.range-grant-items.ensures.between (search rules) ∙ (λ i. filter (range_contains grant_cmp (Included (c.new.ensures.start i)) (Included (c.new.ensures.end i))) keys) in
    record {
      named = λ h. ap (λ ps. is_among ps h) (c.loop-grant.invariant ∙ ap partners_of (all ∙ found)) ∙ partners_on c.args.ob.0 h keys;
      ascending = subst (IsStrictlySortedBy txn_cmp) (sym (c.loop-grant.invariant ∙ ap partners_of all)) (partners_sorted c.args.ob.0 keys c.range-grant-items.result found c.range-grant-items.ensures.ordered);
    }
