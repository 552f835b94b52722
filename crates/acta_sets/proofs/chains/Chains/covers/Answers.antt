use Rattle.std.specs.Prelude.{◌≡◌, ℕ, suc, Some, None, length}
use Rattle.std.proofs.Common.{ap, sym, subst, ◌∙◌}
use Rattle.std.proofs.lemmas.Bool.Decides.{Decides-eqb}
use Rattle.acta_table.specs.Numbered.{numbers_where}
use Rattle.acta_sets.specs.Chains.{Chained}
use Rattle.acta_sets.specs.Lineages.{parent_in, depth_in}
use Rattle.acta_sets.specs.Operations.{is_held}
use Rattle.acta_sets.proofs.Chaining.{passes-up, passes-top}
use Rattle.acta_sets.proofs.chains.Chains.covers.Goals as goal

pub returns-in_default-parent : goal.returns-in_default-parent
returns-in_default-parent g c = λ _ n e.
    let none : length (numbers_where (is_held c.loop-low.low) c.args.table.now) ≡ 0 =
    ap (length {A = ℕ}) (sym c.held.ensures) ∙ (Decides-eqb (length c.held.result.now) 0).0 (sym c.is_empty.ensures ∙ c.if-not-is_empty.false) in
    let parent : parent_in c.args.self.now.lineage c.loop-low.low ≡ None =
    sym (ap (λ (x : Chained). parent_in x.lineage c.loop-low.low) c.self.view_is) ∙ sym c.parent.ensures.parent ∙ c.in_default-parent.is in
    passes-top c.args.self.now.lineage c.loop-low.low c.args.t c.args.table.now parent none n (c.loop-low.invariant.low n e)

pub loop-low-preserved : goal.loop-low-preserved
loop-low-preserved g c =
    let p = c.in-Some-parent.parent in
    let none : length (numbers_where (is_held c.loop-low.low) c.args.table.now) ≡ 0 =
    ap (length {A = ℕ}) (sym c.held.ensures) ∙ (Decides-eqb (length c.held.result.now) 0).0 (sym c.is_empty.ensures ∙ c.if-not-is_empty.false) in
    let parent : parent_in c.args.self.now.lineage c.loop-low.low ≡ Some p =
    sym (ap (λ (x : Chained). parent_in x.lineage c.loop-low.low) c.self.view_is) ∙ sym c.parent.ensures.parent ∙ c.in-Some-parent.is in
    let deep : depth_in c.args.self.now.lineage c.loop-low.low ≡ suc (depth_in c.args.self.now.lineage p.0) =
    subst (λ (x : Chained). depth_in x.lineage c.loop-low.low ≡ suc (depth_in x.lineage p.0)) c.self.view_is c.in-Some-parent.ensures.deeper in
    record {
      low = λ n e. passes-up c.args.self.now.lineage c.loop-low.low p c.args.table.now parent deep none n (c.loop-low.invariant.low n e);
      at = c.loop-low.invariant.at;
    }
