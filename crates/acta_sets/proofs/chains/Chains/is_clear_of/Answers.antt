use Rattle.std.specs.Prelude.{◌≡◌, ℕ, List, take, true}
use Rattle.std.proofs.Common.{rules, refl, subst, sym}
use Rattle.std.proofs.lemmas.List.{take_rest}
use Rattle.acta_sets.specs.declared.chains.Mark.{Mark}
use Rattle.acta_sets.specs.declared.mode.Holder.TheVariants.{Anyone}
use Rattle.acta_sets.specs.declared.mode.ModeKey.{ModeKey}
use Rattle.acta_sets.specs.Chains.{is_passed, mark_at, ArePassed, IsMarked}
use Rattle.acta_sets.specs.inside.Listing.{passes_at}
use Rattle.acta_sets.specs.inside.Modes.{total_place}
use Rattle.acta_sets.proofs.Chaining.{all-from, all-parts}
use Rattle.acta_sets.proofs.chains.Chains.is_clear_of.Goals.{else-mark-gt0-via-then-mark-gt0+else-not-covers, else-mark-gt0-via-else-mark-gt0}
use Rattle.acta_sets.proofs.chains.Chains.is_clear_of.Goals as goal

pub returns : goal.returns
returns g c = λ is.
    let l = c.args.self.now.lineage in
    let items = c.args.table.now in
    let numbers = c.in_mode-numbers.result.now in
    let mark = c.mark-mark.result in
    let q : ModeKey = record { holder = Anyone; ob = c.args.ob; mode = c.args.mode } in
    let marked : IsMarked l items numbers mark =
    subst (λ (m : Mark). IsMarked l items numbers m) (sym c.mark-mark.ensures)
    (subst (λ (ns : List ℕ). IsMarked l items ns (mark_at c.args.self.now.marks (total_place q))) (sym c.in_mode-numbers.ensures) (c.requires q)) in
    let first : ArePassed l c.args.t items (take mark.upto numbers) = elim c.else-mark-gt0.branch [
      | else-mark-gt0-via-then-mark-gt0+else-not-covers w ↦
          let covered : w.covers.result ≡ true = search rules in
          all-from (passes_at (is_passed l mark.lowest) items) (passes_at (is_passed l c.args.t) items) (w.covers.ensures covered) (take mark.upto numbers) marked.1
      | else-mark-gt0-via-else-mark-gt0 w ↦
          let none : 0 ≡ mark.upto = search rules in
          subst (λ (k : ℕ). ArePassed l c.args.t items (take k numbers)) none refl
    ] in
    subst (λ (ns : List ℕ). ArePassed l c.args.t items ns) c.in_mode-numbers.ensures
    (all-parts (passes_at (is_passed l c.args.t) items) mark.upto numbers first
    (subst (ArePassed l c.args.t items) (take_rest numbers mark.upto) (c.are_passed.ensures is)))
