use Rattle.std.proofs.Common.{◌+◌, ◌∙◌, ap, sym, subst, List, [], Bool, false, Option}
use Rattle.std.specs.BTreeMap.{BTreeMap, is_at}
use Rattle.std.specs.Map.{lookup, set_value}
use Rattle.std.specs.Option.{unwrap_or}
use Rattle.std.specs.Ordering.{int_cmp}
use Rattle.std.proofs.lemmas.Map.Steps.{set_value_same}
use Rattle.std.specs.Prelude.{FitsSigned}
use Rattle.std.proofs.Common.{w32}
use Rattle.std.proofs.lemmas.Int.{to_z-of_z}
use Rattle.std.proofs.lemmas.Result.{err_from_is_err_and}
use Rattle.acta_values.specs.declared.trail.Numbered.{Numbered}
use Rattle.acta_values.specs.Trails.{AreBelow}
use Rattle.acta_values.specs.LiveSets.{Marks, is_on, one_if, count_on}
use Rattle.acta_values.proofs.Trails.{last_push}
use Rattle.acta_values.proofs.LiveSets.{counted_written, counted_put}
use Rattle.acta_values.proofs.live_set.put_mark.Goals as goal

pub push-requires : goal.push-requires
push-requires g c =
    let fits : FitsSigned w32 c.args.x = c.ranges.x in
    let found = simp to_z-of_z at c.in-Some.ensures.value in
    subst (λ (o : Option (List (Numbered Bool))). AreBelow c.args.number (unwrap_or o [])) (sym found) c.requires

pub returns-in_err-push-in-Some-clause-err : goal.returns-in_err-push-in-Some-clause-err
returns-in_err-push-in-Some-clause-err g c =
    let fits : FitsSigned w32 c.args.x = c.ranges.x in
    let found = simp to_z-of_z at c.in-Some.ensures.value in
    let marks = c.args.marks.now.entries in
    let test = is_at (int_cmp c.args.x) in
    let written = simp to_z-of_z at (c.get_mut.follows.holds c.push.new.self).0 in
    let same = written ∙ ap (set_value test marks) c.in_err-push-in-Some.ensures.err ∙ set_value_same test marks c.in-Some.trail.now (sym found) in
    rw ((err_from_is_err_and c.from_residual.result c.from_residual.ensures.1).1) same

pub returns-in_ok-push-in-Some-clause-was : goal.returns-in_ok-push-in-Some-clause-was
returns-in_ok-push-in-Some-clause-was g c =
    let fits : FitsSigned w32 c.args.x = c.ranges.x in
    let found = simp to_z-of_z at c.in-Some.ensures.value in
    c.last_or-was.ensures ∙ ap (λ (o : Option (List (Numbered Bool))). is_on (unwrap_or o [])) found

pub returns-in_ok-push-in-Some-clause-count : goal.returns-in_ok-push-in-Some-clause-count
returns-in_ok-push-in-Some-clause-count g c =
    let fits : FitsSigned w32 c.args.x = c.ranges.x in
    let found = simp to_z-of_z at c.in-Some.ensures.value in
    let marks = c.args.marks.now.entries in
    let test = is_at (int_cmp c.args.x) in
    let written = simp to_z-of_z at (c.get_mut.follows.holds c.push.new.self).0 in
    (λ i. count_on (written i) + one_if (c.last_or-was.ensures i))
    ∙ counted_written test marks c.in-Some.trail.now c.push.new.self (sym found)
    ∙ ap (λ b. count_on marks + one_if b) (ap is_on c.in_ok-push-in-Some.ensures.ok ∙ last_push false c.in-Some.trail.now _)

pub returns-in_ok-insert-in-None-clause-count : goal.returns-in_ok-insert-in-None-clause-count
returns-in_ok-insert-in-None-clause-count g c =
    let fits : FitsSigned w32 c.args.x = c.ranges.x in
    let none = simp to_z-of_z at c.in-None.ensures.value in
    let before = c.get_mut.follows.lender-at-none in
    let same = c.get_mut.follows.holds-at-none in
    let absent = ap (λ (m : BTreeMap _ _). lookup (is_at (int_cmp c.args.x)) m.entries) same ∙ sym none in
    let put = simp to_z-of_z at c.in_ok-insert-in-None.ensures.entries in
    ap (λ (marks : Marks). count_on marks + 0) put
    ∙ counted_put before.entries c.args.x c.push-in-None.new.self c.in_ok-insert-in-None.ensures.was_ordered absent
    ∙ (λ i. count_on (same i).entries + one_if ((ap is_on c.in_ok-push-in-None.ensures.ok ∙ last_push false c.new-trail.result _) i))
