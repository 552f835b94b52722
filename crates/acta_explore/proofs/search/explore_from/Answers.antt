use Rattle.std.proofs.Common.{◌≡◌, ◌+◌, ◌-◌, ℕ, Option, Some, ◌∙◌, sym, subst, length, true≢false, arith}
use Rattle.std.specs.Prelude.{IfSome}
use Rattle.std.proofs.lemmas.List.{nil_from_length}
use Rattle.acta_explore.specs.Ends.{IsTooMany}
use Rattle.acta_explore.specs.Programs.{Programs}
use Rattle.acta_explore.specs.inside.Merging.{AreOutcomes, IsCutOff, points_of}
use Rattle.acta_explore.proofs.Expanding.{as-many, explored-start, explored-next, explored-all, explored-cut, explored-points, further, outcomes-kept, root-over}
use Rattle.acta_explore.proofs.search.explore_from.Goals as goal

if-some : {X : Type 0} (o : Option X) (x : X) (P : X → Type 0) → o ≡ Some x → IfSome o P → P x
if-some o x P e h = subst (λ (o : Option _). IfSome o P) e h

pub loop-alloc-init : goal.loop-alloc-init
loop-alloc-init g c = explored-start c.args.lines.now c.args.root.now c.args.most c.in_ok-level.level.entries c.new-ends.result.entries c.lemma_numbered.ensures c.in_ok-level.ensures.level c.new-ends.ensures.empty (omega arith)

pub overflow_sub-room : goal.overflow_sub-room
overflow_sub-room g c = c.loop-alloc.invariant.few

pub next_level-requires : goal.next_level-requires
next_level-requires g c = subst (λ (ps : Programs _). AreOutcomes ps c.loop-alloc.ends.entries) (sym c.in_ok-plan.ensures) c.loop-alloc.invariant.outcomes

pub loop-alloc-smaller : goal.loop-alloc-smaller
loop-alloc-smaller g c =
    further c.args.most c.loop-alloc.points c.len-in-loop-alloc.result (length c.in-Ok.next.entries) (length c.loop-alloc.level.entries) c.loop-alloc.invariant.few c.in-Ok.ensures.few c.len-in-loop-alloc.ensures.len
    (λ e. true≢false (sym (c.is_empty.ensures.1 e) ∙ c.loop-alloc-test.true))

pub loop-alloc-preserved : goal.loop-alloc-preserved
loop-alloc-preserved g c =
    explored-next c.args.lines.now c.args.root.now c.args.most c.loop-alloc.points c.len-in-loop-alloc.result c.in_ok-plan.plan c.loop-alloc.level.entries c.in-Ok.next.entries c.loop-alloc.ends.entries c.next_level.new.ends.entries c.in_ok-plan.ensures
    c.loop-alloc.invariant c.in-Ok.ensures.outcomes
    (as-many c.args.most c.loop-alloc.points c.len-in-loop-alloc.result (length c.in-Ok.next.entries) c.loop-alloc.invariant.few c.in-Ok.ensures.few c.len-in-loop-alloc.ensures.len) c.len-in-loop-alloc.ensures.len c.in-Ok.ensures.level

pub returns-clause-all : goal.returns-clause-all
returns-clause-all g c = explored-all c.args.lines.now c.args.root.now c.args.most c.loop-alloc.points c.loop-alloc.level.entries c.loop-alloc.ends.entries (nil_from_length c.loop-alloc.level.entries (c.is_empty.ensures.0 c.loop-alloc-test.false)) c.loop-alloc.invariant

pub returns-clause-outcomes : goal.returns-clause-outcomes
returns-clause-outcomes g c = outcomes-kept c.args.lines.now c.loop-alloc.ends.entries c.loop-alloc.invariant.outcomes

pub returns-clause-few : goal.returns-clause-few
returns-clause-few g c = c.loop-alloc.invariant.few

pub returns-clause-points : goal.returns-clause-points
returns-clause-points g c = explored-points c.args.lines.now c.args.root.now c.args.most c.loop-alloc.points c.loop-alloc.level.entries c.loop-alloc.ends.entries (nil_from_length c.loop-alloc.level.entries (c.is_empty.ensures.0 c.loop-alloc-test.false)) c.loop-alloc.invariant

pub returns-then-most-eq0-clause-too_many : goal.returns-then-most-eq0-clause-too_many
returns-then-most-eq0-clause-too_many g c = root-over c.args.lines.now c.args.root.now c.args.most c.if-most-eq0.true

pub returns-in-Err-Some-clause-too_many : goal.returns-in-Err-Some-clause-too_many
returns-in-Err-Some-clause-too_many g c =
    let points = c.loop-alloc.points in
    let more = c.next_level.new.ends.entries in
    let cut = if-some c.in-Err-Some.field-0 c.in-Err-Some.found (IsCutOff c.in_ok-plan.plan (points_of c.loop-alloc.level.entries) (points_of c.loop-alloc.ends.entries) (points_of more) (c.args.most - points)) c.in-Err-Some.field-0-is c.in-Err-Some.ensures.cut in
    subst (λ (count : ℕ). IsTooMany c.args.lines.now c.args.root.now c.args.most (points + count) c.len.result) (sym c.in-Err-Some.found-is)
    (explored-cut c.args.lines.now c.args.root.now c.args.most points c.in-Err-Some.found c.len.result c.in_ok-plan.plan c.loop-alloc.level.entries c.loop-alloc.ends.entries more c.in_ok-plan.ensures c.loop-alloc.invariant c.len.ensures.len cut)
