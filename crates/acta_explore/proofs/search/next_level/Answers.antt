use Rattle.std.proofs.Common.{◌≤◌, ℕ, ◌∙◌, sym, subst, refl, length}
use Rattle.acta_explore.specs.inside.Merging.{points_of}
use Rattle.acta_explore.proofs.Expanding.{at-ok, less-points, none-past, past-points, point-at, put-start, put-next, put-cut, put-all}
use Rattle.acta_explore.proofs.search.next_level.Goals as goal
use Rattle.acta_explore.proofs.search.next_level.Goals.{else-loop-index-test, then-loop-index-test+in_default}

pub loop-index-init : goal.loop-index-init
loop-index-init g c = put-start c.args.plan.now (points_of c.args.level.now.entries) (points_of c.args.ends.now.entries) c.args.room c.new-next.result.entries c.args.ends.now.entries c.new-next.ensures.empty c.requires refl

pub loop-index-preserved : goal.loop-index-preserved
loop-index-preserved g c =
    let ok = sym c.is_err.ensures.value ∙ c.if-is_err.false in
    put-next c.args.plan.now (points_of c.args.level.now.entries) (points_of c.args.ends.now.entries) c.args.room c.loop-index.index c.in-Some.point.now c.loop-index.next.entries c.settle.new.next.entries c.loop-index.ends.entries c.settle.new.ends.entries
    (less-points c.args.level.now.entries c.loop-index.index c.len-index-end.result c.len-index-end.ensures.len c.loop-index-test.true)
    (point-at c.args.level.now.entries c.loop-index.index c.in-Some.field-0-0.now c.in-Some.point.now c.in-Some.point.now (sym c.in-Some.ensures.entry))
    (at-ok c.settle.result ok c.settle.ensures.keyed) (at-ok c.settle.result ok c.settle.ensures.outcomes)
    (subst (λ (n : ℕ). n ≤ c.args.room) c.len-found.ensures.len c.if-found-room.false) (at-ok c.settle.result ok c.settle.ensures.merged) (at-ok c.settle.result ok c.settle.ensures.ended) c.loop-index.invariant

pub returns-then-found-room-clause-cut : goal.returns-then-found-room-clause-cut
returns-then-found-room-clause-cut g c =
    let ok = sym c.is_err.ensures.value ∙ c.if-is_err.false in
    put-cut c.args.plan.now (points_of c.args.level.now.entries) (points_of c.args.ends.now.entries) c.args.room c.loop-index.index c.len-found.result c.in-Some.point.now c.loop-index.next.entries c.settle.new.next.entries c.loop-index.ends.entries c.settle.new.ends.entries
    (less-points c.args.level.now.entries c.loop-index.index c.len-index-end.result c.len-index-end.ensures.len c.loop-index-test.true)
    (point-at c.args.level.now.entries c.loop-index.index c.in-Some.field-0-0.now c.in-Some.point.now c.in-Some.point.now (sym c.in-Some.ensures.entry))
    c.len-found.ensures.len c.if-found-room.true c.len-found.ensures.small (at-ok c.settle.result ok c.settle.ensures.merged) (at-ok c.settle.result ok c.settle.ensures.ended) c.loop-index.invariant

-- the loop is left at the end of the level
left : (g : _) (c : goal.Left-loop-index g) → length (points_of c.args.level.now.entries) ≤ c.loop-index.index
left g c = elim c.loop-index-test.branch [
  | else-loop-index-test w ↦ past-points c.args.level.now.entries c.loop-index.index c.len-index-end.result c.len-index-end.ensures.len w.loop-index-test.false
  | then-loop-index-test+in_default w ↦ past-points c.args.level.now.entries c.loop-index.index (length c.args.level.now.entries) refl (none-past w.get_index.result c.loop-index.index (length c.args.level.now.entries) w.in_default.is w.get_index.ensures.found.1)
]

pub returns-clause-level : goal.returns-clause-level
returns-clause-level g c = put-all c.args.plan.now (points_of c.args.level.now.entries) (points_of c.args.ends.now.entries) c.args.room c.loop-index.index c.loop-index.next.entries c.loop-index.ends.entries (left g c) c.loop-index.invariant
