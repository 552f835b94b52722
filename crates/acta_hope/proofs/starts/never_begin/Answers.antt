use Rattle.std.proofs.Common.{◌≡◌, ◌≤◌, ◌+◌, length, subst, refl, sym, ap, ◌∙◌}
use Rattle.std.specs.Prelude.{◌++◌, ◌-◌, drop, replicate, take, vec_len}
use Rattle.std.proofs.lemmas.List.{take_at}
use Rattle.std.proofs.lemmas.Option.{slice_get-get_or}
use Rattle.acta_table.specs.Numbered.{item_at}
use Rattle.acta_machine.specs.Table.{edges_in, status_in}
use Rattle.acta_hope.specs.Starts.{AreLost}
use Rattle.acta_hope.proofs.LastLost.{AreNoted, all-last, none-noted, one-noted}
use Rattle.acta_hope.proofs.NeverBegun.{edge-at, none-lost}
use Rattle.acta_hope.proofs.starts.never_begin.Goals as goal

pub loop-place-init : goal.loop-place-init
loop-place-init g c =
    let left = 16384 - vec_len c.new-lost.result in
    let is = c.in_ok-resize.ensures.items ∙ ap (λ xs. take 16384 xs ++ replicate left 0) c.new-lost.ensures.items in
    let all : left ≡ 16384 = ap (λ n. 16384 - n) c.new-lost.ensures.len in
    record {
      lost = none-lost c.args.machine.now c.resize.new.self.items left is;
      noted = none-noted 16384 (status_in c.args.machine.now) (edges_in c.args.machine.now) c.resize.new.self.items (is ∙ ap (λ n. replicate n 0) all);
    }

pub loop-place-preserved : goal.loop-place-preserved
loop-place-preserved g c =
    let place = c.loop-place.place in
    let status = status_in c.args.machine.now in
    let edges = edges_in c.args.machine.now in
    let now = c.note.new.lost in
    let before = c.loop-place.lost.items in
    let all : take c.loop-place.lost.len (now ++ drop (length now) before) ≡ now
    = take_at now (drop (length now) before) c.loop-place.lost.len (c.note.auto.lost ∙ c.deref_mut.ensures.len) in
    let at = ap (λ es. item_at es (place + 1)) (sym c.edges-edges.ensures.edges)
    ∙ edge-at c.edges-edges.result.now place (place + 1) _ refl (slice_get-get_or c.edges-edges.result.now place _ c.loop-place-test.true) in
    record {
      lost = subst (AreLost c.args.machine.now) (sym all) c.note.ensures.lost;
      noted = subst (AreNoted (place + 1) 16384 status edges) (sym all)
          (one-noted 16384 status edges place _ c.deref_mut.result.now now at c.note.ensures.noted c.note.ensures.same
          (subst (AreNoted place 16384 status edges) (sym c.deref_mut.ensures.value) c.loop-place.invariant.noted));
    }

pub returns-clause-named : goal.returns-clause-named
returns-clause-named g c = c.loop-place.invariant.noted.named

pub returns-clause-last : goal.returns-clause-last
returns-clause-last g c = all-last c.loop-place.place 16384 (status_in c.args.machine.now) (edges_in c.args.machine.now) c.loop-place.lost.items (subst (λ es. length es ≤ c.loop-place.place) c.edges-edges.ensures.edges c.loop-place-test.false) c.loop-place.invariant.noted

pub note-requires-clause-at : goal.note-requires-clause-at
note-requires-clause-at g c =
    ap (λ es. item_at es (c.loop-place.place + 1)) (sym c.edges-edges.ensures.edges)
    ∙ edge-at c.edges-edges.result.now c.loop-place.place (c.loop-place.place + 1) _ refl (slice_get-get_or c.edges-edges.result.now c.loop-place.place _ c.loop-place-test.true)
