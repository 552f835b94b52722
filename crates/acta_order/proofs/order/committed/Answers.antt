use Rattle.std.proofs.Common.{◌<◌, ◌++◌, ◌∷◌, [], ℕ, Some, length, take, refl, sym, ap, ◌∙◌, subst, arith}
use Rattle.std.proofs.lemmas.List.{length-take}
use Rattle.acta_order.specs.Commits.{AreCommits}
use Rattle.acta_order.specs.Paths.{Steps}
use Rattle.acta_order.proofs.Committing.{AreMarked, commits-first, commits-new, commits-again, commits-none, commits-at}
use Rattle.acta_order.proofs.order.committed.Goals.{in-Some+then-not-has+in_ok-push, in-Some+else-not-has, in_default}
use Rattle.acta_order.proofs.order.committed.Goals as goal

pub loop-k-init : goal.loop-k-init
loop-k-init g c = record {
  commits = commits-first c.in_ok-path.path.stack c.args.earlier.now.counts (ap (λ (p : Steps). p.stack) c.in_ok-path.ensures) c.requires.fresh;
  size = ap (λ (p : Steps). p.size) c.in_ok-path.ensures;
  orders = refl;
}

pub loop-k-preserved : goal.loop-k-preserved
loop-k-preserved g c =
    let size : Steps → ℕ = λ p. p.size in
    let h = take c.loop-k.k-index c.args.kept.now in
    let k = c.k-item.result in
    let stack = c.loop-k.path.stack in
    let before = c.loop-k.invariant.commits in
    let marked : AreMarked c.loop-k.earlier.counts c.note.new.self.counts k (length stack) = subst (λ n. AreMarked c.loop-k.earlier.counts c.note.new.self.counts k n) c.count.ensures c.note.ensures.each in
    let few : length h < 65536 = let e = length-take c.loop-k.k-index c.args.kept.now in omega (arith, e, c.loop-k-test.true, c.requires.few) in
    let orders = c.note.ensures.orders ∙ c.loop-k.invariant.orders in
    elim c.match-committed_by.branch [
      | in-Some+then-not-has+in_ok-push w ↦
          record {
            commits =
                commits-at c.args.kept.now c.loop-k.k-index k c.match-committed_by.path.stack c.note.new.self.counts c.loop-k-test.true c.k-item.is
                (subst (λ (p : Steps). AreCommits (take c.loop-k.k-index c.args.kept.now ++ k ∷ []) p.stack c.note.new.self.counts) (sym (w.path-is ∙ w.in_ok-push.ensures))
                (commits-new h k w.from-t.result stack c.loop-k.earlier.counts c.note.new.self.counts before c.note.ensures.long marked few (ap Some w.from-t.ensures ∙ w.in-Some.ensures)));
            size = ap size (w.path-is ∙ w.in_ok-push.ensures) ∙ c.loop-k.invariant.size;
            orders = orders;
          }
      | in-Some+else-not-has w ↦
          record {
            commits =
                commits-at c.args.kept.now c.loop-k.k-index k c.match-committed_by.path.stack c.note.new.self.counts c.loop-k-test.true c.k-item.is
                (subst (λ (p : Steps). AreCommits (take c.loop-k.k-index c.args.kept.now ++ k ∷ []) p.stack c.note.new.self.counts) (sym w.path-is)
                (commits-again h k w.from-t.result stack c.loop-k.earlier.counts c.note.new.self.counts before c.note.ensures.long marked few (ap Some w.from-t.ensures ∙ w.in-Some.ensures) (sym w.if-not-has.ensures)));
            size = ap size w.path-is ∙ c.loop-k.invariant.size;
            orders = orders;
          }
      | in_default w ↦
          record {
            commits =
                commits-at c.args.kept.now c.loop-k.k-index k c.match-committed_by.path.stack c.note.new.self.counts c.loop-k-test.true c.k-item.is
                (subst (λ (p : Steps). AreCommits (take c.loop-k.k-index c.args.kept.now ++ k ∷ []) p.stack c.note.new.self.counts) (sym w.path-is)
                (commits-none h k stack c.loop-k.earlier.counts c.note.new.self.counts before c.note.ensures.long marked few w.in_default.ensures));
            size = ap size w.path-is ∙ c.loop-k.invariant.size;
            orders = orders;
          }
    ]
