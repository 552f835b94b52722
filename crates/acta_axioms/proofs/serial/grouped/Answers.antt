use Rattle.std.proofs.Common.{◌≡◌, ℕ, [], get_or, refl, sym, ap, ◌∙◌, subst, List}
use Rattle.acta_table.specs.declared.event.Kept.{Kept}
use Rattle.acta_axioms.specs.declared.serial.SerialItem.{SerialItem}
use Rattle.acta_axioms.proofs.Grouping.{AreGrouped, grouped-next, grouped-next-silent, grouped-next-idle}
use Rattle.acta_axioms.proofs.serial.grouped.Goals.{in-Operate, in-Some+in_ok-put, in_default-ret, in_default}
use Rattle.acta_axioms.proofs.serial.grouped.Goals as goal

same-grouped : {A : Type 0} {h : List (Kept A)} {n k : ℕ} {gs hs : List (List SerialItem)} → n ≡ k → gs ≡ hs → AreGrouped h n gs → AreGrouped h k hs
same-grouped {A} {h} {n} {k} {gs} {hs} e f grouped = subst (λ m. AreGrouped h m hs) e (subst (λ xs. AreGrouped h n xs) f grouped)

pub loop-k-init : goal.loop-k-init
loop-k-init g c =
    record { numbered = refl; so_far = λ t. ap (λ (gs : List (List SerialItem)). get_or gs t []) c.new-groups.ensures }

pub loop-k-preserved : goal.loop-k-preserved
loop-k-preserved g c =
    elim c.match-k.branch [
      | in-Operate w ↦
          elim w.match-k-2.branch [
            | in-Some+in_ok-put u ↦
                same-grouped (sym w.number-is) (sym (w.groups-is ∙ u.groups-is))
                (grouped-next c.args.kept.now c.loop-k.k-index c.k-item.result w.in-Operate.t w.in-Operate.ob w.in-Operate.op u.in-Some.ret c.loop-k.number c.loop-k.groups u.put.new.self c.loop-k-test.true c.k-item.is w.in-Operate.is u.in-Some.is c.loop-k.invariant u.in_ok-put.ensures.ok)
            | in_default-ret u ↦
                same-grouped (sym w.number-is) (sym (w.groups-is ∙ u.groups-is))
                (grouped-next-silent c.args.kept.now c.loop-k.k-index c.k-item.result w.in-Operate.t w.in-Operate.ob w.in-Operate.op c.loop-k.number c.loop-k.groups c.loop-k-test.true c.k-item.is w.in-Operate.is u.in_default-ret.is c.loop-k.invariant)
          ]
      | in_default w ↦
          same-grouped (sym w.number-is) (sym w.groups-is)
          (grouped-next-idle c.args.kept.now c.loop-k.k-index c.k-item.result c.loop-k.number c.loop-k.groups c.loop-k-test.true c.k-item.is w.in_default.not-Operate c.loop-k.invariant)
    ]
