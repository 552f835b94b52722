use Rattle.std.proofs.Common.{◌<◌, ◌≤◌, ◌==◌, ◌&&◌, List, length, take, get_or, sym, ap, ◌∙◌}
use Rattle.std.specs.List.{list_any}
use Rattle.std.proofs.lemmas.List.{take_all}
use Rattle.acta_table.specs.declared.event.TxnId.{TxnId}
use Rattle.acta_axioms.specs.Permits.{is_permitted}
use Rattle.acta_axioms.specs.inside.Walking.{is_left}
use Rattle.acta_axioms.proofs.Permitting.{all-permitters}
use Rattle.acta_axioms.proofs.Taken.{any-taken, one-more, one-fewer}
use Rattle.acta_axioms.proofs.walk.Walk.permitters.Goals as goal
use Rattle.acta_axioms.proofs.walk.Walk.permitters.Goals.{then-is_permitted+in_ok-push, else-is_permitted}

pub loop-s-init : goal.loop-s-init
loop-s-init g c = λ u. ap (list_any (λ (s : TxnId). s.0 == u)) c.new-found.ensures.items

pub loop-s-preserved : goal.loop-s-preserved
loop-s-preserved g c =
    λ u.
    let ts = c.deref-s-items.result.now in
    let i = c.loop-s.s-index in
    let none : TxnId = record { 0 = 0 } in
    let within : i < length ts = c.loop-s-test.true in
    let named = λ (s : TxnId). s.0 == u in
    let counts = λ (s : TxnId). is_permitted c.args.self.now.front s.0 c.args.t.0 c.args.object.0 in
    elim c.if-is_permitted.branch [
      | then-is_permitted+in_ok-push w ↦
          ap (λ v. list_any named v.items) w.found-is ∙ ap (list_any named) w.in_ok-push.ensures.items
          ∙ one-more named counts c.loop-s.found.items (take i ts) (get_or ts i none) (sym c.is_permitted.ensures ∙ w.if-is_permitted.true) (c.loop-s.invariant u)
          ∙ sym (any-taken (λ s. named s && counts s) ts i none within)
      | else-is_permitted w ↦
          ap (λ v. list_any named v.items) w.found-is
          ∙ one-fewer named counts c.loop-s.found.items (take i ts) (get_or ts i none) (sym c.is_permitted.ensures ∙ w.if-is_permitted.false) (c.loop-s.invariant u)
          ∙ sym (any-taken (λ s. named s && counts s) ts i none within)
    ]

pub returns : goal.returns
returns g c =
    λ u.
    let ts = c.deref-s-items.result.now in
    let past : length ts ≤ c.loop-s.s-index = c.loop-s-test.false in
    let counts = λ (s : TxnId). (s.0 == u) && is_permitted c.args.self.now.front s.0 c.args.t.0 c.args.object.0 in
    c.loop-s.invariant u
    ∙ ap (list_any counts) (take_all c.loop-s.s-index ts past)
    ∙ all-permitters c.args.self.now.front u c.args.t.0 c.args.object.0 ts
    (ap (λ (ls : List TxnId). list_any (λ s. s.0 == u) ls) c.deref-s-items.ensures.value ∙ c.in_ok-left.ensures.named (record { 0 = u })
    ∙ c.self.invariant.permits_are u c.args.t.0 c.args.object.0
    ∙ ap (λ w. is_left w.front u c.args.t.0 c.args.object.0) c.self.view_is)
