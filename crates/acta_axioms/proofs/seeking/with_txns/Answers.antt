use Rattle.std.proofs.Common.{◌≡◌, ℕ, ◌<◌, ◌||◌, ◌==◌, Bool, true, false, List, length, take, get_or, refl, sym, ap, ◌∙◌, arith}
use Rattle.std.specs.List.{list_any}
use Rattle.acta_table.specs.declared.event.TxnId.{TxnId}
use Rattle.acta_table.proofs.AscendingSets.{any-inserted}
use Rattle.acta_axioms.proofs.Taken.{any-taken}
use Rattle.acta_axioms.proofs.seeking.with_txns.Goals as goal

swapped : (a b c : Bool) → (a || (b || c)) ≡ (b || (c || a))
swapped true true c = refl
swapped true false true = refl
swapped true false false = refl
swapped false true c = refl
swapped false false true = refl
swapped false false false = refl

pub loop-t-preserved : goal.loop-t-preserved
loop-t-preserved g c =
    λ u.
    let ts = c.args.txns.now in
    let i = c.loop-t.t-index in
    let none : TxnId = record { 0 = 0 } in
    let within : i < length ts = omega arith in
    ap (λ (ks : List ℕ). list_any (λ k. k == u) ks) c.in_ok-insert.ensures.keys
    ∙ any-inserted (λ k. k == u) c.loop-t.all.keys (get_or ts i none).0
    ∙ ap (λ b. ((get_or ts i none).0 == u) || b) (c.loop-t.invariant u)
    ∙ swapped ((get_or ts i none).0 == u) (list_any (λ k. k == u) c.args.numbers.keys) (list_any (λ (t : TxnId). t.0 == u) (take i ts))
    ∙ sym (ap (λ b. list_any (λ k. k == u) c.args.numbers.keys || b) (any-taken (λ (t : TxnId). t.0 == u) ts i none within))
