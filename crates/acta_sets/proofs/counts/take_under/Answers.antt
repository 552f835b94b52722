use Rattle.std.specs.Prelude.{ℕ, Bool, ◌≡◌, ◌+◌, ◌-◌, ◌*◌, ◌≤◌, Some, None, is_some}
use Rattle.std.proofs.Common.{subst, ap, sym, ◌∙◌, arith}
use Rattle.std.specs.Option.{unwrap_or}
use Rattle.std.specs.HashMap as hash
use Rattle.acta_sets.specs.inside.Filing.{mapped, one}
use Rattle.acta_sets.specs.inside.Modes.{same_key}
use Rattle.acta_sets.specs.contracts.mode.ModeKeyPartialEq.TheImpl.{eq-value}
use Rattle.acta_sets.proofs.Keys.{counted, mapped-more, mapped-less}
use Rattle.acta_sets.proofs.counts.take_under.Goals.{After-remove, in-Some+else-place-number, in_default}
use Rattle.acta_sets.proofs.counts.take_under.Given.{Over}
use Rattle.acta_sets.specs.declared.mode.ModeKey.{ModeKey}
use Rattle.acta_sets.proofs.counts.take_under.Goals as goal

pub returns-then-place-number-clause-counted : goal.returns-then-place-number-clause-counted
returns-then-place-number-clause-counted g c =
    let m = c.args.numbers.now in
    let k = c.args.mode_key in
    let v = c.in-Some.place.now - c.args.number in
    let at : c.in-Some.place.now ≡ mapped m k = ap (λ o. unwrap_or o 0) c.in-Some.ensures.value ∙ counted m k in
    let less : v ≡ mapped m k - c.args.number = ap (λ n. n - c.args.number) at in
    mapped-less m (c.get_mut.follows.lender v) k c.args.number (Some v) less ((c.get_mut.follows.holds v).3 (ap is_some (sym c.in-Some.ensures.value)))

-- the map before the key is removed: no number has changed, and that of the key is not above the number taken
abbrev IsReady : (S : Type 0) → hash.HashMap ModeKey ℕ S → hash.HashMap ModeKey ℕ S → ModeKey → ℕ → Type 0
IsReady S m before k number = ((q : ModeKey) → mapped before q ≡ mapped m q) × (mapped m k ≤ number)

same_number : (b : Bool) (x y : ℕ) → x ≡ y + 0 * one b → x ≡ y
same_number b x y e = omega (arith, e)

is_ready : (g : Over) (c : After-remove g) → IsReady _ c.args.numbers.now c.match-get_mut.numbers c.args.mode_key c.args.number
is_ready g c =
    let m = c.args.numbers.now in
    let k = c.args.mode_key in
    elim c.match-get_mut.branch [
      | in-Some+else-place-number w ↦
          let v = w.in-Some.place.now in
          let at : v ≡ mapped m k = ap (λ o. unwrap_or o 0) w.in-Some.ensures.value ∙ counted m k in
          let sum : v ≡ mapped m k + 0 = omega (arith, at) in
          let put = (c.get_mut.follows.holds v).3 (ap is_some (sym w.in-Some.ensures.value)) in
          let more = mapped-more m (c.get_mut.follows.lender v) k 0 (subst (λ n. hash.Updates (eq-value).it m (c.get_mut.follows.lender v) k (Some n)) sum put) in
          (λ q. ap (λ n. mapped n q) w.numbers-is ∙ same_number (same_key k q) (mapped (c.get_mut.follows.lender v) q) (mapped m q) (more q), omega (arith, at, w.if-place-number.false))
      | in_default w ↦
          let none = ap (λ o. unwrap_or o 0) w.in_default.ensures.value ∙ counted m k in
          (λ q. ap (λ n. mapped n q) (w.numbers-is ∙ c.get_mut.follows.holds-at-none), omega (arith, none))
    ]

pub returns-clause-counted : goal.returns-clause-counted
returns-clause-counted g c = λ q.
    let m = c.args.numbers.now in
    let k = c.args.mode_key in
    let before = c.match-get_mut.numbers in
    let ready = is_ready g c in
    let none : 0 ≡ mapped before k - c.args.number = omega (arith, ready.0 k, ready.1) in
    mapped-less before c.remove.new.self k c.args.number None none c.remove.ensures.updates q
    ∙ ap (λ n. n - c.args.number * one (same_key k q)) (ready.0 q)
