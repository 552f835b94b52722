use Rattle.std.specs.Prelude.{◌≡◌, ◌<◌, ◌+◌, Some, Result, IsOk, OnOk, is_some}
use Rattle.std.proofs.Common.{subst, ap, sym, ◌∙◌, arith, Ok, Err}
use Rattle.std.specs.Option.{unwrap_or}
use Rattle.std.specs.HashMap as hash
use Rattle.acta_sets.specs.inside.Filing.{mapped}
use Rattle.acta_sets.specs.contracts.mode.ModeKeyPartialEq.TheImpl.{eq-value}
use Rattle.acta_sets.proofs.Keys.{counted, mapped-more}
use Rattle.acta_sets.proofs.counts.add_under.Goals as goal

at_ok : {T E : Type 0} (P : Type 0) (r : Result T E) → IsOk r → OnOk r P → P
at_ok P (Ok x) is p = p
at_ok P (Err e) is p = cc

pub overflow_add-place : goal.overflow_add-place
overflow_add-place g c =
    let at : c.in-Some.place.now ≡ mapped c.args.numbers.now c.args.mode_key = ap (λ o. unwrap_or o 0) c.in-Some.ensures.value ∙ counted c.args.numbers.now c.args.mode_key in
    omega (arith, at, c.requires.small)

pub returns-in-Some-clause-counted : goal.returns-in-Some-clause-counted
returns-in-Some-clause-counted g c =
    let m = c.args.numbers.now in
    let k = c.args.mode_key in
    let v = c.in-Some.place.now + c.args.number in
    let at : c.in-Some.place.now ≡ mapped m k = ap (λ o. unwrap_or o 0) c.in-Some.ensures.value ∙ counted m k in
    let after = c.get_mut.follows.lender v in
    let put = (c.get_mut.follows.holds v).3 (ap is_some (sym c.in-Some.ensures.value)) in
    mapped-more m after k c.args.number (subst (λ n. hash.Updates (eq-value).it m after k (Some n)) (ap (λ n. n + c.args.number) at) put)

pub returns-clause-counted : goal.returns-clause-counted
returns-clause-counted g c =
    let m = c.args.numbers.now in
    let k = c.args.mode_key in
    let before = c.get_mut.follows.lender-at-none in
    let same = c.get_mut.follows.holds-at-none in
    let after = c.insert-room_was_there.new.self in
    let none = ap (λ o. unwrap_or o 0) c.in_default.ensures.value ∙ counted m k in
    let sum : c.args.number ≡ mapped m k + c.args.number = omega (arith, none) in
    let room : 0 < hash.spare before = subst (λ n. 0 < hash.spare n) (sym same) c.requires.room in
    let put = at_ok (hash.Updates (eq-value).it before after k (Some c.args.number)) c.insert-room_was_there.result (c.insert-room_was_there.ensures.succeeds room) c.insert-room_was_there.ensures.updates in
    mapped-more m after k c.args.number (subst (λ n. hash.Updates (eq-value).it n after k (Some (mapped m k + c.args.number))) same (subst (λ n. hash.Updates (eq-value).it before after k (Some n)) sum put))
