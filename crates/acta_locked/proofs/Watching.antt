-- Fronts stay fronts as the history grows.
use Rattle.std.proofs.Common.{◌≡◌, ℕ, ◌≤◌, List, [], ◌∷◌, ◌++◌, length, ap, sym, ◌∙◌, arith, subst, length-append}
use Rattle.std.proofs.lemmas.List.{take-append-le}
use Rattle.std.proofs.Math.Seq.{take-length}
use Rattle.acta_table.specs.declared.event.Kept.{Kept}
use Rattle.acta_table.specs.declared.model.Parts.{Parts}
use Rattle.acta_judge.specs.declared.verdict.Verdict.{Verdict}
use Rattle.acta_judge.specs.Verdicts.{verdict}
use Rattle.acta_locked.specs.declared.watch.Front.{Front}
use Rattle.acta_locked.specs.Fronts.{IsFront, EachIsFront, NoneShorter, NeverFall, AreFronts}

-- the front of all items
abbrev pub front_of : {A : Type 0} → Parts A → List (Kept A) → Front A
front_of m h = record { length = length h; verdict = verdict m h }

each-later : {A : Type 0} (m : Parts A) (h more : List (Kept A)) (fs : List (Front A)) → EachIsFront m h fs → EachIsFront m (h ++ more) fs
each-later m h more [] each = tt
each-later m h more (f ∷ fs) each =
    let within : f.length ≤ length h = each.0.within in
    let long = length-append h more in (
      record {
        within = omega (arith, within, long);
        judged = each.0.judged ∙ ap (verdict m) (sym (take-append-le f.length h more within));
        faultless = each.0.faultless;
      },
      each-later m h more fs each.1,
    )

-- a later copy begins with the earlier one
pub fronts-later : {A : Type 0} (m : Parts A) (h whole more : List (Kept A)) (fs : List (Front A)) → AreFronts m h fs → whole ≡ h ++ more → AreFronts m whole fs
fronts-later m h whole more fs are is =
    subst (λ g. AreFronts m g fs) (sym is) (record { each = each-later m h more fs are.each; rising = are.rising })

each-more : {A : Type 0} (m : Parts A) (h : List (Kept A)) (fs : List (Front A)) (g : Front A) → EachIsFront m h fs → IsFront m h g → EachIsFront m h (fs ++ g ∷ [])
each-more m h [] g each is = (is, tt)
each-more m h (f ∷ fs) g each is = (each.0, each-more m h fs g each.1 is)

shorter-more : {A : Type 0} (n : ℕ) (fs : List (Front A)) (g : Front A) → NoneShorter n fs → n ≤ g.length → NoneShorter n (fs ++ g ∷ [])
shorter-more n [] g none low = (low, tt)
shorter-more n (f ∷ fs) g none low = (none.0, shorter-more n fs g none.1 low)

rising-more : {A : Type 0} (m : Parts A) (h : List (Kept A)) (fs : List (Front A)) (g : Front A) → EachIsFront m h fs → NeverFall fs → length h ≤ g.length → NeverFall (fs ++ g ∷ [])
rising-more m h [] g each rising long = (tt, tt)
rising-more m h (f ∷ fs) g each rising long =
    let within : f.length ≤ length h = each.0.within in
    (shorter-more f.length fs g rising.0 (omega (arith, within, long)), rising-more m h fs g each.1 rising.1 long)

fronts-more : {A : Type 0} (m : Parts A) (h more : List (Kept A)) (fs : List (Front A)) → AreFronts m h fs → (verdict m (h ++ more)).faults ≡ [] → AreFronts m (h ++ more) (fs ++ front_of m (h ++ more) ∷ [])
fronts-more m h more fs are clean =
    let now = h ++ more in
    let each = each-later m h more fs are.each in
    let whole : IsFront m now (front_of m now) = record { within = omega arith; judged = ap (verdict m) (sym (take-length now)); faultless = clean } in
    let long = length-append h more in
    record {
      each = each-more m now fs (front_of m now) each whole;
      rising = rising-more m h fs (front_of m now) are.each are.rising (omega (arith, long));
    }

-- one more front, of a copy that begins with the earlier one
pub fronts-add : {A : Type 0} (m : Parts A) (h copy more : List (Kept A)) (fs fs' : List (Front A)) (n : ℕ) (v : Verdict A) → AreFronts m h fs → copy ≡ h ++ more → v ≡ verdict m copy → v.faults ≡ []
    → n ≡ length copy → fs' ≡ fs ++ record { length = n; verdict = v } ∷ [] → AreFronts m copy fs'
fronts-add {A} m h copy more fs fs' n v are is judged clean counted grown =
    let same : fs' ≡ fs ++ front_of m copy ∷ [] = grown ∙ (λ i. fs ++ (let f : Front A = record { length = counted i; verdict = judged i } in f) ∷ []) in
    subst (λ gs. AreFronts m copy gs) (sym same) (subst (λ g. AreFronts m g (fs ++ front_of m g ∷ [])) (sym is) (fronts-more m h more fs are (ap (λ g. (verdict m g).faults) (sym is) ∙ ap (λ (u : Verdict A). u.faults) (sym judged) ∙ clean)))
