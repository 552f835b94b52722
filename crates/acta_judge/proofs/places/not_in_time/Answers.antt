use Rattle.std.proofs.Common.{◌≡◌, ℕ, Bool, true, false, [], ◌∷◌, ◌++◌, if◌then◌else◌, filter, refl, ap, sym, ◌∙◌}
use Rattle.std.specs.Prelude.{option_to_list, is_some}
use Rattle.acta_table.specs.Numbered.{smallest}
use Rattle.acta_axioms.specs.History.{end, has_begun, has_ended}
use Rattle.acta_axioms.specs.Faults.{when, not_in_time}
use Rattle.acta_judge.proofs.places.not_in_time.Goals as goal

-- of two numbers those that pass
both : (test : ℕ → Bool) (j i : ℕ) (of_j of_i : Bool) → of_j ≡ test j → of_i ≡ test i → ((if of_j then j ∷ [] else []) ++ (if of_i then i ∷ [] else [])) ≡ filter test (j ∷ i ∷ [])
both test j i of_j of_i at_j at_i = (λ x. (if at_j x then j ∷ [] else []) ++ (if at_i x then i ∷ [] else [])) ∙ of (test j) (test i)
  where
    of : (a b : Bool) → ((if a then j ∷ [] else []) ++ (if b then i ∷ [] else [])) ≡ (if a then j ∷ (if b then i ∷ [] else []) else (if b then i ∷ [] else []))
    of true true = refl
    of true false = refl
    of false true = refl
    of false false = refl

pub returns-else-is_begin_kind : goal.returns-else-is_begin_kind
returns-else-is_begin_kind g c =
    let before = c.args.walk.now.front in
    let j = c.in-Form.j.0 in
    let i = c.in-Form.i.0 in
    let of_j = c.has_ended.ensures ∙ ap (λ k. is_some (end k)) c.course-of_j.ensures in
    let of_i = c.has_ended-else-is_begin_kind.ensures ∙ ap (λ k. is_some (end k)) c.course-of_i.ensures in
    ap option_to_list (c.smallest_of.ensures ∙ ap smallest (both (has_ended before) j i c.has_ended.result c.has_ended-else-is_begin_kind.result of_j of_i))
    ∙ ap (λ b. if b then when (has_begun before j) j else option_to_list (smallest (filter (has_ended before) (j ∷ i ∷ [])))) (sym c.if-is_begin_kind.false ∙ c.is_begin_kind.ensures)
    ∙ ap (not_in_time before) (sym c.in-Form.is)
