use Rattle.std.proofs.Common.{◌≡◌, ◌++◌, ◌∷◌, [], ◌∙◌, ap, sym, subst, ℕ, List, map, take, get_or, arith}
use Rattle.std.proofs.lemmas.List.{append_assoc, map-append, take_more}
use Rattle.acta_session.specs.declared.help.Listed.{Listed}
use Rattle.acta_session.specs.Help.{IsListOf, listed_line}
use Rattle.acta_session.proofs.Lists.{one_more}
use Rattle.acta_session.proofs.help.push_all.Goals as goal

pub loop-listed-preserved : goal.loop-listed-preserved
loop-listed-preserved g c =
    let i = c.loop-listed.listed-index in
    let old = c.loop-listed.invariant in
    let new = c.in_ok-push_listed.ensures in
    let form = λ (listed : Listed). listed.form.now in
    let item : Listed = get_or c.args.all.now i (record { form = record { ref_ptr = (0, 0); now = [] }; words = record { ref_ptr = (0, 0); now = [] } }) in
    let line = listed_line (form item) new.0 in
    let more = ap (map form) (take_more c.args.all.now i (record { form = record { ref_ptr = (0, 0); now = [] }; words = record { ref_ptr = (0, 0); now = [] } }) (omega (arith, c.loop-listed-test.true))) ∙ map-append form (take i c.args.all.now) (item ∷ []) in (
      old.0 ++ line,
      new.1 ∙ ap (λ (xs : List ℕ). xs ++ line) old.1 ∙ append_assoc c.args.text.now.items old.0 line,
      subst (λ (forms : List (List ℕ)). IsListOf forms (old.0 ++ line)) (sym more) (one_more (map form (take i c.args.all.now)) old.0 (form item) new.0 old.2),
    )
