-- The steps that did the lines of a history.
use Rattle.std.proofs.Common.{◌≡◌, ℕ, ◌+◌, ◌<◌, List, [], ◌∷◌, ◌++◌, map, length, get_or, drop, take, Option, refl, sym, ap, ◌∙◌, arith}
use Rattle.std.specs.List.{AllByRecursion}
use Rattle.std.proofs.lemmas.Bool.{ne_eqb}
use Rattle.std.proofs.lemmas.List.{append_assoc, drop_more, map-append, take_more}
use Rattle.acta_table.specs.declared.event.Kept.{Kept}
use Rattle.acta_table.specs.declared.event.Ret.{Ret}
use Rattle.acta_script.specs.declared.programs.ProgramLine.{ProgramLine}
use Rattle.acta_explore.specs.declared.point.Step.{Step}
use Rattle.acta_explore.specs.Histories.{history_line, history_step, history_steps}
use Rattle.acta_explore.specs.inside.Numbered.{Differ, HaveOwnLines, ReturnAsKept}

later-lines : {A : Type 0} (l n : ℕ) (kept : List (Kept A)) → l < n → AllByRecursion (Differ l) (map (λ s. s.line) (history_steps n kept))
later-lines l n [] less = tt
later-lines l n (k ∷ kept) less = (ne_eqb l n (λ e. omega arith), later-lines l (n + 1) kept (omega arith))

-- each does a line of its own
pub own-lines : {A : Type 0} (n : ℕ) (kept : List (Kept A)) → HaveOwnLines (history_steps n kept)
own-lines n [] = tt
own-lines n (k ∷ kept) = (later-lines n (n + 1) kept (omega arith), own-lines (n + 1) kept)

-- each returns what its event does
pub same-returns : {A : Type 0} (n : ℕ) (kept : List (Kept A)) → ReturnAsKept (history_steps n kept) kept
same-returns n [] = refl
same-returns n (k ∷ kept) = ap (λ (rs : List (Option Ret)). k.ret ∷ rs) (same-returns (n + 1) kept)

-- one step more, of the kept event that comes next
pub steps-more : {A : Type 0} (done : List Step) (kept : List (Kept A)) (n : ℕ) (d : Kept A) → n < length kept → done ++ history_steps n (drop n kept) ≡ (done ++ history_step n (get_or kept n d) ∷ []) ++ history_steps (n + 1) (drop (n + 1) kept)
steps-more done kept n d less =
    ap (λ (ks : List (Kept _)). done ++ history_steps n ks) (drop_more kept n d less)
    ∙ sym (append_assoc done (history_step n (get_or kept n d) ∷ []) (history_steps (n + 1) (drop (n + 1) kept)))

-- one line more
pub lines-more : {A : Type 0} (lines : List (ProgramLine A)) (line : ProgramLine A) (kept : List (Kept A)) (n : ℕ) (d : Kept A) → n < length kept → lines ≡ map history_line (take n kept) → line ≡ history_line (get_or kept n d) → lines ++ line ∷ [] ≡ map history_line (take (n + 1) kept)
lines-more lines line kept n d less so is =
    (λ i. so i ++ is i ∷ []) ∙ sym (ap (map history_line) (take_more kept n d less) ∙ map-append history_line (take n kept) (get_or kept n d ∷ []))
