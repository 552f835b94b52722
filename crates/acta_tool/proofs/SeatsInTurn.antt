-- One seat's script after another.
use Rattle.std.proofs.Common.{◌≡◌, ℕ, suc, ◌+◌, ◌-◌, ◌<◌, ◌≤◌, List, [], ◌∷◌, ◌++◌, map, sym, ap, ◌∙◌, append_assoc, append-nil, arith}
use Rattle.std.specs.List.{range_with_len}
use Rattle.acta_table.specs.declared.event.Event.{Event}
use Rattle.acta_script.specs.declared.seated.Seated.{Seated}
use Rattle.acta_tool.specs.Driving.{script_of}

-- the next seat's script, and those after it
pub turn : {A : Type 0} (parsed : List (Seated A)) (workers k : ℕ) (scripts all new : List (List (Event A))) → k < workers → new ≡ scripts ++ script_of parsed (k + 1) ∷ []
    → scripts ++ map (script_of parsed) (range_with_len (k + 1) (workers - k)) ≡ all → new ++ map (script_of parsed) (range_with_len (k + 1 + 1) (workers - (k + 1))) ≡ all
turn parsed workers k scripts all new below is h =
    let left = map (script_of parsed) (range_with_len (k + 1 + 1) (workers - (k + 1))) in
    let one_more : workers - k ≡ suc (workers - (k + 1)) = omega (arith, below) in
    ap (λ t. t ++ left) is ∙ append_assoc scripts (script_of parsed (k + 1) ∷ []) left ∙ sym (ap (λ n. scripts ++ map (script_of parsed) (range_with_len (k + 1) n)) one_more) ∙ h

-- no seat is left
pub ends : {A : Type 0} (parsed : List (Seated A)) (workers k : ℕ) (scripts all : List (List (Event A))) → workers ≤ k → scripts ++ map (script_of parsed) (range_with_len (k + 1) (workers - k)) ≡ all → scripts ≡ all
ends parsed workers k scripts all over h =
    let none : workers - k ≡ 0 = omega (arith, over) in
    sym (append-nil scripts) ∙ sym (ap (λ n. scripts ++ map (script_of parsed) (range_with_len (k + 1) n)) none) ∙ h
