-- The line of a kept item is that of its event, followed by the return.
use Rattle.std.proofs.Common.{◌≡◌, ◌<◌, ℕ, List, [], ◌∷◌, ◌++◌, length, codes, Option, Some, None, refl, sym, ap, ◌∙◌, arith}
use Rattle.std.specs.Option.{option_map_or}
use Rattle.std.proofs.lemmas.List.{append_assoc, append-nil}
use Rattle.acta_words.specs.Text.{line_of}
use Rattle.acta_table.specs.declared.event.Event.{Event}
use Rattle.acta_table.specs.declared.event.Event.TheVariants.{Begin, Spawn, Split, Join, Delegate, Form, Operate, Commit, Abort, Permit}
use Rattle.acta_table.specs.declared.event.Kept.{Kept}
use Rattle.acta_table.specs.declared.event.Ret.{Ret}
use Rattle.acta_table.specs.declared.model.Parts.{Parts}
use Rattle.acta_script.specs.Writing.{event_words, event_line, return_word, kept_line}

line_of-append : (ws : List (List ℕ)) (v : List ℕ) (vs : List (List ℕ)) → 0 < length ws → line_of (ws ++ v ∷ vs) ≡ line_of ws ++ 32 ∷ line_of (v ∷ vs)
line_of-append [] v vs some = absurd (omega arith)
line_of-append (w ∷ []) v vs some = refl
line_of-append (w ∷ x ∷ ws) v vs some =
    ap (λ (t : List ℕ). w ++ 32 ∷ t) (line_of-append (x ∷ ws) v vs (omega arith)) ∙ sym (append_assoc w (32 ∷ line_of (x ∷ ws)) (32 ∷ line_of (v ∷ vs)))

some_words : {A : Type 0} (m : Parts A) (e : Event A) → 0 < length (event_words m e)
some_words m (Begin t class) = omega arith
some_words m (Spawn t c class) = omega arith
some_words m (Split t u class ops) = omega arith
some_words m (Join t u) = omega arith
some_words m (Delegate t u ops) = omega arith
some_words m (Form kind j i) = omega arith
some_words m (Operate t ob op) = omega arith
some_words m (Commit t) = omega arith
some_words m (Abort t) = omega arith
some_words m (Permit t u ob) = omega arith

pub kept_line_plain : {A : Type 0} (m : Parts A) (kept : Kept A) → kept.ret ≡ None → kept_line m kept ≡ event_line m kept.event
unfolding kept_line event_line
kept_line_plain m kept none =
    ap (λ (ret : Option Ret). line_of (event_words m kept.event ++ option_map_or (λ r. codes "=" ∷ return_word r ∷ []) ret [])) none
    ∙ ap line_of (append-nil (event_words m kept.event))

pub kept_line_with : {A : Type 0} (m : Parts A) (kept : Kept A) (ret : Ret) → kept.ret ≡ Some ret → kept_line m kept ≡ (event_line m kept.event ++ 32 ∷ codes "=") ++ 32 ∷ return_word ret
unfolding kept_line event_line
kept_line_with m kept ret some =
    ap (λ (r : Option Ret). line_of (event_words m kept.event ++ option_map_or (λ r. codes "=" ∷ return_word r ∷ []) r [])) some
    ∙ line_of-append (event_words m kept.event) (codes "=") (return_word ret ∷ []) (some_words m kept.event)
    ∙ sym (append_assoc (line_of (event_words m kept.event)) (32 ∷ codes "=") (32 ∷ return_word ret))
