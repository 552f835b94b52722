-- The line of a trace, from its pieces.
use Rattle.std.proofs.Common.{◌≡◌, ℕ, ◌+◌, ◌<◌, List, [], ◌∷◌, ◌++◌, drop, get_or, length, flat_map, false, Option, is_some, codes, refl, sym, ap, ◌∙◌, append_assoc, append-nil, arith}
use Rattle.std.proofs.lemmas.Grind.{flat_map-append}
use Rattle.std.proofs.lemmas.List.{drop_more, get_or-drop, drop-drop}
use Rattle.acta_table.specs.declared.event.Event.{Event}
use Rattle.acta_table.specs.declared.model.Parts.{Parts}
use Rattle.acta_machine.specs.Table.{State, fresh, after, run_state}
use Rattle.acta_words.specs.Text.{line_of, text_of}
use Rattle.acta_io.specs.declared.input.BadLine.{BadLine}
use Rattle.acta_io.specs.Input.{Parsed}
use Rattle.acta_tool.specs.Output.{reported_last, trace_line, trace_lines, trace_on}
use Rattle.acta_tool.proofs.EntryLines.{next}
use Rattle.acta_io.proofs.ImageLines.{behind}

-- words, each after a space
abbrev pub spaced : List (List ℕ) → List ℕ
spaced words = flat_map (λ word. 32 ∷ word) words

-- the pieces, one after the other, and the end of the line
pub whole : (old number answer event : List ℕ) (ops edges : List (List ℕ)) (one two three four five six all : List ℕ) → one ≡ old ++ number → two ≡ one ++ 32 ∷ answer → three ≡ two ++ 32 ∷ codes ":"
    → four ≡ three ++ 32 ∷ event → five ≡ four ++ spaced ops → six ≡ five ++ spaced edges → all ≡ six ++ text_of ([] ∷ [])
    → all ≡ old ++ text_of (line_of (number ∷ answer ∷ codes ":" ∷ event ∷ (ops ++ edges)) ∷ [])
whole old number answer event ops edges one two three four five six all h1 h2 h3 h4 h5 h6 h7 =
    let end : List ℕ = 10 ∷ [] in
    let r4 : List ℕ = 32 ∷ (event ++ (spaced ops ++ (spaced edges ++ end))) in
    let r3 : List ℕ = 32 ∷ (codes ":" ++ r4) in
    let r2 : List ℕ = 32 ∷ (answer ++ r3) in
    let l4 : List ℕ = 32 ∷ (event ++ spaced (ops ++ edges)) in
    let l3 : List ℕ = 32 ∷ (codes ":" ++ l4) in
    let l2 : List ℕ = 32 ∷ (answer ++ l3) in
    let parts : spaced (ops ++ edges) ++ end ≡ spaced ops ++ (spaced edges ++ end) = ap (λ t. t ++ end) (flat_map-append (λ (word : List ℕ). 32 ∷ word) ops edges) ∙ append_assoc (spaced ops) (spaced edges) end in
    let e4 : l4 ++ end ≡ r4 = ap (λ t. 32 ∷ t) (append_assoc event (spaced (ops ++ edges)) end ∙ ap (λ t. event ++ t) parts) in
    let e3 : l3 ++ end ≡ r3 = ap (λ t. 32 ∷ (codes ":" ++ t)) e4 in
    let e2 : l2 ++ end ≡ r2 = ap (λ t. 32 ∷ t) (append_assoc answer l3 end ∙ ap (λ t. answer ++ t) e3) in
    let line : line_of (number ∷ answer ∷ codes ":" ∷ event ∷ (ops ++ edges)) ++ end ≡ number ++ r2 =
    ap (λ t. t ++ end) (behind number (answer ∷ codes ":" ∷ event ∷ (ops ++ edges))) ∙ append_assoc number l2 end ∙ ap (λ t. number ++ t) e2 in
    h7
    ∙ next six five (spaced edges) end h6
    ∙ next five four (spaced ops) (spaced edges ++ end) h5
    ∙ next four three (32 ∷ event) (spaced ops ++ (spaced edges ++ end)) h4
    ∙ next three two (32 ∷ codes ":") r4 h3
    ∙ next two one (32 ∷ answer) r3 h2
    ∙ next one old number r2 h1
    ∙ ap (λ t. old ++ t) (sym line ∙ sym (append-nil (line_of (number ∷ answer ∷ codes ":" ∷ event ∷ (ops ++ edges)) ++ end)))

-- the next event, and those after it
pub turn : {A : Type 0} (old text : List ℕ) (m m' : State A) (lines : List ℕ) (line k i : ℕ) (events : List (Event A)) (e : Event A) (all : List ℕ)
    → i < length events → e ≡ get_or events i e → line ≡ get_or lines k 0 → m' ≡ after m e → text ≡ old ++ text_of (trace_line m line e ∷ [])
    → old ++ text_of (trace_lines m (drop k lines) (drop i events)) ≡ all
    → text ++ text_of (trace_lines m' (drop (k + 1) lines) (drop (i + 1) events)) ≡ all
turn {A} old text m m' lines line k i events e all within is at moved reported before =
    let first : List ℕ = trace_line m line e ++ 10 ∷ [] in
    let rest : State A → List ℕ = λ s. text_of (trace_lines s (drop (k + 1) lines) (drop (i + 1) events)) in
    let split : drop i events ≡ e ∷ drop (i + 1) events = drop_more events i e within ∙ ap (λ x. x ∷ drop (i + 1) events) (sym is) in
    let next : get_or (drop k lines) 0 0 ≡ line = get_or-drop k lines 0 0 ∙ ap (λ n. get_or lines n 0) (omega arith) ∙ sym at in
    let behind : drop 1 (drop k lines) ≡ drop (k + 1) lines = drop-drop 1 k lines in
    ap (λ t. t ++ rest m') reported
    ∙ append_assoc old (text_of (trace_line m line e ∷ [])) (rest m')
    ∙ ap (λ t. old ++ (t ++ rest m')) (append-nil first)
    ∙ ap (λ s. old ++ (first ++ rest s)) moved
    ∙ (λ x. old ++ ((trace_line m (sym next x) e ++ 10 ∷ []) ++ text_of (trace_lines (after m e) (sym behind x) (drop (i + 1) events))))
    ∙ ap (λ es. old ++ text_of (trace_lines m (drop k lines) es)) (sym split)
    ∙ before

-- the lines of the events, and the last lines
pub traced : {A : Type 0} (m : Parts A) (lines numbers : List ℕ) (s : Parsed (Event A)) (events : List (Event A)) (stop : Option BadLine) (state : State A) (text all : List ℕ) → s ≡ record { parsed = events; stop = stop } → numbers ≡ lines
    → text ≡ text_of (trace_lines (fresh m) numbers events) → state ≡ run_state m events → all ≡ text ++ text_of (reported_last false state stop)
    → (record { is_refused = is_some stop; text = all }) ≡ trace_on m lines s
unfolding trace_on
traced m lines numbers s events stop state text all parsed counted tells stands whole =
    let texts : all ≡ text_of (trace_lines (fresh m) lines events ++ reported_last false (run_state m events) stop) =
    whole
    ∙ ap (λ t. t ++ text_of (reported_last false state stop)) (tells ∙ ap (λ ns. text_of (trace_lines (fresh m) ns events)) counted)
    ∙ ap (λ st. text_of (trace_lines (fresh m) lines events) ++ text_of (reported_last false st stop)) stands
    ∙ sym (flat_map-append _ (trace_lines (fresh m) lines events) (reported_last false (run_state m events) stop))
    in
    (λ i. record { is_refused = is_some stop; text = texts i }) ∙ sym (ap (trace_on m lines) parsed)
