-- Remarks: words beside a line of a reply, and lines of words below it, each after a bar.
use Rattle.std.specs.Prelude.{◌≡◌, ℕ, not, List, [], ◌∷◌, ◌++◌, codes, filter, map}
use Rattle.acta_words.specs.Text.{is_line_feed, lines_left, text_of}

-- the bytes without their line feeds
abbrev pub one_line : List ℕ → List ℕ
one_line bytes = filter (λ b. not (is_line_feed b)) bytes

-- the part beside a line: words after a gap, or nothing
abbrev pub beside : List ℕ → List ℕ → List ℕ
beside gap [] = []
beside gap (b ∷ bs) = gap ++ one_line (b ∷ bs)

-- a line of words, after a bar
abbrev pub bar_line : List ℕ → List ℕ
bar_line line = codes "  | " ++ line

-- the part below a line: the lines of some words, each after a bar
abbrev pub bars_text : List ℕ → List ℕ
bars_text below = text_of (map bar_line (lines_left below))

-- a line with words beside it and below it
abbrev pub remarked_text : List ℕ → List ℕ → List ℕ → List ℕ → List ℕ
remarked_text line gap words below = text_of ((line ++ beside gap words) ∷ []) ++ bars_text below

-- the text is this line, possibly with words beside it after a gap, and lines after bars below it
abbrev pub IsRemarked : List ℕ → List ℕ → List ℕ → Type 0
IsRemarked line gap text = (words : List ℕ) × (below : List ℕ) × (text ≡ remarked_text line gap words below)

-- the text is these lines, possibly with lines after bars below them
abbrev pub AreRemarked : List (List ℕ) → List ℕ → Type 0
AreRemarked lines text = (below : List ℕ) × (text ≡ text_of lines ++ bars_text below)
