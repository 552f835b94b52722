-- What the picture of a session shows.
use Rattle.std.specs.Prelude.{◌≡◌, ⊤, ℕ, ◌+◌, List, [], ◌∷◌, ◌++◌, codes, decimal, map}
use Rattle.acta_words.specs.Text.{words_of}
use Rattle.acta_script.specs.Writing.{kept_line}
use Rattle.acta_machine.specs.Table.{State}

-- the pieces occur in the text one after another, and `rest` follows the last
abbrev pub Leads : List (List ℕ) → List ℕ → List ℕ → Type 0
Leads [] text rest = text ≡ rest
Leads (piece ∷ pieces) text rest = (before : List ℕ) × (after : List ℕ) × (text ≡ before ++ (piece ++ after)) × Leads pieces after rest

-- the pieces occur in the text one after another
abbrev pub HasInOrder : List (List ℕ) → List ℕ → Type 0
HasInOrder [] text = ⊤
HasInOrder (piece ∷ pieces) text = (before : List ℕ) × (after : List ℕ) × (text ≡ before ++ (piece ++ after)) × HasInOrder pieces after

-- the pieces of a line with this number: the number before two spaces, and the words of the line
abbrev pub pieces_of : ℕ → List ℕ → List (List ℕ)
pieces_of number line = (decimal number ++ codes "  ") ∷ words_of line

-- the pieces of lines that are numbered from this number on
abbrev pub pieces_from : ℕ → List (List ℕ) → List (List ℕ)
pieces_from number [] = []
pieces_from number (line ∷ lines) = pieces_of number line ++ pieces_from (number + 1) lines

-- the place of each event of the history, and the words of its kept line, in order
abbrev pub ShowsHistory : {A : Type 0} → State A → List ℕ → Type 0
ShowsHistory state text = HasInOrder (pieces_from 1 (map (kept_line state.model) state.kept)) text

-- a line after its number
abbrev pub numbered_line : ℕ → List ℕ → List ℕ
numbered_line number line = 32 ∷ (decimal number ++ (codes "  " ++ (line ++ 10 ∷ [])))

-- the lines, each after its number
abbrev pub numbered_from : ℕ → List (List ℕ) → List ℕ
numbered_from number [] = []
numbered_from number (line ∷ lines) = numbered_line number line ++ numbered_from (number + 1) lines
