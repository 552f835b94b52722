-- Pieces that occur in a text in order.
use Rattle.std.proofs.Common.{◌≡◌, ℕ, ◌+◌, Bool, true, false, not, ◌==◌, List, [], ◌∷◌, ◌++◌, length, filter, cond, refl, sym, ap, ◌∙◌, subst, drop, arith}
use Rattle.std.proofs.lemmas.List.{append_assoc, append-nil, take-append-drop}
use Rattle.std.specs.List.{slice_split, onto_first, before_first, position_or_len}
use Rattle.std.specs.Prelude.{codes}
use Rattle.std.specs.Prelude.{decimal}
use Rattle.acta_words.specs.Text.{words_of, is_blank, is_mark}
use Rattle.acta_shell.specs.Pictures.{Leads, HasInOrder, pieces_of, pieces_from, numbered_line, numbered_from}

-- pieces and then further ones
pub leads-append : (ps qs : List (List ℕ)) (text mid rest : List ℕ) → Leads ps text mid → Leads qs mid rest → Leads (ps ++ qs) text rest
leads-append [] qs text mid rest is more = subst (λ (t : List ℕ). Leads qs t rest) (sym is) more
leads-append (p ∷ ps) qs text mid rest (before, after, is, then) more = (before, after, is, leads-append ps qs after mid rest then more)

-- what leads to a rest is there
pub leads-has : (ps : List (List ℕ)) (text rest : List ℕ) → Leads ps text rest → HasInOrder ps text
leads-has [] text rest is = tt
leads-has (p ∷ ps) text rest (before, after, is, then) = (before, after, is, leads-has ps after rest then)

-- more text before
pub has-later : (ps : List (List ℕ)) (more text : List ℕ) → HasInOrder ps text → HasInOrder ps (more ++ text)
has-later [] more text is = tt
has-later (p ∷ ps) more text (before, after, is, then) = (more ++ before, after, ap (λ (t : List ℕ). more ++ t) is ∙ sym (append_assoc more before (p ++ after)), then)

-- more text after
pub has-longer : (ps : List (List ℕ)) (text more : List ℕ) → HasInOrder ps text → HasInOrder ps (text ++ more)
has-longer [] text more is = tt
has-longer (p ∷ ps) text more (before, after, is, then) = (
  before,
  after ++ more,
  ap (λ (t : List ℕ). t ++ more) is ∙ append_assoc before (p ++ after) more ∙ ap (λ (t : List ℕ). before ++ t) (append_assoc p after more),
  has-longer ps after more then,
)

-- pieces in one text, and further ones in the next
pub has-append : (ps qs : List (List ℕ)) (text more : List ℕ) → HasInOrder ps text → HasInOrder qs more → HasInOrder (ps ++ qs) (text ++ more)
has-append [] qs text more is then = has-later qs text more then
has-append (p ∷ ps) qs text more (before, after, is, rest) then = (
  before,
  after ++ more,
  ap (λ (t : List ℕ). t ++ more) is ∙ append_assoc before (p ++ after) more ∙ ap (λ (t : List ℕ). before ++ t) (append_assoc p after more),
  has-append ps qs after more rest then,
)

-- a piece that is kept or left out before others
has-chosen : (keep : Bool) (p : List ℕ) (ps : List (List ℕ)) (text before after : List ℕ) → text ≡ before ++ (p ++ after) → HasInOrder ps after → HasInOrder (cond keep (p ∷ ps) ps) text
has-chosen true p ps text before after is then = (before, after, is, then)
has-chosen false p ps text before after is then =
    subst (λ (t : List ℕ). HasInOrder ps t) (sym is) (has-later ps before (p ++ after) (has-later ps p after then))

-- pieces of which some are left out
has-fewer : (keeps : List ℕ → Bool) (ps : List (List ℕ)) (text : List ℕ) → HasInOrder ps text → HasInOrder (filter keeps ps) text
has-fewer keeps [] text is = tt
has-fewer keeps (p ∷ ps) text (before, after, is, then) =
    has-chosen (keeps p) p (filter keeps ps) text before after is (has-fewer keeps ps after then)

-- the first piece is at the start of the text, and the others follow it in order
abbrev Starts : List (List ℕ) → List ℕ → Type 0
Starts [] text = ⊥
Starts (p ∷ ps) text = (rest : List ℕ) × (text ≡ p ++ rest) × HasInOrder ps rest

starts-has : (ps : List (List ℕ)) (text : List ℕ) → Starts ps text → HasInOrder ps text
starts-has [] text is = absurd is
starts-has (p ∷ ps) text (rest, is, then) = ([], rest, is, then)

onto-start : (b : ℕ) (ps : List (List ℕ)) (text : List ℕ) → Starts ps text → Starts (onto_first b ps) (b ∷ text)
onto-start b [] text is = absurd is
onto-start b (p ∷ ps) text (rest, is, then) = (rest, ap (λ (t : List ℕ). b ∷ t) is, then)

-- one byte more, at which the text is cut or not
cut-more : (c : Bool) (b : ℕ) (bs : List ℕ) (ps : List (List ℕ)) → Starts ps bs → Starts (cond c ([] ∷ ps) (onto_first b ps)) (b ∷ bs)
cut-more true b bs ps is = (b ∷ bs, refl, has-later ps (b ∷ []) bs (starts-has ps bs is))
cut-more false b bs ps is = onto-start b ps bs is

-- the parts of a text that is cut
parts-start : (cuts : ℕ → Bool) (text : List ℕ) → Starts (slice_split cuts text) text
parts-start cuts [] = ([], refl, tt)
parts-start cuts (b ∷ bs) = cut-more (cuts b) b bs (slice_split cuts bs) (parts-start cuts bs)

-- what comes before the first byte that passes is at the start of the text
front-longer : (ends : ℕ → Bool) (ps : List (List ℕ)) (text : List ℕ) → HasInOrder ps (before_first ends text) → HasInOrder ps text
front-longer ends ps text is = subst (λ (t : List ℕ). HasInOrder ps t) (take-append-drop (position_or_len ends text) text) (has-longer ps (before_first ends text) (drop (position_or_len ends text) text) is)

-- the words of a line occur in it in order
words-in-order : (line : List ℕ) → HasInOrder (words_of line) line
words-in-order line =
    let front = before_first is_mark line in
    let parts = slice_split is_blank front in
    front-longer is_mark (words_of line) line
    (has-fewer (λ word. not (length word == 0)) parts front (starts-has parts front (parts-start is_blank front)))

-- a numbered line has its pieces
line-has : (number : ℕ) (line : List ℕ) → HasInOrder (pieces_of number line) (numbered_line number line)
line-has number line =
    (32 ∷ [], line ++ 10 ∷ [], ap (λ (t : List ℕ). 32 ∷ t) (sym (append_assoc (decimal number) (codes "  ") (line ++ 10 ∷ []))), has-longer (words_of line) line (10 ∷ []) (words-in-order line))

-- numbered lines have their pieces
numbered-has : (number : ℕ) (lines : List (List ℕ)) → HasInOrder (pieces_from number lines) (numbered_from number lines)
numbered-has number [] = tt
numbered-has number (line ∷ lines) =
    has-append (pieces_of number line) (pieces_from (number + 1) lines) (numbered_line number line) (numbered_from (number + 1) lines) (line-has number line) (numbered-has (number + 1) lines)

-- so they do after any text
pub listed-has : (text : List ℕ) (lines : List (List ℕ)) → HasInOrder (pieces_from 1 lines) (text ++ numbered_from 1 lines)
listed-has text lines = has-later (pieces_from 1 lines) text (numbered_from 1 lines) (numbered-has 1 lines)

-- one line more
pub pieces-more : (number : ℕ) (lines : List (List ℕ)) (line : List ℕ) → pieces_from number (lines ++ line ∷ []) ≡ pieces_from number lines ++ pieces_of (number + length lines) line
pieces-more number [] line = append-nil (pieces_of number line) ∙ ap (λ n. pieces_of n line) (omega arith)
pieces-more number (first ∷ lines) line =
    ap (λ (ps : List (List ℕ)). pieces_of number first ++ ps) (pieces-more (number + 1) lines line ∙ ap (λ n. pieces_from (number + 1) lines ++ pieces_of n line) (omega arith))
    ∙ sym (append_assoc (pieces_of number first) (pieces_from (number + 1) lines) (pieces_of (number + length (first ∷ lines)) line))

pub numbered-more : (number : ℕ) (lines : List (List ℕ)) (line : List ℕ) → numbered_from number (lines ++ line ∷ []) ≡ numbered_from number lines ++ numbered_line (number + length lines) line
numbered-more number [] line = append-nil (numbered_line number line) ∙ ap (λ n. numbered_line n line) (omega arith)
numbered-more number (first ∷ lines) line =
    ap (λ (t : List ℕ). numbered_line number first ++ t) (numbered-more (number + 1) lines line ∙ ap (λ n. numbered_from (number + 1) lines ++ numbered_line n line) (omega arith))
    ∙ sym (append_assoc (numbered_line number first) (numbered_from (number + 1) lines) (numbered_line (number + length (first ∷ lines)) line))
