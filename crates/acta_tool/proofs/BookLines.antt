-- The lines of a book, from its entries, the fronts and its machine.
use Rattle.std.proofs.Common.{◌≡◌, ℕ, List, ◌++◌, map, sym, ap, ◌∙◌, append_assoc}
use Rattle.std.proofs.lemmas.Grind.{flat_map-append}
use Rattle.acta_table.specs.declared.model.Parts.{Parts}
use Rattle.acta_words.specs.Text.{text_of}
use Rattle.acta_script.specs.Answers.{owed_line}
use Rattle.acta_machine.specs.Table.{State, debts_in}
use Rattle.acta_locked.specs.declared.book.Entry.{Entry}
use Rattle.acta_locked.specs.declared.watch.Front.{Front}
use Rattle.acta_locked.specs.Books.{Entries, state_of}
use Rattle.acta_tool.specs.Driving.{book_lines, entry_line, front_line}

-- the entries, then the fronts, and then the debts
pub whole : {A : Type 0} (b : Entries A) (fs : List (Front A)) (m : Parts A) (es : List (Entry A)) (machine : State A) (old first second all : List ℕ) → m ≡ b.model → es ≡ b.entries → machine ≡ state_of b
    → first ≡ old ++ text_of (map (entry_line m) es) → second ≡ first ++ text_of (map front_line fs) → all ≡ second ++ text_of (map owed_line (debts_in machine)) → all ≡ old ++ text_of (book_lines b fs)
whole b fs m es machine old first second all model entries stands one two three =
    let reported = map (entry_line b.model) b.entries in
    let fronts = map front_line fs in
    let debts = map owed_line (debts_in (state_of b)) in
    three
    ∙ (λ i. two i ++ text_of (map owed_line (debts_in (stands i))))
    ∙ append_assoc first (text_of fronts) (text_of debts)
    ∙ (λ i. (one ∙ (λ j. old ++ text_of (map (entry_line (model j)) (entries j)))) i ++ (text_of fronts ++ text_of debts))
    ∙ append_assoc old (text_of reported) (text_of fronts ++ text_of debts)
    ∙ ap (λ t. old ++ t) (ap (λ t. text_of reported ++ t) (sym (flat_map-append _ fronts debts)) ∙ sym (flat_map-append _ reported (fronts ++ debts)))
