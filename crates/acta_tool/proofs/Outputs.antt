-- The report on a run is the output of `run`.
use Rattle.std.proofs.Common.{◌≡◌, ℕ, Bool, List, ◌++◌, Option, is_some, sym, ap, ◌∙◌}
use Rattle.std.proofs.lemmas.Grind.{flat_map-append}
use Rattle.acta_table.specs.declared.answer.Answer.{Answer}
use Rattle.acta_table.specs.declared.event.Event.{Event}
use Rattle.acta_table.specs.declared.model.Parts.{Parts}
use Rattle.acta_machine.specs.Table.{State, run_answers, run_state}
use Rattle.acta_words.specs.Text.{text_of}
use Rattle.acta_io.specs.declared.input.BadLine.{BadLine}
use Rattle.acta_io.specs.Input.{Parsed}
use Rattle.acta_tool.specs.Output.{reported, reported_last, run_on}

-- the answers to the events, and the last lines
pub whole : {A : Type 0} (is_kept : Bool) (m : Parts A) (s : Parsed (Event A)) (events : List (Event A)) (stop : Option BadLine) (answers : List Answer) (state : State A) (all : List ℕ)
    → s ≡ record { parsed = events; stop = stop } → answers ≡ run_answers m events → state ≡ run_state m events
    → all ≡ text_of (reported is_kept answers state) ++ text_of (reported_last is_kept state stop)
    → (record { is_refused = is_some stop; text = all }) ≡ run_on is_kept m s
unfolding run_on
whole is_kept m s events stop answers state all parsed answered stands tells =
    let texts : all ≡ text_of (reported is_kept answers state ++ reported_last is_kept state stop) = tells ∙ sym (flat_map-append _ (reported is_kept answers state) (reported_last is_kept state stop)) in
    (λ i. record { is_refused = is_some stop; text = texts i })
    ∙ (λ i. record { is_refused = is_some stop; text = text_of (reported is_kept (answered i) (stands i) ++ reported_last is_kept (stands i) stop) })
    ∙ sym (ap (run_on is_kept m) parsed)
