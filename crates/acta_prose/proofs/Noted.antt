use Rattle.std.proofs.Common.{◌≡◌, ◌∷◌, [], ◌∙◌, ap, sym, Bool, true, false, if◌then◌else◌, ℕ, List, Option, length, arith}
use Rattle.acta_table.specs.declared.event.Event.{Event}
use Rattle.acta_trace.specs.Traces.{Run}
use Rattle.acta_prose.specs.Runs.{is_past, noted, noted_up_to}

-- without events the run stays
none_left : {A : Type 0} (last : Option ℕ) (run : Run A) (lines : List ℕ) (events : List (Event A)) → length events ≡ 0 → noted_up_to last run lines events ≡ run
none_left last run [] [] none = λ i. run
none_left last run (line ∷ lines) [] none = λ i. run
none_left last run [] (event ∷ events) none = λ i. run
none_left last run (line ∷ lines) (event ∷ events) none = absurd (omega (arith, none))

-- the run after all events, from that after all but the last none
pub ended : {A : Type 0} (last : Option ℕ) (run all : Run A) (lines : List ℕ) (events : List (Event A)) → noted_up_to last run lines events ≡ all → length events ≡ 0 → run ≡ all
ended last run all lines events same none = sym (none_left last run lines events none) ∙ same

-- the run after one event, and then the rest; or this run, if the event is past the last place
first : {A : Type 0} (last : Option ℕ) (run all : Run A) (past : Bool) (line : ℕ) (event : Event A) (lines others : List ℕ) (events more : List (Event A))
    → lines ≡ line ∷ others → events ≡ event ∷ more → past ≡ is_past last run.state event → noted_up_to last run lines events ≡ all
    → (if past then run else noted_up_to last (noted run line event) others more) ≡ all
first last run all past line event lines others events more cut steps test same =
    ap (λ (b : Bool). if b then run else noted_up_to last (noted run line event) others more) test
    ∙ sym (λ i. noted_up_to last run (cut i) (steps i)) ∙ same

-- the run after all events, if the next is past the last place
pub stopped : {A : Type 0} (last : Option ℕ) (run all : Run A) (line : ℕ) (event : Event A) (lines others : List ℕ) (events more : List (Event A))
    → lines ≡ line ∷ others → events ≡ event ∷ more → true ≡ is_past last run.state event → noted_up_to last run lines events ≡ all → run ≡ all
stopped last run all = first last run all true

-- the run after one more event
pub one_more : {A : Type 0} (last : Option ℕ) (run next all : Run A) (line : ℕ) (event : Event A) (lines others : List ℕ) (events more : List (Event A))
    → lines ≡ line ∷ others → events ≡ event ∷ more → false ≡ is_past last run.state event → next ≡ noted run line event
    → noted_up_to last run lines events ≡ all → noted_up_to last next others more ≡ all
one_more last run next all line event lines others events more cut steps test is same =
    ap (λ (r : Run _). noted_up_to last r others more) is ∙ first last run all false line event lines others events more cut steps test same
