-- The report on a debugging run is the output of `debug`.
use Rattle.std.proofs.Common.{◌≡◌, ℕ, List, [], ◌∷◌, ◌++◌, sym, ap, ◌∙◌}
use Rattle.std.specs.Prelude.{true, Option, Some, None, is_some}
use Rattle.std.specs.Option.{option_map_or}
use Rattle.std.proofs.lemmas.Grind.{flat_map-append}
use Rattle.acta_table.specs.declared.event.Event.{Event}
use Rattle.acta_table.specs.declared.model.Parts.{Parts}
use Rattle.acta_words.specs.Text.{text_of}
use Rattle.acta_script.specs.declared.commands.DebugCommand.{DebugCommand}
use Rattle.acta_io.specs.declared.input.BadLine.{BadLine}
use Rattle.acta_machine.specs.Table.{run_state}
use Rattle.acta_debug.specs.Sessions.{Session, opened}
use Rattle.acta_tool.specs.Debugging.{texts_of}
use Rattle.acta_io.specs.Reports.{stop_line}
use Rattle.acta_io.specs.Input.{Parsed}
use Rattle.acta_io.specs.Sections.{script_commands, script_events}
use Rattle.acta_tool.specs.Output.{debug_on, debugged_on, debugged_unless}

-- the replies to the commands, and the last line
pub whole : {A : Type 0} (m : Parts A) (events : List (Event A)) (s : Parsed DebugCommand) (d : Session A) (commands : List DebugCommand) (begun before all : List ℕ)
    → d ≡ opened m (run_state m events).kept → commands ≡ s.parsed → begun ≡ [] → before ≡ begun ++ text_of (texts_of d commands)
    → all ≡ before ++ text_of (option_map_or (λ b. stop_line b ∷ []) s.stop [])
    → (record { is_refused = is_some s.stop; text = all }) ≡ debugged_on m events s
unfolding debugged_on
whole m events s d commands begun before all is parsed none reported tells =
    let last : List (List ℕ) = option_map_or (λ b. stop_line b ∷ []) s.stop [] in
    let first : before ≡ text_of (texts_of (opened m (run_state m events).kept) s.parsed) = reported ∙ (λ i. none i ++ text_of (texts_of (is i) (parsed i))) in
    let texts : all ≡ text_of (texts_of (opened m (run_state m events).kept) s.parsed ++ last) = tells ∙ ap (λ (t : List ℕ). t ++ text_of last) first ∙ sym (flat_map-append _ (texts_of (opened m (run_state m events).kept) s.parsed) last) in
    λ i. record { is_refused = is_some s.stop; text = texts i }

-- by what the events of the script say
module _ {A : Type 0} (m : Parts A) (input : List ℕ) (s : Parsed (Event A)) (is : s ≡ script_events m input) where
  -- an event line is faulty, and is the only output
  pub reported_faulty : (b : BadLine) → s.stop ≡ Some b → debug_on m input ≡ record { is_refused = true; text = text_of (stop_line b ∷ []) }
  unfolding debug_on
  reported_faulty b stops =
      let at : (script_events m input).stop ≡ Some b = ap (λ (s : Parsed (Event A)). s.stop) (sym is) ∙ stops in
      ap (λ (o : Option BadLine). debugged_unless o m (script_events m input).parsed (script_commands m input)) at

  -- no event line is faulty: the replies follow
  pub reported_whole : (commands : Parsed DebugCommand) → s.stop ≡ None → commands ≡ script_commands m input → debug_on m input ≡ debugged_on m s.parsed commands
  unfolding debug_on
  reported_whole commands none are =
      let at : (script_events m input).stop ≡ None = ap (λ (s : Parsed (Event A)). s.stop) (sym is) ∙ none in
      ap (λ (o : Option BadLine). debugged_unless o m (script_events m input).parsed (script_commands m input)) at
      ∙ (λ i. debugged_on m (sym is i).parsed (sym are i))
