-- The program's output for the bytes of a model and of an input, if it answers them.
use Rattle.std.specs.Prelude.{ℕ, ◌+◌, Bool, true, false, not, ◌==◌, List, [], ◌∷◌, ◌++◌, map, drop, get_or, length, codes, decimal, nat_lt, if◌then◌else◌, Option, Some, None, is_some, Result, Ok, Err}
use Rattle.std.specs.Option.{option_map_or}
use Rattle.acta_table.specs.declared.answer.Answer.{Answer}
use Rattle.acta_table.specs.declared.event.Event.{Event}
use Rattle.acta_table.specs.declared.event.Event.TheVariants.{Operate}
use Rattle.acta_table.specs.declared.dep.Edge.{Edge}
use Rattle.acta_table.specs.declared.event.Kept.{Kept}
use Rattle.acta_table.specs.declared.event.OpNo.{OpNo}
use Rattle.acta_table.specs.declared.limits.TheConstants.{MOST_EVENTS}
use Rattle.acta_table.specs.declared.model.Parts.{Parts}
use Rattle.acta_table.specs.Dependencies.{word_of}
use Rattle.acta_words.specs.Text.{line_of, text_of}
use Rattle.acta_image.specs.Spelling.{image}
use Rattle.acta_lang.specs.Canonical.{canonical}
use Rattle.acta_script.specs.declared.commands.DebugCommand.{DebugCommand}
use Rattle.acta_axioms.specs.Axioms.{axiom_number}
use Rattle.acta_axioms.specs.declared.serial.SerialItem.{SerialItem}
use Rattle.acta_axioms.specs.SerialItems.{serial_items}
use Rattle.acta_axioms.specs.Serial.{is_strict}
use Rattle.acta_judge.specs.declared.verdict.Verdict.{Verdict}
use Rattle.acta_judge.specs.Verdicts.{verdict}
use Rattle.acta_script.specs.Answers.{answer_line, fault_line, owed_line}
use Rattle.acta_script.specs.Reading.{event_of, kept_of}
use Rattle.acta_script.specs.Writing.{event_line, kept_line}
use Rattle.acta_tool.specs.declared.args.Command.{Command}
use Rattle.acta_tool.specs.declared.args.Command.TheVariants.{Assemble, CheckImage, Upgrade, Run, Trace, Judge, Debug, Serial, Drive}
use Rattle.acta_io.specs.declared.models.NoModel.{NoModel}
use Rattle.acta_io.specs.declared.input.BadLine.{BadLine}
use Rattle.acta_tool.specs.Debugging.{texts_of}
use Rattle.acta_io.specs.Input.{Parsed, line_numbers, parsed_in}
use Rattle.acta_io.specs.Reports.{Output, refused_model, stop_line}
use Rattle.acta_io.specs.Sections.{script_commands, script_events}
use Rattle.acta_tool.specs.Models.{model_by}
use Rattle.acta_debug.specs.Sessions.{opened}
use Rattle.acta_machine.specs.Table.{State, fresh, answer_to, after, op_added, edges_in, run_answers, run_state, debts_in}

-- the lines of a run's events: the answers, or with `--kept` the kept items alone
abbrev pub reported : {A : Type 0} → Bool → List Answer → State A → List (List ℕ)
reported false answers state = map answer_line answers
reported true answers state = map (kept_line state.model) state.kept

-- the last lines of a run: the line that stopped it, otherwise the debts; with `--kept` there are no debts
abbrev pub reported_last : {A : Type 0} → Bool → State A → Option BadLine → List (List ℕ)
reported_last is_kept state (Some b) = stop_line b ∷ []
reported_last false state None = map owed_line (debts_in state)
reported_last true state None = []

-- the output of `run` on a model
unfoldable pub run_on : {A : Type 0} → Bool → Parts A → Parsed (Event A) → Output
run_on is_kept m s =
    let state = run_state m s.parsed in
    record {
      is_refused = is_some s.stop;
      text = text_of (reported is_kept (run_answers m s.parsed) state ++ reported_last is_kept state s.stop);
    }

-- : op N
abbrev pub op_words : Option OpNo → List (List ℕ)
op_words None = []
op_words (Some op) = codes ":" ∷ codes "op" ∷ decimal op.0 ∷ []

-- : edge N KIND J I, for each; the first has the number n
abbrev pub edge_words : ℕ → List Edge → List (List ℕ)
edge_words n [] = []
edge_words n (e ∷ edges) =
    codes ":" ∷ codes "edge" ∷ decimal n ∷ word_of e.kind ∷ decimal e.j.0 ∷ decimal e.i.0 ∷ edge_words (n + 1) edges

-- LINE ANSWER : EVENT, and what the event formed: its operation, and the edges in force after the given number of earlier
-- ones
unfoldable pub formed_line : {A : Type 0} → Parts A → ℕ → Event A → Answer → Option OpNo → ℕ → List Edge → List ℕ
formed_line m line event answer op before edges =
    line_of (
    decimal line ∷ answer_line answer ∷ codes ":" ∷ event_line m event
    ∷ (op_words op ++ edge_words (before + 1) (drop before edges)))

-- the line of an event, from the state before it
abbrev pub trace_line : {A : Type 0} → State A → ℕ → Event A → List ℕ
trace_line state line event =
    formed_line state.model line event (answer_to state event) (op_added state event) (length (edges_in state))
    (edges_in (after state event))

-- the lines of events; the list has the number of each event's line
abbrev pub trace_lines : {A : Type 0} → State A → List ℕ → List (Event A) → List (List ℕ)
trace_lines state lines [] = []
trace_lines state lines (event ∷ events) =
    trace_line state (get_or lines 0 0) event ∷ trace_lines (after state event) (drop 1 lines) events

-- the output of `trace` on a model: a line for each event, then the last lines of `run`
unfoldable pub trace_on : {A : Type 0} → Parts A → List ℕ → Parsed (Event A) → Output
trace_on m lines s = record {
  is_refused = is_some s.stop;
  text = text_of (trace_lines (fresh m) lines s.parsed ++ reported_last false (run_state m s.parsed) s.stop);
}

-- the lines of a verdict: its faults, then the debts
abbrev pub verdict_lines : {A : Type 0} → Verdict A → List (List ℕ)
verdict_lines v = map (λ f. fault_line (axiom_number f.broken) f.place f.by) v.faults ++ map owed_line v.owed

-- the output of `judge` on a model: the faulty line, or that there are too many lines, or the verdict
abbrev pub judged_on : {A : Type 0} → Parts A → List (Kept A) → Option BadLine → Output
judged_on m kept (Some b) = record { is_refused = true; text = text_of (stop_line b ∷ []) }
judged_on m kept None =
    if nat_lt MOST_EVENTS (length kept)
    then record { is_refused = true; text = text_of (codes "judge fault 1" ∷ []) }
    else record { is_refused = false; text = text_of (verdict_lines (verdict m kept)) }

-- the same for parsed lines
abbrev pub judge_on : {A : Type 0} → Parts A → Parsed (Kept A) → Output
judge_on m s = judged_on m s.parsed s.stop

-- an operation of a serial order as a kept item
abbrev pub as_kept : {A : Type 0} → SerialItem → Kept A
as_kept item = record { event = Operate item.txn item.ob item.op; ret = Some item.ret }

-- the lines of a serial order: each operation as a kept line
abbrev pub serial_lines : {A : Type 0} → Parts A → List SerialItem → List (List ℕ)
serial_lines m items = map (λ item. kept_line m (as_kept item)) items

-- the output of `serial` on a model: the faulty line, or that the model isn't strict, or the serial order of the history
abbrev pub serialized_on : {A : Type 0} → Parts A → List (Kept A) → Option BadLine → Output
serialized_on m kept (Some b) = record { is_refused = true; text = text_of (stop_line b ∷ []) }
serialized_on m kept None =
    if is_strict m
    then record { is_refused = false; text = text_of (serial_lines m (serial_items m kept)) }
    else record { is_refused = true; text = text_of (codes "serial fault 1" ∷ []) }

-- the same for a run of parsed lines
unfoldable pub serial_on : {A : Type 0} → Parts A → Parsed (Event A) → Output
serial_on m s = serialized_on m (run_state m s.parsed).kept s.stop

-- the replies to commands to a debugger on the history of a run of the events, then the line that stopped them, if one did
unfoldable pub debugged_on : {A : Type 0} → Parts A → List (Event A) → Parsed DebugCommand → Output
debugged_on m events s =
    let texts = texts_of (opened m (run_state m events).kept) s.parsed in
    record {
      is_refused = is_some s.stop;
      text = text_of (texts ++ option_map_or (λ b. stop_line b ∷ []) s.stop []);
    }

-- the same, unless a line of the events is faulty, which is then the only output
abbrev pub debugged_unless : {A : Type 0} → Option BadLine → Parts A → List (Event A) → Parsed DebugCommand → Output
debugged_unless None m events commands = debugged_on m events commands
debugged_unless (Some b) m events commands = record { is_refused = true; text = text_of (stop_line b ∷ []) }

-- the output of `debug` on a model: events before the first line `--`, and commands after it
unfoldable pub debug_on : {A : Type 0} → Parts A → List ℕ → Output
debug_on m input =
    let events = script_events m input in
    debugged_unless events.stop m events.parsed (script_commands m input)

-- the output of a command on a model: its image in the version that is written, from a text or from an image; its canonical
-- text; a run of the input's events; the verdict on its kept items; a debugging run; or the serial order of a run's history.
-- The output of `drive` depends on its threads, and is defined elsewhere
abbrev pub output_on : {A : Type 0} → Command → Parts A → List ℕ → Output
output_on Assemble m input = record { is_refused = false; text = image m }
output_on CheckImage m input = record { is_refused = false; text = canonical m }
output_on Upgrade m input = record { is_refused = false; text = image m }
output_on (Run kept) m input = run_on kept m (parsed_in (event_of m) input)
output_on Trace m input = trace_on m (line_numbers input) (parsed_in (event_of m) input)
output_on Judge m input = judge_on m (parsed_in (kept_of m) input)
output_on Debug m input = debug_on m input
output_on Serial m input = serial_on m (parsed_in (event_of m) input)
output_on (Drive workers turns) m input = record { is_refused = false; text = [] }

-- the output of a command, by the model in the bytes
abbrev pub output_by : {A : Type 0} → Command → Result (Parts A) NoModel → List ℕ → Output
output_by command (Err fault) input = refused_model fault
output_by command (Ok m) input = output_on command m input

-- the output of a command for the bytes of a model and of an input; A is the allocator's type, which makes no difference
abbrev pub tool_output : (A : Type 0) → Command → List ℕ → List ℕ → Output
tool_output A command model input = output_by {A = A} command (model_by command model) input
