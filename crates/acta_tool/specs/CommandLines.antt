-- The meaning of a command line, in terms of `clap`.
use Rattle.std.specs.Prelude.{◌≡◌, ◌≢◌, ◌==◌, ◌<◌, ◌≤◌, ⊤, Bool, true, false, ◌⊎◌, ℕ, List, [], ◌∷◌, Option, Some, None, option_map, IsSomeAnd, slice_index, codes, pos}
use Rattle.std.specs.Option.{option_and_then, option_map_or}
use Rattle.std.specs.Str.{bytes_eq}
use Rattle.clap.specs.Words.{App, Row, Rule, Text, IsAmong, Kinds, fault_of, first_of, kind_of, new_app, new_rule, subcommand_of, with_rule, with_subcommand}
use Rattle.clap.specs.declared.builder.ArgAction.TheVariants.{Set, SetTrue}
use Rattle.clap.specs.declared.builder.value_parser.ValueParser.TheVariants.{Signed}
use Rattle.clap.specs.declared.error.ErrorKind.TheVariants.{MissingSubcommand}
use Rattle.acta_words.specs.Numerals.{read_natural}
use Rattle.acta_locked.specs.declared.limits.TheConstants.{MOST_WORKERS}
use Rattle.acta_tool.specs.declared.args.Args.{Args}
use Rattle.acta_tool.specs.declared.args.Command.{Command}
use Rattle.acta_tool.specs.declared.args.Command.TheVariants.{Assemble, CheckImage, Upgrade, Run, Trace, Judge, Debug, Serial, Drive}
use Rattle.acta_args.specs.Models.{IsModel, IsUnknown}
use Rattle.acta_args.specs.declared.fault.UsageFault.{UsageFault}
use Rattle.acta_args.specs.declared.fault.UsageFault.TheVariants.{Usage, UnknownModel, NotText, Memory}

-- the one argument of a command, MODEL, which is required
abbrev pub model_rule : Rule
model_rule = record (new_rule (codes "MODEL")) { required = true; action = Some Set }

-- the flag `--kept`
abbrev pub kept_rule : Rule
kept_rule = record (new_rule (codes "kept")) { long = Some (codes "kept"); action = Some SetTrue }

-- the option `--workers`, which is required, with a number from 1 to 16
abbrev pub workers_rule : Rule
workers_rule = record (new_rule (codes "workers")) {
  long = Some (codes "workers");
  required = true;
  action = Some Set;
  parser = Some (Signed (pos 1) (pos 16));
}

-- the option `--watch`, with a number from 0 to 255
abbrev pub watch_rule : Rule
watch_rule = record (new_rule (codes "watch")) {
  long = Some (codes "watch");
  action = Some Set;
  parser = Some (Signed (pos 0) (pos 255));
}

-- the commands
abbrev pub assemble_app : App
assemble_app = with_rule (new_app (codes "assemble")) model_rule

abbrev pub check_app : App
check_app = with_rule (new_app (codes "check-image")) model_rule

abbrev pub upgrade_app : App
upgrade_app = with_rule (new_app (codes "upgrade")) model_rule

abbrev pub run_app : App
run_app = with_rule (with_rule (new_app (codes "run")) model_rule) kept_rule

abbrev pub trace_app : App
trace_app = with_rule (new_app (codes "trace")) model_rule

abbrev pub judge_app : App
judge_app = with_rule (new_app (codes "judge")) model_rule

abbrev pub debug_app : App
debug_app = with_rule (new_app (codes "debug")) model_rule

abbrev pub serial_app : App
serial_app = with_rule (new_app (codes "serial")) model_rule

abbrev pub drive_app : App
drive_app = with_rule (with_rule (with_rule (new_app (codes "drive")) model_rule) workers_rule) watch_rule

-- the program without its commands, one of which is required
abbrev pub bare_app : App
bare_app =
    let app = new_app (codes "acta_tool") in
    record app { top = record app.top { subcommand_required = true } }

-- the program with the commands that have only the model
abbrev pub plain_app : App
plain_app =
    with_subcommand (with_subcommand (with_subcommand (with_subcommand (with_subcommand (with_subcommand (with_subcommand
    bare_app assemble_app.top) check_app.top) upgrade_app.top) trace_app.top) judge_app.top) debug_app.top) serial_app.top

-- the program
abbrev pub tool_app : App
tool_app = with_subcommand (with_subcommand plain_app run_app.top) drive_app.top

-- the words of a command line: the command, whether the flag is set, the numbers of workers and turns if given, and the
-- model
pub record Named : Type 0 where
  pub command : Text
  pub is_kept : Bool
  pub workers : Option Text
  pub watch : Option Text
  pub model : Text

-- whether a flag was set
abbrev pub is_set : Text → List Row → Bool
is_set flag rows = option_map_or (bytes_eq (codes "true")) (first_of flag rows) false

-- the words that `clap` matched for the command
abbrev pub named_in : Option (Text × List Row) → Option Named
named_in = option_and_then (λ p.
    option_map (λ model. record {
      command = p.0;
      is_kept = is_set (codes "kept") p.1;
      workers = first_of (codes "workers") p.1;
      watch = first_of (codes "watch") p.1;
      model = model;
    }) (first_of (codes "MODEL") p.1))

-- the command line, if `clap` takes the words
unfoldable pub named_by : List Text → Option Named
named_by words = named_in (subcommand_of tool_app words)

-- the kinds of error for which `clap` refuses the words; none if it takes them
unfoldable pub faults_of : List Text → Kinds
faults_of words = fault_of tool_app words

-- the number of workers, if it is given in digits
abbrev pub workers_in : Named → Option ℕ
workers_in line = option_and_then (read_natural 0xffff) line.workers

-- how often the history is judged meanwhile: 0 by default
abbrev pub turns_by : Option Text → Option ℕ
turns_by None = Some 0
turns_by (Some text) = read_natural 0xffff text

abbrev pub turns_in : Named → Option ℕ
turns_in line = turns_by line.watch

-- at most 255 turns
abbrev pub AreTurns : ℕ → Type 0
AreTurns turns = turns ≤ 255

-- 1 to 16 workers, one for each seat
abbrev pub AreSeated : ℕ → Type 0
AreSeated workers = (0 < workers) × (workers ≤ MOST_WORKERS)

-- the command is this one
abbrev pub IsCommand : Named → Command → Type 0
IsCommand line Assemble = line.command ≡ codes "assemble"
IsCommand line CheckImage = line.command ≡ codes "check-image"
IsCommand line Upgrade = line.command ≡ codes "upgrade"
IsCommand line (Run kept) = (line.command ≡ codes "run") × (line.is_kept ≡ kept)
IsCommand line Trace = line.command ≡ codes "trace"
IsCommand line Judge = line.command ≡ codes "judge"
IsCommand line Debug = line.command ≡ codes "debug"
IsCommand line Serial = line.command ≡ codes "serial"
IsCommand line (Drive workers turns) =
    (line.command ≡ codes "drive") × (workers_in line ≡ Some workers) × AreSeated workers
    × (turns_in line ≡ Some turns) × AreTurns turns

-- the command is one of these
abbrev pub IsKnown : Named → Type 0
IsKnown line =
    (line.command ≡ codes "assemble")
    ⊎ ((line.command ≡ codes "check-image")
    ⊎ ((line.command ≡ codes "upgrade")
    ⊎ ((line.command ≡ codes "run")
    ⊎ ((line.command ≡ codes "trace")
    ⊎ ((line.command ≡ codes "judge")
    ⊎ ((line.command ≡ codes "debug")
    ⊎ ((line.command ≡ codes "serial")
    ⊎ ((line.command ≡ codes "drive") × IsSomeAnd (workers_in line) AreSeated × IsSomeAnd (turns_in line) AreTurns))))))))

-- `clap` takes the words, and they name this command and this model
abbrev pub AsksFor : List Text → Args → Type 0
AsksFor words args =
    (faults_of words ≡ []) × IsSomeAnd (named_by words) (λ line. IsCommand line args.command × IsModel line.model args.model)

-- why the words are refused: `clap` refuses them with this error; or `clap` takes them, but they name no command with its
-- model, and the error says that it is missing; or no standard model has the name after the `@`; or memory ran out
abbrev pub IsFaultOf : List Text → UsageFault → Type 0
IsFaultOf words (Usage e) =
    IsAmong (kind_of e) (faults_of words)
    ⊎ ((faults_of words ≡ []) × (kind_of e ≡ MissingSubcommand) × ¬ (IsSomeAnd (named_by words) IsKnown))
IsFaultOf words UnknownModel = (faults_of words ≡ []) × IsSomeAnd (named_by words) (λ line. IsUnknown line.model)
IsFaultOf words NotText = ⊥
IsFaultOf words (Memory e) = ⊤
