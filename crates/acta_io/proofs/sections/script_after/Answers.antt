use Rattle.std.proofs.Common.{◌-◌, drop, sym, ap, refl, ◌∙◌, arith}
use Rattle.std.specs.Prelude.{option_map}
use Rattle.acta_words.specs.Text.{lines_of}
use Rattle.acta_io.specs.inside.Sections.{parsed_of}
use Rattle.acta_io.proofs.DebugScripts.{faulty_events, found_commands, has_number}
use Rattle.acta_io.proofs.sections.script_after.Goals as goal

pub commands_after-requires : goal.commands_after-requires
commands_after-requires g c =
    let one = has_number c.args.model.now c.args.input.now c.args.events.items c.args.stop c.requires in omega (arith, one)

pub returns-in-Some-clause-events : goal.returns-in-Some-clause-events
returns-in-Some-clause-events g c =
    let found = sym c.in_ok-found.ensures ∙ ap (option_map parsed_of) c.in-Some.is in
    (found_commands c.args.model.now c.args.input.now c.args.events.items c.args.stop c.requires (parsed_of c.in-Some.commands) (drop (c.args.stop.line - 1) (lines_of c.args.input.now)) refl found).0

pub returns-in-Some-clause-commands : goal.returns-in-Some-clause-commands
returns-in-Some-clause-commands g c =
    let found = sym c.in_ok-found.ensures ∙ ap (option_map parsed_of) c.in-Some.is in
    (found_commands c.args.model.now c.args.input.now c.args.events.items c.args.stop c.requires (parsed_of c.in-Some.commands) (drop (c.args.stop.line - 1) (lines_of c.args.input.now)) refl found).1

pub returns-in-None-clause-events : goal.returns-in-None-clause-events
returns-in-None-clause-events g c =
    let found = sym c.in_ok-found.ensures ∙ ap (option_map parsed_of) c.in-None.is in
    faulty_events c.args.model.now c.args.input.now c.args.events.items c.args.stop c.requires (drop (c.args.stop.line - 1) (lines_of c.args.input.now)) refl found
