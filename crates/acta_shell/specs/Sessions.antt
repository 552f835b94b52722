-- A session on the bytes of a model.
use Rattle.std.specs.Prelude.{◌≡◌, ℕ, List, [], Ok}
use Rattle.acta_table.specs.declared.model.Parts.{Parts}
use Rattle.acta_io.specs.Models.{of_either}
use Rattle.acta_programs.specs.declared.args.TheConstants.{MOST_POINTS}
use Rattle.acta_programs.specs.From.{IsAnswerAfter}
use Rattle.acta_session.specs.Dialogues.{Act, Shows, IsDialogue, IsShownFor}
use Rattle.acta_session.specs.Replies.{SaysCommand, SaysEnds}
use Rattle.acta_session.specs.Shells.{ShellState, begun}
use Rattle.acta_shell.specs.CommandReplies.{IsCommandReply}

-- the texts that this command's words may give: for a command, and for programs that continue from a machine
abbrev pub says : {A : Type 0} → SaysCommand A
says state command text = IsCommandReply state command text.items

abbrev pub says_ends : {A : Type 0} → SaysEnds A
says_ends state lines text = IsAnswerAfter MOST_POINTS state lines text.items

-- the bytes shown for a line, before a prompt
abbrev pub shows : {A : Type 0} → List ℕ → Shows A
shows prompt = IsShownFor says says_ends prompt

-- the reads and writes are a whole session on this model
pub record IsSession {A C : Type 0} (prompt : List ℕ) (m : Parts A) (since : List Act → C → Type 0) (console : C) : Type 0 where
  pub acts : List Act
  pub last : ShellState A
  pub happened : since acts console
  pub dialogue : IsDialogue (shows prompt) (begun m) acts last

-- the bytes are a model, and the reads and writes are a whole session on it
pub record IsSessionOn (A : Type 0) {C : Type 0} (prompt : List ℕ) (bytes : List ℕ) (since : List Act → C → Type 0) (console : C) : Type 0 where
  pub model : Parts A
  pub means : of_either bytes ≡ Ok model
  pub session : IsSession prompt model since console
