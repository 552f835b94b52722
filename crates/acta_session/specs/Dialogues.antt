-- A session at a console: its reads and writes, act by act.
use Rattle.std.specs.Prelude.{◌≡◌, ⊤, ℕ, Bool, true, false, ◌||◌, List, [], ◌∷◌, ◌++◌, if◌then◌else◌}
use Rattle.std.specs.declared.vec.Vec.{Vec}
use Rattle.acta_words.specs.Text.{is_line_feed}
use Rattle.acta_session.specs.Replies.{IsReply, SaysCommand, SaysEnds}
use Rattle.acta_session.specs.Shells.{ShellState, after_line, quits}

-- a read of bytes, empty at the end of the input, or a write of bytes, which were also flushed
pub data Act : Type 0 where
  Read : List ℕ → Act
  Shown : List ℕ → Act

-- bytes split after each line feed: the lines, and the start of the next one
pub record Cut : Type 0 where
  pub lines : List (List ℕ)
  pub front : List ℕ

abbrev pub with_line : List ℕ → Cut → Cut
with_line line c = record c { lines = line ∷ c.lines }

-- the lines that these bytes complete; the first list has the start of the first line
abbrev pub cut : List ℕ → List ℕ → Cut
cut front [] = record { lines = []; front = front }
cut front (b ∷ bs) = if is_line_feed b then with_line front (cut [] bs) else cut (front ++ b ∷ []) bs

-- a moment of a session: the state, the lines still to be answered, the start of the next line, and whether nothing more is
-- read
pub record Moment (A : Type 0) : Type 0 where
  pub session : ShellState A
  pub due : List (List ℕ)
  pub front : List ℕ
  pub is_over : Bool

-- the moment before anything is read
abbrev pub at_start : {A : Type 0} → ShellState A → Moment A
at_start s = record { session = s; due = []; front = []; is_over = false }

-- at the end of the input an empty line is due if lines of programs are read, to end them
abbrev pub ending : {A : Type 0} → ShellState A → List (List ℕ)
ending s = if s.is_exploring then [] ∷ [] else []

-- a last line without a line feed is due before that, unless it is empty
abbrev pub last_lines : {A : Type 0} → ShellState A → List ℕ → List (List ℕ)
last_lines s [] = ending s
last_lines s (b ∷ bs) = (b ∷ bs) ∷ ending (after_line s (b ∷ bs))

-- after a read the completed lines are due; at the end of the input the last lines
abbrev pub after_read : {A : Type 0} → Moment A → List ℕ → Moment A
after_read p [] = record p { due = last_lines p.session p.front; front = []; is_over = true }
after_read p (b ∷ bs) = record p { due = (cut p.front (b ∷ bs)).lines; front = (cut p.front (b ∷ bs)).front }

-- after the reply to the first due line; after a line that ends the session no other is answered
abbrev pub after_reply : {A : Type 0} → Moment A → List (List ℕ) → Moment A
after_reply p [] = p
after_reply p (line ∷ lines) = record p {
  session = after_line p.session line;
  due = if quits p.session line then [] else lines;
  is_over = p.is_over || quits p.session line;
}

abbrev pub after_act : {A : Type 0} → Moment A → Act → Moment A
after_act p (Read bytes) = after_read p bytes
after_act p (Shown bytes) = after_reply p p.due

abbrev pub after_acts : {A : Type 0} → Moment A → List Act → Moment A
after_acts p [] = p
after_acts p (act ∷ acts) = after_acts (after_act p act) acts

-- a relation: the bytes that may be shown for a line
abbrev pub Shows : Type 0 → Type 1
Shows A = ShellState A → List ℕ → List ℕ → Type 0

-- the bytes shown for a line: its reply, and then the prompt, unless the session ends
abbrev pub IsShownFor : {A : Type 0} → SaysCommand A → SaysEnds A → List ℕ → Shows A
IsShownFor {A = A} says says_ends prompt s line bytes =
    (text : Vec ℕ A) × IsReply says says_ends s line text × (bytes ≡ text.items ++ (if quits s line then [] else prompt))

-- the bytes are shown for the first due line
abbrev pub IsForFirst : {A : Type 0} → Shows A → ShellState A → List (List ℕ) → List ℕ → Type 0
IsForFirst shows s [] bytes = ⊥
IsForFirst shows s (line ∷ lines) bytes = shows s line bytes

-- a read comes only when every line read so far is answered; only replies are shown
abbrev pub IsInTurn : {A : Type 0} → Shows A → Moment A → Act → Type 0
IsInTurn shows p (Read bytes) = (p.due ≡ []) × (p.is_over ≡ false)
IsInTurn shows p (Shown bytes) = IsForFirst shows p.session p.due bytes

abbrev pub AreInTurn : {A : Type 0} → Shows A → Moment A → List Act → Type 0
AreInTurn shows p [] = ⊤
AreInTurn shows p (act ∷ acts) = IsInTurn shows p act × AreInTurn shows (after_act p act) acts

-- a whole session between two states: each act is in turn, and at the end no line is due and nothing more is read
pub record IsDialogue {A : Type 0} (shows : Shows A) (old : ShellState A) (acts : List Act) (new : ShellState A) : Type 0 where
  pub in_turn : AreInTurn shows (at_start old) acts
  pub session : (after_acts (at_start old) acts).session ≡ new
  pub answered : (after_acts (at_start old) acts).due ≡ []
  pub over : (after_acts (at_start old) acts).is_over ≡ true

-- acts since this moment, each in turn; the last line read may have no reply yet
abbrev pub HasBegun : {A C : Type 0} → Shows A → (List Act → C → Type 0) → C → Moment A → Type 0
HasBegun shows since console old = (acts : List Act) × since acts console × AreInTurn shows old acts
