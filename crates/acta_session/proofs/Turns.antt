-- Acts in turn, one stretch after another.
use Rattle.std.proofs.Common.{◌≡◌, ◌<◌, ℕ, Bool, true, false, List, [], ◌∷◌, ◌++◌, length, refl, sym, ap, subst, ◌∙◌, arith}
use Rattle.std.specs.Prelude.{◌==◌, ◌||◌, if◌then◌else◌}
use Rattle.acta_words.specs.Text.{is_line_feed}
use Rattle.acta_session.specs.Dialogues.{Act, Read, Shown, Moment, Shows, cut, ending, last_lines, with_line, at_start, after_act, after_acts, AreInTurn, IsInTurn, IsDialogue, HasBegun}
use Rattle.acta_session.specs.Shells.{ShellState, after_line, quits}
use Rattle.acta_session.specs.inside.Talks.{HasTalked, at_front}

pub acts-append : {A : Type 0} (p : Moment A) (xs ys : List Act) → after_acts p (xs ++ ys) ≡ after_acts (after_acts p xs) ys
acts-append p [] ys = refl
acts-append p (x ∷ xs) ys = acts-append (after_act p x) xs ys

pub in_turn-append : {A : Type 0} (shows : Shows A) (p : Moment A) (xs ys : List Act) → AreInTurn shows p xs → AreInTurn shows (after_acts p xs) ys → AreInTurn shows p (xs ++ ys)
in_turn-append shows p [] ys first second = second
in_turn-append shows p (x ∷ xs) ys first second = (first.0, in_turn-append shows (after_act p x) xs ys first.1 second)

abbrev pub moment : {A : Type 0} → ShellState A → List (List ℕ) → List ℕ → Bool → Moment A
moment s due front is_over = record { session = s; due = due; front = front; is_over = is_over }

module _ {A C : Type 0} (shows : Shows A) (since : C → List Act → C → Type 0)
    (further : (c d e : C) (xs ys : List Act) → since c xs d → since d ys e → since c (xs ++ ys) e) where
  -- one act more, which is in turn
  pub talked-on : (first c d : C) (old : Moment A) (s t : ShellState A) (due next : List (List ℕ)) (front rest : List ℕ) (b e : Bool) (act : Act)
      → HasTalked shows (since first) c old s due front b → since c (act ∷ []) d → IsInTurn shows (moment s due front b) act
      → after_act (moment s due front b) act ≡ moment t next rest e
      → HasTalked shows (since first) d old t next rest e
  talked-on first c d old s t due next front rest b e act talk happened in_turn now = record {
    acts = talk.acts ++ act ∷ [];
    happened = further first c d talk.acts (act ∷ []) talk.happened happened;
    in_turn = in_turn-append shows old talk.acts (act ∷ []) talk.in_turn
        (subst (λ (p : Moment A). AreInTurn shows p (act ∷ [])) (sym talk.last) (in_turn, tt));
    last = acts-append old talk.acts (act ∷ []) ∙ ap (λ (p : Moment A). after_act p act) talk.last ∙ now;
  }

  -- a stretch that began where another ended
  pub talked-both : (first c d : C) (old mid : Moment A) (s t : ShellState A) (due next : List (List ℕ)) (front rest : List ℕ) (b e : Bool)
      → HasTalked shows (since first) c old s due front b → moment s due front b ≡ mid → HasTalked shows (since c) d mid t next rest e
      → HasTalked shows (since first) d old t next rest e
  talked-both first c d old mid s t due next front rest b e one same two = record {
    acts = one.acts ++ two.acts;
    happened = further first c d one.acts two.acts one.happened two.happened;
    in_turn = in_turn-append shows old one.acts two.acts one.in_turn
        (subst (λ (p : Moment A). AreInTurn shows p two.acts) (sym (one.last ∙ same)) two.in_turn);
    last = acts-append old one.acts two.acts ∙ ap (λ (p : Moment A). after_acts p two.acts) (one.last ∙ same) ∙ two.last;
  }

  -- the acts so far, if nothing happened since
  pub begun-of : (first c d : C) (old : Moment A) (s : ShellState A) (due : List (List ℕ)) (front : List ℕ) (b : Bool)
      → HasTalked shows (since first) c old s due front b → d ≡ c → HasBegun shows (since first) d old
  begun-of first c d old s due front b talk same = (talk.acts, subst (λ (e : C). since first talk.acts e) (sym same) talk.happened, talk.in_turn)

  -- a stretch that began where another ended, and broke off
  pub begun-both : (first c d : C) (old mid : Moment A) (s : ShellState A) (due : List (List ℕ)) (front : List ℕ) (b : Bool)
      → HasTalked shows (since first) c old s due front b → moment s due front b ≡ mid → HasBegun shows (since c) d mid
      → HasBegun shows (since first) d old
  begun-both first c d old mid s due front b one same two = (
    one.acts ++ two.0,
    further first c d one.acts two.0 one.happened two.1,
    in_turn-append shows old one.acts two.0 one.in_turn
        (subst (λ (p : Moment A). AreInTurn shows p two.0) (sym (one.last ∙ same)) two.2),
  )

  -- a stretch that continues with a byte
  pub stretch : (first c d : C) (old : Moment A) (s t : ShellState A) (front last ys rest : List ℕ) (b : ℕ) (due : List (List ℕ)) (over : Bool)
      → HasTalked shows (since first) c old s (cut front ys).lines last false → (cut front ys).front ≡ last → ys ≡ b ∷ rest
      → HasTalked shows (since c) d (at_front s (cut front (b ∷ rest))) t due (cut front (b ∷ rest)).front over
      → HasTalked shows (since first) d old t due last over
  stretch first c d old s t front last ys rest b due over talk same split step =
      subst (λ (f : List ℕ). HasTalked shows (since first) d old t due f over) (ap (λ zs. (cut front zs).front) (sym split) ∙ same)
      (talked-both first c d old (at_front s (cut front (b ∷ rest))) s t (cut front ys).lines due last (cut front (b ∷ rest)).front false over talk
      ((λ i. moment s (cut front ys).lines (sym same i) false) ∙ ap (λ zs. at_front s (cut front zs)) split) step)

  -- a read that gave bytes
  pub talked-read : (first c d : C) (old : Moment A) (s : ShellState A) (front bytes : List ℕ) → 0 < length bytes
      → HasTalked shows (since first) c old s [] front false → since c (Read bytes ∷ []) d
      → HasTalked shows (since first) d old s (cut front bytes).lines (cut front bytes).front false
  talked-read first c d old s front [] some talk happened = absurd (omega (arith, some))
  talked-read first c d old s front (b ∷ bs) some talk happened =
      talked-on first c d old s s [] (cut front (b ∷ bs)).lines front (cut front (b ∷ bs)).front false false (Read (b ∷ bs)) talk happened (refl, refl) refl

  -- the read that found the end of the input
  pub talked-end : (first c d : C) (old : Moment A) (s : ShellState A) (front bytes : List ℕ) → bytes ≡ []
      → HasTalked shows (since first) c old s [] front false → since c (Read bytes ∷ []) d
      → HasTalked shows (since first) d old s (last_lines s front) [] true
  talked-end first c d old s front bytes empty talk happened =
      talked-on first c d old s s [] (last_lines s front) front [] false true (Read []) talk
      (subst (λ (bs : List ℕ). since c (Read bs ∷ []) d) empty happened) (refl, refl) refl

  -- the reply to the first line that is due
  pub talked-line : (first d : C) (s t : ShellState A) (line bytes last : List ℕ) (rest : List (List ℕ)) (b over : Bool)
      → shows s line bytes → since first (Shown bytes ∷ []) d → t ≡ after_line s line → over ≡ quits s line
      → HasTalked shows (since first) d (moment s (line ∷ rest) last b) t (if over then [] else rest) last (b || over)
  talked-line first d s t line bytes last rest b over shown happened same quit = record {
    acts = Shown bytes ∷ [];
    happened = happened;
    in_turn = (shown, tt);
    last = λ i. moment (sym same i) (if sym quit i then [] else rest) last (b || sym quit i);
  }

  -- the same, if it is known whether the line ends the session
  pub talked-last : (first d : C) (s t : ShellState A) (line bytes last : List ℕ) (rest : List (List ℕ)) (b over ends : Bool)
      → shows s line bytes → since first (Shown bytes ∷ []) d → t ≡ after_line s line → over ≡ quits s line → over ≡ ends
      → HasTalked shows (since first) d (moment s (line ∷ rest) last b) t (if ends then [] else rest) last (b || ends)
  talked-last first d s t line bytes last rest b over ends shown happened same quit is =
      subst (λ (v : Bool). HasTalked shows (since first) d (moment s (line ∷ rest) last b) t (if v then [] else rest) last (b || v)) is
      (talked-line first d s t line bytes last rest b over shown happened same quit)

-- a last line that has a byte is due before the end of the input is
pub last-some : {A : Type 0} (s : ShellState A) (line : List ℕ) → false ≡ (length line == 0) → last_lines s line ≡ line ∷ ending (after_line s line)
last-some s [] some = absurd cc
last-some s (b ∷ bs) some = refl

-- a line feed ends a line
pub cut-here : (front : List ℕ) (b : ℕ) (rest : List ℕ) → is_line_feed b ≡ true → with_line front (cut [] rest) ≡ cut front (b ∷ rest)
cut-here front b rest is = ap (λ t. if t then with_line front (cut [] rest) else cut (front ++ b ∷ []) rest) (sym is)

-- a stretch that ends a session
pub dialogue-of : {A C : Type 0} (shows : Shows A) (since : List Act → C → Type 0) (d : C) (s t : ShellState A) (front : List ℕ)
    → HasTalked shows since d (at_start s) t [] front true → (acts : List Act) × since acts d × IsDialogue shows s acts t
dialogue-of shows since d s t front talk = (
  talk.acts,
  talk.happened,
  record {
    in_turn = talk.in_turn;
    session = ap (λ p. p.session) talk.last;
    answered = ap (λ p. p.due) talk.last;
    over = ap (λ p. p.is_over) talk.last;
  },
)
