-- A book stays a run as it grows.
use Rattle.std.proofs.Common.{◌≡◌, ℕ, zero, suc, ◌+◌, ◌<◌, List, [], ◌∷◌, ◌++◌, length, refl, ap, sym, ◌∙◌, arith, length-append, subst}
use Rattle.std.specs.Prelude.{Result, Ok, Err, IfOk}
use Rattle.std.proofs.lemmas.List.{map-append}
use Rattle.std.specs.List.{range_with_len}
use Rattle.acta_table.specs.declared.answer.Answer.{Answer}
use Rattle.acta_table.specs.declared.event.Event.{Event}
use Rattle.acta_machine.specs.Places.{FollowsPlaces}
use Rattle.acta_table.specs.declared.limits.TheConstants.{MOST_EVENTS}
use Rattle.acta_machine.specs.Table.{State, fresh, answer_to, after, answers_to, after_all}
use Rattle.acta_machine.proofs.Runs.{model-after}
use Rattle.acta_locked.specs.declared.book.Entry.{Entry}
use Rattle.acta_table.specs.declared.model.Parts.{Parts}
use Rattle.acta_locked.specs.Books.{Entries, IsRun, events_of, entry_of, entered}
use Rattle.acta_locked.specs.Desks.{IsOfSomeRun}
use Rattle.acta_locked.specs.inside.Shown.{IsMachineOf}

after_all-more : {A : Type 0} (s : State A) (es : List (Event A)) (e : Event A) → after_all s (es ++ e ∷ []) ≡ after (after_all s es) e
after_all-more s [] e = refl
after_all-more s (x ∷ es) e = after_all-more (after s x) es e

answers_to-more : {A : Type 0} (s : State A) (es : List (Event A)) (e : Event A) → answers_to s (es ++ e ∷ []) ≡ answers_to s es ++ answer_to (after_all s es) e ∷ []
answers_to-more s [] e = refl
answers_to-more s (x ∷ es) e = ap (λ (l : List Answer). answer_to s x ∷ l) (answers_to-more (after s x) es e)

range-more : (n a : ℕ) → range_with_len a (n + 1) ≡ range_with_len a n ++ (a + n) ∷ []
range-more zero a = grind arith
range-more (suc n) a = grind (arith, range-more n (a + 1))

-- a book with one more entry is a run
run-grows : {A : Type 0} (b : Entries A) (seat : ℕ) (event : Event A) → IsRun b → length b.entries < MOST_EVENTS → IsRun (entered b (entry_of b seat event))
run-grows {A} b seat event run room =
    let es = b.entries in
    let e = entry_of b seat event in
    record {
      numbered = map-append (λ (x : Entry A). x.number) es (e ∷ []) ∙ (ap (λ (l : List ℕ). l ++ (length es + 1) ∷ []) run.numbered ∙ (grind (arith, range-more (length es) 1, length-append es (e ∷ []))));
      answered = map-append (λ (x : Entry A). x.answer) es (e ∷ []) ∙ (ap (λ (l : List Answer). l ++ e.answer ∷ []) run.answered ∙ (sym (answers_to-more (fresh b.model) (events_of es) event) ∙ ap (answers_to (fresh b.model)) (sym (map-append (λ (x : Entry A). x.event) es (e ∷ [])))));
      within = omega (arith, length-append es (e ∷ []));
    }

-- and its machine is the next
pub kept-grows : {A : Type 0} (s t : State A) (b : Entries A) (seat : ℕ) (event : Event A) → IsMachineOf s b → length b.entries < MOST_EVENTS → t ≡ after s event → FollowsPlaces t → IsMachineOf t (entered b (entry_of b seat event))
kept-grows {A} s t b seat event kept room next follows = record {
  run = run-grows b seat event kept.run room;
  shows = next ∙ ap (λ (x : State A). after x event) kept.shows ∙ sym (ap (after_all (fresh b.model)) (map-append (λ (x : Entry A). x.event) b.entries (entry_of b seat event ∷ [])) ∙ after_all-more (fresh b.model) (events_of b.entries) event);
  follows = follows;
}

-- a new book satisfies its invariant
pub kept-opened : {A : Type 0} (m : Parts A) (s : State A) (es : List (Entry A)) → s ≡ fresh m → es ≡ [] → FollowsPlaces s → IsMachineOf s (record { model = s.model; entries = es })
kept-opened {A} m s es is none follows =
    let start : IsMachineOf (fresh m) (record { model = m; entries = [] }) = record {
      run = record { numbered = refl; answered = refl; within = omega arith };
      shows = refl;
      follows = subst FollowsPlaces is follows;
    } in
    subst (λ (x : List (Entry A)). IsMachineOf s (record { model = s.model; entries = x })) (sym none)
    (subst (λ (x : State A). IsMachineOf x (record { model = x.model; entries = [] })) (sym is) start)

-- the entry that a call pushes
abbrev pub pushed : {A : Type 0} → ℕ → ℕ → Event A → Answer → Entry A
pushed made seat event answer = record { number = made + 1; seat = seat; event = event; answer = answer }

module _ {A : Type 0} (s t : State A) (es roomy grown : List (Entry A)) (made seat : ℕ) (event kept : Event A) (answer : Answer)
    (counted : made ≡ length es) (copied : kept ≡ event) (answered : answer ≡ answer_to s event) (next : t ≡ after s event)
    (reserved : roomy ≡ es) (push-more : grown ≡ roomy ++ pushed made seat kept answer ∷ []) where
  push : grown ≡ es ++ pushed made seat kept answer ∷ []
  push = push-more ∙ ap (λ (l : List (Entry A)). l ++ pushed made seat kept answer ∷ []) reserved

  model-same : t.model ≡ s.model
  model-same = ap (λ (x : State A). x.model) next ∙ model-after s event

  abbrev pub before : Entries A
  before = record { model = s.model; entries = es }

  grown-book : IsMachineOf s before → record { model = t.model; entries = grown } ≡ entered before (entry_of before seat event)
  grown-book inside =
      let entry : pushed made seat kept answer ≡ entry_of before seat event =
      λ i. pushed (counted i) seat (copied i) ((answered ∙ ap (λ (x : State A). answer_to x event) inside.shows) i) in
      λ i. record { model = model-same i; entries = (push ∙ ap (λ (x : Entry A). es ++ x ∷ []) entry) i }

  -- the book after a call satisfies its invariant
  pub take-kept : IsMachineOf s before → (b : Entries A) → before ≡ b → length b.entries < MOST_EVENTS → FollowsPlaces t → IsMachineOf t (record { model = t.model; entries = grown })
  take-kept inside b view room follows =
      let free : length es < MOST_EVENTS = subst (λ (x : Entries A). length x.entries < MOST_EVENTS) (sym view) room in
      subst (λ (x : Entries A). IsMachineOf t x) (sym (grown-book inside)) (kept-grows s t before seat event inside free next follows)

  -- and is the book with the entry that is due
  pub take-adds : IsMachineOf s before → (b : Entries A) → before ≡ b → record { model = t.model; entries = grown } ≡ entered b (entry_of b seat event)
  take-adds inside b view = grown-book inside ∙ ap (λ (x : Entries A). entered x (entry_of x seat event)) view

-- an entry that a book adds is that of a run
pub of-some-run : {A E : Type 0} (r : Result (Entry A) E) (m : Parts A) (seat : ℕ) (event : Event A) (b grown : Entries A) → b.model ≡ m → IfOk r (λ e. e ≡ entry_of b seat event) → IfOk r (λ e. grown ≡ entered b e) → IsRun grown → IfOk r (IsOfSomeRun m seat event)
of-some-run (Ok e) m seat event b grown of is more run = (b, of, is, subst IsRun more run)
of-some-run (Err x) m seat event b grown of is more run = tt
