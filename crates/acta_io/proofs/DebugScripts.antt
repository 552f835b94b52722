-- Lines up to the first faulty one, where the line `--` is no fault but ends them.
use Rattle.std.proofs.Common.{◌≡◌, ℕ, zero, suc, ◌+◌, ◌-◌, ◌<◌, ◌≤◌, List, [], ◌∷◌, length, take, drop, cond, not, sym, ap, ◌∙◌, refl, arith}
use Rattle.std.specs.Prelude.{Bool, true, false, ◌==◌, codes, Option, Some, None, Result, Ok, Err}
use Rattle.std.specs.List.{position_or_len}
use Rattle.std.specs.Option.{option_map_or}
use Rattle.std.proofs.lemmas.List.{drop-drop, drop_all, take_all}
use Rattle.std.proofs.lemmas.Slice.Eq.{bytes_eq-Decides}
use Rattle.acta_table.specs.declared.event.Event.{Event}
use Rattle.acta_table.specs.declared.model.Parts.{Parts}
use Rattle.acta_words.specs.Text.{lines_of, words_of}
use Rattle.acta_script.specs.Commands.{command_of}
use Rattle.acta_script.specs.Reading.{event_of, parse_event}
use Rattle.acta_script.specs.declared.commands.DebugCommand.{DebugCommand}
use Rattle.acta_script.specs.declared.fault.LineFault.{LineFault}
use Rattle.acta_script.specs.declared.fault.LineFault.TheVariants.{Word}
use Rattle.acta_io.specs.declared.input.BadLine.{BadLine}
use Rattle.acta_io.specs.Input.{Parsed, parsed_by, parsed_from, parsed_in, with_line}
use Rattle.acta_io.specs.Sections.{ends_events, is_sign, script_commands, script_events}
use Rattle.acta_io.specs.inside.Sections.{commands_from}

-- the number of a line, if one stopped
abbrev number_or : ℕ → Option BadLine → ℕ
number_or n stop = option_map_or (λ b. b.line) stop n

-- a line with the number n, before the results of the lines after it
module _ {X : Type 0} (n : ℕ) (r : Parsed X) where
  -- who is stopped is stopped here or further on
  not_before : (s : Option (Result X LineFault)) (b : BadLine) → (with_line n s r).stop ≡ Some b → (r.stop ≡ Some b → n + 1 ≤ b.line) → n ≤ b.line
  not_before None b h more = let later = more h in omega (arith, later)
  not_before (Some (Ok x)) b h more = let later = more h in omega (arith, later)
  not_before (Some (Err fault)) b h more = let same : n ≡ b.line = ap (number_or 0) h in omega (arith, same)

  -- who isn't stopped is stopped by no line
  unstopped : (s : Option (Result X LineFault)) → (with_line n s r).stop ≡ None → r.stop ≡ None
  unstopped None h = h
  unstopped (Some (Ok x)) h = h
  unstopped (Some (Err fault)) h = cc

  -- who is stopped further on is stopped by one of the others
  later : (s : Option (Result X LineFault)) (b : BadLine) → (with_line n s r).stop ≡ Some b → n < b.line → r.stop ≡ Some b
  later None b h lt = h
  later (Some (Ok x)) b h lt = h
  later (Some (Err fault)) b h lt = let same : n ≡ b.line = ap (number_or 0) h in absurd (omega (arith, same, lt))

  -- and says the same where these end before that
  unended : (s : Option (Result X LineFault)) (b : BadLine) → (with_line n s r).stop ≡ Some b → n < b.line → with_line n s (record { parsed = r.parsed; stop = None }) ≡ record { parsed = (with_line n s r).parsed; stop = None }
  unended None b h lt = refl
  unended (Some (Ok x)) b h lt = refl
  unended (Some (Err fault)) b h lt = let same : n ≡ b.line = ap (number_or 0) h in absurd (omega (arith, same, lt))

  -- where this line stops them, the others make no difference
  stopped : (s : Option (Result X LineFault)) (others : Parsed X) (b : BadLine) → (with_line n s r).stop ≡ Some b → b.line ≡ n → (r.stop ≡ Some b → n + 1 ≤ b.line) → with_line n s others ≡ with_line n s r
  stopped None others b h at more = let further = more h in absurd (omega (arith, further, at))
  stopped (Some (Ok x)) others b h at more = let further = more h in absurd (omega (arith, further, at))
  stopped (Some (Err fault)) others b h at more = refl

-- whether the first of some lines passes the test
abbrev pub begins_with : (List ℕ → Bool) → List (List ℕ) → Bool
begins_with ends [] = false
begins_with ends (line ∷ lines) = ends line

-- lines that are read, and a test of lines that say nothing
module _ {X : Type 0} (read : List ℕ → Result X LineFault) (ends : List ℕ → Bool) (strange : (line : List ℕ) → ends line ≡ true → parsed_by read line ≡ Some (Err Word)) where
  -- the number of the line that stops them is no lower than that of the first
  pub numbered : (n : ℕ) (lines : List (List ℕ)) (b : BadLine) → (parsed_from read n lines).stop ≡ Some b → n ≤ b.line
  numbered n [] b h = cc
  numbered n (x ∷ xs) b h = not_before n (parsed_from read (n + 1) xs) (parsed_by read x) b h (numbered (n + 1) xs b)

  -- a line that doesn't stop them, or not here, doesn't pass
  by_test : (n : ℕ) (x : List ℕ) (r : Parsed X) (o : Option BadLine) → (with_line n (parsed_by read x) r).stop ≡ o → (Some (record { line = n; fault = Word }) ≡ o → ⊥) → (p : Bool) → ends x ≡ p → ends x ≡ false
  by_test n x r o h other false is = is
  by_test n x r o h other true is = absurd (other (sym (ap (λ (s : Option (Result X LineFault)). (with_line n s r).stop) (strange x is)) ∙ h))

  fails : (n : ℕ) (x : List ℕ) (r : Parsed X) (b : BadLine) → (with_line n (parsed_by read x) r).stop ≡ Some b → n < b.line → ends x ≡ false
  fails n x r b h lt = by_test n x r (Some b) h (λ e. let same : n ≡ b.line = ap (number_or 0) e in omega (arith, same, lt)) (ends x) refl

  one_more : (k : ℕ) → 1 + k ≡ suc k
  one_more k = omega arith

  -- one line more before the first that passes
  first_later : (x : List ℕ) (xs : List (List ℕ)) → ends x ≡ false → position_or_len ends (x ∷ xs) ≡ suc (position_or_len ends xs)
  first_later x xs failing = ap (λ (t : Bool). cond (not t) (1 + position_or_len ends xs) 0) failing ∙ one_more (position_or_len ends xs)

  -- where no line stops them, none passes
  pub none_ends : (n : ℕ) (lines : List (List ℕ)) → (parsed_from read n lines).stop ≡ None → position_or_len ends lines ≡ length lines
  none_ends n [] h = refl
  none_ends n (x ∷ xs) h =
      let r = parsed_from read (n + 1) xs in
      let rest = none_ends (n + 1) xs (unstopped n r (parsed_by read x) h) in
      first_later x xs (by_test n x r None h (λ e. cc) (ends x) refl) ∙ ap (λ (k : ℕ). suc k) rest

  -- where the one that stops them passes, it is the first that does, and those before it say what all say
  pub ends_here : (n i : ℕ) (lines : List (List ℕ)) (line : List ℕ) (rest : List (List ℕ)) (b : BadLine) → (parsed_from read n lines).stop ≡ Some b → b.line ≡ n + i → drop i lines ≡ line ∷ rest → ends line ≡ true
      → (position_or_len ends lines ≡ i) × (parsed_from read n (take (position_or_len ends lines) lines) ≡ record { parsed = (parsed_from read n lines).parsed; stop = None })
  ends_here n i [] line rest b h at there passes = cc
  ends_here n zero (x ∷ xs) line rest b h at there passes =
      let here : x ≡ line = cc in
      let sign : ends x ≡ true = ap ends here ∙ passes in
      let first : position_or_len ends (x ∷ xs) ≡ 0 = ap (λ (t : Bool). cond (not t) (1 + position_or_len ends xs) 0) sign in
      let none : (with_line n (parsed_by read x) (parsed_from read (n + 1) xs)).parsed ≡ [] = ap (λ (s : Option (Result X LineFault)). (with_line n s (parsed_from read (n + 1) xs)).parsed) (strange x sign) in (
        first,
        ap (λ (k : ℕ). parsed_from read n (take k (x ∷ xs))) first ∙ (λ j. record { parsed = sym none j; stop = None }),
      )
  ends_here n (suc i) (x ∷ xs) line rest b h at there passes =
      let r = parsed_from read (n + 1) xs in
      let lt : n < b.line = omega (arith, at) in
      let next = ends_here (n + 1) i xs line rest b (later n r (parsed_by read x) b h lt) (omega (arith, at)) there passes in
      let first = first_later x xs (fails n x r b h lt) in (
        first ∙ ap (λ (k : ℕ). suc k) next.0,
        ap (λ (k : ℕ). parsed_from read n (take k (x ∷ xs))) first ∙ ap (with_line n (parsed_by read x)) next.1 ∙ unended n r (parsed_by read x) b h lt,
      )

  -- where it doesn't pass, those before the first that does say what all say
  pub goes_past : (n i : ℕ) (lines : List (List ℕ)) (b : BadLine) → (parsed_from read n lines).stop ≡ Some b → b.line ≡ n + i → begins_with ends (drop i lines) ≡ false → parsed_from read n (take (position_or_len ends lines) lines) ≡ parsed_from read n lines
  goes_past n i [] b h at failing = cc
  goes_past n zero (x ∷ xs) b h at failing =
      let r = parsed_from read (n + 1) xs in
      ap (λ (k : ℕ). parsed_from read n (take k (x ∷ xs))) (first_later x xs failing)
      ∙ stopped n r (parsed_by read x) (parsed_from read (n + 1) (take (position_or_len ends xs) xs)) b h (omega (arith, at)) (numbered (n + 1) xs b)
  goes_past n (suc i) (x ∷ xs) b h at failing =
      let r = parsed_from read (n + 1) xs in
      let lt : n < b.line = omega (arith, at) in
      let next = goes_past (n + 1) i xs b (later n r (parsed_by read x) b h lt) (omega (arith, at)) failing in
      ap (λ (k : ℕ). parsed_from read n (take k (x ∷ xs))) (first_later x xs (fails n x r b h lt)) ∙ ap (with_line n (parsed_by read x)) next

-- the word `--` is no event
no_event : {A : Type 0} (m : Parts A) (words : List (List ℕ)) → is_sign words ≡ true → cond (length words == 0) None (Some (parse_event m words)) ≡ Some (Err Word)
unfolding parse_event
no_event m [] is = cc
no_event m (word ∷ []) is =
    let same : word ≡ codes "--" = (bytes_eq-Decides word (codes "--")).0 is in
    ap (λ (w : List ℕ). Some (parse_event m (w ∷ []))) same
no_event m (word ∷ other ∷ words) is = cc

strange : {A : Type 0} (m : Parts A) (line : List ℕ) → ends_events line ≡ true → parsed_by (event_of m) line ≡ Some (Err Word)
strange m line is = no_event m (words_of line) is

module _ {A : Type 0} (m : Parts A) (input : List ℕ) (events : List (Event A)) where
  abbrev lines : List (List ℕ)
  lines = lines_of input

  -- the place of the line that ends the events, or of the end
  abbrev end : ℕ
  end = position_or_len ends_events lines

  -- no line stops the events: so none ends them, and there are no commands
  module _ (parsed : parsed_in (event_of m) input ≡ record { parsed = events; stop = None }) where
    none : end ≡ length lines
    unfolding parsed_in
    none = none_ends (event_of m) ends_events (strange m) 1 lines (ap (λ (s : Parsed (Event A)). s.stop) parsed)

    pub all_events : record { parsed = events; stop = None } ≡ script_events m input
    unfolding parsed_in script_events
    all_events =
        let front : take end lines ≡ lines = ap (λ (k : ℕ). take k lines) none ∙ take_all (length lines) lines (omega arith) in
        sym (ap (parsed_from (event_of m) 1) front ∙ parsed)

    pub no_commands : record { parsed = []; stop = None } ≡ script_commands m input
    unfolding script_commands
    no_commands =
        let behind : drop (end + 1) lines ≡ [] = ap (λ (k : ℕ). drop (k + 1) lines) none ∙ drop_all (length lines + 1) lines (omega arith) in
        sym (ap (parsed_from (command_of m) (end + 2)) behind)

  -- a line stops the events
  module _ (b : BadLine) (parsed : parsed_in (event_of m) input ≡ record { parsed = events; stop = Some b }) where
    stops : (parsed_from (event_of m) 1 lines).stop ≡ Some b
    unfolding parsed_in
    stops = ap (λ (s : Parsed (Event A)). s.stop) parsed

    events_are : (parsed_from (event_of m) 1 lines).parsed ≡ events
    unfolding parsed_in
    events_are = ap (λ (s : Parsed (Event A)). s.parsed) parsed

    pub has_number : 1 ≤ b.line
    has_number = numbered (event_of m) ends_events (strange m) 1 lines b stops

    place : b.line ≡ 1 + (b.line - 1)
    place = let one = has_number in omega (arith, one)

    -- it doesn't end them: so it is faulty
    refused : begins_with ends_events (drop (b.line - 1) lines) ≡ false → record { parsed = events; stop = Some b } ≡ script_events m input
    unfolding parsed_in script_events
    refused failing =
        sym (goes_past (event_of m) ends_events (strange m) 1 (b.line - 1) lines b stops place failing ∙ parsed)

    -- it does
    module _ (line : List ℕ) (rest : List (List ℕ)) (is : drop (b.line - 1) lines ≡ line ∷ rest) (passes : ends_events line ≡ true) where
      abbrev found : (end ≡ b.line - 1) × (parsed_from (event_of m) 1 (take end lines) ≡ record { parsed = (parsed_from (event_of m) 1 lines).parsed; stop = None })
      found = ends_here (event_of m) ends_events (strange m) 1 (b.line - 1) lines line rest b stops place is passes

      ended_events : record { parsed = events; stop = None } ≡ script_events m input
      unfolding script_events
      ended_events = sym (found.1 ∙ (λ i. record { parsed = events_are i; stop = None }))

      ended_commands : parsed_from (command_of m) (b.line + 1) rest ≡ script_commands m input
      unfolding script_commands
      ended_commands =
          let at : end + 2 ≡ b.line + 1 = let first = found.0 in let one = has_number in omega (arith, first, one) in
          let behind : drop (end + 1) lines ≡ rest = ap (λ (k : ℕ). drop (k + 1) lines) found.0 ∙ sym (drop-drop 1 (b.line - 1) lines) ∙ ap (drop 1) is in
          sym (λ i. parsed_from (command_of m) (at i) (behind i))

    -- by the lines that are left, no commands were found: so the line is faulty
    pub faulty_events : (left : List (List ℕ)) → drop (b.line - 1) lines ≡ left → commands_from m b.line left ≡ None → record { parsed = events; stop = Some b } ≡ script_events m input
    faulty_events [] is found = refused (ap (begins_with ends_events) is)
    faulty_events (line ∷ rest) is found = by_sign (ends_events line) refl found
      where
        by_sign : (p : Bool) → ends_events line ≡ p → cond p (Some (parsed_from (command_of m) (b.line + 1) rest)) None ≡ None → record { parsed = events; stop = Some b } ≡ script_events m input
        by_sign true passes found = cc
        by_sign false failing found = refused (ap (begins_with ends_events) is ∙ failing)

    -- by them commands were found
    pub found_commands : (commands : Parsed DebugCommand) (left : List (List ℕ)) → drop (b.line - 1) lines ≡ left → commands_from m b.line left ≡ Some commands
        → (record { parsed = events; stop = None } ≡ script_events m input) × (commands ≡ script_commands m input)
    found_commands commands [] is found = cc
    found_commands commands (line ∷ rest) is found = by_sign (ends_events line) refl found
      where
        by_sign : (p : Bool) → ends_events line ≡ p → cond p (Some (parsed_from (command_of m) (b.line + 1) rest)) None ≡ Some commands
            → (record { parsed = events; stop = None } ≡ script_events m input) × (commands ≡ script_commands m input)
        by_sign false failing found = cc
        by_sign true passes found =
            let same : parsed_from (command_of m) (b.line + 1) rest ≡ commands = cc in (
              ended_events line rest is passes,
              sym same ∙ ended_commands line rest is passes,
            )
