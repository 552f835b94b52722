-- Alternatives, read part by part.
use Rattle.std.proofs.Common.{◌≡◌, ℕ, suc, Bool, true, false, cond, nat_le, ◌==◌, if◌then◌else◌, min, List, [], ◌∷◌, ◌++◌, ◌+◌, ◌<◌, length, get_or, drop, map, Result, Ok, Err, Option, Some, None, refl, sym, ap, subst, ◌∙◌, arith}
use Rattle.std.specs.List.{slice_split, onto_first}
use Rattle.std.specs.Option.{option_map_or}
use Rattle.std.specs.Result.{IfOk, result_err}
use Rattle.std.proofs.lemmas.Bool.Decides.{nat_tests}
use Rattle.std.proofs.lemmas.List.{append_assoc, at_drop_more}
use Rattle.std.proofs.lemmas.List.Splits.{length-slice_split}
use Rattle.std.proofs.lemmas.Simd.{map-map}
use Rattle.acta_table.specs.declared.event.Event.{Event}
use Rattle.acta_table.specs.declared.model.Parts.{Parts}
use Rattle.acta_script.specs.declared.fault.LineError.{LineError}
use Rattle.acta_script.specs.declared.fault.LineError.TheVariants.{Fault}
use Rattle.acta_script.specs.declared.fault.LineFault.{LineFault}
use Rattle.acta_script.specs.declared.fault.LineFault.TheVariants.{Empty, Word, Arity, Number, Name}
use Rattle.acta_script.specs.Reading.{◌>>=◌, IsWhy, fault_number, lower, both, event_after, is_bar, one_more, alternatives_in, parse_alternatives}

onto-mapped : {X Y : Type 0} (f : X → Y) (x : X) (parts : List (List X)) → map (map f) (onto_first x parts) ≡ onto_first (f x) (map (map f) parts)
onto-mapped f x [] = refl
onto-mapped f x (part ∷ parts) = refl

next-mapped : {X Y : Type 0} (f : X → Y) (x : X) (is_cut : Bool) (parts : List (List X)) (mapped : List (List Y))
    → map (map f) parts ≡ mapped → map (map f) (cond is_cut ([] ∷ parts) (onto_first x parts)) ≡ cond is_cut ([] ∷ mapped) (onto_first (f x) mapped)
next-mapped f x true parts mapped same = ap (λ t. [] ∷ t) same
next-mapped f x false parts mapped same = onto-mapped f x parts ∙ ap (onto_first (f x)) same

-- the parts of a mapped list are the mapped parts
split-mapped : {X Y : Type 0} (p : Y → Bool) (f : X → Y) (xs : List X) → map (map f) (slice_split (λ x. p (f x)) xs) ≡ slice_split p (map f xs)
split-mapped p f [] = refl
split-mapped p f (x ∷ xs) = next-mapped f x (p (f x)) (slice_split (λ x. p (f x)) xs) (slice_split p (map f xs)) (split-mapped p f xs)

-- the same of parts that were collected, each behind a reference
pub split-collected : {R V E X Y : Type 0} (p : Y → Bool) (f : X → Y) (now : R → List X) (items : V → List R) (xs : List X) (r : Result V E)
    → IfOk r (λ v. map now (items v) ≡ slice_split (λ x. p (f x)) xs) → IfOk r (λ v. map (λ part. map f (now part)) (items v) ≡ slice_split p (map f xs))
split-collected p f now items xs (Ok v) same = sym (map-map (map f) now (items v)) ∙ ap (map (map f)) same ∙ split-mapped p f xs
split-collected p f now items xs (Err e) same = same

-- the fault of this number
abbrev fault_at : ℕ → LineFault
fault_at n = if n == 1 then Empty else if n == 2 then Word else if n == 3 then Arity else if n == 4 then Number else Name

numbered-again : (f : LineFault) → fault_at (fault_number f) ≡ f
numbered-again Empty = refl
numbered-again Word = refl
numbered-again Arity = refl
numbered-again Number = refl
numbered-again Name = refl

number-chosen : (b : Bool) (f g : LineFault) → fault_number (cond b f g) ≡ cond b (fault_number f) (fault_number g)
number-chosen true f g = refl
number-chosen false f g = refl

least : (m n : ℕ) → cond (nat_le m n) m n ≡ min m n
least m n = grind (arith, nat_tests)

number-lower : (f g : LineFault) → fault_number (lower f g) ≡ min (fault_number f) (fault_number g)
number-lower f g = number-chosen (nat_le (fault_number f) (fault_number g)) f g ∙ least (fault_number f) (fault_number g)

same-number : (f g : LineFault) → fault_number f ≡ fault_number g → f ≡ g
same-number f g same = sym (numbered-again f) ∙ ap fault_at same ∙ numbered-again g

lower-swapped : (f g : LineFault) → lower g f ≡ lower f g
lower-swapped f g = same-number (lower g f) (lower f g) (omega (arith, number-lower f g, number-lower g f))

lower-across : (f g h : LineFault) → lower g (lower f h) ≡ lower (lower f g) h
lower-across f g h =
    same-number (lower g (lower f h)) (lower (lower f g) h)
    (omega (arith, number-lower g (lower f h), number-lower f h, number-lower (lower f g) h, number-lower f g))

-- the events and the lowest fault so far, combined with those of the remaining parts
abbrev pub with_left : {A : Type 0} → List (Event A) → Option LineFault → Result (List (Event A)) LineFault → Result (List (Event A)) LineFault
with_left events None left = left >>= (λ more. Ok (events ++ more))
with_left events (Some fault) left = Err (option_map_or (lower fault) (result_err left) fault)

-- no part has been read yet
pub begins : {A : Type 0} (events : List (Event A)) (left : Result (List (Event A)) LineFault) → events ≡ [] → with_left events None left ≡ left
begins events (Ok more) none = ap (λ es. Ok (es ++ more)) none
begins events (Err fault) none = refl

-- the next part is an event
pub next-event : {A : Type 0} (events : List (Event A)) (fault : Option LineFault) (event : Event A) (left : Result (List (Event A)) LineFault)
    → with_left events fault (both one_more (Ok event) left) ≡ with_left (events ++ event ∷ []) fault left
next-event events None event (Ok more) = ap Ok (sym (append_assoc events (event ∷ []) more))
next-event events None event (Err f) = refl
next-event events (Some g) event (Ok more) = refl
next-event events (Some g) event (Err f) = refl

-- the next part has a fault
pub next-fault : {A : Type 0} (events : List (Event A)) (fault : Option LineFault) (found : LineFault) (left : Result (List (Event A)) LineFault)
    → with_left events fault (both one_more (Err found) left) ≡ with_left events (Some (option_map_or (lower found) fault found)) left
next-fault events None found (Ok more) = refl
next-fault events None found (Err f) = refl
next-fault events (Some g) found (Ok more) = ap Err (lower-swapped found g)
next-fault events (Some g) found (Err f) = ap Err (lower-across found g f)

module _ {A R : Type 0} (m : Parts A) (view : R → List (List ℕ)) (parts : List R) (i : ℕ) (d : R) (within : i < length parts) (events : List (Event A)) (fault : Option LineFault) (all : Result (List (Event A)) LineFault) (so_far : with_left events fault (alternatives_in m (map view (drop i parts))) ≡ all) where
  abbrev left : Result (List (Event A)) LineFault
  left = alternatives_in m (map view (drop (i + 1) parts))

  begun : with_left events fault (both one_more (event_after m (view (get_or parts i d))) left) ≡ all
  begun = sym (ap (with_left events fault) (at_drop_more (λ ps. alternatives_in m (map view ps)) parts i d within)) ∙ so_far

  -- the result so far with the event of the next part, and the results of the later parts
  pub at-event : (event : Event A) (events_now : List (Event A)) (fault_now : Option LineFault)
      → event_after m (view (get_or parts i d)) ≡ Ok event → events_now ≡ events ++ event ∷ [] → fault_now ≡ fault → with_left events_now fault_now left ≡ all
  at-event event events_now fault_now is events_are fault_is =
      (λ j. with_left (events_are j) (fault_is j) left) ∙ sym (next-event events fault event left)
      ∙ ap (λ parsed. with_left events fault (both one_more parsed left)) (sym is) ∙ begun

  -- the same with its fault
  pub at-fault : (found : LineFault) (why : LineError) (events_now : List (Event A)) (fault_now : Option LineFault)
      → IsWhy (event_after {A = A} m (view (get_or parts i d))) why → why ≡ Fault found → events_now ≡ events → fault_now ≡ Some (option_map_or (lower found) fault found) → with_left events_now fault_now left ≡ all
  at-fault found why events_now fault_now is why_is events_are fault_is =
      (λ j. with_left (events_are j) (fault_is j) left) ∙ sym (next-fault events fault found left)
      ∙ ap (λ parsed. with_left events fault (both one_more parsed left)) (sym (subst (IsWhy (event_after {A = A} m (view (get_or parts i d)))) why_is is)) ∙ begun

one-counted : {A : Type 0} (first : Result (Event A) LineFault) (others : Result (List (Event A)) LineFault) (n : ℕ) (events : List (Event A))
    → ((more : List (Event A)) → others ≡ Ok more → length more ≡ n) → both one_more first others ≡ Ok events → length events ≡ suc n
one-counted (Ok event) (Ok more) n events count is =
    let same : event ∷ more ≡ events = cc in
    sym (ap length same) ∙ ap suc (count more refl)
one-counted (Ok event) (Err f) n events count is = absurd (cc)
one-counted (Err f) (Ok more) n events count is = absurd (cc)
one-counted (Err f) (Err g) n events count is = absurd (cc)

-- if no part has a fault, there is an event for each
counted : {A : Type 0} (m : Parts A) (parts : List (List (List ℕ))) (events : List (Event A)) → alternatives_in m parts ≡ Ok events → length events ≡ length parts
counted m [] events is =
    let same : [] ≡ events = cc in
    sym (ap length same)
counted m (part ∷ parts) events is = one-counted (event_after m part) (alternatives_in m parts) (length parts) events (counted m parts) is

-- the words give at least one alternative, or a fault
pub some-alternative : {A : Type 0} (m : Parts A) (words : List (List ℕ)) (events : List (Event A)) → parse_alternatives m words ≡ Ok events → 0 < length events
some-alternative m words events is =
    omega (arith, counted m (slice_split is_bar words) events is, length-slice_split is_bar words)
