-- A reader and a writer as a console.
use Rattle.std.specs.Prelude.{◌≡◌, ⊤, ℕ, Bool, true, false, ◌||◌, List, [], ◌∷◌, ◌++◌, Option, Some, None}
use Rattle.std.specs.Io.KnownBytes.{Appends, Consumes, IsAtEnd}
use Rattle.std.proofs.Common.{refl, sym, ◌∙◌, ap, append_assoc, append-nil, subst}
use Rattle.acta_session.specs.Dialogues.{Act, Read, Shown}

abbrev pub bytes_read : List Act → List ℕ
bytes_read [] = []
bytes_read (Read bytes ∷ acts) = bytes ++ bytes_read acts
bytes_read (Shown bytes ∷ acts) = bytes_read acts

abbrev pub bytes_shown : List Act → List ℕ
bytes_shown [] = []
bytes_shown (Read bytes ∷ acts) = bytes_shown acts
bytes_shown (Shown bytes ∷ acts) = bytes ++ bytes_shown acts

-- whether the end of the input was read
abbrev pub has_ended : List Act → Bool
has_ended [] = false
has_ended (Read [] ∷ acts) = true
has_ended (Read (b ∷ bs) ∷ acts) = has_ended acts
has_ended (Shown bytes ∷ acts) = has_ended acts

-- if the bytes left are known, none is left at last
abbrev pub IsUsedUp : Option (List ℕ) → Option (List ℕ) → Type 0
IsUsedUp None last = ⊤
IsUsedUp (Some xs) last = IsAtEnd last

-- the effect of the acts on the bytes that the reader has left and that the writer holds, if those are known
pub record IsSince (left held : Option (List ℕ)) (acts : List Act) (left_last held_last : Option (List ℕ)) : Type 0 where
  pub read : Consumes left left_last (bytes_read acts)
  pub shown : Appends held held_last (bytes_shown acts)
  pub ended : has_ended acts ≡ true → IsUsedUp left left_last

appends-nothing : (held : Option (List ℕ)) → Appends held held []
appends-nothing None = tt
appends-nothing (Some xs) = sym (append-nil xs)

consumes-nothing : (left : Option (List ℕ)) → Consumes left left []
consumes-nothing None = tt
consumes-nothing (Some xs) = refl

pub since-nothing : (left held : Option (List ℕ)) → IsSince left held [] left held
since-nothing left held = record { read = consumes-nothing left; shown = appends-nothing held; ended = λ h. absurd (cc) }

read-both : (xs ys : List Act) → bytes_read (xs ++ ys) ≡ bytes_read xs ++ bytes_read ys
read-both [] ys = refl
read-both (Read bytes ∷ xs) ys = ap (λ bs. bytes ++ bs) (read-both xs ys) ∙ sym (append_assoc bytes (bytes_read xs) (bytes_read ys))
read-both (Shown bytes ∷ xs) ys = read-both xs ys

shown-both : (xs ys : List Act) → bytes_shown (xs ++ ys) ≡ bytes_shown xs ++ bytes_shown ys
shown-both [] ys = refl
shown-both (Read bytes ∷ xs) ys = shown-both xs ys
shown-both (Shown bytes ∷ xs) ys = ap (λ bs. bytes ++ bs) (shown-both xs ys) ∙ sym (append_assoc bytes (bytes_shown xs) (bytes_shown ys))

ended-both : (xs ys : List Act) → has_ended (xs ++ ys) ≡ (has_ended xs || has_ended ys)
ended-both [] ys = refl
ended-both (Read [] ∷ xs) ys = refl
ended-both (Read (b ∷ bs) ∷ xs) ys = ended-both xs ys
ended-both (Shown bytes ∷ xs) ys = ended-both xs ys

consumes-both : (left mid last : Option (List ℕ)) (xs ys : List ℕ) → Consumes left mid xs → Consumes mid last ys → Consumes left last (xs ++ ys)
consumes-both None mid last xs ys first second = tt
consumes-both (Some bs) None last xs ys first second = absurd first
consumes-both (Some bs) (Some cs) None xs ys first second = second
consumes-both (Some bs) (Some cs) (Some ds) xs ys first second = first ∙ ap (λ t. xs ++ t) second ∙ sym (append_assoc xs ys ds)

appends-both : (held mid last : Option (List ℕ)) (xs ys : List ℕ) → Appends held mid xs → Appends mid last ys → Appends held last (xs ++ ys)
appends-both None mid last xs ys first second = tt
appends-both (Some bs) None last xs ys first second = absurd first
appends-both (Some bs) (Some cs) None xs ys first second = second
appends-both (Some bs) (Some cs) (Some ds) xs ys first second = second ∙ ap (λ t. t ++ ys) first ∙ append_assoc bs xs ys

empty-back : (xs ys : List ℕ) → [] ≡ xs ++ ys → ys ≡ []
empty-back [] ys h = sym h
empty-back (x ∷ xs) ys h = cc

-- once no byte is left, none comes back
stays-used : (left mid last : Option (List ℕ)) (xs ys : List ℕ) → Consumes left mid xs → Consumes mid last ys → IsUsedUp left mid → IsUsedUp left last
stays-used None mid last xs ys first second used = tt
stays-used (Some bs) None last xs ys first second used = absurd first
stays-used (Some bs) (Some cs) None xs ys first second used = tt
stays-used (Some bs) (Some cs) (Some ds) xs ys first second used = empty-back ys ds (sym used ∙ second)

used-later : (left mid last : Option (List ℕ)) (xs : List ℕ) → Consumes left mid xs → IsUsedUp mid last → IsUsedUp left last
used-later None mid last xs first used = tt
used-later (Some bs) None last xs first used = absurd first
used-later (Some bs) (Some cs) last xs first used = used

ended-further : (a b : Bool) (left mid last : Option (List ℕ)) (xs ys : List ℕ) → Consumes left mid xs → Consumes mid last ys
    → (a ≡ true → IsUsedUp left mid) → (b ≡ true → IsUsedUp mid last) → (a || b) ≡ true → IsUsedUp left last
ended-further true b left mid last xs ys first second one two is = stays-used left mid last xs ys first second (one refl)
ended-further false b left mid last xs ys first second one two is = used-later left mid last xs first (two is)

pub since-further : (left held left_mid held_mid left_last held_last : Option (List ℕ)) (xs ys : List Act)
    → IsSince left held xs left_mid held_mid → IsSince left_mid held_mid ys left_last held_last
    → IsSince left held (xs ++ ys) left_last held_last
since-further left held left_mid held_mid left_last held_last xs ys first second = record {
  read = subst (Consumes left left_last) (sym (read-both xs ys)) (consumes-both left left_mid left_last (bytes_read xs) (bytes_read ys) first.read second.read);
  shown = subst (Appends held held_last) (sym (shown-both xs ys)) (appends-both held held_mid held_last (bytes_shown xs) (bytes_shown ys) first.shown second.shown);
  ended = λ h. ended-further (has_ended xs) (has_ended ys) left left_mid left_last (bytes_read xs) (bytes_read ys) first.read second.read first.ended second.ended (sym (ended-both xs ys) ∙ h);
}
