-- Answers of a desk in two consecutive stretches add up.
use Rattle.std.specs.Prelude.{◌≡◌, ℕ, List, [], ◌∷◌, ◌++◌, Result, Ok, Err}
use Rattle.std.proofs.Common.{sym, ◌∙◌, refl, ap, subst, append_assoc, append-nil, arith, length-append}
use Rattle.acta_locked.specs.declared.book.Entry.{Entry}
use Rattle.acta_locked.specs.declared.book.TakeError.{TakeError}
use Rattle.acta_locked.specs.declared.book.TakeError.TheVariants.{BookFull, Memory}
use Rattle.acta_locked.specs.Books.{Entries, entered, with_entries}
use Rattle.acta_locked.specs.Desks.{Counts, Gives, entries_in}

pub book-nothing : {A : Type 0} (b : Entries A) → b ≡ with_entries b []
book-nothing b = λ i. record b { entries = sym (append-nil b.entries) i }

pub book-further : {A : Type 0} (b c d : Entries A) (xs ys : List (Entry A)) → c ≡ with_entries b xs
    → d ≡ with_entries c ys → d ≡ with_entries b (xs ++ ys)
book-further b c d xs ys p q =
    q ∙ (λ i. with_entries (p i) ys) ∙ (λ i. record b { entries = append_assoc b.entries xs ys i })

pub count-nothing : {A : Type 0} (parts amount : ℕ) → Counts {A = A} parts amount [] parts amount
count-nothing parts amount = record { cut = refl; counted = omega arith }

pub count-further : {A : Type 0} (p a q b r c : ℕ) (xs ys : List (Entry A)) → Counts p a xs q b → Counts q b ys r c
    → Counts p a (xs ++ ys) r c
count-further p a q b r c xs ys one two = record {
  cut = two.cut ∙ one.cut;
  counted = let x = one.counted in let y = two.counted in omega (arith, x, y, length-append xs ys);
}

pub gives-nothing : {A : Type 0} (b : Entries A) → Gives b [] b
gives-nothing b = refl

pub gives-further : {A : Type 0} (b c d : Entries A) (xs ys : List (Result (Entry A) TakeError)) → Gives b xs c
    → Gives c ys d → Gives b (xs ++ ys) d
gives-further b c d [] ys p q = subst (λ b. Gives b ys d) p q
gives-further b c d (Ok e ∷ xs) ys p q = gives-further (entered b e) c d xs ys p q
gives-further b c d (Err BookFull ∷ xs) ys p q = (p.0, gives-further b c d xs ys p.1 q)
gives-further b c d (Err Memory ∷ xs) ys p q = gives-further b c d xs ys p q

pub entries_in-append : {A : Type 0} (xs ys : List (Result (Entry A) TakeError))
    → entries_in (xs ++ ys) ≡ entries_in xs ++ entries_in ys
entries_in-append [] ys = refl
entries_in-append (Ok e ∷ xs) ys = ap (λ es. e ∷ es) (entries_in-append xs ys)
entries_in-append (Err _ ∷ xs) ys = entries_in-append xs ys

pub counts-nothing : {A : Type 0} (parts amount : ℕ) → Counts {A = A} parts amount (entries_in []) parts amount
counts-nothing parts amount = count-nothing parts amount

pub counts-further : {A : Type 0} (p a q b r c : ℕ) (xs ys : List (Result (Entry A) TakeError))
    → Counts p a (entries_in xs) q b → Counts q b (entries_in ys) r c → Counts p a (entries_in (xs ++ ys)) r c
counts-further p a q b r c xs ys one two = subst (λ es. Counts p a es r c) (sym (entries_in-append xs ys))
    (count-further p a q b r c (entries_in xs) (entries_in ys) one two)
