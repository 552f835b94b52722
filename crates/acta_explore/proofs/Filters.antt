-- Tests of the operations on one object, and changes that keep objects.
use Rattle.std.proofs.Common.{◌≡◌, ℕ, Bool, true, false, List, [], ◌∷◌, ◌++◌, map, filter, length, Option, None, refl, sym, ap, ◌∙◌}
use Rattle.std.specs.List.{filter_map, cons_option}
use Rattle.std.proofs.lemmas.List.Elements.{filter-append}
use Rattle.acta_sets.specs.declared.held_op.HeldOp.{HeldOp}
use Rattle.acta_explore.specs.declared.key.LineOp.{LineOp}
use Rattle.acta_explore.specs.Equivalence.{by_line, is_on, AreSameByObject}
use Rattle.acta_explore.proofs.Tagged.{held-by_line}

within-step : {X : Type 0} (p q : X → Bool) (x : X) (xs : List X) → filter q xs ≡ filter q (filter p xs) → (b : Bool) → p x ≡ b → (b ≡ false → q x ≡ false) → filter q (x ∷ xs) ≡ filter q (filter p (x ∷ xs))
within-step p q x xs ih true e h = rw (e, ih)
within-step p q x xs ih false e h = rw (e, h refl) ih

-- a test that only those pass that pass another leaves of these what it leaves of all
filter-within : {X : Type 0} (p q : X → Bool) → ((x : X) → p x ≡ false → q x ≡ false) → (xs : List X) → filter q xs ≡ filter q (filter p xs)
filter-within p q h [] = refl
filter-within p q h (x ∷ xs) = within-step p q x xs (filter-within p q h xs) (p x) refl (h x)

map-step : {X Y : Type 0} (p : X → Bool) (h : X → Option Y) (x : X) (xs : List X) → filter_map h xs ≡ filter_map h (filter p xs) → (b : Bool) → p x ≡ b → (b ≡ false → h x ≡ None) → filter_map h (x ∷ xs) ≡ filter_map h (filter p (x ∷ xs))
map-step p h x xs ih true e n = rw (e, ih)
map-step p h x xs ih false e n = rw (e, n refl) ih

filter_map-within : {X Y : Type 0} (p : X → Bool) (h : X → Option Y) → ((x : X) → p x ≡ false → h x ≡ None) → (xs : List X) → filter_map h xs ≡ filter_map h (filter p xs)
filter_map-within p h n [] = refl
filter_map-within p h n (x ∷ xs) = map-step p h x xs (filter_map-within p h n xs) (p x) refl (n x)

mapped-step : {X : Type 0} (p : X → Bool) (f : X → X) (x : X) (xs : List X) → filter p (map f xs) ≡ map f (filter p xs) → (b : Bool) → p x ≡ b → p (f x) ≡ b → filter p (map f (x ∷ xs)) ≡ map f (filter p (x ∷ xs))
mapped-step p f x xs ih true e k = rw (e, k, ih)
mapped-step p f x xs ih false e k = rw (e, k) ih

-- a change that leaves the test comes first or last
filter-map : {X : Type 0} (p : X → Bool) (f : X → X) → ((x : X) → p (f x) ≡ p x) → (xs : List X) → filter p (map f xs) ≡ map f (filter p xs)
filter-map p f k [] = refl
filter-map p f k (x ∷ xs) = mapped-step p f x xs (filter-map p f k xs) (p x) refl (k x)

held-step : {X Y : Type 0} (q : Y → Bool) (g : X → Y) (x : X) (xs : List X) → filter q (map g xs) ≡ map g (filter (λ x. q (g x)) xs) → (b : Bool) → q (g x) ≡ b → filter q (map g (x ∷ xs)) ≡ map g (filter (λ x. q (g x)) (x ∷ xs))
held-step q g x xs ih true e = rw (e, ih)
held-step q g x xs ih false e = rw (e, ih)

filter-image : {X Y : Type 0} (q : Y → Bool) (g : X → Y) (xs : List X) → filter q (map g xs) ≡ map g (filter (λ x. q (g x)) xs)
filter-image q g [] = refl
filter-image q g (x ∷ xs) = held-step q g x xs (filter-image q g xs) (q (g x)) refl

filter_map-image : {X Y Z : Type 0} (h : Y → Option Z) (g : X → Y) (xs : List X) → filter_map h (map g xs) ≡ filter_map (λ x. h (g x)) xs
filter_map-image h g [] = refl
filter_map-image h g (x ∷ xs) = ap (λ (zs : List _). cons_option (h (g x)) zs) (filter_map-image h g xs)

module _ (ls ks : List ℕ) (xs ys : List HeldOp) (here : length ls ≡ length xs) (there : length ks ≡ length ys) (same : AreSameByObject (by_line ls xs) (by_line ks ys)) where
  -- those that pass a test of one object
  pub filter-same : (ob : ℕ) (q : HeldOp → Bool) → ((o : LineOp) → is_on ob o ≡ false → q o.held ≡ false) → filter q xs ≡ filter q ys
  filter-same ob q h =
      let one : (ls : List ℕ) (xs : List HeldOp) → length ls ≡ length xs → filter q xs ≡ map (λ o. o.held) (filter (λ o. q o.held) (filter (is_on ob) (by_line ls xs))) =
      λ ls xs e. ap (filter q) (sym (held-by_line ls xs e)) ∙ (filter-image q (λ o. o.held) (by_line ls xs) ∙ ap (map (λ o. o.held)) (filter-within (is_on ob) (λ o. q o.held) h (by_line ls xs))) in
      one ls xs here ∙ (ap (λ (os : List LineOp). map (λ o. o.held) (filter (λ o. q o.held) os)) (same ob) ∙ sym (one ks ys there))

  -- what a function gives of one object
  pub filter_map-same : {Y : Type 0} (ob : ℕ) (f : HeldOp → Option Y) → ((o : LineOp) → is_on ob o ≡ false → f o.held ≡ None) → filter_map f xs ≡ filter_map f ys
  filter_map-same ob f n =
      let one : (ls : List ℕ) (xs : List HeldOp) → length ls ≡ length xs → filter_map f xs ≡ filter_map (λ o. f o.held) (filter (is_on ob) (by_line ls xs)) =
      λ ls xs e. ap (filter_map f) (sym (held-by_line ls xs e)) ∙ (filter_map-image f (λ o. o.held) (by_line ls xs) ∙ filter_map-within (is_on ob) (λ o. f o.held) n (by_line ls xs)) in
      one ls xs here ∙ (ap (filter_map (λ o. f o.held)) (same ob) ∙ sym (one ks ys there))

-- a change that leaves objects
pub map-same : (f : LineOp → LineOp) → ((o : LineOp) (ob : ℕ) → is_on ob (f o) ≡ is_on ob o) → (xs ys : List LineOp) → AreSameByObject xs ys → AreSameByObject (map f xs) (map f ys)
map-same f k xs ys same ob =
    filter-map (is_on ob) f (λ o. k o ob) xs ∙ (ap (map f) (same ob) ∙ sym (filter-map (is_on ob) f (λ o. k o ob) ys))

-- one more
pub push-same : (xs ys : List LineOp) (o : LineOp) → AreSameByObject xs ys → AreSameByObject (xs ++ o ∷ []) (ys ++ o ∷ [])
push-same xs ys o same ob =
    filter-append (is_on ob) xs (o ∷ []) ∙ (ap (λ (zs : List LineOp). zs ++ filter (is_on ob) (o ∷ [])) (same ob) ∙ sym (filter-append (is_on ob) ys (o ∷ [])))

-- a change of operations is one of operations with their lines
pub by_line-map : (f : HeldOp → HeldOp) (ls : List ℕ) (xs : List HeldOp) → by_line ls (map f xs) ≡ map (λ o. record { line = o.line; held = f o.held }) (by_line ls xs)
by_line-map f [] xs = refl
by_line-map f (l ∷ ls) [] = refl
by_line-map f (l ∷ ls) (x ∷ xs) = ap (λ (os : List LineOp). (record { line = l; held = f x }) ∷ os) (by_line-map f ls xs)

pub by_line-push : (ls : List ℕ) (xs : List HeldOp) (l : ℕ) (x : HeldOp) → length ls ≡ length xs → by_line (ls ++ l ∷ []) (xs ++ x ∷ []) ≡ by_line ls xs ++ (record { line = l; held = x }) ∷ []
by_line-push [] [] l x e = refl
by_line-push [] (y ∷ xs) l x e = absurd cc
by_line-push (k ∷ ls) [] l x e = absurd cc
by_line-push (k ∷ ls) (y ∷ xs) l x e = ap (λ (os : List LineOp). (record { line = k; held = y }) ∷ os) (by_line-push ls xs l x cc)
