-- Steps of loops.
use Rattle.std.proofs.Common.{◌≡◌, ◌<◌, ◌≤◌, ℕ, ◌+◌, ◌-◌, zero, suc, Bool, true, false, ◌&&◌, ◌==◌, List, [], ◌∷◌, ◌++◌, map, length, get_or, set, drop, replicate, Option, Some, None, is_none, refl, sym, ap, subst, ◌∙◌, arith}
use Rattle.std.specs.Prelude.{if◌then◌else◌, nat_lt, is_some}
use Rattle.std.specs.List.{filter_map, cons_option, range_with_len}
use Rattle.std.proofs.lemmas.Bool.Decides.{nat_tests}
use Rattle.std.proofs.lemmas.List.{append-nil, append_assoc, drop_more, drop_all, map-append}
use Rattle.std.proofs.lemmas.List.Elements.{filter_map-append}
use Rattle.acta_table.specs.Numbered.{numbers_from}
use Rattle.acta_script.specs.declared.programs.ProgramLine.{ProgramLine}
use Rattle.acta_explore.specs.declared.point.Done.{Done}
use Rattle.acta_explore.specs.Programs.{Programs, done_at, lines_done, next_from}
use Rattle.acta_explore.specs.inside.Noting.{noted_at}

-- beyond the last item
pub past : {X : Type 0} (xs : List X) (t : ℕ) (d : X) → length xs ≤ t → get_or xs t d ≡ d
past [] t d above = refl
past (x ∷ xs) zero d above = absurd (omega arith)
past (x ∷ xs) (suc t) d above = past xs t d (omega arith)

-- ranges
pub range-more : (a n : ℕ) → range_with_len a (n + 1) ≡ range_with_len a n ++ (a + n) ∷ []
range-more a n = subst (λ (m : ℕ). range_with_len a m ≡ range_with_len a n ++ (a + n) ∷ []) (plus-one n) (by-suc a n)
  where
    plus-one : (n : ℕ) → suc n ≡ n + 1
    plus-one n = omega arith

    by-suc : (a n : ℕ) → range_with_len a (suc n) ≡ range_with_len a n ++ (a + n) ∷ []
    by-suc a zero = let e : a ≡ a + 0 = omega arith in ap (λ (k : ℕ). k ∷ []) e
    by-suc a (suc n) = let e : (a + 1) + n ≡ a + suc n = omega arith in ap (λ (ks : List ℕ). a ∷ ks) (by-suc (a + 1) n ∙ ap (λ (k : ℕ). range_with_len (a + 1) n ++ k ∷ []) e)

pub range-from-0 : (n : ℕ) → range_with_len 0 (n + 1) ≡ range_with_len 0 n ++ n ∷ []
range-from-0 n = let e : 0 + n ≡ n = omega arith in range-more 0 n ∙ ap (λ (k : ℕ). range_with_len 0 n ++ k ∷ []) e

pub map-range : {X : Type 0} (f : ℕ → X) (n : ℕ) → map f (range_with_len 0 (n + 1)) ≡ map f (range_with_len 0 n) ++ f n ∷ []
map-range f n = ap (map f) (range-from-0 n) ∙ map-append f (range_with_len 0 n) (n ∷ [])

pub some-filter : {X Y : Type 0} (f : X → Option Y) (xs : List X) (x : X) (y : Y) → f x ≡ Some y → filter_map f (xs ++ x ∷ []) ≡ filter_map f xs ++ y ∷ []
some-filter f xs x y e = filter_map-append f xs (x ∷ []) ∙ ap (λ (o : Option _). filter_map f xs ++ cons_option o []) e

pub none-filter : {X Y : Type 0} (f : X → Option Y) (xs : List X) (x : X) → f x ≡ None → filter_map f (xs ++ x ∷ []) ≡ filter_map f xs
none-filter f xs x e = filter_map-append f xs (x ∷ []) ∙ (ap (λ (o : Option _). filter_map f xs ++ cons_option o []) e ∙ append-nil (filter_map f xs))

pub some-range : {Y : Type 0} (f : ℕ → Option Y) (n : ℕ) (y : Y) → f n ≡ Some y → filter_map f (range_with_len 0 (n + 1)) ≡ filter_map f (range_with_len 0 n) ++ y ∷ []
some-range f n y e = ap (filter_map f) (range-from-0 n) ∙ some-filter f (range_with_len 0 n) n y e

pub none-range : {Y : Type 0} (f : ℕ → Option Y) (n : ℕ) → f n ≡ None → filter_map f (range_with_len 0 (n + 1)) ≡ filter_map f (range_with_len 0 n)
none-range f n e = ap (filter_map f) (range-from-0 n) ∙ none-filter f (range_with_len 0 n) n e

pub some-step : {X Y : Type 0} (f : X → Option Y) (acc : List Y) (xs : List X) (i : ℕ) (d : X) (y : Y) → i < length xs → f (get_or xs i d) ≡ Some y → acc ++ filter_map f (drop i xs) ≡ (acc ++ y ∷ []) ++ filter_map f (drop (i + 1) xs)
some-step f acc xs i d y less e =
    ap (λ (ys : List _). acc ++ filter_map f ys) (drop_more xs i d less)
    ∙ (ap (λ (o : Option _). acc ++ cons_option o (filter_map f (drop (i + 1) xs))) e ∙ sym (append_assoc acc (y ∷ []) (filter_map f (drop (i + 1) xs))))

pub none-step : {X Y : Type 0} (f : X → Option Y) (acc : List Y) (xs : List X) (i : ℕ) (d : X) → i < length xs → f (get_or xs i d) ≡ None → acc ++ filter_map f (drop i xs) ≡ acc ++ filter_map f (drop (i + 1) xs)
none-step f acc xs i d less e =
    ap (λ (ys : List _). acc ++ filter_map f ys) (drop_more xs i d less)
    ∙ ap (λ (o : Option _). acc ++ cons_option o (filter_map f (drop (i + 1) xs))) e

-- positions of what passes
pub numbers-here : {X : Type 0} (test : X → Bool) (acc : List ℕ) (xs : List X) (i : ℕ) (d : X) → i < length xs → test (get_or xs i d) ≡ true → acc ++ numbers_from test i (drop i xs) ≡ (acc ++ i ∷ []) ++ numbers_from test (i + 1) (drop (i + 1) xs)
numbers-here test acc xs i d less e =
    ap (λ (ys : List _). acc ++ numbers_from test i ys) (drop_more xs i d less)
    ∙ (ap (λ (b : Bool). acc ++ (if b then i ∷ numbers_from test (i + 1) (drop (i + 1) xs) else numbers_from test (i + 1) (drop (i + 1) xs))) e
    ∙ sym (append_assoc acc (i ∷ []) (numbers_from test (i + 1) (drop (i + 1) xs))))

-- a table of what lines did
pub noted-set : (n : ℕ) (d : Done) (xs : List (Option Done)) (e : Option Done) → n < length xs → is_none (get_or xs n e) ≡ true → set xs n (Some d) ≡ noted_at n d xs
noted-set n d [] e less none = absurd (omega arith)
noted-set zero d (None ∷ xs) e less none = refl
noted-set zero d (Some x ∷ xs) e less none = absurd cc
noted-set (suc n) d (x ∷ xs) e less none = ap (λ (ys : List (Option Done)). x ∷ ys) (noted-set n d xs e (omega arith) none)

pub noted-some : (n : ℕ) (d : Done) (xs : List (Option Done)) (e : Option Done) → n < length xs → is_none (get_or xs n e) ≡ false → xs ≡ noted_at n d xs
noted-some n d [] e less some = refl
noted-some zero d (None ∷ xs) e less some = absurd cc
noted-some zero d (Some x ∷ xs) e less some = refl
noted-some (suc n) d (x ∷ xs) e less some = ap (λ (ys : List (Option Done)). x ∷ ys) (noted-some n d xs e (omega arith) some)

pub noted-past : (n : ℕ) (d : Done) (xs : List (Option Done)) → length xs ≤ n → xs ≡ noted_at n d xs
noted-past n d [] past = refl
noted-past zero d (x ∷ xs) past = absurd (omega arith)
noted-past (suc n) d (x ∷ xs) past = ap (λ (ys : List (Option Done)). x ∷ ys) (noted-past n d xs (omega arith))

pub none-done : {A : Type 0} (programs : Programs A) → replicate (length programs) None ≡ lines_done programs []
none-done programs = from 0 (length programs)
  where
    from : (a n : ℕ) → replicate n None ≡ map (done_at []) (range_with_len a n)
    from a zero = refl
    from a (suc n) = ap (λ (ys : List (Option Done)). None ∷ ys) (from (a + 1) n)

-- the line that comes next
next-by : {A : Type 0} (n seat : ℕ) (line : ProgramLine A) (lines : List (ProgramLine A)) (did : Option Done) (dones : List (Option Done)) (b : Bool) → ((line.seat == seat) && is_none did) ≡ b → next_from n (line ∷ lines) (did ∷ dones) seat ≡ (if b then Some n else next_from (n + 1) lines dones seat)
next-by n seat line lines did dones b e = ap (λ (c : Bool). if c then Some n else next_from (n + 1) lines dones seat) e

pub next-at : {A : Type 0} (n seat : ℕ) (lines : List (ProgramLine A)) (dones : List (Option Done)) (l : ProgramLine A) (d : Option Done) (b : Bool) → n < length lines → n < length dones → (((get_or lines n l).seat == seat) && is_none (get_or dones n d)) ≡ b → next_from n (drop n lines) (drop n dones) seat ≡ (if b then Some n else next_from (n + 1) (drop (n + 1) lines) (drop (n + 1) dones) seat)
next-at n seat lines dones l d b here there e =
    (λ i. next_from n (drop_more lines n l here i) (drop_more dones n d there i) seat)
    ∙ next-by n seat (get_or lines n l) (drop (n + 1) lines) (get_or dones n d) (drop (n + 1) dones) b e

pub next-past : {A : Type 0} (n seat : ℕ) (lines : List (ProgramLine A)) (dones : List (Option Done)) → length lines ≤ n → next_from n (drop n lines) (drop n dones) seat ≡ None
next-past n seat lines dones past = ap (λ (ls : List (ProgramLine _)). next_from n ls (drop n dones) seat) (drop_all n lines past)

pub next-short : {A : Type 0} (n seat : ℕ) (lines : List (ProgramLine A)) (dones : List (Option Done)) → length dones ≤ n → next_from n (drop n lines) (drop n dones) seat ≡ None
next-short n seat lines dones past = ap (λ (ds : List (Option Done)). next_from n (drop n lines) ds seat) (drop_all n dones past) ∙ no-dones n seat (drop n lines)
  where
    no-dones : {A : Type 0} (n seat : ℕ) (lines : List (ProgramLine A)) → next_from n lines [] seat ≡ None
    no-dones n seat [] = refl
    no-dones n seat (l ∷ lines) = refl

-- whether there is none, from whether there is some
pub none-off : {X : Type 0} (o : Option X) → is_some o ≡ false → is_none o ≡ true
none-off None e = refl
none-off (Some x) e = absurd cc

pub some-on : {X : Type 0} (o : Option X) → is_some o ≡ true → is_none o ≡ false
some-on None e = absurd cc
some-on (Some x) e = refl

pub not-less : (a b : ℕ) → nat_lt a b ≡ false → b ≤ a
not-less a b e = grind (arith, nat_tests)

-- ranges from 1
range-from-1 : (t : ℕ) → 1 ≤ t → range_with_len 1 ((t + 1) - 1) ≡ range_with_len 1 (t - 1) ++ t ∷ []
range-from-1 t one =
    let e : (t + 1) - 1 ≡ (t - 1) + 1 = omega arith in
    let f : 1 + (t - 1) ≡ t = omega arith in
    ap (range_with_len 1) e ∙ (range-more 1 (t - 1) ∙ ap (λ (k : ℕ). range_with_len 1 (t - 1) ++ k ∷ []) f)

pub some-above : {Y : Type 0} (f : ℕ → Option Y) (t : ℕ) (y : Y) → 1 ≤ t → f t ≡ Some y → filter_map f (range_with_len 1 ((t + 1) - 1)) ≡ filter_map f (range_with_len 1 (t - 1)) ++ y ∷ []
some-above f t y one e = ap (filter_map f) (range-from-1 t one) ∙ some-filter f (range_with_len 1 (t - 1)) t y e

pub none-above : {Y : Type 0} (f : ℕ → Option Y) (t : ℕ) → 1 ≤ t → f t ≡ None → filter_map f (range_with_len 1 ((t + 1) - 1)) ≡ filter_map f (range_with_len 1 (t - 1))
none-above f t one e = ap (filter_map f) (range-from-1 t one) ∙ none-filter f (range_with_len 1 (t - 1)) t e

none-all : {Y : Type 0} (f : ℕ → Option Y) (a n : ℕ) → ((k : ℕ) → a ≤ k → f k ≡ None) → filter_map f (range_with_len a n) ≡ []
none-all f a zero none = refl
none-all f a (suc n) none = ap (λ (o : Option _). cons_option o (filter_map f (range_with_len (a + 1) n))) (none a (omega arith)) ∙ none-all f (a + 1) n (λ k above. none k (omega arith))

range-split : (a n m : ℕ) → range_with_len a (n + m) ≡ range_with_len a n ++ range_with_len (a + n) m
range-split a zero m = let e : a + 0 ≡ a = omega arith in let f : 0 + m ≡ m = omega arith in ap (range_with_len a) f ∙ ap (λ (k : ℕ). range_with_len k m) (sym e)
range-split a (suc n) m =
    let e : suc n + m ≡ suc (n + m) = omega arith in
    let f : (a + 1) + n ≡ a + suc n = omega arith in
    ap (range_with_len a) e ∙ (ap (λ (ks : List ℕ). a ∷ ks) (range-split (a + 1) n m) ∙ ap (λ (k : ℕ). a ∷ (range_with_len (a + 1) n ++ range_with_len k m)) f)

-- beyond the last there are none
pub none-beyond : {Y : Type 0} (f : ℕ → Option Y) (n m : ℕ) → n ≤ m → ((k : ℕ) → 1 + n ≤ k → f k ≡ None) → filter_map f (range_with_len 1 n) ≡ filter_map f (range_with_len 1 m)
none-beyond f n m less none =
    let e : n + (m - n) ≡ m = omega arith in
    sym (ap (λ (k : ℕ). filter_map f (range_with_len 1 k)) (sym e)
    ∙ (ap (filter_map f) (range-split 1 n (m - n))
    ∙ (filter_map-append f (range_with_len 1 n) (range_with_len (1 + n) (m - n))
    ∙ (ap (λ (ys : List _). filter_map f (range_with_len 1 n) ++ ys) (none-all f (1 + n) (m - n) none) ∙ append-nil (filter_map f (range_with_len 1 n))))))

-- where those from `known` on are none, the range up to there gives as much as the whole
pub none-unknown : {Y : Type 0} (f : ℕ → Option Y) (known t last : ℕ) → 1 ≤ t → (1 ≤ known → t ≤ known) → known ≤ t → known ≤ last + 1 → ((k : ℕ) → known ≤ k → f k ≡ None) → filter_map f (range_with_len 1 (t - 1)) ≡ filter_map f (range_with_len 1 last)
none-unknown f zero t last one within past few none = none-all f 1 (t - 1) (λ k above. none k (omega arith)) ∙ sym (none-all f 1 last (λ k above. none k (omega arith)))
none-unknown f (suc n) t last one within past few none =
    let at : t ≤ suc n = within (omega arith) in
    none-beyond f (t - 1) last (omega arith) (λ k above. none k (omega arith))
