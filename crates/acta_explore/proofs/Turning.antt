-- The turns at a point are all those with a step, in order; so are the points after them.
use Rattle.std.proofs.Common.{◌≡◌, ◌<◌, ◌⊎◌, ℕ, ◌+◌, zero, suc, Bool, true, false, ◌&&◌, ◌||◌, ◌==◌, List, [], ◌∷◌, ◌++◌, map, length, Option, Some, None, is_none, refl, sym, ap, subst, ◌∙◌, arith, inl, inr}
use Rattle.std.specs.Prelude.{⊤, if◌then◌else◌, option_and_then, slice_get}
use Rattle.std.specs.List.{list_any, filter_map, flat_map, cons_option, range_with_len, Contains, AllByRecursion}
use Rattle.std.specs.Option.{option_map_or}
use Rattle.std.specs.declared.cmp.Ordering.{Ordering}
use Rattle.std.specs.declared.cmp.Ordering.TheVariants.{Less}
use Rattle.std.specs.Ordering.{nat_cmp, ordering_then}
use Rattle.std.proofs.lemmas.Bool.{eqb-true}
use Rattle.std.proofs.lemmas.Cmp.{nat_cmp_total, tied_itself}
use Rattle.std.proofs.lemmas.List.Elements.{Contains-append_left, Contains-append_right, Contains-append_cases, Contains-push_cases}
use Rattle.std.proofs.lemmas.Map.Lookups.{exact_unsigned}
use Rattle.std.proofs.lemmas.Option.{slice_get_cases}
use Rattle.std.specs.Cmp.{nat_cmp_is}
use Rattle.acta_table.specs.declared.event.Event.{Event}
use Rattle.acta_script.specs.declared.programs.ProgramLine.{ProgramLine}
use Rattle.acta_explore.specs.declared.point.Done.{Done}
use Rattle.acta_explore.specs.declared.point.Turn.{Turn}
use Rattle.acta_explore.specs.Ends.{turn_cmp, order_cmp}
use Rattle.acta_explore.specs.Outcomes.{alternatives_at, seats_of}
use Rattle.acta_explore.specs.Points.{Point, stepped, order_of}
use Rattle.acta_explore.specs.Programs.{Programs, lines_done, next_from}
use Rattle.acta_explore.specs.inside.Turns.{turns_of_line, turns_of_seat, turns_at, successors}
use Rattle.acta_explore.proofs.Anys.{any-map}
use Rattle.acta_explore.proofs.Merging.{IsBefore}
use Rattle.acta_explore.proofs.Numbering.{any-ascending}
use Rattle.acta_explore.proofs.Orders.{less-more, last-less}
use Rattle.acta_explore.proofs.OrderedSets.{rise-all}
use Rattle.acta_explore.proofs.Pairs.{Pairs, all-append, all-map, pairs-append}
use Rattle.acta_explore.proofs.Stepping.{event_in, is_step, order-step}

-- membership
pub contains-head : {X : Type 0} (x : X) (xs : List X) → Contains (x ∷ xs) x
contains-head x xs = (0, omega arith, refl)

pub contains-tail : {X : Type 0} (x y : X) (xs : List X) → Contains xs y → Contains (x ∷ xs) y
contains-tail x y xs within = Contains-append_right (x ∷ []) xs y within

pub contains-nil : {X : Type 0} (x : X) → Contains [] x → ⊥
contains-nil x within = let (k, less, is) = within in omega arith

pub contains-cases : {X : Type 0} (x y : X) (xs : List X) → Contains (x ∷ xs) y → (x ≡ y) ⊎ Contains xs y
contains-cases x y xs within = elim (Contains-append_cases (x ∷ []) xs y within) [
  | inl here ↦ elim (Contains-push_cases [] x y here) [ inl none ↦ absurd (contains-nil y none) | inr same ↦ inl same ]
  | inr there ↦ inr there
]

contains-cons : {Y : Type 0} (o : Option Y) (ys : List Y) (y : Y) → Contains ys y → Contains (cons_option o ys) y
contains-cons None ys y within = within
contains-cons (Some x) ys y within = contains-tail x y ys within

pub contains-filter_map : {X Y : Type 0} (f : X → Option Y) (xs : List X) (x : X) (y : Y) → Contains xs x → f x ≡ Some y → Contains (filter_map f xs) y
contains-filter_map f [] x y within e = absurd (contains-nil x within)
contains-filter_map f (z ∷ xs) x y within e = elim (contains-cases z x xs within) [
  | inl same ↦ subst (λ (o : Option _). Contains (cons_option o (filter_map f xs)) y) (sym (ap f same ∙ e)) (contains-head y (filter_map f xs))
  | inr there ↦ contains-cons (f z) (filter_map f xs) y (contains-filter_map f xs x y there e)
]

pub contains-flat_map : {X Y : Type 0} (f : X → List Y) (xs : List X) (x : X) (y : Y) → Contains xs x → Contains (f x) y → Contains (flat_map f xs) y
contains-flat_map f [] x y within e = absurd (contains-nil x within)
contains-flat_map f (z ∷ xs) x y within e = elim (contains-cases z x xs within) [
  | inl same ↦ Contains-append_left (f z) (flat_map f xs) y (subst (λ (w : _). Contains (f w) y) (sym same) e)
  | inr there ↦ Contains-append_right (f z) (flat_map f xs) y (contains-flat_map f xs x y there e)
]

pub contains-map : {X Y : Type 0} (f : X → Y) (xs : List X) (x : X) → Contains xs x → Contains (map f xs) (f x)
contains-map f [] x within = absurd (contains-nil x within)
contains-map f (z ∷ xs) x within = elim (contains-cases z x xs within) [
  | inl same ↦ subst (λ (y : _). Contains (map f (z ∷ xs)) y) (ap f same) (contains-head (f z) (map f xs))
  | inr there ↦ contains-tail (f z) (f x) (map f xs) (contains-map f xs x there)
]

contains-range : (k n m : ℕ) → k < m → Contains (range_with_len n m) (n + k)
contains-range k n zero less = absurd (omega arith)
contains-range zero n (suc m) less = let e : n ≡ n + 0 = omega arith in subst (Contains (range_with_len n (suc m))) e (contains-head n (range_with_len (n + 1) m))
contains-range (suc k) n (suc m) less =
    let e : (n + 1) + k ≡ n + suc k = omega arith in
    contains-tail n (n + suc k) (range_with_len (n + 1) m) (subst (Contains (range_with_len (n + 1) m)) e (contains-range k (n + 1) m (omega arith)))

contains-by : (n k : ℕ) (ns : List ℕ) (b : Bool) → (k == n) ≡ b → (list_any (λ m. m == n) ns ≡ true → Contains ns n) → (b || list_any (λ m. m == n) ns) ≡ true → Contains (k ∷ ns) n
contains-by n k ns true e later h = subst (Contains (k ∷ ns)) (eqb-true k n e) (contains-head k ns)
contains-by n k ns false e later h = contains-tail k n ns (later h)

contains-any : (n : ℕ) (ns : List ℕ) → list_any (λ m. m == n) ns ≡ true → Contains ns n
contains-any n [] h = absurd cc
contains-any n (k ∷ ns) h = contains-by n k ns (k == n) refl (contains-any n ns) h

-- the seat of a line that comes next has a program
next-step : {A : Type 0} (n l seat : ℕ) (line : ProgramLine A) (lines : List (ProgramLine A)) (b c : Bool) (o : Option ℕ) → (line.seat == seat) ≡ b → (o ≡ Some l → list_any (λ x. x.seat == seat) lines ≡ true) → (if b && c then Some n else o) ≡ Some l → (b || list_any (λ x. x.seat == seat) lines) ≡ true
next-step n l seat line lines true c o e later h = refl
next-step n l seat line lines false c o e later h = later h

next-seat : {A : Type 0} (n l seat : ℕ) (lines : List (ProgramLine A)) (dones : List (Option Done)) → next_from n lines dones seat ≡ Some l → list_any (λ x. x.seat == seat) lines ≡ true
next-seat n l seat [] dones h = absurd cc
next-seat n l seat (line ∷ lines) [] h = absurd cc
next-seat n l seat (line ∷ lines) (done ∷ dones) h =
    next-step n l seat line lines (line.seat == seat) (is_none done) (next_from (n + 1) lines dones seat) refl (next-seat (n + 1) l seat lines dones) h

seat-among : {A : Type 0} (programs : Programs A) (dones : List (Option Done)) (l seat : ℕ) → next_from 0 programs dones seat ≡ Some l → Contains (seats_of programs) seat
seat-among programs dones l seat h =
    contains-any seat (seats_of programs)
    (any-ascending (λ k. k == seat) (map (λ line. line.seat) programs)
    ∙ (any-map (λ line. line.seat) (λ k. k == seat) programs ∙ next-seat 0 l seat programs dones h))

-- an event is that of an alternative
some-alternative : {A : Type 0} (programs : Programs A) (l alternative : ℕ) (e : Event A) (line : Option (ProgramLine A)) → slice_get programs l ≡ line → option_and_then (λ line. slice_get line.alternatives alternative) line ≡ Some e → alternative < option_map_or (λ line. length line.alternatives) line 0
some-alternative programs l alternative e None at h = absurd cc
some-alternative programs l alternative e (Some line) at h = elim ((slice_get_cases line.alternatives alternative).1) [
  | inl found ↦ found.1
  | inr past ↦ let (long, is) = past in absurd cc
]

turn-among : {A : Type 0} (programs : Programs A) (dones : List (Option Done)) (turn : Turn) (l : ℕ) (e : Event A) → next_from 0 programs dones turn.seat ≡ Some l → event_in programs l turn.alternative ≡ Some e → Contains (turns_at programs dones) turn
turn-among programs dones turn l e next at =
    contains-flat_map (turns_of_seat programs dones) (seats_of programs) turn.seat turn (seat-among programs dones l turn.seat next)
    (subst (λ (o : Option ℕ). Contains (option_map_or (turns_of_line programs turn.seat) o []) turn) (sym next)
    (let zero-plus : 0 + turn.alternative ≡ turn.alternative = omega arith in
    contains-map (λ alternative. record { seat = turn.seat; alternative = alternative }) (range_with_len 0 (alternatives_at programs l)) turn.alternative
    (subst (Contains (range_with_len 0 (alternatives_at programs l))) zero-plus (contains-range turn.alternative 0 (alternatives_at programs l) (some-alternative programs l turn.alternative e (slice_get programs l) refl at)))))

-- each step leads to one of the successors
pub successor-among : {A : Type 0} (programs : Programs A) (p : Point A) (turn : Turn) (q : Point A) → stepped programs p turn ≡ Some q → Contains (successors programs p) q
successor-among programs p turn q h =
    let one = is_step programs p turn q h in
    contains-filter_map (stepped programs p) (turns_at programs (lines_done programs p.steps)) turn q
    (turn-among programs (lines_done programs p.steps) turn one.line one.event one.next one.at) h

-- lists made of sorted lists
pairs-flat : {X Y : Type 0} (B : Y → Y → Type 0) (C : X → X → Type 0) (P : X → Type 0) (f : X → List Y) → ((x : X) → P x → Pairs B (f x)) → ((x z : X) → P x → P z → C x z → AllByRecursion (λ a. AllByRecursion (B a) (f z)) (f x)) → (xs : List X) → AllByRecursion P xs → Pairs C xs → Pairs B (flat_map f xs)
pairs-flat B C P f each across [] all pairs = tt
pairs-flat B C P f each across (x ∷ xs) all pairs =
    pairs-append B (f x) (flat_map f xs) (each x all.0) (pairs-flat B C P f each across xs all.1 pairs.1)
    (across-all x all.0 xs all.1 pairs.0)
  where
    flip : (ws : List _) (b : List _) → AllByRecursion (λ a. AllByRecursion (B a) b) ws → (c : List _) → AllByRecursion (λ a. AllByRecursion (B a) c) ws → AllByRecursion (λ a. AllByRecursion (B a) (b ++ c)) ws
    flip [] b all c more = tt
    flip (a ∷ ws) b all c more = (all-append (B a) b c all.0 more.0, flip ws b all.1 c more.1)

    nothing : (ws : List _) → AllByRecursion (λ a. AllByRecursion (B a) []) ws
    nothing [] = tt
    nothing (a ∷ ws) = (tt, nothing ws)

    across-all : (x : _) → P x → (zs : List _) → AllByRecursion P zs → AllByRecursion (C x) zs → AllByRecursion (λ a. AllByRecursion (B a) (flat_map f zs)) (f x)
    across-all x px [] pz cz = nothing (f x)
    across-all x px (z ∷ zs) pz cz = flip (f x) (f z) (across x z px pz.0 cz.0) (flat_map f zs) (across-all x px zs pz.1 cz.1)

-- the turns are sorted
abbrev pub IsTurnBefore : Turn → Turn → Type 0
IsTurnBefore t u = turn_cmp t u ≡ Less

nat-less : (m n : ℕ) → m < n → nat_cmp m n ≡ Less
nat-less m n less = sym (nat_cmp_is m n Less less)

line-turns : (seat n m : ℕ) → Pairs IsTurnBefore (map (λ alternative. record { seat = seat; alternative = alternative }) (range_with_len n m))
line-turns seat n zero = tt
line-turns seat n (suc m) = (later-turns seat n (n + 1) m (omega arith), line-turns seat (n + 1) m)
  where
    later-turns : (seat k n m : ℕ) → k < n → AllByRecursion (IsTurnBefore (record { seat = seat; alternative = k })) (map (λ alternative. record { seat = seat; alternative = alternative }) (range_with_len n m))
    later-turns seat k n zero less = tt
    later-turns seat k n (suc m) less =
        (ap (λ (o : Ordering). ordering_then o (nat_cmp k n)) (tied_itself nat_cmp_total seat) ∙ nat-less k n less, later-turns seat k (n + 1) m (omega arith))

seat-turns : {A : Type 0} (programs : Programs A) (done : List (Option Done)) (seat : ℕ) → Pairs IsTurnBefore (turns_of_seat programs done seat)
seat-turns programs done seat = by-line (next_from 0 programs done seat)
  where
    by-line : (l : Option ℕ) → Pairs IsTurnBefore (option_map_or (turns_of_line programs seat) l [])
    by-line None = tt
    by-line (Some l) = line-turns seat 0 (alternatives_at programs l)

of-seat : (seat n m : ℕ) → AllByRecursion (λ (t : Turn). t.seat ≡ seat) (map (λ alternative. record { seat = seat; alternative = alternative }) (range_with_len n m))
of-seat seat n zero = tt
of-seat seat n (suc m) = (refl, of-seat seat (n + 1) m)

turns-of-seat : {A : Type 0} (programs : Programs A) (done : List (Option Done)) (seat : ℕ) → AllByRecursion (λ (t : Turn). t.seat ≡ seat) (turns_of_seat programs done seat)
turns-of-seat programs done seat = by-line (next_from 0 programs done seat)
  where
    by-line : (l : Option ℕ) → AllByRecursion (λ (t : Turn). t.seat ≡ seat) (option_map_or (turns_of_line programs seat) l [])
    by-line None = tt
    by-line (Some l) = of-seat seat 0 (alternatives_at programs l)

seats-across : (seat other : ℕ) (ts us : List Turn) → nat_cmp seat other ≡ Less → AllByRecursion (λ (t : Turn). t.seat ≡ seat) ts → AllByRecursion (λ (t : Turn). t.seat ≡ other) us → AllByRecursion (λ t. AllByRecursion (IsTurnBefore t) us) ts
seats-across seat other [] us less here there = tt
seats-across seat other (t ∷ ts) us less here there = (
  all-map (λ u. u.seat ≡ other) (IsTurnBefore t) (λ u e. ap (λ (o : Ordering). ordering_then o (nat_cmp t.alternative u.alternative)) ((λ i. nat_cmp (here.0 i) (e i)) ∙ less)) us there,
  seats-across seat other ts us less here.1 there,
)

turns-rise : {A : Type 0} (programs : Programs A) (done : List (Option Done)) → Pairs IsTurnBefore (turns_at programs done)
turns-rise programs done =
    pairs-flat IsTurnBefore (λ m n. nat_cmp m n ≡ Less) (λ n. ⊤) (turns_of_seat programs done) (λ seat _. seat-turns programs done seat)
    (λ seat other _ _ less. seats-across seat other (turns_of_seat programs done seat) (turns_of_seat programs done other) less (turns-of-seat programs done seat) (turns-of-seat programs done other))
    (seats_of programs) (all-true (seats_of programs))
    (rise-all nat_cmp nat_cmp_total exact_unsigned (map (λ line. line.seat) programs))
  where
    all-true : (ns : List ℕ) → AllByRecursion (λ n. ⊤) ns
    all-true [] = tt
    all-true (n ∷ ns) = (tt, all-true ns)

-- a list made from a sorted list
pairs-filter_map : {X Y : Type 0} (C : X → X → Type 0) (B : Y → Y → Type 0) (f : X → Option Y) → ((x z : X) (y w : Y) → C x z → f x ≡ Some y → f z ≡ Some w → B y w) → (xs : List X) → Pairs C xs → Pairs B (filter_map f xs)
pairs-filter_map {X} {Y} C B f across [] pairs = tt
pairs-filter_map {X} {Y} C B f across (x ∷ xs) pairs = put x (f x) refl xs pairs.0 (pairs-filter_map C B f across xs pairs.1)
  where
    one : (x : X) (y : Y) → f x ≡ Some y → (z : X) → C x z → (o : Option Y) → f z ≡ o → (ys : List Y) → AllByRecursion (B y) ys → AllByRecursion (B y) (cons_option o ys)
    one x y e z c None h ys all = all
    one x y e z c (Some w) h ys all = (across x z y w c e h, all)

    after : (x : X) (y : Y) → f x ≡ Some y → (xs : List X) → AllByRecursion (C x) xs → AllByRecursion (B y) (filter_map f xs)
    after x y e [] all = tt
    after x y e (z ∷ xs) all = one x y e z all.0 (f z) refl (filter_map f xs) (after x y e xs all.1)

    put : (x : X) (o : Option Y) → f x ≡ o → (xs : List X) → AllByRecursion (C x) xs → Pairs B (filter_map f xs) → Pairs B (cons_option o (filter_map f xs))
    put x None e xs all pairs = pairs
    put x (Some y) e xs all pairs = (after x y e xs all, pairs)

-- each of the successors comes from a step
abbrev pub IsSuccessor : {A : Type 0} → Programs A → Point A → Point A → Type 0
IsSuccessor programs p q = (turn : Turn) × (stepped programs p turn ≡ Some q)

all-filter_map : {X Y : Type 0} (P : Y → Type 0) (f : X → Option Y) → ((x : X) (y : Y) → f x ≡ Some y → P y) → (xs : List X) → AllByRecursion P (filter_map f xs)
all-filter_map {X} {Y} P f each [] = tt
all-filter_map {X} {Y} P f each (x ∷ xs) = put x (f x) refl (filter_map f xs) (all-filter_map P f each xs)
  where
    put : (x : X) (o : Option Y) → f x ≡ o → (ys : List Y) → AllByRecursion P ys → AllByRecursion P (cons_option o ys)
    put x None e ys all = all
    put x (Some y) e ys all = (each x y e, all)

pub successors-step : {A : Type 0} (programs : Programs A) (p : Point A) → AllByRecursion (IsSuccessor programs p) (successors programs p)
successors-step programs p = all-filter_map (IsSuccessor programs p) (stepped programs p) (λ turn q h. (turn, h)) (turns_at programs (lines_done programs p.steps))

-- they are sorted
pub successors-rise : {A : Type 0} (programs : Programs A) (p : Point A) → Pairs IsBefore (successors programs p)
successors-rise programs p =
    pairs-filter_map IsTurnBefore IsBefore (stepped programs p)
    (λ t u q r less here there. (λ i. order_cmp (order-step programs p t q here i) (order-step programs p u r there i)) ∙ last-less (order_of p) t u less)
    (turns_at programs (lines_done programs p.steps)) (turns-rise programs (lines_done programs p.steps))

abbrev pub HasLength : {A : Type 0} → ℕ → Point A → Type 0
HasLength n p = length (order_of p) ≡ n

across-points : {A : Type 0} (programs : Programs A) (p q : Point A) (ps qs : List (Point A)) → length (order_of p) ≡ length (order_of q) → IsBefore p q → AllByRecursion (IsSuccessor programs p) ps → AllByRecursion (IsSuccessor programs q) qs → AllByRecursion (λ a. AllByRecursion (IsBefore a) qs) ps
across-points programs p q [] qs e less here there = tt
across-points programs p q (a ∷ ps) qs e less here there = (
  all-map (IsSuccessor programs q) (IsBefore a) (λ b h. (λ i. order_cmp (order-step programs p here.0.0 a here.0.1 i) (order-step programs q h.0 b h.1 i)) ∙ less-more (order_of p) (order_of q) here.0.0 h.0 e less) qs there,
  across-points programs p q ps qs e less here.1 there,
)

-- the points after those of a level are sorted
pub level-rise : {A : Type 0} (programs : Programs A) (n : ℕ) (level : List (Point A)) → AllByRecursion (HasLength n) level → Pairs IsBefore level → Pairs IsBefore (flat_map (successors programs) level)
level-rise programs n level long rise =
    pairs-flat IsBefore IsBefore (HasLength n) (successors programs) (λ p _. successors-rise programs p)
    (λ p q here there less. across-points programs p q (successors programs p) (successors programs q) (here ∙ sym there) less (successors-step programs p) (successors-step programs q))
    level long rise
