-- The mode lists in a map.
use Rattle.std.proofs.Common.{◌≡◌, ℕ, ◌+◌, Bool, true, false, cond, if◌then◌else◌, List, [], ◌∷◌, ◌++◌, Option, Some, None, is_some, zero, suc, not, length, take, drop, refl, ap, sym, subst, ◌∙◌, arith}
use Rattle.std.specs.Prelude.{find}
use Rattle.std.specs.Option.{IsSomeAnd, MatchOption}
use Rattle.std.proofs.lemmas.Map.Entries.{lookup_clone}
use Rattle.std.specs.List.{list_all, AllZip}
use Rattle.std.proofs.lemmas.Bool.{and_parts}
use Rattle.acta_table.specs.Fates.{is_open}
use Rattle.acta_sets.specs.declared.held_op.HeldOp.{HeldOp}
use Rattle.std.specs.List.{list_any}
use Rattle.std.specs.Prelude.{slice_get, set, ◌≢◌, map, ◌<◌, ◌≤◌, get_or}
use Rattle.std.proofs.Common.{◌&&◌, ◌==◌}
use Rattle.std.proofs.lemmas.Grind.{common_steps}
use Rattle.std.proofs.lemmas.List.{length_push, take-append-le}
use Rattle.acta_table.specs.declared.event.Op.{Op}
use Rattle.acta_table.specs.declared.event.OpNo.{OpNo}
use Rattle.acta_table.specs.declared.event.TxnId.{TxnId}
use Rattle.acta_table.specs.declared.answer.Fate.{Fate}
use Rattle.acta_table.specs.Numbered.{numbers_from}
use Rattle.acta_table.specs.Sets.{is_named}
use Rattle.acta_sets.specs.declared.mode.LockMode.{LockMode}
use Rattle.acta_sets.specs.Operations.{operation_at, is_against, ops_conflict, is_held, ended, ended_op, transferred, transferred_op, transferred_of, transferred_from}
use Rattle.std.specs.HashMap as hash
use Rattle.std.specs.HashMap.{HashMap}
use Rattle.std.specs.Option.{option_map_or}
use Rattle.acta_sets.specs.contracts.mode.ModeKeyPartialEq.TheImpl.{eq-value}
use Rattle.acta_sets.specs.declared.mode.ModeKey.{ModeKey}
use Rattle.acta_sets.specs.declared.listing.ModeList.{ModeList}
use Rattle.acta_sets.specs.inside.Modes.{same_key, total_place}
use Rattle.acta_sets.specs.inside.Listing.{in_map, in_table, at_place as at_place_of, numbers_in, front_in, is_ended_at, HaveEnded, FrontsHold, AreListed, belongs, passes_at}
use Rattle.acta_sets.proofs.Keys.{get-updated, key_is, key_self, total_is}

-- what is found at mode keys, after this value is put at one
abbrev pub IsPut : {X : Type 0} → (ModeKey → Option X) → (ModeKey → Option X) → ModeKey → X → Type 0
IsPut m n k w = (q : ModeKey) → n q ≡ (if same_key k q then Some w else m q)

-- a property of the value at a mode key, after another value is put there
put_step : {X Y : Type 0} (f : X → Y) (d : Y) (b : Bool) (w : X) (o : Option X) → option_map_or f (if b then Some w else o) d ≡ (if b then f w else option_map_or f o d)
put_step f d true w o = refl
put_step f d false w o = refl

pub read-put : {X Y : Type 0} (f : X → Y) (d : Y) (m n : ModeKey → Option X) (k : ModeKey) (w : X) → IsPut m n k w → (q : ModeKey)
    → option_map_or f (n q) d ≡ (if same_key k q then f w else option_map_or f (m q) d)
read-put f d m n k w is q = ap (λ o. option_map_or f o d) (is q) ∙ put_step f d (same_key k q) w (m q)

same_step : {Y : Type 0} (b : Bool) (x y : Y) → (b ≡ true → x ≡ y) → (if b then x else y) ≡ y
same_step true x y e = e refl
same_step false x y e = refl

-- if the property is unchanged, nothing changes
pub read-same : {X Y : Type 0} (f : X → Y) (d : Y) (m n : ModeKey → Option X) (k : ModeKey) (w : X) → IsPut m n k w → f w ≡ option_map_or f (m k) d → (q : ModeKey)
    → option_map_or f (n q) d ≡ option_map_or f (m q) d
read-same f d m n k w is same q =
    read-put f d m n k w is q ∙ same_step (same_key k q) (f w) (option_map_or f (m q) d) (λ e. same ∙ ap (λ p. option_map_or f (m p) d) (key_is k q e))

-- a property of the value at a mode key, in a clone of the map
read_clone : {X Y : Type 0} (f : X → Y) (d : Y) (D : X → X → Type 0) → ((v w : X) → D v w → f w ≡ f v) → (o p : Option X) → MatchOption o (p ≡ None) (λ v. IsSomeAnd p (D v))
    → option_map_or f p d ≡ option_map_or f o d
read_clone f d D same None p e = ap (λ x. option_map_or f x d) e
read_clone f d D same (Some v) None e = absurd e
read_clone f d D same (Some v) (Some w) e = same v w e

pub read-clone : {X Y S : Type 0} (f : X → Y) (d : Y) (C : ModeKey → ModeKey → Type 0) (D : X → X → Type 0) → ((x y : ModeKey) → C x y → y ≡ x) → ((v w : X) → D v w → f w ≡ f v)
    → (m n : HashMap ModeKey X S) → hash.IsClone C D m n → (q : ModeKey) → option_map_or f (hash.get same_key n q) d ≡ option_map_or f (hash.get same_key m q) d
read-clone f d C D key same m n is q =
    read_clone f d D same (hash.get same_key m q) (hash.get same_key n q) (lookup_clone C D (same_key q) (λ x y e. ap (same_key q) (key x y e)) m.entries n.entries is)

-- what is found at a mode key after it is put there
pub at_put : {X : Type 0} (m n : ModeKey → Option X) (k : ModeKey) (w : X) → IsPut m n k w → n k ≡ Some w
at_put m n k w is = is k ∙ ap (λ b. if b then Some w else m k) (key_self k)

-- an element of a table after another is set
set_same : {X : Type 0} (xs : List X) (i : ℕ) (w : X) → i < length xs → slice_get (set xs i w) i ≡ Some w
set_same [] i w lt = absurd (omega (arith, lt))
set_same (x ∷ xs) zero w lt = refl
set_same (x ∷ xs) (suc i) w lt = set_same xs i w (omega (arith, lt))

set_other : {X : Type 0} (xs : List X) (i n : ℕ) (w : X) → n ≢ i → slice_get (set xs i w) n ≡ slice_get xs n
set_other [] i n w off = refl
set_other (x ∷ xs) zero zero w off = absurd (off refl)
set_other (x ∷ xs) zero (suc n) w off = refl
set_other (x ∷ xs) (suc i) zero w off = refl
set_other (x ∷ xs) (suc i) (suc n) w off = set_other xs i n w (λ e. off (ap suc e))

set_read : {X Y : Type 0} (f : X → Y) (d : Y) (xs : List X) (i n : ℕ) (w : X) → i < length xs → f w ≡ option_map_or f (slice_get xs i) d → option_map_or f (slice_get (set xs i w) n) d ≡ option_map_or f (slice_get xs n) d
set_read f d [] i n w lt e = absurd (omega (arith, lt))
set_read f d (x ∷ xs) zero zero w lt e = e
set_read f d (x ∷ xs) zero (suc n) w lt e = refl
set_read f d (x ∷ xs) (suc i) zero w lt e = refl
set_read f d (x ∷ xs) (suc i) (suc n) w lt e = set_read f d xs i n w (omega (arith, lt)) e

-- if the property is unchanged, nothing changes
pub set-same : {X Y : Type 0} (f : X → Y) (d : Y) (xs : List X) (i : ℕ) (w : X) (o : Option ℕ) → i < length xs → f w ≡ option_map_or f (slice_get xs i) d → option_map_or f (at_place_of (set xs i w) o) d ≡ option_map_or f (at_place_of xs o) d
set-same f d xs i w None lt e = refl
set-same f d xs i w (Some n) lt e = set_read f d xs i n w lt e

-- what is set in a table
put_case : {A : Type 0} (ls : List (ModeList A)) (k q : ModeKey) (place : ℕ) (w : ModeList A) (b : Bool) (o : Option ℕ) → total_place k ≡ Some place → place < length ls → same_key k q ≡ b → total_place q ≡ o
    → at_place_of (set ls place w) o ≡ (if b then Some w else at_place_of ls o)
put_case ls k q place w true None at below same there = let e = sym at ∙ ap total_place (key_is k q same) ∙ there in cc
put_case ls k q place w true (Some n) at below same there =
    let e = sym at ∙ ap total_place (key_is k q same) ∙ there in
    let is : place ≡ n = cc in
    ap (slice_get (set ls place w)) (sym is) ∙ set_same ls place w below
put_case ls k q place w false None at below same there = refl
put_case ls k q place w false (Some n) at below same there =
    set_other ls place n w (λ is. let e = sym (key_self k) ∙ ap (same_key k) (total_is k q place at (there ∙ ap (λ i. Some i) is)) ∙ same in cc)

pub put-table : {A : Type 0} (ls : List (ModeList A)) (k : ModeKey) (place : ℕ) (w : ModeList A) → total_place k ≡ Some place → place < length ls → IsPut (in_table ls) (in_table (set ls place w)) k w
put-table ls k place w at below q = put_case ls k q place w (same_key k q) (total_place q) at below refl refl

-- a property of an element of a table, in a clone of the table
zip_read : {X Y : Type 0} (f : X → Y) (d : Y) (D : X → X → Type 0) → ((v w : X) → D v w → f w ≡ f v) → (xs ys : List X) (n : ℕ) → AllZip D xs ys → option_map_or f (slice_get ys n) d ≡ option_map_or f (slice_get xs n) d
zip_read f d D same [] [] n is = refl
zip_read f d D same [] (y ∷ ys) n is = absurd is
zip_read f d D same (x ∷ xs) [] n is = absurd is
zip_read f d D same (x ∷ xs) (y ∷ ys) zero is = same x y is.0
zip_read f d D same (x ∷ xs) (y ∷ ys) (suc n) is = zip_read f d D same xs ys n is.1

pub zip-read : {X Y : Type 0} (f : X → Y) (d : Y) (D : X → X → Type 0) → ((v w : X) → D v w → f w ≡ f v) → (xs ys : List X) (o : Option ℕ) → AllZip D xs ys → option_map_or f (at_place_of ys o) d ≡ option_map_or f (at_place_of xs o) d
zip-read f d D same xs ys None is = refl
zip-read f d D same xs ys (Some n) is = zip_read f d D same xs ys n is

-- an element more at the end of a table, which shows nothing
more_read : {X Y : Type 0} (f : X → Y) (d : Y) (xs : List X) (n : ℕ) (w : X) → f w ≡ d → option_map_or f (slice_get (xs ++ w ∷ []) n) d ≡ option_map_or f (slice_get xs n) d
more_read f d [] zero w e = e
more_read f d [] (suc n) w e = refl
more_read f d (x ∷ xs) zero w e = refl
more_read f d (x ∷ xs) (suc n) w e = more_read f d xs n w e

pub more-read : {X Y : Type 0} (f : X → Y) (d : Y) (xs : List X) (w : X) (o : Option ℕ) → f w ≡ d → option_map_or f (at_place_of (xs ++ w ∷ []) o) d ≡ option_map_or f (at_place_of xs o) d
more-read f d xs w None e = refl
more-read f d xs w (Some n) e = more_read f d xs n w e

-- a table that is empty
at_none : {X : Type 0} (o : Option ℕ) → at_place_of {X = X} [] o ≡ None
at_none None = refl
at_none (Some n) = refl

pub numbers-none : (A : Type 0) (q : ModeKey) → numbers_in {A = A} (in_table []) q ≡ []
numbers-none A q = ap (λ o. option_map_or (λ l. l.numbers.items) o []) (at_none (total_place q))

pub front-none : (A : Type 0) (q : ModeKey) → front_in {A = A} (in_table []) q ≡ 0
front-none A q = ap (λ o. option_map_or (λ l. l.front) o 0) (at_none (total_place q))

-- what is put into a map
pub put-map : {A S : Type 0} (m n : HashMap ModeKey (ModeList A) S) (k : ModeKey) (w : ModeList A) → hash.Updates (eq-value).it m n k (Some w) → IsPut (in_map m) (in_map n) k w
put-map m n k w is = get-updated m n k (Some w) is

pub none_of : {X : Type 0} (o : Option X) → is_some o ≡ false → o ≡ None
none_of None e = refl
none_of (Some x) e = cc

pub if_same : {Y : Type 0} (b : Bool) (x y z : Y) → (b ≡ true → x ≡ y) → (if b then x else z) ≡ (if b then y else z)
if_same true x y z e = e refl
if_same false x y z e = refl

-- one more number at a mode key
pub numbers-more : {A : Type 0} (m n : ModeKey → Option (ModeList A)) (k : ModeKey) (l w : ModeList A) (number : ℕ) → IsPut m n k w → m k ≡ Some l
    → w.numbers.items ≡ l.numbers.items ++ number ∷ [] → (q : ModeKey) → numbers_in n q ≡ (if same_key k q then numbers_in m q ++ number ∷ [] else numbers_in m q)
numbers-more m n k l w number is at more q =
    read-put (λ x. x.numbers.items) [] m n k w is q
    ∙ if_same (same_key k q) w.numbers.items (numbers_in m q ++ number ∷ []) (numbers_in m q)
    (λ e. more ∙ ap (λ o. option_map_or (λ x. x.numbers.items) o [] ++ number ∷ []) (sym at) ∙ ap (λ p. numbers_in m p ++ number ∷ []) (key_is k q e))

ended_step : (items : List HeldOp) (b : Bool) (ns ms : List ℕ) (f g : ℕ) → HaveEnded items ns f → HaveEnded items ms g → HaveEnded items (if b then ns else ms) (if b then f else g)
ended_step items true ns ms f g x y = x
ended_step items false ns ms f g x y = y

pub HaveEnded-same : (items : List HeldOp) (ns ms : List ℕ) (f g : ℕ) → ns ≡ ms → f ≡ g → HaveEnded items ns f → HaveEnded items ms g
HaveEnded-same items ns ms f g e d is = subst (λ ls. HaveEnded items ls g) e (subst (λ k. HaveEnded items ns k) d is)

pub FrontsHold-put : {A : Type 0} (items : List HeldOp) (m n : ModeKey → Option (ModeList A)) (k : ModeKey) (w : ModeList A) → IsPut m n k w
    → FrontsHold items m → HaveEnded items w.numbers.items w.front → FrontsHold items n
FrontsHold-put items m n k w is hold ended q =
    HaveEnded-same items (if same_key k q then w.numbers.items else numbers_in m q) (numbers_in n q) (if same_key k q then w.front else front_in m q) (front_in n q)
    (sym (read-put (λ x. x.numbers.items) [] m n k w is q)) (sym (read-put (λ x. x.front) 0 m n k w is q))
    (ended_step items (same_key k q) w.numbers.items (numbers_in m q) w.front (front_in m q) ended (hold q))

closed_test : (b c : Bool) → (b ≡ true → c ≡ true) → c ≡ false → b ≡ false
closed_test true c opens e = let no : true ≡ false = sym (opens refl) ∙ e in cc
closed_test false c opens e = refl

not_true : (b : Bool) → not b ≡ true → b ≡ false
not_true true e = cc
not_true false e = refl

closed_step : (test : HeldOp → Bool) (o : Option HeldOp) → ((i : HeldOp) → test i ≡ true → is_open i.fate ≡ true) → option_map_or (λ i. not (is_open i.fate)) o false ≡ true → option_map_or test o false ≡ false
closed_step test None opens e = refl
closed_step test (Some i) opens e = closed_test (test i) (is_open i.fate) (opens i) (not_true (is_open i.fate) e)

-- if the ended prefix is right, no operation in progress is skipped
closed : (test : HeldOp → Bool) (items : List HeldOp) (n : ℕ) → ((i : HeldOp) → test i ≡ true → is_open i.fate ≡ true) → is_ended_at items n ≡ true → passes_at test items n ≡ false
closed test items n opens e = closed_step test (operation_at items n) opens e

pub find-ended : (test : HeldOp → Bool) (items : List HeldOp) (ns : List ℕ) (front : ℕ) → ((i : HeldOp) → test i ≡ true → is_open i.fate ≡ true) → list_all (is_ended_at items) (take front ns) ≡ true
    → find (passes_at test items) (drop front ns) ≡ find (passes_at test items) ns
find-ended test items [] zero opens all = refl
find-ended test items [] (suc k) opens all = refl
find-ended test items (n ∷ ns) zero opens all = refl
find-ended test items (n ∷ ns) (suc k) opens all =
    let parts = and_parts (is_ended_at items n) (list_all (is_ended_at items) (take k ns)) all in
    find-ended test items ns k opens parts.1 ∙ ap (λ b. cond b (Some n) (find (passes_at test items) ns)) (sym (closed test items n opens parts.0))

pub at_place : (items : List HeldOp) (k : ℕ) (d : HeldOp) → k < length items → Some (get_or items k d) ≡ slice_get items k
at_place [] k d lt = absurd (omega (arith, lt))
at_place (i ∷ items) zero d lt = refl
at_place (i ∷ items) (suc k) d lt = at_place items k d (omega (arith, lt))

pub past_place : (items : List HeldOp) (k : ℕ) → length items ≤ k → None ≡ slice_get items k
past_place [] k le = refl
past_place (i ∷ items) zero le = absurd (omega (arith, le))
past_place (i ∷ items) (suc k) le = past_place items k (omega (arith, le))

open_step : (f a b o c : Bool) → (f && a && b && o && c) ≡ true → f ≡ true
open_step true a b o c e = refl
open_step false a b o c e = cc

pub against_open : (t : ℕ) (exempt : List ℕ) (ob : ℕ) (op : Op) (i : HeldOp) → is_against t exempt ob op i ≡ true → is_open i.fate ≡ true
against_open t exempt ob op i e = open_step (is_open i.fate) (not (i.holder.0 == t)) (not (list_any (λ k. k == i.holder.0) exempt)) (i.ob.0 == ob) (ops_conflict i.op op) e

-- one more operation
pub numbers_from-append : (test : HeldOp → Bool) (n : ℕ) (items : List HeldOp) (i : HeldOp)
    → numbers_from test n (items ++ i ∷ []) ≡ numbers_from test n items ++ (if test i then (n + length items) ∷ [] else [])
numbers_from-append test n [] i = grind (arith, common_steps)
numbers_from-append test n (j ∷ items) i = let later = numbers_from-append test (n + 1) items i in grind (arith, common_steps, later)

pub AreListed-more : {A : Type 0} (mode : Op → Option LockMode) (items : List HeldOp) (m n : ModeKey → Option (ModeList A)) (i : HeldOp) (number : ℕ) → number ≡ 1 + length items → AreListed mode items m
    → ((q : ModeKey) → numbers_in n q ≡ (if belongs mode q i then numbers_in m q ++ number ∷ [] else numbers_in m q)) → AreListed mode (items ++ i ∷ []) n
AreListed-more mode items m n i number at is after q =
    let more = numbers_from-append (belongs mode q) 1 items i in
    let here = is q in let now = after q in
    grind (arith, common_steps, more, here, now, at)

-- the mode of an operation does not change when it ends or is transferred
pub numbers-mapped : (test : HeldOp → Bool) (f : HeldOp → HeldOp) (n : ℕ) (items : List HeldOp) → ((i : HeldOp) → test (f i) ≡ test i) → numbers_from test n (map f items) ≡ numbers_from test n items
numbers-mapped test f n [] e = refl
numbers-mapped test f n (i ∷ items) e =
    ap (λ b. if b then n ∷ numbers_from test (n + 1) (map f items) else numbers_from test (n + 1) (map f items)) (e i)
    ∙ ap (λ l. if test i then n ∷ l else l) (numbers-mapped test f (n + 1) items e)

pub belongs_if : (mode : Op → Option LockMode) (q : ModeKey) (b : Bool) (x i : HeldOp) → belongs mode q x ≡ belongs mode q i → belongs mode q (if b then x else i) ≡ belongs mode q i
belongs_if mode q true x i e = e
belongs_if mode q false x i e = refl

pub AreListed-ended : {A : Type 0} (mode : Op → Option LockMode) (items : List HeldOp) (m : ModeKey → Option (ModeList A)) (t : ℕ) (fate : Fate) → AreListed mode items m → AreListed mode (ended t fate items) m
AreListed-ended mode items m t fate is q = is q ∙ sym (numbers-mapped (belongs mode q) (ended_op t fate) 1 items (λ i. belongs_if mode q (is_held t i) (record i { fate = fate }) i refl))

pub AreListed-transferred : {A : Type 0} (mode : Op → Option LockMode) (items : List HeldOp) (m : ModeKey → Option (ModeList A)) (t : ℕ) (u : TxnId) → AreListed mode items m → AreListed mode (transferred t u items) m
AreListed-transferred mode items m t u is q = is q ∙ sym (numbers-mapped (belongs mode q) (transferred_op t u) 1 items (λ i. belongs_if mode q (is_held t i) (record i { holder = u }) i refl))

numbers-transferred_of : (mode : Op → Option LockMode) (q : ModeKey) (t : ℕ) (ops : List OpNo) (u : TxnId) (n : ℕ) (items : List HeldOp) → numbers_from (belongs mode q) n (transferred_from n t ops u items) ≡ numbers_from (belongs mode q) n items
numbers-transferred_of mode q t ops u n [] = refl
numbers-transferred_of mode q t ops u n (i ∷ items) =
    ap (λ b. if b then n ∷ numbers_from (belongs mode q) (n + 1) (transferred_from (n + 1) t ops u items) else numbers_from (belongs mode q) (n + 1) (transferred_from (n + 1) t ops u items)) (belongs_if mode q (is_held t i && is_named ops n) (record i { holder = u }) i refl)
    ∙ ap (λ l. if belongs mode q i then n ∷ l else l) (numbers-transferred_of mode q t ops u (n + 1) items)

pub AreListed-transferred_of : {A : Type 0} (mode : Op → Option LockMode) (items : List HeldOp) (m : ModeKey → Option (ModeList A)) (t : ℕ) (ops : List OpNo) (u : TxnId) → AreListed mode items m → AreListed mode (transferred_of t ops u items) m
AreListed-transferred_of mode items m t ops u is q = is q ∙ sym (numbers-transferred_of mode q t ops u 1 items)

-- an operation that has ended never begins again
abbrev pub NoneReopens : List HeldOp → List HeldOp → Type 0
NoneReopens items after = (n : ℕ) → is_ended_at items n ≡ true → is_ended_at after n ≡ true

still_ended : (items after : List HeldOp) (ns : List ℕ) → NoneReopens items after → list_all (is_ended_at items) ns ≡ true → list_all (is_ended_at after) ns ≡ true
still_ended items after [] stay all = refl
still_ended items after (n ∷ ns) stay all =
    let parts = and_parts (is_ended_at items n) (list_all (is_ended_at items) ns) all in
    ap (λ b. b && list_all (is_ended_at after) ns) (stay n parts.0) ∙ still_ended items after ns stay parts.1

pub FrontsHold-after : {A : Type 0} (items after : List HeldOp) (m : ModeKey → Option (ModeList A)) → NoneReopens items after → FrontsHold items m → FrontsHold after m
FrontsHold-after items after m stay hold q = ((hold q).0, still_ended items after (take (front_in m q) (numbers_in m q)) stay (hold q).1)

abbrev has_ended : HeldOp → Bool
has_ended i = not (is_open i.fate)

ended_if : (b : Bool) (x i : HeldOp) → (has_ended i ≡ true → has_ended x ≡ true) → has_ended i ≡ true → has_ended (if b then x else i) ≡ true
ended_if true x i from e = from e
ended_if false x i from e = e

-- what holds of an operation still holds after it is changed, and after one more is added
mapped_at : (P : HeldOp → Bool) (f : HeldOp → HeldOp) (items : List HeldOp) (k : ℕ) → ((i : HeldOp) → P i ≡ true → P (f i) ≡ true)
    → option_map_or P (slice_get items k) false ≡ true → option_map_or P (slice_get (map f items) k) false ≡ true
mapped_at P f [] k from e = e
mapped_at P f (i ∷ items) zero from e = from i e
mapped_at P f (i ∷ items) (suc k) from e = mapped_at P f items k from e

pub passes-mapped : (P : HeldOp → Bool) (f : HeldOp → HeldOp) (items : List HeldOp) → ((i : HeldOp) → P i ≡ true → P (f i) ≡ true) → (n : ℕ) → passes_at P items n ≡ true → passes_at P (map f items) n ≡ true
passes-mapped P f items from zero e = e
passes-mapped P f items from (suc k) e = mapped_at P f items k from e

appended_at : (P : HeldOp → Bool) (items : List HeldOp) (x : HeldOp) (k : ℕ) → option_map_or P (slice_get items k) false ≡ true → option_map_or P (slice_get (items ++ x ∷ []) k) false ≡ true
appended_at P [] x k e = cc
appended_at P (i ∷ items) x zero e = e
appended_at P (i ∷ items) x (suc k) e = appended_at P items x k e

pub passes-appended : (P : HeldOp → Bool) (items : List HeldOp) (x : HeldOp) (n : ℕ) → passes_at P items n ≡ true → passes_at P (items ++ x ∷ []) n ≡ true
passes-appended P items x zero e = e
passes-appended P items x (suc k) e = appended_at P items x k e

pub NoneReopens-ended : (t : ℕ) (fate : Fate) (items : List HeldOp) → is_open fate ≡ false → NoneReopens items (ended t fate items)
NoneReopens-ended t fate items closed = passes-mapped has_ended (ended_op t fate) items (λ i e. ended_if (is_held t i) (record i { fate = fate }) i (λ _. ap not closed) e)

pub NoneReopens-transferred : (t : ℕ) (u : TxnId) (items : List HeldOp) → NoneReopens items (transferred t u items)
NoneReopens-transferred t u items = passes-mapped has_ended (transferred_op t u) items (λ i e. ended_if (is_held t i) (record i { holder = u }) i (λ x. x) e)

transferred_at : (t : ℕ) (ops : List OpNo) (u : TxnId) (n : ℕ) (items : List HeldOp) (k : ℕ) → option_map_or has_ended (slice_get items k) false ≡ true → option_map_or has_ended (slice_get (transferred_from n t ops u items) k) false ≡ true
transferred_at t ops u n [] k e = e
transferred_at t ops u n (i ∷ items) zero e = ended_if (is_held t i && is_named ops n) (record i { holder = u }) i (λ x. x) e
transferred_at t ops u n (i ∷ items) (suc k) e = transferred_at t ops u (n + 1) items k e

pub NoneReopens-transferred_of : (t : ℕ) (ops : List OpNo) (u : TxnId) (items : List HeldOp) → NoneReopens items (transferred_of t ops u items)
NoneReopens-transferred_of t ops u items zero e = e
NoneReopens-transferred_of t ops u items (suc k) e = transferred_at t ops u 1 items k e

-- one more number at the end of a list
longer : (items : List HeldOp) (ns : List ℕ) (n front : ℕ) → HaveEnded items ns front → HaveEnded items (ns ++ n ∷ []) front
longer items ns n front is =
    (omega (arith, is.0, length_push ns n), ap (list_all (is_ended_at items)) (take-append-le front ns (n ∷ []) is.0) ∙ is.1)

longer_if : (items : List HeldOp) (b : Bool) (ns : List ℕ) (n front : ℕ) → HaveEnded items ns front → HaveEnded items (if b then ns ++ n ∷ [] else ns) front
longer_if items true ns n front is = longer items ns n front is
longer_if items false ns n front is = is

pub FrontsHold-added : {A : Type 0} (mode : Op → Option LockMode) (items : List HeldOp) (m n : ModeKey → Option (ModeList A)) (x : HeldOp) (number : ℕ) → FrontsHold items m
    → ((q : ModeKey) → numbers_in n q ≡ (if belongs mode q x then numbers_in m q ++ number ∷ [] else numbers_in m q)) → ((q : ModeKey) → front_in n q ≡ front_in m q) → FrontsHold (items ++ x ∷ []) n
FrontsHold-added mode items m n x number hold after same q =
    let was = FrontsHold-after items (items ++ x ∷ []) m (passes-appended has_ended items x) hold q in
    HaveEnded-same (items ++ x ∷ []) (if belongs mode q x then numbers_in m q ++ number ∷ [] else numbers_in m q) (numbers_in n q) (front_in m q) (front_in n q) (sym (after q)) (sym (same q))
    (longer_if (items ++ x ∷ []) (belongs mode q x) (numbers_in m q) number (front_in m q) was)

pub AreListed-same : {A : Type 0} (mode : Op → Option LockMode) (items : List HeldOp) (m n : ModeKey → Option (ModeList A)) → AreListed mode items m → ((q : ModeKey) → numbers_in n q ≡ numbers_in m q) → AreListed mode items n
AreListed-same mode items m n is same q = same q ∙ is q

pub FrontsHold-same : {A : Type 0} (items : List HeldOp) (m n : ModeKey → Option (ModeList A)) → FrontsHold items m → ((q : ModeKey) → numbers_in n q ≡ numbers_in m q) → ((q : ModeKey) → front_in n q ≡ front_in m q) → FrontsHold items n
FrontsHold-same items m n hold same fronts q = HaveEnded-same items (numbers_in m q) (numbers_in n q) (front_in m q) (front_in n q) (sym (same q)) (sym (fronts q)) (hold q)
