-- Each notion when one kept item is appended to a history.
use Rattle.std.proofs.Common.{subst, if◌then◌else◌, suc, ◌≡◌, ℕ, ◌+◌, ◌<◌, ◌≤◌, Bool, true, false, ◌||◌, cond, List, [], ◌∷◌, ◌++◌, length, map, drop, fold, Option, Some, None, option_map, refl, sym, ap, ◌∙◌, arith, is_some}
use Rattle.std.specs.List.{find, filter_map, flat_map, cons_option, count_by, AllByRecursion}
use Rattle.std.specs.Option.{option_or, option_and_then, option_map_or}
use Rattle.std.proofs.lemmas.List.{append-nil, append_assoc, length_push, drop-append-le, drop_all, map-append}
use Rattle.std.proofs.lemmas.List.Folds.{find-append}
use Rattle.std.proofs.lemmas.List.Elements.{filter_map-append}
use Rattle.std.proofs.lemmas.Grind.{flat_map-append, fold-append}
use Rattle.std.proofs.lemmas.Bool.{false≢true}
use Rattle.std.proofs.lemmas.Option.{none-some, same_Some, cond_some}
use Rattle.acta_table.specs.declared.event.Event.{Event}
use Rattle.acta_table.specs.declared.event.Event.TheVariants.{Spawn, Operate}
use Rattle.acta_table.specs.declared.event.Kept.{Kept}
use Rattle.acta_table.specs.declared.event.TxnId.{TxnId}
use Rattle.acta_table.specs.declared.model.Class.{Class}
use Rattle.acta_table.specs.declared.model.Parts.{Parts}
use Rattle.acta_table.specs.Events.{class_named}
use Rattle.acta_table.specs.Classes.{class_at}
use Rattle.acta_axioms.specs.History.{Place, number, places_after, places, first, starts, commits, aborts, joins, course, has_begun, class_number, class_of, spawner, parent_of}
use Rattle.acta_axioms.specs.Operations.{Operation, is_operate, number_after, operation_in, operation_at, operations, Standing, held_by, carried, standing}
use Rattle.acta_axioms.specs.Faults.{faults_at, faults_in_places}

-- an item that is found passes the test, and has any property that all items have
pub found-passes : {X : Type 0} (test : X → Bool) (P : X → Type 0) (xs : List X) (x : X) → AllByRecursion P xs → find test xs ≡ Some x → (test x ≡ true) × P x
found-passes test P [] x all is = absurd (none-some x is)
found-passes test P (y ∷ ys) x all is = here (test y) refl is (found-passes test P ys x all.1)
  where
    here : (b : Bool) → test y ≡ b → cond b (Some y) (find test ys) ≡ Some x → (find test ys ≡ Some x → (test x ≡ true) × P x) → (test x ≡ true) × P x
    here true e is later = (ap test (sym (same_Some y x is)) ∙ e, subst P (same_Some y x is) all.0)
    here false e is later = later is

-- the place of an item at the end of a history
abbrev pub at_end : {A : Type 0} → List (Kept A) → Kept A → Place A
at_end h k = record { before = h; kept = k }

pub places_after-append : {A : Type 0} (before xs ys : List (Kept A)) → places_after before (xs ++ ys) ≡ places_after before xs ++ places_after (before ++ xs) ys
places_after-append before [] ys = ap (λ b. places_after b ys) (sym (append-nil before))
places_after-append before (x ∷ xs) ys =
    ap (λ ps. record { before = before; kept = x } ∷ ps)
    (places_after-append (before ++ x ∷ []) xs ys ∙ ap (λ b. places_after (before ++ x ∷ []) xs ++ places_after b ys) (append_assoc before (x ∷ []) xs))

pub places-push : {A : Type 0} (h : List (Kept A)) (k : Kept A) → places (h ++ k ∷ []) ≡ places h ++ at_end h k ∷ []
places-push h k = places_after-append [] h (k ∷ [])

length-places_after : {A : Type 0} (before h : List (Kept A)) → length (places_after before h) ≡ length h
length-places_after before [] = refl
length-places_after before (k ∷ ks) = ap suc (length-places_after (before ++ k ∷ []) ks)

pub length-places : {A : Type 0} (h : List (Kept A)) → length (places h) ≡ length h
length-places h = length-places_after [] h

pub first-push : {A : Type 0} (test : Event A → Bool) (h : List (Kept A)) (k : Kept A) → first test (h ++ k ∷ []) ≡ option_or (first test h) (cond (test k.event) (Some (at_end h k)) None)
first-push test h k = ap (find (λ p. test p.kept.event)) (places-push h k) ∙ find-append (λ p. test p.kept.event) (places h) (at_end h k ∷ [])

-- the old place, or else the new one if the test is true
abbrev pub or_here : {A : Type 0} → List (Kept A) → Option ℕ → Bool → Option ℕ
or_here h old now = option_or old (cond now (Some (length h + 1)) None)

pub or_here-false : {A : Type 0} (h : List (Kept A)) (o : Option ℕ) → or_here h o false ≡ o
or_here-false h None = refl
or_here-false h (Some n) = refl

pub option_map-or : {X Y : Type 0} (f : X → Y) (o p : Option X) → option_map f (option_or o p) ≡ option_or (option_map f o) (option_map f p)
option_map-or f None p = refl
option_map-or f (Some x) p = refl

option_map-cond : {X Y : Type 0} (f : X → Y) (b : Bool) (x : X) → option_map f (cond b (Some x) None) ≡ cond b (Some (f x)) None
option_map-cond f true x = refl
option_map-cond f false x = refl

pub first_place-push : {A : Type 0} (test : Event A → Bool) (h : List (Kept A)) (k : Kept A) → option_map number (first test (h ++ k ∷ [])) ≡ or_here h (option_map number (first test h)) (test k.event)
first_place-push test h k =
    ap (option_map number) (first-push test h k) ∙ option_map-or number (first test h) (cond (test k.event) (Some (at_end h k)) None)
    ∙ ap (option_or (option_map number (first test h))) (option_map-cond number (test k.event) (at_end h k))

-- each first place is unchanged, or is the new one
pub course-push : {A : Type 0} (h : List (Kept A)) (k : Kept A) (t : ℕ) → course (h ++ k ∷ []) t ≡ record {
  start = or_here h (course h t).start (starts t k.event);
  commit = or_here h (course h t).commit (commits t k.event);
  abort = or_here h (course h t).abort (aborts t k.event);
  join = or_here h (course h t).join (joins t k.event);
}
course-push h k t = λ i. record {
  start = first_place-push (starts t) h k i;
  commit = first_place-push (commits t) h k i;
  abort = first_place-push (aborts t) h k i;
  join = first_place-push (joins t) h k i;
}

-- whether the event ends t
abbrev pub ends : {A : Type 0} → ℕ → Event A → Bool
ends t e = commits t e || (aborts t e || joins t e)

and_then-or : {X Y : Type 0} (f : X → Option Y) (o p : Option X) → option_and_then f (option_or o p) ≡ (if is_some o then option_and_then f o else option_and_then f p)
and_then-or f None p = refl
and_then-or f (Some x) p = refl

first_start : {A : Type 0} (h : List (Kept A)) (t : ℕ) → is_some (first (starts t) h) ≡ has_begun h t
first_start {A} h t = same (first (starts t) h)
  where
    same : (o : Option (Place A)) → is_some o ≡ is_some (option_map number o)
    same None = refl
    same (Some p) = refl

-- a transaction that has begun keeps its class
pub class_number-push : {A : Type 0} (h : List (Kept A)) (k : Kept A) (t : ℕ) → class_number (h ++ k ∷ []) t ≡ (if has_begun h t then class_number h t else if starts t k.event then class_named k.event else None)
class_number-push {A} h k t =
    let by = λ (p : Place A). class_named p.kept.event in
    ap (option_and_then by) (first-push (starts t) h k)
    ∙ and_then-or by (first (starts t) h) (cond (starts t k.event) (Some (at_end h k)) None)
    ∙ (λ i. if first_start h t i then class_number h t else at_cond (starts t k.event) i)
  where
    at_cond : (b : Bool) → option_and_then (λ p. class_named p.kept.event) (cond b (Some (at_end h k)) None) ≡ (if b then class_named k.event else None)
    at_cond true = refl
    at_cond false = refl

-- the class that an event names, if it is in the model
abbrev pub class_in : {A : Type 0} → Parts A → Event A → Option (Class A)
class_in m e = option_and_then (class_at m) (class_named e)

pub class_of-push : {A : Type 0} (m : Parts A) (h : List (Kept A)) (k : Kept A) (t : ℕ) → class_of m (h ++ k ∷ []) t ≡ (if has_begun h t then class_of m h t else if starts t k.event then class_in m k.event else None)
class_of-push m h k t =
    ap (option_and_then (class_at m)) (class_number-push h k t) ∙ push_in (has_begun h t) (starts t k.event)
  where
    push_in : (a b : Bool) → option_and_then (class_at m) (if a then class_number h t else if b then class_named k.event else None) ≡ (if a then class_of m h t else if b then class_in m k.event else None)
    push_in true b = refl
    push_in false true = refl
    push_in false false = refl

-- and its parent
pub parent_of-push : {A : Type 0} (h : List (Kept A)) (k : Kept A) (t : ℕ) → parent_of (h ++ k ∷ []) t ≡ (if has_begun h t then parent_of h t else if starts t k.event then spawner h k.event else None)
parent_of-push {A} h k t =
    let by = λ (p : Place A). spawner p.before p.kept.event in
    ap (option_and_then by) (first-push (starts t) h k)
    ∙ and_then-or by (first (starts t) h) (cond (starts t k.event) (Some (at_end h k)) None)
    ∙ (λ i. if first_start h t i then parent_of h t else at_cond (starts t k.event) i)
  where
    at_cond : (b : Bool) → option_and_then (λ p. spawner p.before p.kept.event) (cond b (Some (at_end h k)) None) ≡ (if b then spawner h k.event else None)
    at_cond true = refl
    at_cond false = refl

-- operations

-- the operation that an item at the end adds, if it is one
abbrev pub added : {A : Type 0} → List (Kept A) → Kept A → List Operation
added h k = cons_option (operation_at (at_end h k)) []

pub operations-push : {A : Type 0} (h : List (Kept A)) (k : Kept A) → operations (h ++ k ∷ []) ≡ operations h ++ added h k
operations-push h k = ap (filter_map operation_at) (places-push h k) ∙ filter_map-append operation_at (places h) (at_end h k ∷ [])

pub number_after-push : {A : Type 0} (h : List (Kept A)) (k : Kept A) → number_after (h ++ k ∷ []) ≡ number_after h + cond (is_operate k.event) 1 0
number_after-push h k =
    let more : count_by (λ q. is_operate q.event) (h ++ k ∷ []) ≡ count_by (λ q. is_operate q.event) h + cond (is_operate k.event) 1 0 =
    fold-append (λ a q. a + cond (is_operate q.event) 1 0) 0 h (k ∷ []) in
    omega arith

-- an earlier operation is followed through the new item
pub standing-push : {A : Type 0} (m : Parts A) (h : List (Kept A)) (k : Kept A) (o : Operation) → o.place ≤ length h → standing m (h ++ k ∷ []) o ≡ carried m o.number (standing m h o) (at_end h k)
standing-push m h k o within =
    let fits : o.place ≤ length (places h) = omega (arith, length-places h) in
    ap (λ ps. fold (carried m o.number) (held_by o.invoker) (drop o.place ps)) (places-push h k)
    ∙ ap (fold (carried m o.number) (held_by o.invoker)) (drop-append-le o.place (places h) (at_end h k ∷ []) fits)
    ∙ fold-append (carried m o.number) (held_by o.invoker) (drop o.place (places h)) (at_end h k ∷ [])

-- an operation at the end is held by its invoker
pub standing-new : {A : Type 0} (m : Parts A) (h : List (Kept A)) (o : Operation) → length h ≤ o.place → standing m h o ≡ held_by o.invoker
standing-new m h o past =
    let beyond : length (places h) ≤ o.place = omega (arith, length-places h) in
    ap (fold (carried m o.number) (held_by o.invoker)) (drop_all o.place (places h) beyond)

cons_option-all : {Y : Type 0} (Q : Y → Type 0) (o : Option Y) (ys : List Y) → ((y : Y) → o ≡ Some y → Q y) → AllByRecursion Q ys → AllByRecursion Q (cons_option o ys)
cons_option-all Q None ys here rest = rest
cons_option-all Q (Some y) ys here rest = (here y refl, rest)

filter_map-within : {X Y : Type 0} (P : X → Type 0) (Q : Y → Type 0) (f : X → Option Y) → ((x : X) (y : Y) → P x → f x ≡ Some y → Q y) → (xs : List X) → AllByRecursion P xs → AllByRecursion Q (filter_map f xs)
filter_map-within P Q f step [] none = tt
filter_map-within P Q f step (x ∷ xs) all = cons_option-all Q (f x) (filter_map f xs) (λ y e. step x y all.0 e) (filter_map-within P Q f step xs all.1)

pub places_within : {A : Type 0} (n : ℕ) (before h : List (Kept A)) → length before + length h ≤ n → AllByRecursion (λ p. number p ≤ n) (places_after before h)
places_within n before [] fits = tt
places_within n before (k ∷ ks) fits =
    let grown = length_push before k in
    (omega arith, places_within n (before ++ k ∷ []) ks (omega arith))

-- the place recorded in an operation is the place of its event
pub operation_place : {A : Type 0} (p : Place A) (o : Operation) → operation_at p ≡ Some o → number p ≡ o.place
operation_place {A} p o e = of_event p.kept.event e
  where
    of_event : (event : Event A) → operation_in p event ≡ Some o → number p ≡ o.place
    of_event (Operate t object op) is = ap (λ q. option_map_or (λ (x : Operation). x.place) q (number p)) is
    of_event _ is = absurd (none-some _ is)

-- the place of every operation is within the history
pub operations_within : {A : Type 0} (h : List (Kept A)) → AllByRecursion (λ o. o.place ≤ length h) (operations h)
operations_within h = filter_map-within (λ p. number p ≤ length h) (λ o. o.place ≤ length h) operation_at (λ p o fits e. let at = operation_place p o e in omega arith) (places h) (places_within (length h) [] h (omega arith))

pub map-agree : {X Y : Type 0} (P : X → Type 0) (f g : X → Y) → ((x : X) → P x → f x ≡ g x) → (xs : List X) → AllByRecursion P xs → map f xs ≡ map g xs
map-agree P f g same [] none = refl
map-agree P f g same (x ∷ xs) all = λ i. same x all.0 i ∷ map-agree P f g same xs all.1 i

pub added-new : {A : Type 0} (m : Parts A) (h : List (Kept A)) (k : Kept A) → AllByRecursion (λ o. standing m (h ++ k ∷ []) o ≡ held_by o.invoker) (added h k)
added-new m h k = cons_option-all _ (operation_at (at_end h k)) [] (λ o e. standing-new m (h ++ k ∷ []) o (let at = operation_place (at_end h k) o e in let grown = length_push h k in omega arith)) tt

-- a property of all operations and standings: earlier ones are followed through the item, a new one is held by its
-- invoker
pub shown-push : {A X : Type 0} (show : Operation → Standing → X) (m : Parts A) (h : List (Kept A)) (k : Kept A) →
    map (λ o. show o (standing m (h ++ k ∷ []) o)) (operations (h ++ k ∷ []))
    ≡ map (λ o. show o (carried m o.number (standing m h o) (at_end h k))) (operations h) ++ map (λ o. show o (held_by o.invoker)) (added h k)
shown-push show m h k =
    ap (map (λ o. show o (standing m (h ++ k ∷ []) o))) (operations-push h k)
    ∙ map-append (λ o. show o (standing m (h ++ k ∷ []) o)) (operations h) (added h k)
    ∙ (λ i. map-agree _ _ _ (λ o within. ap (show o) (standing-push m h k o within)) (operations h) (operations_within h) i ++ map-agree _ _ _ (λ o e. ap (show o) e) (added h k) (added-new m h k) i)

-- ancestors: parents start earlier, so the ancestors of a transaction that has begun stay the same

-- the items before a place are a prefix of the history
places_fronts : {A : Type 0} (before h : List (Kept A)) → AllByRecursion (λ (p : Place A). (rest : List (Kept A)) × (before ++ h ≡ p.before ++ rest)) (places_after before h)
places_fronts {A} before [] = tt
places_fronts {A} before (k ∷ ks) =
    ((k ∷ ks, refl), subst (λ g. AllByRecursion (λ (p : Place A). (rest : List (Kept A)) × (g ≡ p.before ++ rest)) (places_after (before ++ k ∷ []) ks)) (append_assoc before (k ∷ []) ks) (places_fronts (before ++ k ∷ []) ks))

pub first-append : {A : Type 0} (test : Event A → Bool) (xs ys : List (Kept A)) → first test (xs ++ ys) ≡ option_or (first test xs) (find (λ p. test p.kept.event) (places_after xs ys))
first-append test xs ys = ap (find (λ p. test p.kept.event)) (places_after-append [] xs ys) ∙ find-append (λ p. test p.kept.event) (places xs) (places_after xs ys)

-- t started at a place up to n
abbrev pub HasStartedBy : {A : Type 0} → List (Kept A) → ℕ → ℕ → Type 0
HasStartedBy h t n = (i : ℕ) × ((course h t).start ≡ Some i) × (i ≤ n)

-- a transaction that has begun started within the history
pub started_within : {A : Type 0} (h : List (Kept A)) (t : ℕ) → has_begun h t ≡ true → HasStartedBy h t (length h)
started_within {A} h t begun = of_first (first (starts t) h) refl begun
  where
    of_first : (o : Option (Place A)) → first (starts t) h ≡ o → is_some (option_map number o) ≡ true → HasStartedBy h t (length h)
    of_first None e is = absurd (false≢true is)
    of_first (Some p) e is = (number p, ap (option_map number) e, (found-passes (λ q. starts t q.kept.event) (λ q. number q ≤ length h) (places h) p (places_within (length h) [] h (omega arith)) e).1)

-- a transaction that began in a prefix of a history started there
front_start : {A : Type 0} (xs ys : List (Kept A)) (t : ℕ) → has_begun xs t ≡ true → HasStartedBy (xs ++ ys) t (length xs)
front_start {A} xs ys t begun =
    let at = started_within xs t begun in
    (at.0, ap (option_map number) (first-append (starts t) xs ys) ∙ kept_first (first (starts t) xs) (find (λ p. starts t p.kept.event) (places_after xs ys)) at.0 at.1, at.2)
  where
    kept_first : (o p : Option (Place A)) (i : ℕ) → option_map number o ≡ Some i → option_map number (option_or o p) ≡ Some i
    kept_first None p i is = absurd (none-some i is)
    kept_first (Some q) p i is = is

-- a parent started before its child
pub parent_earlier : {A : Type 0} (h : List (Kept A)) (t i : ℕ) (u : TxnId) → parent_of h t ≡ Some u → (course h t).start ≡ Some i → (j : ℕ) × ((course h u.0).start ≡ Some j) × (j < i)
parent_earlier {A} h t i u parent start = of_first (first (starts t) h) refl parent start
  where
    spawned : (before : List (Kept A)) (e : Event A) → spawner before e ≡ Some u → has_begun before u.0 ≡ true
    spawned before (Spawn s c class) is = let both = cond_some (has_begun before s.0) s u is in ap (λ (x : TxnId). has_begun before x.0) (sym both.1) ∙ both.0
    spawned before _ is = absurd (none-some u is)

    of_first : (o : Option (Place A)) → first (starts t) h ≡ o → option_and_then (λ p. spawner p.before p.kept.event) o ≡ Some u → option_map number o ≡ Some i → (j : ℕ) × ((course h u.0).start ≡ Some j) × (j < i)
    of_first None e is at = absurd (none-some u is)
    of_first (Some p) e is at =
        let front = (found-passes (λ q. starts t q.kept.event) (λ (q : Place A). (rest : List (Kept A)) × (h ≡ q.before ++ rest)) (places h) p (places_fronts [] h) e).1 in
        let begun = front_start p.before front.0 u.0 (spawned p.before p.kept.event is) in
        let here : number p ≡ i = same_Some (number p) i at in
        (begun.0, ap (λ g. (course g u.0).start) front.1 ∙ begun.1, (let low : begun.0 ≤ length p.before = begun.2 in omega arith))

-- faults

pub faults_in_places-push : {A : Type 0} (m : Parts A) (h : List (Kept A)) (k : Kept A) → faults_in_places m (h ++ k ∷ []) ≡ faults_in_places m h ++ faults_at m (at_end h k)
faults_in_places-push m h k =
    ap (flat_map (faults_at m)) (places-push h k) ∙ flat_map-append (faults_at m) (places h) (at_end h k ∷ [])
    ∙ ap (λ fs. faults_in_places m h ++ fs) (append-nil (faults_at m (at_end h k)))
