-- The record of each transaction after one more item, and at an earlier place.
use Rattle.std.proofs.Common.{if◌then◌else◌, ◌≡◌, ℕ, ◌+◌, ◌<◌, ◌≤◌, Bool, true, false, ◌==◌, cond, leb, List, [], ◌∷◌, ◌++◌, length, take, drop, get_or, Option, Some, None, option_map, is_some, refl, sym, ap, ◌∙◌, arith}
use Rattle.std.specs.List.{find, AllByRecursion}
use Rattle.std.specs.Option.{option_or, option_and_then, option_map_or}
use Rattle.std.proofs.Math.ListN.{replicate}
use Rattle.std.proofs.lemmas.Bool.{true≢false, le-leb, lt-leb, cond-true, cond-false}
use Rattle.std.proofs.lemmas.List.{length_push, take_more, take-append-drop, length-take}
use Rattle.acta_table.specs.declared.event.ClassId.{ClassId}
use Rattle.acta_table.specs.declared.event.Event.{Event}
use Rattle.acta_table.specs.declared.event.Event.TheVariants.{Begin, Spawn, Split, Join, Commit, Abort}
use Rattle.acta_table.specs.declared.event.Kept.{Kept}
use Rattle.acta_table.specs.declared.event.TxnId.{TxnId}
use Rattle.acta_table.specs.declared.model.Class.{Class}
use Rattle.acta_table.specs.declared.model.Parts.{Parts}
use Rattle.acta_table.specs.Classes.{class_at, has_heir}
use Rattle.acta_table.specs.Events.{class_named}
use Rattle.acta_axioms.specs.declared.txn_record.TxnRecord.{TxnRecord}
use Rattle.acta_axioms.specs.History.{Place, number, places, places_after, first, starts, commits, aborts, joins, has_begun, class_number, class_of, spawner, parent_of, course}
use Rattle.acta_axioms.specs.Operations.{heir}
use Rattle.acta_axioms.specs.inside.TxnRecords.{unbegun, class_id, txn_record, begun_in, or_at, started, further, class_by, heir_of_line, heir_by, heir_in, before_place, heir_before}
use Rattle.acta_axioms.proofs.Growth.{found-passes, first-append, places_within, course-push, class_number-push, parent_of-push}
use Rattle.acta_axioms.proofs.Tables.{get_or-blank}

-- a transaction that has not begun has no class and no parent
start-unbegun : {A X : Type 0} (by : Place A → Option X) (o : Option (Place A)) → is_some (option_map number o) ≡ false → option_and_then by o ≡ None
start-unbegun by None is = refl
start-unbegun by (Some p) is = absurd (true≢false is)

class-unbegun : {A : Type 0} (h : List (Kept A)) (t : ℕ) → is_some (course h t).start ≡ false → class_number h t ≡ None
class-unbegun h t = start-unbegun _ (first (starts t) h)

parent-unbegun : {A : Type 0} (h : List (Kept A)) (t : ℕ) → is_some (course h t).start ≡ false → parent_of h t ≡ None
parent-unbegun h t = start-unbegun _ (first (starts t) h)

-- a record from its parts
abbrev made_of : Option ℕ → Option ℕ → Option ℕ → Option ℕ → Option ℕ → Option TxnId → TxnRecord
made_of s c a j class parent = record { course = record { start = s; commit = c; abort = a; join = j }; class = class_id class; parent = parent }

-- the old place, or else this one if the test is true
abbrev here : ℕ → Option ℕ → Bool → Option ℕ
here n o b = option_or o (cond b (Some n) None)

or_where : (n : ℕ) (o : Option ℕ) (b : Bool) → here n o b ≡ (if b then or_at n o else o)
or_where n None true = refl
or_where n None false = refl
or_where n (Some m) true = refl
or_where n (Some m) false = refl

-- the old value if the transaction has begun, otherwise the value that its start gives
abbrev given : {X : Type 0} → Option ℕ → Bool → Option X → Option X → Option X
given s b new old = if is_some s then old else if b then new else None

given-nothing : {X : Type 0} (s : Option ℕ) (new old : Option X) → (is_some s ≡ false → old ≡ None) → given s false new old ≡ old
given-nothing None new old none = sym (none refl)
given-nothing (Some i) new old none = refl

-- an event that starts the transaction, if the test is true
start_line : (n : ℕ) (b : Bool) (s c a j class : Option ℕ) (parent : Option TxnId) (new : ClassId) (by : Option TxnId) → (is_some s ≡ false → class ≡ None) → (is_some s ≡ false → parent ≡ None) →
    made_of (here n s b) (here n c false) (here n a false) (here n j false) (given s b (Some new.0) class) (given s b by parent)
    ≡ (if b then started n new by (made_of s c a j class parent) else made_of s c a j class parent)
start_line n true None c a j class parent new by no_class no_parent = λ i. made_of (Some n) (or_where n c false i) (or_where n a false i) (or_where n j false i) (Some new.0) by
start_line n true (Some m) c a j class parent new by no_class no_parent = λ i. made_of (Some m) (or_where n c false i) (or_where n a false i) (or_where n j false i) class parent
start_line n false s c a j class parent new by no_class no_parent = λ i.
    made_of (or_where n s false i) (or_where n c false i) (or_where n a false i) (or_where n j false i) (given-nothing s (Some new.0) class no_class i) (given-nothing s by parent no_parent i)

-- a record with one of two places
where_true : (line : Option ℕ → TxnRecord) (b : Bool) (o p : Option ℕ) → line (if b then o else p) ≡ (if b then line o else line p)
where_true line true o p = refl
where_true line false o p = refl

-- the record after one more item
txn_record-push : {A : Type 0} (h : List (Kept A)) (k : Kept A) (t : ℕ) → txn_record (h ++ k ∷ []) t ≡ further (length h + 1) (has_begun h) k.event t (txn_record h t)
txn_record-push {A} h k t = (λ i. record { course = course-push h k t i; class = class_id (class_number-push h k t i); parent = parent_of-push h k t i }) ∙ of_event k.event
  where
    n : ℕ
    n = length h + 1

    s : Option ℕ
    s = (course h t).start

    c : Option ℕ
    c = (course h t).commit

    a : Option ℕ
    a = (course h t).abort

    j : Option ℕ
    j = (course h t).join

    -- an event that starts no transaction, by whether it ends t by a commit, an abort or a join
    ended : (b d f : Bool) → made_of (here n s false) (here n c b) (here n a d) (here n j f) (given s false None (class_number h t)) (given s false None (parent_of h t))
        ≡ made_of s (if b then or_at n c else c) (if d then or_at n a else a) (if f then or_at n j else j) (class_number h t) (parent_of h t)
    ended b d f = λ i.
        made_of (or_where n s false i) (or_where n c b i) (or_where n a d i) (or_where n j f i) (given-nothing s None (class_number h t) (class-unbegun h t) i) (given-nothing s None (parent_of h t) (parent-unbegun h t) i)

    of_event : (e : Event A) →
        made_of (here n s (starts t e)) (here n c (commits t e)) (here n a (aborts t e)) (here n j (joins t e)) (given s (starts t e) (class_named e) (class_number h t)) (given s (starts t e) (spawner h e) (parent_of h t))
        ≡ further n (has_begun h) e t (made_of s c a j (class_number h t) (parent_of h t))
    of_event (Begin u class) = start_line n (u.0 == t) s c a j (class_number h t) (parent_of h t) class None (class-unbegun h t) (parent-unbegun h t)
    of_event (Spawn v u class) = start_line n (u.0 == t) s c a j (class_number h t) (parent_of h t) class (spawner h (Spawn v u class)) (class-unbegun h t) (parent-unbegun h t)
    of_event (Split v u class ops) = start_line n (u.0 == t) s c a j (class_number h t) (parent_of h t) class None (class-unbegun h t) (parent-unbegun h t)
    of_event (Join u v) = ended false false (u.0 == t) ∙ where_true (λ o. made_of s c a o (class_number h t) (parent_of h t)) (u.0 == t) (or_at n j) j
    of_event (Commit u) = ended (u.0 == t) false false ∙ where_true (λ o. made_of s o a j (class_number h t) (parent_of h t)) (u.0 == t) (or_at n c) c
    of_event (Abort u) = ended false (u.0 == t) false ∙ where_true (λ o. made_of s c o j (class_number h t) (parent_of h t)) (u.0 == t) (or_at n a) a
    of_event _ = ended false false false

-- a table of blank records is right before the first item
pub lines-blank : {A : Type 0} (h : List (Kept A)) (lines : List TxnRecord) (n t : ℕ) → lines ≡ replicate n unbegun → get_or lines t unbegun ≡ txn_record (take 0 h) t
lines-blank h lines n t blank = ap (λ xs. get_or xs t unbegun) blank ∙ get_or-blank n t unbegun

-- one more item, in a table
pub lines-more : {A : Type 0} (h : List (Kept A)) (n : ℕ) (d : Kept A) (old new : List TxnRecord) → n < length h →
    ((t : ℕ) → get_or old t unbegun ≡ txn_record (take n h) t) → ((t : ℕ) → get_or new t unbegun ≡ further (n + 1) (begun_in old) (get_or h n d).event t (get_or old t unbegun)) →
    (t : ℕ) → get_or new t unbegun ≡ txn_record (take (n + 1) h) t
lines-more h n d old new within old_are step t =
    let long : length (take n h) ≡ n = length-take n h ∙ omega arith in
    step t
    ∙ (λ x. further (sym long x + 1) (λ u. is_some (old_are u x).course.start) (get_or h n d).event t (old_are t x))
    ∙ sym (txn_record-push (take n h) (get_or h n d) t)
    ∙ sym (ap (λ g. txn_record g t) (take_more h n d within))

-- the class of a transaction, by its record
pub class-lined : {A : Type 0} (m : Parts A) (h : List (Kept A)) (t : ℕ) → class_by m (txn_record h t) ≡ class_of m h t
class-lined {A} m h t = of_number (class_number h t)
  where
    of_number : (n : Option ℕ) → option_and_then (λ (class : ClassId). class_at m class.0) (class_id n) ≡ option_and_then (class_at m) n
    of_number None = refl
    of_number (Some n) = refl

-- the heir by the class and the parent
heir-lined : {A : Type 0} (m : Parts A) (h : List (Kept A)) (t : ℕ) → heir_of_line m (txn_record h t) ≡ heir m h t
heir-lined m h t = ap (λ k. if option_map_or (λ (c : Class _). has_heir c.at_commit) k false then parent_of h t else None) (class-lined m h t)

pub heir-tabled : {A : Type 0} (m : Parts A) (h : List (Kept A)) (lines : List TxnRecord) (e : Event A) → ((t : ℕ) → get_or lines t unbegun ≡ txn_record h t) → heir_in m lines e ≡ heir_by m h e
heir-tabled m h lines (Commit t) are = ap (heir_of_line m) (are t.0) ∙ heir-lined m h t.0
heir-tabled m h lines _ are = refl

-- at an earlier place

-- after some items every place has a greater number than theirs
places_past : {A : Type 0} (n : ℕ) (before h : List (Kept A)) → n ≤ length before → AllByRecursion (λ p. n < number p) (places_after before h)
places_past n before [] past = tt
places_past n before (k ∷ ks) past = (omega arith, places_past n (before ++ k ∷ []) ks (let grown = length_push before k in omega arith))

-- the heir by the first start: in the whole history, and if it is among the first n places
abbrev heir_from : {A : Type 0} → Parts A → Option (Place A) → Option TxnId
heir_from m o =
    if option_map_or (λ (c : Class _). has_heir c.at_commit) (option_and_then (λ (class : ClassId). class_at m class.0) (class_id (option_and_then (λ (p : Place _). class_named p.kept.event) o))) false
    then option_and_then (λ (p : Place _). spawner p.before p.kept.event) o
    else None

abbrev heir_up_to : {A : Type 0} → Parts A → ℕ → Option (Place A) → Option TxnId
heir_up_to m n o = if option_map_or (λ start. leb start n) (option_map number o) false then heir_from m o else None

up_to : {A : Type 0} (m : Parts A) (n : ℕ) (o p : Option (Place A)) → ((q : Place A) → o ≡ Some q → number q ≤ n) → ((q : Place A) → p ≡ Some q → n < number q) → heir_up_to m n (option_or o p) ≡ heir_from m o
up_to m n (Some q) p low high = cond-true _ _ _ (le-leb (number q) n (low q refl))
up_to m n None None low high = refl
up_to m n None (Some q) low high = cond-false _ _ _ (lt-leb (number q) n (high q refl))

-- the heir after the first n places, by the record for the whole history
heir-earlier : {A : Type 0} (m : Parts A) (h : List (Kept A)) (n t : ℕ) → n ≤ length h → heir_of_line m (before_place n (txn_record h t)) ≡ heir m (take n h) t
heir-earlier {A} m h n t within =
    in_test (option_map_or (λ start. leb start n) (course h t).start false)
    ∙ ap (heir_up_to m n) parted
    ∙ up_to m n (first (starts t) (take n h)) (find (λ p. starts t p.kept.event) (places_after (take n h) (drop n h))) among behind
    ∙ heir-lined m (take n h) t
  where
    long : length (take n h) ≡ n
    long = length-take n h ∙ omega arith

    in_test : (b : Bool) → heir_of_line m (if b then txn_record h t else unbegun) ≡ (if b then heir_of_line m (txn_record h t) else None)
    in_test true = refl
    in_test false = refl

    parted : first (starts t) h ≡ option_or (first (starts t) (take n h)) (find (λ p. starts t p.kept.event) (places_after (take n h) (drop n h)))
    parted = ap (first (starts t)) (sym (take-append-drop n h)) ∙ first-append (starts t) (take n h) (drop n h)

    among : (q : Place A) → first (starts t) (take n h) ≡ Some q → number q ≤ n
    among q is = let low = (found-passes (λ p. starts t p.kept.event) (λ p. number p ≤ length (take n h)) (places (take n h)) q (places_within (length (take n h)) [] (take n h) (omega arith)) is).1 in omega (arith, low, long)

    behind : (q : Place A) → find (λ p. starts t p.kept.event) (places_after (take n h) (drop n h)) ≡ Some q → n < number q
    behind q is = (found-passes (λ p. starts t p.kept.event) (λ p. n < number p) (places_after (take n h) (drop n h)) q (places_past n (take n h) (drop n h) (omega (arith, long))) is).1

pub heir-before : {A : Type 0} (m : Parts A) (h : List (Kept A)) (lines : List TxnRecord) (n : ℕ) (e : Event A) → n ≤ length h → ((t : ℕ) → get_or lines t unbegun ≡ txn_record h t) → heir_before m n lines e ≡ heir_by m (take n h) e
heir-before m h lines n (Commit t) within are = ap (λ line. heir_of_line m (before_place n line)) (are t.0) ∙ heir-earlier m h n t.0 within
heir-before m h lines n _ within are = refl
