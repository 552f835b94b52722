-- The edges and the courses when one kept item is appended to a history.
use Rattle.std.proofs.Common.{if◌then◌else◌, ◌==◌, ◌≡◌, ℕ, ◌+◌, ◌≤◌, Bool, true, false, ◌&&◌, ◌||◌, not, List, [], ◌∷◌, ◌++◌, length, Option, Some, None, option_map, refl, sym, ap, ◌∙◌, arith}
use Rattle.std.specs.Prelude.{⊤}
use Rattle.std.specs.List.{flat_map, list_all}
use Rattle.std.specs.Option.{option_map_or}
use Rattle.std.proofs.lemmas.Bool.{true≢false, false≢true, eqb-true, eq-eqb, and_parts}
use Rattle.std.proofs.lemmas.List.{append-nil}
use Rattle.std.proofs.lemmas.List.Folds.{list_all-append}
use Rattle.std.proofs.lemmas.Grind.{flat_map-append, fold-append}
use Rattle.std.proofs.lemmas.Option.{none-some}
use Rattle.acta_table.specs.declared.answer.Rule.TheVariants.{SameTransaction}
use Rattle.acta_table.specs.declared.answer.Status.TheVariants.{InProgress}
use Rattle.acta_table.specs.declared.dep.Edge.{Edge}
use Rattle.acta_table.specs.declared.event.ClassId.{ClassId}
use Rattle.acta_table.specs.declared.event.Event.{Event}
use Rattle.acta_table.specs.declared.event.Event.TheVariants.{Begin, Spawn, Split, Join, Form, Operate, Commit, Abort}
use Rattle.acta_table.specs.declared.event.Kept.{Kept}
use Rattle.acta_table.specs.declared.event.Op.{Op}
use Rattle.acta_table.specs.declared.event.OpNo.{OpNo}
use Rattle.acta_table.specs.declared.event.Ret.{Ret}
use Rattle.acta_table.specs.declared.event.TxnId.{TxnId}
use Rattle.acta_table.specs.declared.model.Class.{Class}
use Rattle.acta_table.specs.declared.model.Parts.{Parts}
use Rattle.acta_table.specs.declared.policy.Policy.{Policy}
use Rattle.acta_table.specs.declared.start_edges.Dependent.{Dependent}
use Rattle.acta_table.specs.declared.start_edges.Dependent.TheVariants.{Starter, Started}
use Rattle.acta_table.specs.declared.start_edges.StartEdge.{StartEdge}
use Rattle.acta_table.specs.Classes.{class_at}
use Rattle.acta_table.specs.Edges.{is_among, with_edge, formed}
use Rattle.acta_table.specs.Policies.{edges_upon}
use Rattle.acta_table.specs.Refusals.{broken_by}
use Rattle.acta_table.specs.Starts.{directed, edge_between, edges_between}
use Rattle.acta_table.specs.WellFormed.{same_transaction}
use Rattle.acta_axioms.specs.History.{Place, number, places, first, starts, commits, aborts, joins, course, class_of}
use Rattle.acta_axioms.specs.Edges.{holders_against, formed_by, formed_at, edges}
use Rattle.acta_axioms.specs.Claims.{is_orderly, is_apart, IsOrderly, course_status, status_at}
use Rattle.acta_axioms.specs.inside.Within.{within, IsWithin}
use Rattle.acta_axioms.proofs.Growth.{found-passes, at_end, places-push, places_within, or_here, or_here-false, course-push}
use Rattle.acta_axioms.proofs.Holders.{all-upon, holders-others}
use Rattle.acta_axioms.proofs.ValueGrowth.{eqb-turned}

-- the edges

pub edges-push : {A : Type 0} (m : Parts A) (h : List (Kept A)) (k : Kept A) → edges m (h ++ k ∷ []) ≡ formed (edges m h) (formed_by m h k.event)
edges-push m h k =
    ap (λ ps. formed [] (flat_map (formed_at m) ps)) (places-push h k)
    ∙ ap (formed []) (flat_map-append (formed_at m) (places h) (at_end h k ∷ []))
    ∙ fold-append with_edge [] (flat_map (formed_at m) (places h)) (flat_map (formed_at m) (at_end h k ∷ []))
    ∙ ap (formed (edges m h)) (append-nil (formed_by m h k.event))

-- if the rule on the same transaction is not broken, the two are different
two_apart : (t : ℕ) (same : Bool) → broken_by SameTransaction (if same then Some t else None) ≡ None → not same ≡ true
two_apart t true is = absurd (none-some _ (sym is))
two_apart t false is = refl

apart_with : (es : List Edge) (e : Edge) → list_all is_apart es ≡ true → is_apart e ≡ true → list_all is_apart (with_edge es e) ≡ true
apart_with es e all here = of_test (is_among es e)
  where
    of_test : (b : Bool) → list_all is_apart (if b then es else es ++ e ∷ []) ≡ true
    of_test true = all
    of_test false = list_all-append is_apart es (e ∷ []) ∙ (λ i. all i && (here i && true))

-- the edges of a spawn or a split of another are between two transactions, in either direction
apart_between : (t u : TxnId) (e : StartEdge) → not (t.0 == u.0) ≡ true → is_apart (edge_between t u e) ≡ true
apart_between t u e apart = of_dependent e.dependent
  where
    of_dependent : (d : Dependent) → is_apart (directed e.kind t u d) ≡ true
    of_dependent Starter = apart
    of_dependent Started = ap not (eqb-turned u.0 t.0) ∙ apart

apart_all : (t u : TxnId) (es : List Edge) (more : List StartEdge) → not (t.0 == u.0) ≡ true → list_all is_apart es ≡ true → list_all is_apart (formed es (edges_between t u more)) ≡ true
apart_all t u es [] apart all = all
apart_all t u es (e ∷ more) apart all = apart_all t u (with_edge es (edge_between t u e)) more apart (apart_with es (edge_between t u e) all (apart_between t u e apart))

apart_formed : (es more : List Edge) → list_all is_apart es ≡ true → list_all is_apart more ≡ true → list_all is_apart (formed es more) ≡ true
apart_formed es [] all each = all
apart_formed es (e ∷ more) all each =
    let both = and_parts (is_apart e) (list_all is_apart more) each in
    apart_formed (with_edge es e) more (apart_with es e all both.0) both.1

-- so are those of an operation: no conflicting holder is its own transaction
apart_upon : {A : Type 0} (m : Parts A) (h : List (Kept A)) (policy : Policy) (t : TxnId) (object : ℕ) (op : Op) → list_all is_apart (edges_upon policy t (holders_against m h t.0 object op)) ≡ true
apart_upon m h policy t object op =
    all-upon is_apart (λ u. not (u == t.0)) policy t (holders_against m h t.0 object op) (λ kind u is other. ap not (eqb-turned t.0 u) ∙ other) (holders-others m h t.0 object op)

-- after an event that names no transaction twice, each edge is between two transactions
pub apart-push : {A : Type 0} (m : Parts A) (h : List (Kept A)) (k : Kept A) → list_all is_apart (edges m h) ≡ true → same_transaction k.event ≡ None → list_all is_apart (edges m (h ++ k ∷ [])) ≡ true
unfolding same_transaction
apart-push {A} m h k all apart = ap (list_all is_apart) (edges-push m h k) ∙ of_event k.event apart
  where
    by_class : (by : Class A → List Edge) → ((q : Class A) → list_all is_apart (formed (edges m h) (by q)) ≡ true) → (class : Option (Class A)) →
        list_all is_apart (formed (edges m h) (option_map_or by class [])) ≡ true
    by_class by each None = all
    by_class by each (Some q) = each q

    of_event : (e : Event A) → same_transaction e ≡ None → list_all is_apart (formed (edges m h) (formed_by m h e)) ≡ true
    of_event (Spawn t c class) two = by_class _ (λ q. apart_all t c (edges m h) q.spawn_edges (two_apart t.0 (t.0 == c.0) two) all) (class_at m class.0)
    of_event (Split t u class ops) two = by_class _ (λ q. apart_all t u (edges m h) q.split_edges (two_apart t.0 (t.0 == u.0) two) all) (class_at m class.0)
    of_event (Form kind j i) two = apart_with (edges m h) (record { kind = kind; j = j; i = i }) all (two_apart j.0 (j.0 == i.0) two)
    of_event (Operate t object op) two =
        by_class _ (λ q. apart_formed (edges m h) (edges_upon q.policy t (holders_against m h t.0 object.0 op)) all (apart_upon m h q.policy t object.0 op)) (class_of m h t.0)
    of_event _ two = all

-- the places of a course

first_within : {A : Type 0} (test : Event A → Bool) (h : List (Kept A)) → within (length h) (option_map number (first test h))
first_within {A} test h = of_found (first test h) refl
  where
    of_found : (o : Option (Place A)) → first test h ≡ o → within (length h) (option_map number o)
    of_found None is = tt
    of_found (Some p) is = (found-passes (λ q. test q.kept.event) (λ q. number q ≤ length h) (places h) p (places_within (length h) [] h (omega arith)) is).1

-- the places of a course are within its history
pub course-within : {A : Type 0} (h : List (Kept A)) (t : ℕ) → IsWithin (length h) (course h t)
course-within h t = record {
  start = first_within (starts t) h;
  commit = first_within (commits t) h;
  abort = first_within (aborts t) h;
  join = first_within (joins t) h;
}

or_none : {A : Type 0} (h : List (Kept A)) (o : Option ℕ) (b : Bool) → b ≡ false → or_here h o b ≡ o
or_none h o b not_here = ap (or_here h o) not_here ∙ or_here-false h o

or_new : {A : Type 0} (h : List (Kept A)) (o : Option ℕ) (t : ℕ) → o ≡ None → or_here h o (t == t) ≡ Some (length h + 1)
or_new h o t none = λ i. or_here h (none i) (eq-eqb t t refl i)

-- a course after one more item, from its places
course-with : {A : Type 0} (h : List (Kept A)) (k : Kept A) (u : ℕ) (s c a j : Option ℕ) →
    or_here h (course h u).start (starts u k.event) ≡ s → or_here h (course h u).commit (commits u k.event) ≡ c → or_here h (course h u).abort (aborts u k.event) ≡ a → or_here h (course h u).join (joins u k.event) ≡ j →
    course (h ++ k ∷ []) u ≡ record { start = s; commit = c; abort = a; join = j }
course-with h k u s c a j start commit abort join = course-push h k u ∙ (λ i. record { start = start i; commit = commit i; abort = abort i; join = join i })

-- an event that neither starts nor ends u does not change its course
pub course-other : {A : Type 0} (h : List (Kept A)) (k : Kept A) (u : ℕ) → starts u k.event ≡ false → commits u k.event ≡ false → aborts u k.event ≡ false → joins u k.event ≡ false → course (h ++ k ∷ []) u ≡ course h u
course-other h k u no_start no_commit no_abort no_join =
    course-with h k u _ _ _ _ (or_none h (course h u).start _ no_start) (or_none h (course h u).commit _ no_commit) (or_none h (course h u).abort _ no_abort) (or_none h (course h u).join _ no_join)

-- the first begin, spawn or split of t is its start, the first commit its commit, the first abort its abort, and the
-- first join its join
pub course-begin : {A : Type 0} (h : List (Kept A)) (t : TxnId) (class : ClassId) (ret : Option Ret) → (course h t.0).start ≡ None →
    course (h ++ record { event = Begin t class; ret = ret } ∷ []) t.0 ≡ record (course h t.0) { start = Some (length h + 1) }
course-begin h t class ret none =
    let was = course h t.0 in
    course-with h (record { event = Begin t class; ret = ret }) t.0 _ _ _ _ (or_new h was.start t.0 none) (or_here-false h was.commit) (or_here-false h was.abort) (or_here-false h was.join)

pub course-spawn : {A : Type 0} (h : List (Kept A)) (t c : TxnId) (class : ClassId) (ret : Option Ret) → (course h c.0).start ≡ None →
    course (h ++ record { event = Spawn t c class; ret = ret } ∷ []) c.0 ≡ record (course h c.0) { start = Some (length h + 1) }
course-spawn h t c class ret none =
    let was = course h c.0 in
    course-with h (record { event = Spawn t c class; ret = ret }) c.0 _ _ _ _ (or_new h was.start c.0 none) (or_here-false h was.commit) (or_here-false h was.abort) (or_here-false h was.join)

pub course-split : {A : Type 0} (h : List (Kept A)) (t u : TxnId) (class : ClassId) (ops : List OpNo) (ret : Option Ret) → (course h u.0).start ≡ None →
    course (h ++ record { event = Split t u class ops; ret = ret } ∷ []) u.0 ≡ record (course h u.0) { start = Some (length h + 1) }
course-split h t u class ops ret none =
    let was = course h u.0 in
    course-with h (record { event = Split t u class ops; ret = ret }) u.0 _ _ _ _ (or_new h was.start u.0 none) (or_here-false h was.commit) (or_here-false h was.abort) (or_here-false h was.join)

pub course-commit : {A : Type 0} (h : List (Kept A)) (t : TxnId) (ret : Option Ret) → (course h t.0).commit ≡ None →
    course (h ++ record { event = Commit t; ret = ret } ∷ []) t.0 ≡ record (course h t.0) { commit = Some (length h + 1) }
course-commit h t ret none =
    let was = course h t.0 in
    course-with h (record { event = Commit t; ret = ret }) t.0 _ _ _ _ (or_here-false h was.start) (or_new h was.commit t.0 none) (or_here-false h was.abort) (or_here-false h was.join)

pub course-abort : {A : Type 0} (h : List (Kept A)) (t : TxnId) (ret : Option Ret) → (course h t.0).abort ≡ None →
    course (h ++ record { event = Abort t; ret = ret } ∷ []) t.0 ≡ record (course h t.0) { abort = Some (length h + 1) }
course-abort h t ret none =
    let was = course h t.0 in
    course-with h (record { event = Abort t; ret = ret }) t.0 _ _ _ _ (or_here-false h was.start) (or_here-false h was.commit) (or_new h was.abort t.0 none) (or_here-false h was.join)

pub course-join : {A : Type 0} (h : List (Kept A)) (t u : TxnId) (ret : Option Ret) → (course h t.0).join ≡ None →
    course (h ++ record { event = Join t u; ret = ret } ∷ []) t.0 ≡ record (course h t.0) { join = Some (length h + 1) }
course-join h t u ret none =
    let was = course h t.0 in
    course-with h (record { event = Join t u; ret = ret }) t.0 _ _ _ _ (or_here-false h was.start) (or_here-false h was.commit) (or_here-false h was.abort) (or_new h was.join t.0 none)

-- orderly courses and edges

-- those of the empty history are
pub orderly-none : {A : Type 0} (m : Parts A) → IsOrderly m []
orderly-none m = record { courses = λ t. refl; edges = refl }

-- a course stays orderly if nothing ends
orderly_begun : {A : Type 0} (h : List (Kept A)) (s c a j : Option ℕ) (b : Bool) → is_orderly (record { start = s; commit = c; abort = a; join = j }) ≡ true →
    is_orderly (record { start = or_here h s b; commit = or_here h c false; abort = or_here h a false; join = or_here h j false }) ≡ true
orderly_begun h (Some i) None None None b is = refl
orderly_begun h (Some i) None None (Some l) b is = refl
orderly_begun h (Some i) None (Some l) None b is = refl
orderly_begun h (Some i) (Some l) None None b is = refl
orderly_begun h (Some i) None (Some k) (Some l) b is = absurd (false≢true is)
orderly_begun h (Some i) (Some k) None (Some l) b is = absurd (false≢true is)
orderly_begun h (Some i) (Some k) (Some l) j b is = absurd (false≢true is)
orderly_begun h None None None None true is = refl
orderly_begun h None None None None false is = refl
orderly_begun h None None None (Some l) b is = absurd (false≢true is)
orderly_begun h None None (Some l) j b is = absurd (false≢true is)
orderly_begun h None (Some l) a j b is = absurd (false≢true is)

-- and if a transaction in progress ends in one way
orderly_ended : {A : Type 0} (h : List (Kept A)) (s c a j : Option ℕ) (b d f : Bool) → ((b && d) || ((b && f) || (d && f))) ≡ false → course_status (record { start = s; commit = c; abort = a; join = j }) ≡ InProgress →
    is_orderly (record { start = or_here h s false; commit = or_here h c b; abort = or_here h a d; join = or_here h j f }) ≡ true
orderly_ended h (Some i) None None None true true f one is = absurd (true≢false one)
orderly_ended h (Some i) None None None true false true one is = absurd (true≢false one)
orderly_ended h (Some i) None None None true false false one is = refl
orderly_ended h (Some i) None None None false true true one is = absurd (true≢false one)
orderly_ended h (Some i) None None None false true false one is = refl
orderly_ended h (Some i) None None None false false true one is = refl
orderly_ended h (Some i) None None None false false false one is = refl
orderly_ended h None None None None b d f one is = absurd (cc)
orderly_ended h s None None (Some l) b d f one is = absurd (cc)
orderly_ended h s None (Some l) j b d f one is = absurd (cc)
orderly_ended h s (Some l) a j b d f one is = absurd (cc)

-- the transaction that the event ends, if any, is in progress
abbrev pub EndsInProgress : {A : Type 0} → List (Kept A) → Event A → Type 0
EndsInProgress h (Join t u) = status_at h t.0 ≡ InProgress
EndsInProgress h (Commit t) = status_at h t.0 ≡ InProgress
EndsInProgress h (Abort t) = status_at h t.0 ≡ InProgress
EndsInProgress h _ = ⊤

-- courses stay orderly if only transactions in progress end
pub course-orderly-push : {A : Type 0} (h : List (Kept A)) (k : Kept A) → ((t : ℕ) → is_orderly (course h t) ≡ true) → EndsInProgress h k.event → (t : ℕ) → is_orderly (course (h ++ k ∷ []) t) ≡ true
course-orderly-push {A} h k all ending t = ap is_orderly (course-push h k t) ∙ of_event k.event ending
  where
    begun : (b : Bool) → is_orderly (record { start = or_here h (course h t).start b; commit = or_here h (course h t).commit false; abort = or_here h (course h t).abort false; join = or_here h (course h t).join false }) ≡ true
    begun b = orderly_begun h (course h t).start (course h t).commit (course h t).abort (course h t).join b (all t)

    joined : (b : Bool) → (b ≡ true → status_at h t ≡ InProgress) →
        is_orderly (record { start = or_here h (course h t).start false; commit = or_here h (course h t).commit false; abort = or_here h (course h t).abort false; join = or_here h (course h t).join b }) ≡ true
    joined true is = orderly_ended h (course h t).start (course h t).commit (course h t).abort (course h t).join false false true refl (is refl)
    joined false is = begun false

    committed : (b : Bool) → (b ≡ true → status_at h t ≡ InProgress) →
        is_orderly (record { start = or_here h (course h t).start false; commit = or_here h (course h t).commit b; abort = or_here h (course h t).abort false; join = or_here h (course h t).join false }) ≡ true
    committed true is = orderly_ended h (course h t).start (course h t).commit (course h t).abort (course h t).join true false false refl (is refl)
    committed false is = begun false

    aborted : (b : Bool) → (b ≡ true → status_at h t ≡ InProgress) →
        is_orderly (record { start = or_here h (course h t).start false; commit = or_here h (course h t).commit false; abort = or_here h (course h t).abort b; join = or_here h (course h t).join false }) ≡ true
    aborted true is = orderly_ended h (course h t).start (course h t).commit (course h t).abort (course h t).join false true false refl (is refl)
    aborted false is = begun false

    of_event : (e : Event A) → EndsInProgress h e →
        is_orderly (record { start = or_here h (course h t).start (starts t e); commit = or_here h (course h t).commit (commits t e); abort = or_here h (course h t).abort (aborts t e); join = or_here h (course h t).join (joins t e) }) ≡ true
    of_event (Begin u class) is = begun (u.0 == t)
    of_event (Spawn v u class) is = begun (u.0 == t)
    of_event (Split v u class ops) is = begun (u.0 == t)
    of_event (Join u v) is = joined (u.0 == t) (λ same. ap (status_at h) (sym (eqb-true u.0 t same)) ∙ is)
    of_event (Commit u) is = committed (u.0 == t) (λ same. ap (status_at h) (sym (eqb-true u.0 t same)) ∙ is)
    of_event (Abort u) is = aborted (u.0 == t) (λ same. ap (status_at h) (sym (eqb-true u.0 t same)) ∙ is)
    of_event _ is = begun false
