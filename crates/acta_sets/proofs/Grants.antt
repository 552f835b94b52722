-- Sets of grants as predicates.
use Rattle.std.specs.Prelude.{◌≡◌, ◌<◌, ℕ, zero, suc, Bool, true, false, not, ◌&&◌, ◌||◌, ◌==◌, nat_le, List, [], ◌∷◌, ◌++◌, length, get_or, set, filter, cond, if◌then◌else◌}
use Rattle.std.proofs.Common.{arith, refl, sym, ap, ◌∙◌, Ordering, Less, Equal, Greater}
use Rattle.std.proofs.lemmas.Grind.{common_steps}
use Rattle.std.proofs.lemmas.List.{map-set, get_or-map, length-map, get_or-set_same, get_or-set_other}
use Rattle.std.proofs.lemmas.Bool.Decides.{nat_tests}
use Rattle.std.proofs.lemmas.Cmp.{nat_eq_equiv}
use Rattle.std.specs.List.{list_any}
use Rattle.std.specs.Ordering.{nat_cmp, ordering_then, is_eq, is_le, is_lt}
use Rattle.std.specs.declared.ops.Bound.TheVariants.{Included}
use Rattle.std.specs.BTreeMap.Range.{range_contains}
use Rattle.acta_table.specs.declared.event.TxnId.{TxnId}
use Rattle.acta_sets.specs.Operations.{is_among}
use Rattle.std.specs.BTreeSet.{BTreeSet, contains}
use Rattle.std.specs.BTreeMap.{is_at}
use Rattle.acta_table.proofs.AscendingSets.{at-number}
use Rattle.acta_sets.specs.declared.grant.Grant.{Grant}
use Rattle.acta_sets.specs.Permits.{is_grant, has_grant, grant_cmp}
use Rattle.acta_sets.specs.inside.Granted.{grants_at, is_granted, partners_of}

both_eq : (o p : Ordering) → is_eq (ordering_then o p) ≡ (is_eq o && is_eq p)
both_eq Less p = refl
both_eq Equal p = refl
both_eq Greater p = refl

-- the order finds the grant of the same object with the same partner
at-grant : (q k : Grant) → is_at (grant_cmp q) k ≡ is_grant q.object.0 q.partner.0 k
at-grant q k =
    both_eq (nat_cmp q.object.0 k.object.0) (nat_cmp q.partner.0 k.partner.0)
    ∙ ap (λ b. b && is_eq (nat_cmp q.partner.0 k.partner.0)) (at-number q.object.0 k.object.0)
    ∙ ap (λ b. (k.object.0 == q.object.0) && b) (at-number q.partner.0 k.partner.0)

pub any-at : (q : Grant) (grants : List Grant) → list_any (is_at (grant_cmp q)) grants ≡ has_grant grants q.object.0 q.partner.0
any-at q [] = refl
any-at q (g ∷ grants) = λ i. at-grant q g i || any-at q grants i

is_grant-back : (g : Grant) (object partner : ℕ) → is_grant g.object.0 g.partner.0 (record { object = record { 0 = object }; partner = record { 0 = partner } }) ≡ is_grant object partner g
is_grant-back g object partner = λ i. nat_eq_equiv.symm object g.object.0 i && nat_eq_equiv.symm partner g.partner.0 i

-- after a grant is inserted or removed
pub has_grant-updated : (s n : BTreeSet Grant) (k : Grant) (b : Bool) → ((q : Grant) → contains grant_cmp n q ≡ cond (is_at (grant_cmp k) q) b (contains grant_cmp s q))
    → (object partner : ℕ) → has_grant n.keys object partner ≡ cond (is_grant object partner k) b (has_grant s.keys object partner)
has_grant-updated s n k b updates object partner =
    let q : Grant = record { object = record { 0 = object }; partner = record { 0 = partner } } in
    sym (any-at q n.keys) ∙ updates q
    ∙ ap (λ c. cond c b (contains grant_cmp s q)) (at-grant k q ∙ is_grant-back k object partner)
    ∙ ap (cond (is_grant object partner k) b) (any-at q s.keys)

pub cond-true : (c a : Bool) → cond c true a ≡ (a || c)
cond-true true true = refl
cond-true true false = refl
cond-true false true = refl
cond-true false false = refl

pub cond-false : (c a : Bool) → cond c false a ≡ (a && not c)
cond-false true true = refl
cond-false true false = refl
cond-false false true = refl
cond-false false false = refl

-- an empty set at the end makes no difference
pub grants_at-more : (table : List (BTreeSet Grant)) (s : BTreeSet Grant) (v : ℕ) → s.keys ≡ [] → grants_at (table ++ s ∷ []) v ≡ grants_at table v
grants_at-more [] s zero e = e
grants_at-more [] s (suc v) e = refl
grants_at-more (x ∷ table) s zero e = refl
grants_at-more (x ∷ table) s (suc v) e = grants_at-more table s v e

-- after one set is replaced
pub grants_at-set : (table : List (BTreeSet Grant)) (at : ℕ) (s : BTreeSet Grant) (v : ℕ) → at < length table → grants_at (set table at s) v ≡ (if at == v then s.keys else grants_at table v)
grants_at-set table at s v within =
    let long = length-map table (λ t. t.keys) in
    let after = map-set (λ t. t.keys) table at s in
    grind (arith, common_steps, nat_tests, after, long, within, get_or-set_same, get_or-set_other)

pub grants_at-own : (table : List (BTreeSet Grant)) (at : ℕ) (s : BTreeSet Grant) → at < length table → s ≡ get_or table at s → grants_at table at ≡ s.keys
grants_at-own table at s within is = get_or-map (λ t. t.keys) table at s [] within ∙ ap (λ t. t.keys) (sym is)

-- replacing one set changes only the grants at its place
pub is_granted-set : (table : List (BTreeSet Grant)) (at : ℕ) (old s : BTreeSet Grant) (change : Bool → Bool → Bool) → at < length table → old ≡ get_or table at old → (v object partner : ℕ) (c : Bool)
    → ((b : Bool) → change false b ≡ b) → has_grant s.keys object partner ≡ change c (has_grant old.keys object partner)
    → is_granted (set table at s) v object partner ≡ change ((at == v) && c) (is_granted table v object partner)
is_granted-set table at old s change within is v object partner c none own =
    ap (λ gs. has_grant gs object partner) (grants_at-set table at s v within) ∙ of (at == v) refl
  where
    of : (b : Bool) → (at == v) ≡ b → has_grant (if b then s.keys else grants_at table v) object partner ≡ change (b && c) (is_granted table v object partner)
    of true here =
        let same : at ≡ v = grind (arith, nat_tests, here) in
        own ∙ ap (λ gs. change c (has_grant gs object partner)) (sym (grants_at-own table at old within is) ∙ ap (grants_at table) same)
    of false other = sym (none (is_granted table v object partner))

pub or-false : (b : Bool) → (b || false) ≡ b
or-false true = refl
or-false false = refl

pub and-true : (b : Bool) → (b && true) ≡ b
and-true true = refl
and-true false = refl

pub and-false : (b : Bool) → (b && false) ≡ false
and-false true = refl
and-false false = refl

-- the list that a loop has processed
any-append : (test : Grant → Bool) (gs : List Grant) (g : Grant) → list_any test (gs ++ g ∷ []) ≡ (list_any test gs || test g)
any-append test [] g = or-false (test g)
any-append test (k ∷ gs) g = ap (λ b. test k || b) (any-append test gs g) ∙ or-both (test k) (list_any test gs) (test g)
  where
    or-both : (a b c : Bool) → (a || (b || c)) ≡ ((a || b) || c)
    or-both true b c = refl
    or-both false b c = refl

out_more : (a p b m : Bool) → ((a && not (p && b)) && not (m && p)) ≡ (a && not (p && (b || m)))
out_more true true true true = refl
out_more true true true false = refl
out_more true true false true = refl
out_more true true false false = refl
out_more true false b true = refl
out_more true false b false = refl
out_more false p b m = refl

-- one more of the grants whose counterparts are removed
pub has_grant-more : (a : Bool) (t object partner v : ℕ) (gs : List Grant) (g : Grant)
    → ((a && not ((t == partner) && has_grant gs object v)) && not ((g.partner.0 == v) && ((g.object.0 == object) && (t == partner))))
    ≡ (a && not ((t == partner) && has_grant (gs ++ g ∷ []) object v))
has_grant-more a t object partner v gs g =
    ap (λ b. (a && not ((t == partner) && has_grant gs object v)) && not b) (turned (g.partner.0 == v) (g.object.0 == object) (t == partner))
    ∙ out_more a (t == partner) (has_grant gs object v) ((g.object.0 == object) && (g.partner.0 == v))
    ∙ ap (λ b. a && not ((t == partner) && b)) (sym (any-append (is_grant object v) gs g))
  where
    turned : (x y z : Bool) → (x && (y && z)) ≡ ((y && x) && z)
    turned true true z = refl
    turned true false z = refl
    turned false true z = refl
    turned false false z = refl

-- the grants on an object, found by the order
between_if : (o p q : Ordering) → (is_le (ordering_then o p) && not (is_lt (ordering_then o q))) ≡ (is_eq o && (is_le p && not (is_lt q)))
between_if Less p q = refl
between_if Equal p q = refl
between_if Greater p q = refl

small_enough : (n : ℕ) → (is_le (nat_cmp 0 n) && not (is_lt (nat_cmp 65535 n))) ≡ nat_le n 65535
small_enough n = grind (arith, nat_tests)

pub object-between : (ob : ℕ) (k : Grant)
    → range_contains grant_cmp (Included (record { object = record { 0 = ob }; partner = record { 0 = 0 } })) (Included (record { object = record { 0 = ob }; partner = record { 0 = 65535 } })) k
    ≡ ((k.object.0 == ob) && nat_le k.partner.0 65535)
object-between ob k =
    between_if (nat_cmp ob k.object.0) (nat_cmp 0 k.partner.0) (nat_cmp 65535 k.partner.0)
    ∙ (λ i. at-number ob k.object.0 i && small_enough k.partner.0 i)

one_on_object : (ob h : ℕ) (k : Grant)
    → (range_contains grant_cmp (Included (record { object = record { 0 = ob }; partner = record { 0 = 0 } })) (Included (record { object = record { 0 = ob }; partner = record { 0 = 65535 } })) k && (k.partner.0 == h))
    ≡ (is_grant ob h k && nat_le h 65535)
one_on_object ob h k =
    ap (λ b. b && (k.partner.0 == h)) (object-between ob k)
    ∙ of (k.partner.0 == h) refl
  where
    of : (b : Bool) → (k.partner.0 == h) ≡ b → (((k.object.0 == ob) && nat_le k.partner.0 65535) && b) ≡ (((k.object.0 == ob) && b) && nat_le h 65535)
    of true is = let same : k.partner.0 ≡ h = grind (arith, nat_tests, is) in ap (λ n. ((k.object.0 == ob) && nat_le n 65535) && true) same ∙ and-true ((k.object.0 == ob) && nat_le h 65535) ∙ ap (λ b. b && nat_le h 65535) (sym (and-true (k.object.0 == ob)))
    of false is = and-false ((k.object.0 == ob) && nat_le k.partner.0 65535) ∙ sym (ap (λ b. b && nat_le h 65535) (and-false (k.object.0 == ob)))

filtered : (b : Bool) (test : TxnId → Bool) (k : Grant) (gs : List Grant) → list_any test (partners_of (if b then k ∷ gs else gs)) ≡ ((b && test k.partner) || list_any test (partners_of gs))
filtered true test k gs = refl
filtered false test k gs = refl

either_and : (a b c : Bool) → ((a && c) || (b && c)) ≡ ((a || b) && c)
either_and true true true = refl
either_and true true false = refl
either_and true false true = refl
either_and true false false = refl
either_and false b c = refl

pub partners_on : (ob : ℕ) (h : TxnId) (gs : List Grant)
    → is_among (partners_of (filter (range_contains grant_cmp (Included (record { object = record { 0 = ob }; partner = record { 0 = 0 } })) (Included (record { object = record { 0 = ob }; partner = record { 0 = 65535 } }))) gs)) h
    ≡ (has_grant gs ob h.0 && nat_le h.0 65535)
partners_on ob h [] = refl
partners_on ob h (k ∷ gs) =
    let test : Grant → Bool = range_contains grant_cmp (Included (record { object = record { 0 = ob }; partner = record { 0 = 0 } })) (Included (record { object = record { 0 = ob }; partner = record { 0 = 65535 } })) in
    filtered (test k) (λ u. u.0 == h.0) k (filter test gs)
    ∙ (λ i. one_on_object ob h.0 k i || partners_on ob h gs i)
    ∙ either_and (is_grant ob h.0 k) (has_grant gs ob h.0) (nat_le h.0 65535)
