-- Changes of the sets of grants, in terms of who has permitted whom.
use Rattle.std.specs.Prelude.{◌≡◌, ◌≤◌, ℕ, Bool, true, false, not, ◌&&◌, ◌||◌, ◌==◌, nat_le, List, [], length}
use Rattle.std.proofs.Common.{arith, refl, sym, ap, subst, ◌∙◌}
use Rattle.std.proofs.lemmas.List.{length-map}
use Rattle.std.proofs.lemmas.Bool.{false≢true}
use Rattle.std.proofs.lemmas.Bool.Decides.{nat_tests}
use Rattle.std.proofs.lemmas.Cmp.{nat_eq_equiv}
use Rattle.std.specs.BTreeSet.{BTreeSet}
use Rattle.acta_sets.specs.declared.grant.Grant.{Grant}
use Rattle.acta_sets.specs.Permits.{permitted, none_permitted, with_permit, without_permits, has_grant}
use Rattle.acta_sets.specs.inside.Granted.{grant_lists, is_granted, AreMirrored}

pub permitted-is : (taken : List (BTreeSet Grant)) (h t object : ℕ) → is_granted taken t object h ≡ permitted (grant_lists taken) h t object
unfolding permitted
permitted-is taken h t object = refl

pub permitted-none : permitted [] ≡ none_permitted
unfolding permitted
permitted-none = refl

pub permitted-same : (taken after : List (BTreeSet Grant)) → ((v object partner : ℕ) → is_granted after v object partner ≡ is_granted taken v object partner) → permitted (grant_lists after) ≡ permitted (grant_lists taken)
unfolding permitted
permitted-same taken after same = λ i h t object. same t object h i

turned : (x y z : Bool) → (x && (y && z)) ≡ ((z && x) && y)
turned true true true = refl
turned true true false = refl
turned true false true = refl
turned true false false = refl
turned false y true = refl
turned false y false = refl

pub permitted-more : (taken after : List (BTreeSet Grant)) (h t ob : ℕ) → ((v object partner : ℕ) → is_granted after v object partner ≡ (is_granted taken v object partner || ((t == v) && ((ob == object) && (h == partner)))))
    → permitted (grant_lists after) ≡ with_permit (permitted (grant_lists taken)) h t ob
unfolding permitted
permitted-more taken after h t ob more = λ i g u object.
    (more u object g ∙ ap (λ b. is_granted taken u object g || b) (turned (t == u) (ob == object) (h == g))) i

-- a permit is inserted for both its receiver and its giver
either_more : (a b x y z : Bool) → (a ≡ true → b ≡ true) → (a || (x && (y && z))) ≡ true → (b || (z && (y && x))) ≡ true
either_more true b x y z mirrored is = ap (λ c. c || (z && (y && x))) (mirrored refl)
either_more false true x y z mirrored is = refl
either_more false false true true true mirrored is = refl
either_more false false true true false mirrored is = is
either_more false false true false z mirrored is = absurd (false≢true is)
either_more false false false y z mirrored is = absurd (false≢true is)

pub length-lists : (after taken : List (BTreeSet Grant)) → grant_lists after ≡ grant_lists taken → length after ≡ length taken
length-lists after taken same = sym (length-map after (λ s. s.keys)) ∙ ap (λ lists. length lists) same ∙ length-map taken (λ s. s.keys)

pub AreMirrored-same : (taken after given more : List (BTreeSet Grant)) → ((v object partner : ℕ) → is_granted after v object partner ≡ is_granted taken v object partner)
    → ((v object partner : ℕ) → is_granted more v object partner ≡ is_granted given v object partner)
    → AreMirrored taken given → AreMirrored after more
AreMirrored-same taken after given more same equivalent mirrored = record {
  back = λ g u object is. equivalent g object u ∙ mirrored.back g u object (sym (same u object g) ∙ is);
  small = λ g u object is. mirrored.small g u object (sym (same u object g) ∙ is);
}

pub AreMirrored-more : (taken after given more : List (BTreeSet Grant)) (h t ob : ℕ) → h ≤ 65535
    → ((v object partner : ℕ) → is_granted after v object partner ≡ (is_granted taken v object partner || ((t == v) && ((ob == object) && (h == partner)))))
    → ((v object partner : ℕ) → is_granted more v object partner ≡ (is_granted given v object partner || ((h == v) && ((ob == object) && (t == partner)))))
    → AreMirrored taken given → AreMirrored after more
AreMirrored-more taken after given more h t ob small put added mirrored = record {
  back = λ g u object is. added g object u ∙ either_more (is_granted taken u object g) (is_granted given g object u) (t == u) (ob == object) (h == g) (mirrored.back g u object) (sym (put u object g) ∙ is);
  small = λ g u object is. of (is_granted taken u object g) (t == u) (ob == object) (h == g) g (λ own. mirrored.small g u object own) (λ here. let same : h ≡ g = grind (arith, nat_tests, here) in subst (λ n. n ≤ 65535) same small) (sym (put u object g) ∙ is);
}
  where
    of : (a x y z : Bool) (g : ℕ) → (a ≡ true → g ≤ 65535) → (z ≡ true → g ≤ 65535) → (a || (x && (y && z))) ≡ true → g ≤ 65535
    of true x y z g old new is = old refl
    of false true true z g old new is = new is
    of false true false z g old new is = absurd (false≢true is)
    of false false y z g old new is = absurd (false≢true is)

-- ---- the end of t, where taken2 and given2 are left: what t holds is taken out of each, and then its counterparts of the other
gone : (a b x y : Bool) → (y ≡ true → a ≡ true → b ≡ true) → ((a && not x) && not (y && b)) ≡ ((a && not y) && not x)
gone false b true true back = refl
gone false b true false back = refl
gone false b false true back = refl
gone false b false false back = refl
gone true b true true back = refl
gone true b true false back = refl
gone true b false true back = ap (λ c. not c) (back refl refl)
gone true b false false back = refl

stays : (a b x y z : Bool) → (a ≡ true → b ≡ true) → ((a && not y) && not x) ≡ true → ((b && not y) && not (x && z)) ≡ true
stays true b true true z back is = absurd (false≢true is)
stays true b true false z back is = absurd (false≢true is)
stays true b false true z back is = absurd (false≢true is)
stays true b false false z back is = ap (λ c. (c && true) && true) (back refl)
stays false b x y z back is = absurd (false≢true is)

first_of : (a x y : Bool) → ((a && not y) && not x) ≡ true → a ≡ true
first_of true x y is = refl
first_of false x y is = absurd (false≢true is)

taken_left : (taken given taken1 taken2 : List (BTreeSet Grant)) (given_out : List Grant) (t : ℕ)
    → ((h u object : ℕ) → is_granted taken u object h ≡ true → is_granted given h object u ≡ true)
    → ((object partner : ℕ) → has_grant given_out object partner ≡ is_granted given t object partner)
    → ((v object partner : ℕ) → is_granted taken1 v object partner ≡ (is_granted taken v object partner && not (t == v)))
    → ((v object partner : ℕ) → is_granted taken2 v object partner ≡ (is_granted taken1 v object partner && not ((t == partner) && has_grant given_out object v)))
    → (v object partner : ℕ) → is_granted taken2 v object partner ≡ ((is_granted taken v object partner && not (t == partner)) && not (t == v))
taken_left taken given taken1 taken2 given_out t back out first second v object partner =
    second v object partner
    ∙ (λ i. first v object partner i && not ((t == partner) && out object v i))
    ∙ gone (is_granted taken v object partner) (is_granted given t object v) (t == v) (t == partner)
    (λ here is. let same : t ≡ partner = grind (arith, nat_tests, here) in ap (λ n. is_granted given n object v) same ∙ back partner v object is)

pub permitted-ended : (taken given taken1 taken2 : List (BTreeSet Grant)) (given_out : List Grant) (t : ℕ) → AreMirrored taken given
    → ((object partner : ℕ) → has_grant given_out object partner ≡ is_granted given t object partner)
    → ((v object partner : ℕ) → is_granted taken1 v object partner ≡ (is_granted taken v object partner && not (t == v)))
    → ((v object partner : ℕ) → is_granted taken2 v object partner ≡ (is_granted taken1 v object partner && not ((t == partner) && has_grant given_out object v)))
    → permitted (grant_lists taken2) ≡ without_permits (permitted (grant_lists taken)) t
unfolding permitted
permitted-ended taken given taken1 taken2 given_out t mirrored out first second = λ i h u object.
    (taken_left taken given taken1 taken2 given_out t mirrored.back out first second u object h
    ∙ (λ j. (is_granted taken u object h && not (nat_eq_equiv.symm t h j)) && not (nat_eq_equiv.symm t u j))) i

pub AreMirrored-ended : (taken given taken1 taken2 given1 given2 : List (BTreeSet Grant)) (given_out taken_out : List Grant) (t : ℕ) → AreMirrored taken given
    → ((object partner : ℕ) → has_grant given_out object partner ≡ is_granted given t object partner)
    → ((v object partner : ℕ) → is_granted taken1 v object partner ≡ (is_granted taken v object partner && not (t == v)))
    → ((v object partner : ℕ) → is_granted taken2 v object partner ≡ (is_granted taken1 v object partner && not ((t == partner) && has_grant given_out object v)))
    → ((v object partner : ℕ) → is_granted given1 v object partner ≡ (is_granted given v object partner && not (t == v)))
    → ((v object partner : ℕ) → is_granted given2 v object partner ≡ (is_granted given1 v object partner && not ((t == partner) && has_grant taken_out object v)))
    → AreMirrored taken2 given2
AreMirrored-ended taken given taken1 taken2 given1 given2 given_out taken_out t mirrored out first second third fourth = record {
  back = λ h u object is.
      fourth h object u ∙ ap (λ b. b && not ((t == u) && has_grant taken_out object h)) (third h object u)
      ∙ stays (is_granted taken u object h) (is_granted given h object u) (t == u) (t == h) (has_grant taken_out object h) (mirrored.back h u object) (sym (left u object h) ∙ is);
  small = λ h u object is. mirrored.small h u object (first_of (is_granted taken u object h) (t == u) (t == h) (sym (left u object h) ∙ is));
}
  where
    left : (v object partner : ℕ) → is_granted taken2 v object partner ≡ ((is_granted taken v object partner && not (t == partner)) && not (t == v))
    left = taken_left taken given taken1 taken2 given_out t mirrored.back out first second

-- numbers above 65,535 have given no permit, so excluding them changes nothing
pub small-and : (a : Bool) (h : ℕ) → (a ≡ true → h ≤ 65535) → (a && nat_le h 65535) ≡ a
small-and true h small = let le = small refl in grind (arith, nat_tests, le)
small-and false h small = refl
