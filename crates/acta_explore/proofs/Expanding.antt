-- Loops that add points to others.
use Rattle.std.proofs.Common.{◌≡◌, ℕ, ◌<◌, ◌≤◌, ◌+◌, ◌-◌, ◌^◌, zero, suc, true≢false, Bool, true, false, not, cond, List, [], ◌∷◌, ◌++◌, length, get_or, take, map, Option, Some, None, refl, sym, ap, subst, ◌∙◌, arith}
use Rattle.std.specs.Prelude.{nat_lt, option_map, slice_get, IsSome, OnOk}
use Rattle.std.specs.Result.{is_err}
use Rattle.std.specs.declared.result.Result.{Result}
use Rattle.std.specs.declared.result.Result.TheVariants.{Ok, Err}
use Rattle.std.specs.Option.{option_map_or}
use Rattle.std.specs.List.{AllByRecursion, filter_map, flat_map}
use Rattle.std.proofs.lemmas.Bool.{ltb-true}
use Rattle.std.proofs.lemmas.Option.{slice_get-map}
use Rattle.std.proofs.lemmas.List.{take_more, take_all, append-nil, length-append, length-map}
use Rattle.std.proofs.lemmas.Grind.{flat_map-append}
use Rattle.std.proofs.lemmas.List.Elements.{All-from_recursion, filter_more, recursion_from_All}
use Rattle.acta_explore.specs.declared.key.Key.{Key}
use Rattle.acta_explore.specs.declared.outcome.Outcome.{Outcome}
use Rattle.acta_explore.specs.declared.point.Turn.{Turn}
use Rattle.acta_explore.specs.Ends.{AreAllEndsFrom, CountsPoints, HaveSameOutcome, IsTooMany}
use Rattle.acta_explore.specs.Equivalence.{AreApart, AreEquivalent}
use Rattle.acta_explore.specs.Outcomes.{outcome}
use Rattle.acta_explore.specs.Points.{Point, stepped}
use Rattle.acta_explore.specs.Programs.{Programs, lines_done}
use Rattle.acta_explore.specs.inside.Keys.{IsKeyOf}
use Rattle.acta_explore.specs.inside.Merging.{AreKeyed, AreOutcomes, HaveOthers, IsCutOff, IsMerged, IsNextLevel, IsPut, outcomes_of, points_of}
use Rattle.acta_explore.specs.inside.Numbered.{IsNumbered}
use Rattle.acta_explore.specs.inside.Shown.{shown}
use Rattle.acta_explore.specs.inside.Turns.{ends_among, is_nil, successors, turns_at}
use Rattle.acta_explore.proofs.Looping.{some-filter, none-filter, not-less}
use Rattle.acta_explore.proofs.Merging.{merged-append}
use Rattle.acta_explore.proofs.Searching.{IsSearchedTo, cut-ends, cut-points, no-ends, root-points, searched-start, searched-next, searched-points, searched-all}

nil-push : {X : Type 0} (xs : List X) (x : X) → is_nil (xs ++ x ∷ []) ≡ false
nil-push [] x = refl
nil-push (y ∷ ys) x = refl

some-take : {X Y : Type 0} (f : X → Option Y) (xs : List X) (i : ℕ) (d : X) (y : Y) → i < length xs → f (get_or xs i d) ≡ Some y → filter_map f (take (i + 1) xs) ≡ filter_map f (take i xs) ++ y ∷ []
some-take f xs i d y less e = ap (filter_map f) (take_more xs i d less) ∙ some-filter f (take i xs) (get_or xs i d) y e

none-take : {X Y : Type 0} (f : X → Option Y) (xs : List X) (i : ℕ) (d : X) → i < length xs → f (get_or xs i d) ≡ None → filter_map f (take (i + 1) xs) ≡ filter_map f (take i xs)
none-take f xs i d less e = ap (filter_map f) (take_more xs i d less) ∙ none-filter f (take i xs) (get_or xs i d) e

-- the points after the first turns are added to the next level; `old` are its earlier points
pub record IsExpandedTo {A : Type 0} (programs : Programs A) (p : Point A) (old : List (Point A)) (turns : List Turn) (n : ℕ) (next : List (Key A × Point A)) (has_step : Bool) : Type 0 where
  pub keyed : AreKeyed programs next
  pub merged : IsMerged (AreEquivalent programs) (AreApart programs) old (filter_map (stepped programs p) (take n turns)) (points_of next)
  pub some : has_step ≡ not (is_nil (filter_map (stepped programs p) (take n turns)))

module _ {A : Type 0} (programs : Programs A) (p : Point A) (old : List (Point A)) (turns : List Turn) where
  -- a refused turn changes nothing
  pub expanded-none : (n : ℕ) (d : Turn) (next : List (Key A × Point A)) (has_step : Bool) → n < length turns → stepped programs p (get_or turns n d) ≡ None → IsExpandedTo programs p old turns n next has_step → IsExpandedTo programs p old turns (n + 1) next has_step
  expanded-none n d next has_step less e s =
      let same = sym (none-take (stepped programs p) turns n d less e) in
      record {
        keyed = s.keyed;
        merged = subst (λ (ps : List (Point A)). IsMerged (AreEquivalent programs) (AreApart programs) old ps (points_of next)) same s.merged;
        some = s.some ∙ ap (λ (ps : List (Point A)). not (is_nil ps)) same;
      }

  -- another adds the point after it
  pub expanded-some : (n : ℕ) (d : Turn) (q : Point A) (next more : List (Key A × Point A)) (has_step : Bool) → n < length turns → stepped programs p (get_or turns n d) ≡ Some q → AreKeyed programs more → IsPut (AreEquivalent programs) (AreApart programs) (points_of next) q (points_of more) → IsExpandedTo programs p old turns n next has_step → IsExpandedTo programs p old turns (n + 1) more true
  expanded-some n d q next more has_step less e keyed put s =
      let f = stepped programs p in
      let pushed = sym (some-take f turns n d q less e) in
      record {
        keyed = keyed;
        merged = subst (λ (ps : List (Point A)). IsMerged (AreEquivalent programs) (AreApart programs) old ps (points_of more)) pushed
            (merged-append (AreEquivalent programs) (AreApart programs) (filter_map f (take n turns)) (q ∷ []) old (points_of next) (points_of more) s.merged (points_of more, put, refl));
        some = sym (ap not (nil-push (filter_map f (take n turns)) q)) ∙ ap (λ (ps : List (Point A)). not (is_nil ps)) pushed;
      }

  -- at the end all points after the steps are added
  pub expanded-all : (n : ℕ) (next : List (Key A × Point A)) (has_step : Bool) → length turns ≤ n → turns ≡ turns_at programs (lines_done programs p.steps) → IsExpandedTo programs p old turns n next has_step → IsMerged (AreEquivalent programs) (AreApart programs) old (successors programs p) (points_of next) × (has_step ≡ not (is_nil (successors programs p)))
  expanded-all n next has_step past e s =
      let all = ap (filter_map (stepped programs p)) (take_all n turns past ∙ e) in
      (subst (λ (ps : List (Point A)). IsMerged (AreEquivalent programs) (AreApart programs) old ps (points_of next)) all s.merged, s.some ∙ ap (λ (ps : List (Point A)). not (is_nil ps)) all)

flat-take : {X Y : Type 0} (f : X → List Y) (xs : List X) (i : ℕ) (d : X) → i < length xs → flat_map f (take (i + 1) xs) ≡ flat_map f (take i xs) ++ f (get_or xs i d)
flat-take f xs i d less =
    let x = get_or xs i d in
    ap (flat_map f) (take_more xs i d less) ∙ (flat_map-append f (take i xs) (x ∷ []) ∙ ap (λ (ys : List _). flat_map f (take i xs) ++ ys) (append-nil (f x)))

-- the point of an entry
pub point-at : {K A : Type 0} (entries : List (K × Point A)) (i : ℕ) (k : K) (p d : Point A) → slice_get entries i ≡ Some (k, p) → get_or (points_of entries) i d ≡ p
point-at [] zero k p d e = absurd cc
point-at [] (suc i) k p d e = absurd cc
point-at (x ∷ xs) zero k p d e = ap (λ (o : Option _). option_map_or (λ x. x.1) o d) e
point-at (x ∷ xs) (suc i) k p d e = point-at xs i k p d e

-- what a list of other things has, where each is made of an item
pub mapped-at : {X Y : Type 0} (f : X → Y) (xs : List X) (i : ℕ) (x : X) → slice_get xs i ≡ Some x → slice_get (map f xs) i ≡ Some (f x)
mapped-at f xs i x e = slice_get-map f xs i ∙ ap (option_map f) e

-- a map has as many points as entries
pub less-points : {K A : Type 0} (entries : List (K × Point A)) (i n : ℕ) → n ≡ length entries → i < n → i < length (points_of entries)
less-points entries i n e less = subst (λ (k : ℕ). i < k) (e ∙ sym (length-map entries (λ x. x.1))) less

pub past-points : {K A : Type 0} (entries : List (K × Point A)) (i n : ℕ) → n ≡ length entries → n ≤ i → length (points_of entries) ≤ i
past-points entries i n e past = subst (λ (k : ℕ). k ≤ i) (e ∙ sym (length-map entries (λ x. x.1))) past

-- where there is no entry, there are no more
pub none-past : {X : Type 0} (found : Option X) (i n : ℕ) → found ≡ None → (i < n → IsSome found) → n ≤ i
none-past found i n none some = by (nat_lt i n) refl
  where
    by : (b : Bool) → nat_lt i n ≡ b → n ≤ i
    by true less = absurd (true≢false (sym (subst IsSome none (some (ltb-true i n less)))))
    by false past = not-less i n past

-- a level with points adds to them, and the last has none
pub further : (most points count next level : ℕ) → points ≤ most → next ≤ most - points → count ≡ next → (level ≡ 0 → ⊥) → ((most + 1) - (points + count)) + next < ((most + 1) - points) + level
further most points count next zero few more e some = absurd (some refl)
further most points count next (suc level) few more e some = omega arith

pub as-many : (most points count next : ℕ) → points ≤ most → next ≤ most - points → count ≡ next → points + count ≤ most
as-many most points count next few more e = omega arith

-- a point that has no step is an end
pub settled-off : {A : Type 0} (programs : Programs A) (p : Point A) (b : Bool) → b ≡ not (is_nil (successors programs p)) → b ≡ false → ends_among programs (p ∷ []) ≡ p ∷ []
settled-off programs p b e off = by (is_nil (successors programs p)) (sym e ∙ off)
  where
    by : (n : Bool) → not n ≡ false → cond n (p ∷ []) [] ≡ p ∷ []
    by true h = refl
    by false h = absurd cc

-- so that it is added to the ends
pub settled-put : {A : Type 0} (programs : Programs A) (p q : Point A) (b : Bool) (old new : List (Point A)) → b ≡ not (is_nil (successors programs p)) → b ≡ false → q ≡ p → IsPut (HaveSameOutcome programs) (HaveOthers programs) old q new → IsMerged (HaveSameOutcome programs) (HaveOthers programs) old (ends_among programs (p ∷ [])) new
settled-put programs p q b old new e off same put =
    subst (λ (ps : List (Point _)). IsMerged (HaveSameOutcome programs) (HaveOthers programs) old ps new) (sym (settled-off programs p b e off))
    (new, subst (λ (r : Point _). IsPut (HaveSameOutcome programs) (HaveOthers programs) old r new) same put, refl)

-- no keys are those of no points
pub none-keyed : {A : Type 0} (programs : Programs A) (entries : List (Key A × Point A)) → entries ≡ [] → AreKeyed programs entries
none-keyed programs entries none = subst (AreKeyed programs) (sym none) (All-from_recursion (λ e. IsKeyOf programs e.1 e.0) [] tt)

pub none-outcomes : {A : Type 0} (programs : Programs A) (entries : List (Outcome A × Point A)) → entries ≡ [] → AreOutcomes programs entries
none-outcomes programs entries none = subst (AreOutcomes programs) (sym none) (All-from_recursion (λ e. shown e.0 ≡ outcome programs e.1) [] tt)

-- what holds where a call succeeds
pub at-ok : {T E P : Type 0} (r : Result T E) → is_err r ≡ false → OnOk r P → P
at-ok (Ok x) off h = h
at-ok (Err e) off h = absurd cc

-- the points after the first points of a level are added to the next level, and those without a step to the ends
pub record IsPutTo {A : Type 0} (programs : Programs A) (level old : List (Point A)) (room n : ℕ) (next : List (Key A × Point A)) (ends : List (Outcome A × Point A)) : Type 0 where
  pub keyed : AreKeyed programs next
  pub outcomes : AreOutcomes programs ends
  pub few : length next ≤ room
  pub after : IsNextLevel programs (take n level) old (points_of next) (points_of ends)

module _ {A : Type 0} (programs : Programs A) (level old : List (Point A)) (room : ℕ) where
  pub put-start : (next : List (Key A × Point A)) (ends : List (Outcome A × Point A)) → next ≡ [] → AreOutcomes programs ends → points_of ends ≡ old → IsPutTo programs level old room 0 next ends
  put-start next ends none outcomes same = record {
    keyed = none-keyed programs next none;
    outcomes = outcomes;
    few = subst (λ (es : List _). length es ≤ room) (sym none) (omega arith);
    after = record { points = ap points_of none; ends = same };
  }

  -- the points after one point more
  after-next : (n : ℕ) (p : Point A) (next more : List (Key A × Point A)) (ends all : List (Outcome A × Point A)) → n < length level → get_or level n p ≡ p
      → IsMerged (AreEquivalent programs) (AreApart programs) (points_of next) (successors programs p) (points_of more)
      → IsMerged (HaveSameOutcome programs) (HaveOthers programs) (points_of ends) (ends_among programs (p ∷ [])) (points_of all)
      → IsPutTo programs level old room n next ends → IsNextLevel programs (take (n + 1) level) old (points_of more) (points_of all)
  after-next n p next more ends all less at merged ended s =
      let on = sym (flat-take (successors programs) level n p less ∙ ap (λ (q : Point A). flat_map (successors programs) (take n level) ++ successors programs q) at) in
      let over = sym (filter_more (λ q. is_nil (successors programs q)) level n p less ∙ ap (λ (q : Point A). ends_among programs (take n level) ++ ends_among programs (q ∷ [])) at) in
      record {
        points = subst (λ (ps : List (Point A)). IsMerged (AreEquivalent programs) (AreApart programs) [] ps (points_of more)) on
            (merged-append (AreEquivalent programs) (AreApart programs) (flat_map (successors programs) (take n level)) (successors programs p) [] (points_of next) (points_of more) s.after.points merged);
        ends = subst (λ (ps : List (Point A)). IsMerged (HaveSameOutcome programs) (HaveOthers programs) old ps (points_of all)) over
            (merged-append (HaveSameOutcome programs) (HaveOthers programs) (ends_among programs (take n level)) (ends_among programs (p ∷ [])) old (points_of ends) (points_of all) s.after.ends ended);
      }

  pub put-next : (n : ℕ) (p : Point A) (next more : List (Key A × Point A)) (ends all : List (Outcome A × Point A)) → n < length level → get_or level n p ≡ p
      → AreKeyed programs more → AreOutcomes programs all → length more ≤ room
      → IsMerged (AreEquivalent programs) (AreApart programs) (points_of next) (successors programs p) (points_of more)
      → IsMerged (HaveSameOutcome programs) (HaveOthers programs) (points_of ends) (ends_among programs (p ∷ [])) (points_of all)
      → IsPutTo programs level old room n next ends → IsPutTo programs level old room (n + 1) more all
  put-next n p next more ends all less at keyed outcomes few merged ended s = record {
    keyed = keyed;
    outcomes = outcomes;
    few = few;
    after = after-next n p next more ends all less at merged ended s;
  }

  -- there is no room for these
  pub put-cut : (n count : ℕ) (p : Point A) (next more : List (Key A × Point A)) (ends all : List (Outcome A × Point A)) → n < length level → get_or level n p ≡ p
      → count ≡ length more → room < count → count < 2 ^ 63
      → IsMerged (AreEquivalent programs) (AreApart programs) (points_of next) (successors programs p) (points_of more)
      → IsMerged (HaveSameOutcome programs) (HaveOthers programs) (points_of ends) (ends_among programs (p ∷ [])) (points_of all)
      → IsPutTo programs level old room n next ends → IsCutOff programs level old (points_of all) room count
  put-cut n count p next more ends all less at counted above small merged ended s = record {
    n = n + 1;
    next = points_of more;
    after = after-next n p next more ends all less at merged ended s;
    counted = counted ∙ sym (length-map more (λ e. e.1));
    more = above;
    small = small;
  }

  pub put-all : (n : ℕ) (next : List (Key A × Point A)) (ends : List (Outcome A × Point A)) → length level ≤ n → IsPutTo programs level old room n next ends → IsNextLevel programs level old (points_of next) (points_of ends)
  put-all n next ends past s = subst (λ (ps : List (Point A)). IsNextLevel programs ps old (points_of next) (points_of ends)) (take_all n level past) s.after

-- the outcomes that are kept are those of the points
pub outcomes-kept : {A : Type 0} (programs : Programs A) (entries : List (Outcome A × Point A)) → AreOutcomes programs entries → outcomes_of entries ≡ map (outcome programs) (points_of entries)
outcomes-kept {A = A} programs entries all = by entries (recursion_from_All (λ e. shown e.0 ≡ outcome programs e.1) entries all)
  where
    by : (entries : List (Outcome A × Point A)) → AllByRecursion (λ e. shown e.0 ≡ outcome programs e.1) entries → outcomes_of entries ≡ map (outcome programs) (points_of entries)
    by [] h = refl
    by (x ∷ xs) h = λ i. h.0 i ∷ by xs h.1 i

-- all orders of n steps from the root are searched, with at most the allowed points
pub record IsExploredTo {A : Type 0} (programs : Programs A) (root : Point A) (most points : ℕ) (level : List (Key A × Point A)) (ends : List (Outcome A × Point A)) : Type 0 where
  pub n : ℕ
  pub earlier : List (Point A)
  pub searched : IsSearchedTo programs root n earlier (points_of level) (points_of ends)
  pub counted : points ≡ length earlier + length level
  pub outcomes : AreOutcomes programs ends
  pub few : points ≤ most

-- more than there is room for are too many
above-room : (most points count : ℕ) → points ≤ most → most - points < count → most < points + count
above-room most points count few above = omega arith

-- not even the root may be searched
pub root-over : {A : Type 0} (programs : Programs A) (root : Point A) (most : ℕ) → most ≡ 0 → IsTooMany programs root most 1 0
root-over programs root most none = record {
  more = omega (arith, none);
  found = root ∷ [];
  some = root-points programs root;
  counted = refl;
  ended = [];
  some_ends = no-ends programs root;
  counted_ends = refl;
}

module _ {A : Type 0} (programs : Programs A) (root : Point A) (most : ℕ) where
  pub explored-start : (level : List (Key A × Point A)) (ends : List (Outcome A × Point A)) → IsNumbered root → points_of level ≡ root ∷ [] → ends ≡ [] → 1 ≤ most → IsExploredTo programs root most 1 level ends
  explored-start level ends numbered first none one = record {
    n = 0;
    earlier = [];
    searched = subst (λ (es : List (Outcome A × Point A)). IsSearchedTo programs root 0 [] (points_of level) (points_of es)) (sym none) (subst (λ (ps : List (Point A)). IsSearchedTo programs root 0 [] ps []) (sym first) (searched-start programs root numbered));
    counted = let one_point : 1 ≡ length level = sym (ap (λ (ps : List (Point A)). length ps) first) ∙ length-map level (λ e. e.1) in omega (arith, one_point);
    outcomes = none-outcomes programs ends none;
    few = one;
  }

  pub explored-next : (points count : ℕ) (plan : Programs A) (level next : List (Key A × Point A)) (ends more : List (Outcome A × Point A)) → plan ≡ programs
      → IsExploredTo programs root most points level ends → AreOutcomes plan more → points + count ≤ most → count ≡ length next
      → IsNextLevel plan (points_of level) (points_of ends) (points_of next) (points_of more)
      → IsExploredTo programs root most (points + count) next more
  explored-next points count plan level next ends more e s outcomes few counted after =
      let long : length (s.earlier ++ points_of level) ≡ length s.earlier + length level = length-append s.earlier (points_of level) ∙ ap (λ (k : ℕ). length s.earlier + k) (length-map level (λ e. e.1)) in
      let total : points ≡ length s.earlier + length level = s.counted in
      record {
        n = s.n + 1;
        earlier = s.earlier ++ points_of level;
        searched = searched-next programs root s.n s.earlier (points_of level) (points_of ends) (points_of next) (points_of more) s.searched
            (subst (λ (ps : Programs A). IsNextLevel ps (points_of level) (points_of ends) (points_of next) (points_of more)) e after);
        counted = omega (arith, long, total, counted);
        outcomes = subst (λ (ps : Programs A). AreOutcomes ps more) e outcomes;
        few = few;
      }

  pub explored-all : (points : ℕ) (level : List (Key A × Point A)) (ends : List (Outcome A × Point A)) → level ≡ [] → IsExploredTo programs root most points level ends → AreAllEndsFrom programs root (points_of ends)
  explored-all points level ends none s = searched-all programs root s.n s.earlier (points_of ends) (subst (λ (es : List (Key A × Point A)). IsSearchedTo programs root s.n s.earlier (points_of es) (points_of ends)) none s.searched)

  pub explored-points : (points : ℕ) (level : List (Key A × Point A)) (ends : List (Outcome A × Point A)) → level ≡ [] → IsExploredTo programs root most points level ends → CountsPoints programs root points
  explored-points points level ends none s = record {
    points = s.earlier;
    all = searched-points programs root s.n s.earlier (points_of ends) (subst (λ (es : List (Key A × Point A)). IsSearchedTo programs root s.n s.earlier (points_of es) (points_of ends)) none s.searched);
    counted = let total : points ≡ length s.earlier + 0 = s.counted ∙ ap (λ (es : List (Key A × Point A)). length s.earlier + length es) none in omega (arith, total);
  }

  pub explored-cut : (points count ends_found : ℕ) (plan : Programs A) (level : List (Key A × Point A)) (ends more : List (Outcome A × Point A)) → plan ≡ programs
      → IsExploredTo programs root most points level ends → ends_found ≡ length more → IsCutOff plan (points_of level) (points_of ends) (points_of more) (most - points) count → IsTooMany programs root most (points + count) ends_found
  explored-cut points count ends_found plan level ends more e s counted_ends cut =
      let after = subst (λ (ps : Programs A). IsNextLevel ps (take cut.n (points_of level)) (points_of ends) cut.next (points_of more)) e cut.after in
      let long : length (s.earlier ++ points_of level) ≡ length s.earlier + length level = length-append s.earlier (points_of level) ∙ ap (λ (k : ℕ). length s.earlier + k) (length-map level (λ e. e.1)) in
      let all : length ((s.earlier ++ points_of level) ++ cut.next) ≡ length (s.earlier ++ points_of level) + length cut.next = length-append (s.earlier ++ points_of level) cut.next in
      let total : points ≡ length s.earlier + length level = s.counted in
      let next : count ≡ length cut.next = cut.counted in
      record {
        more = above-room most points count s.few cut.more;
        found = (s.earlier ++ points_of level) ++ cut.next;
        some = cut-points programs root s.n cut.n s.earlier (points_of level) (points_of ends) cut.next (points_of more) s.searched after;
        counted = omega (arith, long, all, total, next);
        ended = points_of more;
        some_ends = cut-ends programs root s.n cut.n s.earlier (points_of level) (points_of ends) cut.next (points_of more) s.searched after;
        counted_ends = counted_ends ∙ sym (length-map more (λ e. e.1));
      }
