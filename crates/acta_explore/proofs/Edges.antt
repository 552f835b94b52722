-- The edges of a machine, each once; sorted, they are the same list for equivalent points.
use Rattle.std.proofs.Common.{◌≡◌, ◌≤◌, ℕ, ◌+◌, Bool, true, false, true≢false, ◌||◌, cond, List, [], ◌∷◌, ◌++◌, Option, Some, None, refl, sym, ap, subst, ◌∙◌, arith}
use Rattle.std.specs.Prelude.{if◌then◌else◌}
use Rattle.std.specs.Cmp.{IsTotalOrder, both_tied, unsigned_ties}
use Rattle.std.specs.List.{AllByRecursion, count_by}
use Rattle.std.specs.List.Sorted.{IsPermutation, IsSorted}
use Rattle.std.specs.Ordering.{eq_by_cmp, is_eq, is_lt, nat_cmp, ordering_reverse, ordering_then}
use Rattle.std.specs.declared.cmp.Ordering.{Ordering}
use Rattle.std.specs.declared.cmp.Ordering.TheVariants.{Less, Equal, Greater}
use Rattle.std.proofs.lemmas.Cmp.{nat_cmp_total, on_total, then_total, tied_itself}
use Rattle.std.proofs.lemmas.List.Sorted.{list_any-IsPermutation, ranks_by, sorted_far, sum_by-IsPermutation}
use Rattle.std.proofs.lemmas.List.Sums.{sum_by-cons, sum_by_push}
use Rattle.std.proofs.lemmas.Map.Lookups.{exact_unsigned}
use Rattle.acta_table.specs.declared.answer.Status.TheVariants.{Committed as has_committed}
use Rattle.acta_table.specs.declared.dep.Edge.{Edge}
use Rattle.acta_table.specs.declared.event.Event.{Event}
use Rattle.acta_table.specs.declared.event.Event.TheVariants.{Begin, Spawn, Split, Join, Delegate, Form, Operate, Commit, Abort, Permit}
use Rattle.acta_table.specs.declared.event.Kept.{Kept}
use Rattle.acta_table.specs.declared.event.TxnId.{TxnId}
use Rattle.acta_table.specs.declared.model.Parts.{Parts}
use Rattle.acta_table.specs.Dependencies.{code_of}
use Rattle.acta_table.specs.Edges.{formed, is_among, same_edge, with_edge}
use Rattle.acta_machine.specs.Changes.{changed, edges_due, effect, settled, summary_from, summary_of}
use Rattle.acta_machine.specs.Families.{heir_of}
use Rattle.acta_machine.specs.Summary.{Summary, nothing_yet, stood, terminated, permit_given, entered, linked, given, inherited, operated, fated, counted}
use Rattle.acta_explore.specs.Equivalence.{AreSameEdges}
use Rattle.acta_explore.specs.inside.Keys.{edge_cmp}
use Rattle.acta_explore.proofs.Ending.{same-kind, then-equal}
use Rattle.acta_explore.proofs.OrderedSets.{same-rise}
use Rattle.acta_explore.proofs.Pairs.{Pairs, pairs-from}

edge-total : IsTotalOrder edge_cmp
edge-total = then_total (then_total (on_total (λ e. code_of e.kind) nat_cmp_total) (on_total (λ e. e.j.0) nat_cmp_total)) (on_total (λ e. e.i.0) nat_cmp_total)

is-equal : (o : Ordering) → is_eq o ≡ true → o ≡ Equal
is-equal Less h = absurd cc
is-equal Equal h = refl
is-equal Greater h = absurd cc

edge-exact : (e f : Edge) → edge_cmp e f ≡ Equal → e ≡ f
edge-exact e f h =
    let (a, b) = then-equal (ordering_then (nat_cmp (code_of e.kind) (code_of f.kind)) (nat_cmp e.j.0 f.j.0)) (nat_cmp e.i.0 f.i.0) h in
    let (c, d) = then-equal (nat_cmp (code_of e.kind) (code_of f.kind)) (nat_cmp e.j.0 f.j.0) a in
    let kind = same-kind e.kind f.kind (exact_unsigned (code_of e.kind) (code_of f.kind) c) in
    let j = exact_unsigned e.j.0 f.j.0 d in
    let i = exact_unsigned e.i.0 f.i.0 b in
    λ n. record { kind = kind n; j = record { 0 = j n }; i = record { 0 = i n } }

-- edges are the same exactly if they tie
edge-ties : (e f : Edge) → same_edge e f ≡ eq_by_cmp edge_cmp e f
edge-ties e f =
    both_tied _ _ _ _ (both_tied _ _ _ _ (unsigned_ties (code_of e.kind) (code_of f.kind)) (unsigned_ties e.j.0 f.j.0)) (unsigned_ties e.i.0 f.i.0)

-- how often the list has the edge
abbrev pub times : Edge → List Edge → ℕ
times e es = count_by (same_edge e) es

abbrev pub AreOnce : List Edge → Type 0
AreOnce es = (e : Edge) → times e es ≤ 1

times-cons : (e f : Edge) (es : List Edge) → times e (f ∷ es) ≡ cond (same_edge e f) 1 0 + times e es
times-cons e f es = sum_by-cons (λ x. cond (same_edge e x) 1 0) f es

no-times : (e : Edge) (es : List Edge) → is_among es e ≡ false → times e es ≡ 0
no-times e [] none = refl
no-times e (f ∷ es) none = times-cons e f es ∙ by (same_edge e f) none (no-times e es)
  where
    by : (b : Bool) → (b || is_among es e) ≡ false → (is_among es e ≡ false → times e es ≡ 0) → cond b 1 0 + times e es ≡ 0
    by true none later = absurd (true≢false none)
    by false none later = let zero_plus : 0 + times e es ≡ times e es = omega arith in zero_plus ∙ later none

-- one more edge, unless it is there
once-with : (es : List Edge) (f : Edge) → AreOnce es → AreOnce (with_edge es f)
once-with es f once e = by-known (is_among es f) refl
  where
    pushed : (b : Bool) → same_edge e f ≡ b → is_among es f ≡ false → times e (es ++ f ∷ []) ≤ 1
    pushed true same none =
        let equal : e ≡ f = edge-exact e f (is-equal (edge_cmp e f) (sym (edge-ties e f) ∙ same)) in
        let before : times e es ≡ 0 = no-times e es (ap (λ (x : Edge). is_among es x) equal ∙ none) in
        let more : times e (es ++ f ∷ []) ≡ times e es + 1 = sum_by_push (λ x. cond (same_edge e x) 1 0) es f ∙ ap (λ (b : Bool). times e es + cond b 1 0) same in
        omega (arith, before, more)
    pushed false other none =
        let before : times e es ≤ 1 = once e in
        let more : times e (es ++ f ∷ []) ≡ times e es + 0 = sum_by_push (λ x. cond (same_edge e x) 1 0) es f ∙ ap (λ (b : Bool). times e es + cond b 1 0) other in
        omega (arith, before, more)

    by-known : (known : Bool) → is_among es f ≡ known → times e (if known then es else es ++ f ∷ []) ≤ 1
    by-known true there = once e
    by-known false none = pushed (same_edge e f) refl none

once-formed : (es more : List Edge) → AreOnce es → AreOnce (formed es more)
once-formed es [] once = once
once-formed es (f ∷ more) once = once-formed (with_edge es f) more (once-with es f once)

-- an event changes the edges by those that it forms
settled-edges : (s : Summary) (t : TxnId) (heir : Option TxnId) → (settled s t heir).edges ≡ s.edges
unfolding inherited fated
settled-edges s t None = refl
settled-edges s t (Some heir) = refl

module _ {A : Type 0} (m : Parts A) where
  changed-edges : (s : Summary) (e : Event A) → (changed m s e).edges ≡ s.edges
  unfolding stood terminated permit_given entered given inherited operated fated
  changed-edges s (Begin t class) = refl
  changed-edges s (Spawn t c class) = refl
  changed-edges s (Split t u class ops) = refl
  changed-edges s (Join t u) = refl
  changed-edges s (Delegate t u ops) = refl
  changed-edges s (Form kind j i) = refl
  changed-edges s (Operate t ob op) = refl
  changed-edges s (Commit t) = settled-edges (terminated s t has_committed) t (heir_of m s t.0)
  changed-edges s (Abort t) = refl
  changed-edges s (Permit t u ob) = refl

  effect-edges : (s : Summary) (e : Event A) → (effect m s e).edges ≡ formed s.edges (edges_due m s e)
  unfolding counted linked
  effect-edges s e = changed-edges (linked s (edges_due m s e)) e

  once-from : (s : Summary) (ks : List (Kept A)) → AreOnce s.edges → AreOnce (summary_from m s ks).edges
  once-from s [] once = once
  once-from s (k ∷ ks) once =
      once-from (effect m s k.event) ks (subst AreOnce (sym (effect-edges s k.event)) (once-formed s.edges (edges_due m s k.event) once))

  pub once-edges : (ks : List (Kept A)) → AreOnce (summary_of m ks).edges
  unfolding summary_of
  once-edges ks = once-from nothing_yet ks (λ e. omega arith)

-- neither tied nor above is below
below : (o : Ordering) → is_eq o ≡ false → is_lt (ordering_reverse o) ≡ false → o ≡ Less
below Less e l = refl
below Equal e l = absurd (true≢false e)
below Greater e l = absurd (true≢false l)

-- a sorted list that has no edge twice rises
rise-once : (es : List Edge) → Pairs (λ e f. is_lt (edge_cmp f e) ≡ false) es → AreOnce es → Pairs (λ e f. edge_cmp e f ≡ Less) es
rise-once [] pairs once = tt
rise-once (e ∷ es) pairs once = (all-below es pairs.0 none-more, rise-once es pairs.1 fewer)
  where
    itself : same_edge e e ≡ true
    itself = edge-ties e e ∙ ap is_eq (tied_itself edge-total e)

    none-more : times e es ≡ 0
    none-more =
        let one : times e (e ∷ es) ≡ 1 + times e es = times-cons e e es ∙ ap (λ (b : Bool). cond b 1 0 + times e es) itself in
        let most : times e (e ∷ es) ≤ 1 = once e in
        omega (arith, one, most)

    fewer : AreOnce es
    fewer f =
        let one : times f (e ∷ es) ≡ cond (same_edge f e) 1 0 + times f es = times-cons f e es in
        let most : times f (e ∷ es) ≤ 1 = once f in
        omega (arith, one, most)

    not-tied : (f : Edge) (fs : List Edge) → times e (f ∷ fs) ≡ 0 → same_edge e f ≡ false
    not-tied f fs none = by (same_edge e f) (sym (times-cons e f fs) ∙ none)
      where
        by : (b : Bool) → cond b 1 0 + times e fs ≡ 0 → b ≡ false
        by true h = absurd (omega (arith, h))
        by false h = refl

    fewer-still : (f : Edge) (fs : List Edge) → times e (f ∷ fs) ≡ 0 → times e fs ≡ 0
    fewer-still f fs none =
        let all : cond (same_edge e f) 1 0 + times e fs ≡ 0 = sym (times-cons e f fs) ∙ none in
        omega (arith, all)

    all-below : (fs : List Edge) → AllByRecursion (λ f. is_lt (edge_cmp f e) ≡ false) fs → times e fs ≡ 0 → AllByRecursion (λ f. edge_cmp e f ≡ Less) fs
    all-below [] all none = tt
    all-below (f ∷ fs) all none = (
      below (edge_cmp e f) (sym (edge-ties e f) ∙ not-tied f fs none) (ap is_lt (sym (edge-total.antisymm f e)) ∙ all.0),
      all-below fs all.1 (fewer-still f fs none),
    )

-- the edges of a machine in ascending order
pub edges-rise : (es fs : List Edge) → AreOnce es → IsPermutation es fs → IsSorted edge_cmp fs → Pairs (λ e f. edge_cmp e f ≡ Less) fs
edges-rise es fs once same sorted =
    rise-once fs
    (pairs-from (λ e f. is_lt (edge_cmp f e) ≡ false) fs (λ i j d less within. sorted_far (λ e f. is_lt (edge_cmp e f)) (ranks_by edge-total (λ e. e)) fs sorted i j d (omega arith) within))
    (λ e. subst (λ (n : ℕ). n ≤ 1) (sym (sum_by-IsPermutation (λ x. cond (same_edge e x) 1 0) es fs same)) (once e))

-- are the same for lists of the same edges
pub sorted-edges-same : (es fs gs hs : List Edge) → AreOnce es → AreOnce fs → AreSameEdges es fs → IsPermutation es gs → IsPermutation fs hs → IsSorted edge_cmp gs → IsSorted edge_cmp hs → gs ≡ hs
sorted-edges-same es fs gs hs once other same here there sorted ascending =
    same-rise edge_cmp edge-total edge-exact gs hs (edges-rise es gs once here sorted) (edges-rise fs hs other there ascending)
    (λ test. sym (list_any-IsPermutation test es gs here) ∙ (same.among test ∙ list_any-IsPermutation test fs hs there))
