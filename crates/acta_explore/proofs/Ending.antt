-- Equivalent points have the same outcome.
use Rattle.std.proofs.Common.{◌≡◌, ℕ, ◌+◌, Bool, false, ◌||◌, List, [], ◌∷◌, map, length, fold, Option, Some, None, refl, sym, ap, ◌∙◌}
use Rattle.std.specs.Prelude.{option_and_then, option_map, slice_get}
use Rattle.std.specs.List.{list_any, filter_map, cons_option, range_with_len}
use Rattle.std.specs.Option.{option_map_or}
use Rattle.std.specs.BTreeSet.{insert_key}
use Rattle.std.specs.Cmp.{IsTotalOrder}
use Rattle.std.specs.declared.cmp.Ordering.{Ordering}
use Rattle.std.specs.declared.cmp.Ordering.TheVariants.{Less, Equal, Greater}
use Rattle.std.specs.Ordering.{nat_cmp, ordering_then}
use Rattle.std.proofs.lemmas.Cmp.{nat_cmp_total, on_total, then_total}
use Rattle.std.proofs.lemmas.Map.Lookups.{exact_unsigned}
use Rattle.acta_table.specs.declared.answer.Rule.{Rule}
use Rattle.acta_table.specs.declared.answer.Status.{Status}
use Rattle.acta_table.specs.declared.dep.Dep.{Dep}
use Rattle.acta_table.specs.declared.dep.Dep.TheVariants.{Cd, Scd, Ad, Wd, Td, Ed, Cmd, Bd, Sd, Bcd, Bad, Wcd}
use Rattle.acta_table.specs.declared.dep.Edge.{Edge}
use Rattle.acta_table.specs.declared.event.Event.{Event}
use Rattle.acta_table.specs.declared.limits.TheConstants.{LAST_TXN}
use Rattle.acta_table.specs.declared.model.Parts.{Parts}
use Rattle.acta_table.specs.Dependencies.{all_kinds, code_of}
use Rattle.acta_machine.specs.Summary.{Summary}
use Rattle.acta_machine.specs.Table.{status_in, value_in, refusal_in}
use Rattle.acta_machine.specs.Values.{value_of}
use Rattle.acta_explore.specs.declared.debt.Debt.{Debt}
use Rattle.acta_explore.specs.Equivalence.{known, AreSameEdges, AreEquivalent}
use Rattle.acta_explore.specs.Outcomes.{begun_status, debt_by, debt_cmp, debts_of, rule_at, rules_at, alternatives_at, waiting_at, waits_on, seats_of, outcome}
use Rattle.acta_explore.specs.Points.{Point}
use Rattle.acta_explore.specs.Programs.{Programs, next_line, event_now}
use Rattle.acta_explore.proofs.Effects.{like-value}
use Rattle.acta_explore.proofs.Going.{IsNumbered, like-of, next-same, rule-same}
use Rattle.acta_explore.proofs.Named.{AreNamed}
use Rattle.acta_explore.proofs.OrderedSets.{same-sets}
use Rattle.acta_explore.proofs.Rules.{rule_in}
use Rattle.acta_explore.proofs.Stepping.{event_in}

pub debt-total : IsTotalOrder debt_cmp
debt-total = then_total (on_total (λ d. code_of d.kind) nat_cmp_total) (then_total (on_total (λ d. d.txn.0) nat_cmp_total) (on_total (λ d. d.on.0) nat_cmp_total))

-- the kind of a code
kind_at_code : ℕ → Option Dep
kind_at_code n = slice_get all_kinds n

code-kind : (k : Dep) → kind_at_code (code_of k) ≡ Some k
unfolding kind_at_code
code-kind Cd = refl
code-kind Scd = refl
code-kind Ad = refl
code-kind Wd = refl
code-kind Td = refl
code-kind Ed = refl
code-kind Cmd = refl
code-kind Bd = refl
code-kind Sd = refl
code-kind Bcd = refl
code-kind Bad = refl
code-kind Wcd = refl

some-is : {X : Type 0} {x y : X} → Some x ≡ Some y → x ≡ y
some-is e = cc

pub same-kind : (k l : Dep) → code_of k ≡ code_of l → k ≡ l
same-kind k l e = some-is (sym (code-kind k) ∙ (ap kind_at_code e ∙ code-kind l))

pub then-equal : (o p : Ordering) → ordering_then o p ≡ Equal → (o ≡ Equal) × (p ≡ Equal)
then-equal Less p e = absurd cc
then-equal Equal p e = (refl, e)
then-equal Greater p e = absurd cc

pub debt-exact : (d e : Debt) → debt_cmp d e ≡ Equal → d ≡ e
debt-exact d e h =
    let (a, b) = then-equal (nat_cmp (code_of d.kind) (code_of e.kind)) (ordering_then (nat_cmp d.txn.0 e.txn.0) (nat_cmp d.on.0 e.on.0)) h in
    let (c, f) = then-equal (nat_cmp d.txn.0 e.txn.0) (nat_cmp d.on.0 e.on.0) b in
    let kind = same-kind d.kind e.kind (exact_unsigned (code_of d.kind) (code_of e.kind) a) in
    let txn = exact_unsigned d.txn.0 e.txn.0 c in
    let on = exact_unsigned d.on.0 e.on.0 f in
    λ i. record { kind = kind i; txn = record { 0 = txn i }; on = record { 0 = on i } }

any-some : {Y : Type 0} (test : Y → Bool) (o : Option Y) (ys : List Y) → list_any test (cons_option o ys) ≡ (option_map_or test o false || list_any test ys)
any-some test None ys = refl
any-some test (Some y) ys = refl

any-filter_map : {X Y : Type 0} (f : X → Option Y) (test : Y → Bool) (xs : List X) → list_any test (filter_map f xs) ≡ list_any (λ x. option_map_or test (f x) false) xs
any-filter_map f test [] = refl
any-filter_map f test (x ∷ xs) = any-some test (f x) (filter_map f xs) ∙ ap (λ (b : Bool). option_map_or test (f x) false || b) (any-filter_map f test xs)

-- the same debts, of the same edges
debts-same : (status : ℕ → Status) (es fs : List Edge) → AreSameEdges es fs → fold (insert_key debt_cmp) [] (filter_map (debt_by status) es) ≡ fold (insert_key debt_cmp) [] (filter_map (debt_by status) fs)
debts-same status es fs same =
    same-sets debt_cmp debt-total debt-exact (filter_map (debt_by status) es) (filter_map (debt_by status) fs)
    (λ test. any-filter_map (debt_by status) test es ∙ (same.among (λ e. option_map_or test (debt_by status e) false) ∙ sym (any-filter_map (debt_by status) test fs)))

filter_map-agree : {X Y : Type 0} (f g : X → Option Y) → ((x : X) → f x ≡ g x) → (xs : List X) → filter_map f xs ≡ filter_map g xs
filter_map-agree f g same xs i = filter_map (λ x. same x i) xs

map-agree : {X Y : Type 0} (f g : X → Y) → ((x : X) → f x ≡ g x) → (xs : List X) → map f xs ≡ map g xs
map-agree f g same xs i = map (λ x. same x i) xs

none-named : (ls : List ℕ) (n : ℕ) → AreNamed (λ l. false) [] n ls
none-named [] n = tt
none-named (l ∷ ls) n = (refl, none-named ls (n + 1))

module _ {A : Type 0} (programs : Programs A) (p q : Point A) (here : IsNumbered p) (there : IsNumbered q) (on : p.state.model ≡ q.state.model) (same : AreEquivalent programs p q) where
  rule-by : (e : Option (Event A)) → option_and_then (λ f. rule_in (refusal_in p.state f)) (option_map (event_now programs p.steps) e) ≡ option_and_then (λ f. rule_in (refusal_in q.state f)) (option_map (event_now programs q.steps) e)
  rule-by None = refl
  rule-by (Some e) = rule-same programs p q here there on same e

  rules-same : (l : ℕ) → rules_at programs p l ≡ rules_at programs q l
  rules-same l = filter_map-agree (rule_at programs p l) (rule_at programs q l) (λ alternative. rule-by (event_in programs l alternative)) (range_with_len 0 (alternatives_at programs l))

  waiting-by : (seat : ℕ) (l : Option ℕ) → option_map (waits_on programs p seat) l ≡ option_map (waits_on programs q seat) l
  waiting-by seat None = refl
  waiting-by seat (Some l) = ap (λ (rules : List Rule). Some (record { seat = seat; line = l; rules = rules })) (rules-same l)

  waiting-same : (seat : ℕ) → waiting_at programs p seat ≡ waiting_at programs q seat
  waiting-same seat =
      waiting-by seat (next_line programs p.steps seat)
      ∙ ap (option_map (waits_on programs q seat)) (next-same programs p q seat same)

  value-same : (ob : ℕ) → value_in p.state ob ≡ value_in q.state ob
  value-same ob =
      like-value p.state.model (known p) (known q) _ _ [] [] (like-of programs p q here there same) (record { named = λ l. false; here = none-named _ 1; there = none-named _ 1; unknown = refl }) ob
      ∙ ap (λ (m : Parts A). value_of m (known q) ob) on

  statuses-same : (t : ℕ) → status_in p.state t ≡ status_in q.state t
  statuses-same t = ap (λ (s : Summary). s.status t) same.rest

  -- all that an outcome has
  pub outcome-same : outcome programs p ≡ outcome programs q
  unfolding outcome
  outcome-same = λ i. record {
    lines = same.lines i;
    waiting = filter_map (λ seat. waiting-same seat i) (seats_of programs);
    statuses = filter_map (begun_status (λ t. statuses-same t i)) (range_with_len 1 LAST_TXN);
    values = values-same i;
    debts = debts-both i;
  }
    where
      values-same : map (value_in p.state) (range_with_len 0 (length p.state.model.objects)) ≡ map (value_in q.state) (range_with_len 0 (length q.state.model.objects))
      values-same = map-agree (value_in p.state) (value_in q.state) value-same (range_with_len 0 (length p.state.model.objects)) ∙ ap (λ (m : Parts A). map (value_in q.state) (range_with_len 0 (length m.objects))) on

      debts-both : debts_of p.state ≡ debts_of q.state
      debts-both =
          debts-same (known p).status (known p).edges (known q).edges same.edges
          ∙ (λ i. fold (insert_key debt_cmp) [] (filter_map (debt_by (λ t. statuses-same t i)) (known q).edges))
