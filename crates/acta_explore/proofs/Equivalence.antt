-- `==` on outcomes.
use Rattle.std.proofs.Common.{◌≡◌, ◌==◌, ◌&&◌, ℤ, Bool, true, false, true≢false, cond, Decides, is_some, List, [], ◌∷◌, ◌++◌, map, get_or, drop, Option, Some, None, refl, sym, ap, subst, ◌∙◌, rules}
use Rattle.std.specs.Prelude.{option_map}
use Rattle.std.specs.List.{All}
use Rattle.std.specs.Map.{lookup}
use Rattle.std.specs.Cmp.Lexicographic.{pointwise, pointwise_decides}
use Rattle.std.specs.Option.{option_eq, unwrap_or}
use Rattle.std.specs.declared.alloc.Allocator.{Ghosts}
use Rattle.std.proofs.lemmas.Bool.Decides.{Decides-eqb, Decides-int_eq, Decides-and, Decides-like}
use Rattle.std.proofs.lemmas.List.Elements.{All-nil, All-cons, All-head, All-tail}
use denote.Enum.Bare.{sameb, same_true, true_same}
use denote.RattleType.{RattleType}
use mir.Syntax.{Dict}
use Rattle.indexmap.specs.IndexMap.{IndexMap, get, insert_entry}
use Rattle.indexmap.proofs.CallerLemmas.{insert_entry-new}
use Rattle.acta_table.specs.Dependencies.{code_of}
use Rattle.acta_table.specs.declared.answer.Rule.{Rule}
use Rattle.acta_table.specs.declared.answer.Status.{Status}
use Rattle.acta_table.specs.declared.dep.Dep.{Dep}
use Rattle.acta_table.specs.declared.event.Ret.{Ret}
use Rattle.acta_table.specs.declared.event.Ret.TheVariants.{Done as has_done, Value as has_value, Flag}
use Rattle.acta_table.specs.contracts.answer.Rule.{the_type as rule_type}
use Rattle.acta_table.specs.contracts.answer.Status.{the_type as status_type}
use Rattle.acta_table.specs.contracts.dep.Dep.{the_type as dep_type}
use Rattle.acta_table.specs.contracts.event.RetPartialEq.TheImpl as ret_eq
use Rattle.acta_table.proofs.EdgeSets.{tagged}
use Rattle.acta_objects.specs.declared.state.ObjectState.{ObjectState}
use Rattle.acta_objects.specs.declared.state.ObjectState.TheVariants as state
use Rattle.acta_explore.specs.declared.debt.Debt.{Debt}
use Rattle.acta_explore.specs.declared.outcome.Outcome.{Outcome as outcome_struct}
use Rattle.acta_explore.specs.declared.outcome.TxnStatus.{TxnStatus}
use Rattle.acta_explore.specs.declared.outcome.Value.{Value}
use Rattle.acta_explore.specs.declared.outcome.Value.TheVariants.{Register, Counter, Elements}
use Rattle.acta_explore.specs.declared.outcome.Wait.{Wait}
use Rattle.acta_explore.specs.declared.point.Done.{Done}
use Rattle.acta_explore.specs.contracts.outcome.OutcomePartialEq.TheImpl as outcome_eq
use Rattle.acta_explore.specs.contracts.outcome.ValuePartialEq.TheImpl as value_eq
use Rattle.acta_explore.specs.contracts.outcome.TxnStatusPartialEq.TheImpl as txn_status_eq
use Rattle.acta_explore.specs.contracts.point.DonePartialEq.TheImpl as done_eq
use Rattle.acta_explore.specs.Ends.{HaveSameOutcome}
use Rattle.acta_explore.specs.Outcomes.{outcome}
use Rattle.acta_explore.specs.Points.{Point}
use Rattle.acta_explore.specs.Programs.{Programs}
use Rattle.acta_explore.specs.inside.Debts.{debt_eq}
use Rattle.acta_explore.specs.inside.Merging.{AreOutcomes, HasLike, HaveOthers, points_of}
use Rattle.acta_explore.specs.inside.Shown.{shown, shown_value, shown_wait}
use Rattle.acta_explore.proofs.Turning.{contains-head, contains-tail}

-- a test that holds of equal ones alone, and of each with itself, decides `≡`
decides-by : {X : Type 0} (E : X → X → Bool) → ((a b : X) → E a b ≡ true → a ≡ b) → ((a : X) → E a a ≡ true) → (a b : X) → Decides (E a b) (a ≡ b)
decides-by E same itself a b = (same a b, λ e. subst (λ (x : _). E a x ≡ true) e (itself a))

-- items of lists and of options that are shown
option-shown : {X Y : Type 0} (E : X → X → Bool) (f : X → Y) → ((a b : X) → Decides (E a b) (f a ≡ f b)) → (a b : Option X) → Decides (option_eq E a b) (option_map f a ≡ option_map f b)
option-shown E f d None None = (λ h. refl, λ e. refl)
option-shown E f d None (Some b) = (λ h. absurd cc, λ e. absurd cc)
option-shown E f d (Some a) None = (λ h. absurd cc, λ e. absurd cc)
option-shown E f d (Some a) (Some b) = (λ h. ap Some ((d a b).0 h), λ e. (d a b).1 (ap (λ (o : Option _). unwrap_or o (f a)) e))

option-decides : {X : Type 0} (E : X → X → Bool) → ((a b : X) → Decides (E a b) (a ≡ b)) → (a b : Option X) → Decides (option_eq E a b) (a ≡ b)
option-decides E d None None = (λ h. refl, λ e. refl)
option-decides E d None (Some b) = (λ h. absurd cc, λ e. absurd cc)
option-decides E d (Some a) None = (λ h. absurd cc, λ e. absurd cc)
option-decides E d (Some a) (Some b) = (λ h. ap Some ((d a b).0 h), λ e. (d a b).1 (ap (λ (o : Option _). unwrap_or o a) e))

lists-shown : {X Y : Type 0} (E : X → X → Bool) (f : X → Y) → ((a b : X) → Decides (E a b) (f a ≡ f b)) → (xs ys : List X) → Decides (pointwise E xs ys) (map f xs ≡ map f ys)
lists-shown E f d [] [] = (λ h. refl, λ e. refl)
lists-shown E f d [] (y ∷ ys) = (λ h. absurd cc, λ e. absurd cc)
lists-shown E f d (x ∷ xs) [] = (λ h. absurd cc, λ e. absurd cc)
lists-shown E f d (x ∷ xs) (y ∷ ys) =
    Decides-like (E x y && pointwise E xs ys) (λ h. λ i. h.0 i ∷ h.1 i)
    (λ e. (ap (λ (l : List _). get_or l 0 (f x)) e, ap (λ (l : List _). drop 1 l) e))
    (Decides-and (E x y) (pointwise E xs ys) (d x y) (lists-shown E f d xs ys))

-- what a line did
ret-decides : (a b : Ret) → Decides ((ret_eq.eq-value).it a b) (a ≡ b)
ret-decides = decides-by (ret_eq.eq-value).it ret-same ret-itself
  where
    flag-same : (a b : Bool) → (ret_eq.eq-value).it (Flag a) (Flag b) ≡ true → a ≡ b
    flag-same true true h = refl
    flag-same true false h = absurd cc
    flag-same false true h = absurd cc
    flag-same false false h = refl

    ret-same : (a b : Ret) → (ret_eq.eq-value).it a b ≡ true → a ≡ b
    ret-same has_done has_done h = refl
    ret-same has_done (has_value w) h = absurd cc
    ret-same has_done (Flag w) h = absurd cc
    ret-same (has_value v) has_done h = absurd cc
    ret-same (has_value v) (has_value w) h = ap has_value ((Decides-int_eq v w).0 h)
    ret-same (has_value v) (Flag w) h = absurd cc
    ret-same (Flag v) has_done h = absurd cc
    ret-same (Flag v) (has_value w) h = absurd cc
    ret-same (Flag v) (Flag w) h = ap Flag (flag-same v w h)

    ret-itself : (a : Ret) → (ret_eq.eq-value).it a a ≡ true
    ret-itself has_done = refl
    ret-itself (has_value v) = (Decides-int_eq v v).1 refl
    ret-itself (Flag true) = refl
    ret-itself (Flag false) = refl

pub done-decides : (a b : Done) → Decides ((done_eq.eq-value).it a b) (a ≡ b)
done-decides a b =
    Decides-like ((done_eq.eq-value).it a b) (λ h. λ i. record { alternative = h.0 i; ret = h.1 i })
    (λ e. (ap (λ (d : Done). d.alternative) e, ap (λ (d : Done). d.ret) e))
    (Decides-and (a.alternative == b.alternative) (option_eq (ret_eq.eq-value).it a.ret b.ret) (Decides-eqb a.alternative b.alternative) (option-decides (ret_eq.eq-value).it ret-decides a.ret b.ret))

-- where a seat waits
rule-decides : (a b : Rule) → Decides (sameb rule_type a b) (a ≡ b)
rule-decides a b = (λ h. same_true rule_type (search rules) a b h, λ e. true_same rule_type a b e)

abbrev pub waits_equivalent : {A : Type 0} → Wait A → Wait A → Bool
waits_equivalent a b = (a.seat == b.seat) && ((a.line == b.line) && pointwise (sameb rule_type) a.rules.items b.rules.items)

wait-shown : {A : Type 0} (a b : Wait A) → Decides (waits_equivalent a b) (shown_wait a ≡ shown_wait b)
wait-shown a b =
    Decides-like (waits_equivalent a b) (λ h. λ i. record { seat = h.0 i; line = h.1.0 i; rules = h.1.1 i })
    (λ e. (ap (λ w. w.seat) e, (ap (λ w. w.line) e, ap (λ w. w.rules) e)))
    (Decides-and (a.seat == b.seat) ((a.line == b.line) && pointwise (sameb rule_type) a.rules.items b.rules.items) (Decides-eqb a.seat b.seat)
    (Decides-and (a.line == b.line) (pointwise (sameb rule_type) a.rules.items b.rules.items) (Decides-eqb a.line b.line) (pointwise_decides rule-decides a.rules.items b.rules.items)))

-- statuses
pub status-decides : (a b : Status) → Decides (sameb status_type a b) (a ≡ b)
status-decides a b = (λ h. same_true status_type (search rules) a b h, λ e. true_same status_type a b e)

txn_status-decides : (a b : TxnStatus) → Decides ((txn_status_eq.eq-value).it a b) (a ≡ b)
txn_status-decides a b =
    Decides-like ((txn_status_eq.eq-value).it a b) (λ h. λ i. record { txn = record { 0 = h.0 i }; status = h.1 i })
    (λ e. (ap (λ (s : TxnStatus). s.txn.0) e, ap (λ (s : TxnStatus). s.status) e))
    (Decides-and (a.txn.0 == b.txn.0) (sameb status_type a.status b.status) (Decides-eqb a.txn.0 b.txn.0) (status-decides a.status b.status))

-- debts
kind-decides : (k l : Dep) → Decides (code_of k == code_of l) (k ≡ l)
kind-decides k l = (λ h. same_true dep_type (search rules) k l ((λ i. tagged k i == tagged l i) ∙ h), λ e. (Decides-eqb (code_of k) (code_of l)).1 (ap code_of e))

pub debt-decides : (a b : Debt) → Decides (debt_eq a b) (a ≡ b)
debt-decides a b =
    Decides-like (debt_eq a b) (λ h. λ i. record { kind = h.0 i; txn = record { 0 = h.1.0 i }; on = record { 0 = h.1.1 i } })
    (λ e. (ap (λ (d : Debt). d.kind) e, (ap (λ (d : Debt). d.txn.0) e, ap (λ (d : Debt). d.on.0) e)))
    (Decides-and (code_of a.kind == code_of b.kind) ((a.txn.0 == b.txn.0) && (a.on.0 == b.on.0)) (kind-decides a.kind b.kind)
    (Decides-and (a.txn.0 == b.txn.0) (a.on.0 == b.on.0) (Decides-eqb a.txn.0 b.txn.0) (Decides-eqb a.on.0 b.on.0)))

-- values
abbrev pub number_of : {A : Type 0} → ObjectState A → ℤ → ℤ
number_of (state.Register v) d = v
number_of (state.Counter v) d = v
number_of (state.Elements vs) d = d

abbrev pub numbers_of : {A : Type 0} → ObjectState A → List ℤ
numbers_of (state.Register v) = []
numbers_of (state.Counter v) = []
numbers_of (state.Elements vs) = vs

module _ (A : RattleType) (ghosts : Ghosts A.Denot) (d e : Dict) where
  abbrev pub values_equivalent : Value A.Denot → Value A.Denot → Bool
  values_equivalent = (value_eq.eq-value A ghosts d e).it

  value-shown : (a b : Value A.Denot) → Decides (values_equivalent a b) (shown_value a ≡ shown_value b)
  value-shown (Register v) (Register w) = (λ h. ap state.Register ((Decides-int_eq v w).0 h), λ e. (Decides-int_eq v w).1 (ap (λ (s : ObjectState _). number_of s v) e))
  value-shown (Register v) (Counter w) = (λ h. absurd cc, λ e. absurd cc)
  value-shown (Register v) (Elements ws) = (λ h. absurd cc, λ e. absurd cc)
  value-shown (Counter v) (Register w) = (λ h. absurd cc, λ e. absurd cc)
  value-shown (Counter v) (Counter w) = (λ h. ap state.Counter ((Decides-int_eq v w).0 h), λ e. (Decides-int_eq v w).1 (ap (λ (s : ObjectState _). number_of s v) e))
  value-shown (Counter v) (Elements ws) = (λ h. absurd cc, λ e. absurd cc)
  value-shown (Elements vs) (Register w) = (λ h. absurd cc, λ e. absurd cc)
  value-shown (Elements vs) (Counter w) = (λ h. absurd cc, λ e. absurd cc)
  value-shown (Elements vs) (Elements ws) =
      (λ h. ap state.Elements ((pointwise_decides Decides-int_eq vs.items ws.items).0 h), λ e. (pointwise_decides Decides-int_eq vs.items ws.items).1 (ap numbers_of e))

  -- outcomes
  abbrev pub outcomes_equivalent : outcome_struct A.Denot → outcome_struct A.Denot → Bool
  outcomes_equivalent = (outcome_eq.eq-value A ghosts d e).it

  pub outcome-shown : (a b : outcome_struct A.Denot) → Decides (outcomes_equivalent a b) (shown a ≡ shown b)
  outcome-shown a b =
      let lines = pointwise (option_eq (done_eq.eq-value).it) a.lines.items b.lines.items in
      let waits = pointwise waits_equivalent a.waits.items b.waits.items in
      let statuses = pointwise (txn_status_eq.eq-value).it a.statuses.items b.statuses.items in
      let values = pointwise (option_eq values_equivalent) a.values.items b.values.items in
      let debts = pointwise debt_eq a.debts.items b.debts.items in
      Decides-like (outcomes_equivalent a b)
      (λ h. λ i. record { lines = h.0 i; waiting = h.1.0 i; statuses = h.1.1.0 i; values = h.1.1.1.0 i; debts = h.1.1.1.1 i })
      (λ e. (ap (λ o. o.lines) e, (ap (λ o. o.waiting) e, (ap (λ o. o.statuses) e, (ap (λ o. o.values) e, ap (λ o. o.debts) e)))))
      (Decides-and lines (waits && (statuses && (values && debts))) (pointwise_decides (option-decides (done_eq.eq-value).it done-decides) a.lines.items b.lines.items)
      (Decides-and waits (statuses && (values && debts)) (lists-shown waits_equivalent shown_wait wait-shown a.waits.items b.waits.items)
      (Decides-and statuses (values && debts) (pointwise_decides txn_status-decides a.statuses.items b.statuses.items)
      (Decides-and values debts (lists-shown (option_eq values_equivalent) (option_map shown_value) (option-shown values_equivalent shown_value value-shown) a.values.items b.values.items)
      (pointwise_decides debt-decides a.debts.items b.debts.items)))))

-- a look-up by an outcome: an end that is found has the same outcome; if none is found, all others differ
-- than each
module _ {A : Type 0} (programs : Programs A) (eq : outcome_struct A → outcome_struct A → Bool) (decides : (a b : outcome_struct A) → Decides (eq a b) (shown a ≡ shown b)) (found : outcome_struct A) (p : Point A) (of : shown found ≡ outcome programs p) where
  pub like-found : (es : List (outcome_struct A × Point A)) → AreOutcomes programs es → is_some (lookup (eq found) es) ≡ true → HasLike (HaveSameOutcome programs) (points_of es) p
  like-found [] all h = absurd cc
  like-found (e ∷ es) all h =
      by (eq found e.0) refl h (like-found es (All-tail (λ e. shown e.0 ≡ outcome programs e.1) e es all))
    where
      by : (b : Bool) → eq found e.0 ≡ b → is_some (cond b (Some e.1) (lookup (eq found) es)) ≡ true → (is_some (lookup (eq found) es) ≡ true → HasLike (HaveSameOutcome programs) (points_of es) p) → HasLike (HaveSameOutcome programs) (e.1 ∷ points_of es) p
      by true same h rest = record {
        by = e.1;
        within = contains-head e.1 (points_of es);
        related = sym (All-head (λ e. shown e.0 ≡ outcome programs e.1) e es all) ∙ (sym ((decides found e.0).0 same) ∙ of);
      }
      by false other h rest =
          let like = rest h in
          record { by = like.by; within = contains-tail e.1 like.by (points_of es) like.within; related = like.related }

  pub others-found : (es : List (outcome_struct A × Point A)) → AreOutcomes programs es → is_some (lookup (eq found) es) ≡ false → All (λ x. HaveOthers programs x p) (points_of es)
  others-found [] all h = All-nil (λ x. HaveOthers programs x p)
  others-found (e ∷ es) all h =
      by (eq found e.0) refl h (others-found es (All-tail (λ e. shown e.0 ≡ outcome programs e.1) e es all))
    where
      by : (b : Bool) → eq found e.0 ≡ b → is_some (cond b (Some e.1) (lookup (eq found) es)) ≡ false → (is_some (lookup (eq found) es) ≡ false → All (λ x. HaveOthers programs x p) (points_of es)) → All (λ x. HaveOthers programs x p) (e.1 ∷ points_of es)
      by true same h rest = absurd cc
      by false other h rest = All-cons (λ x. HaveOthers programs x p) e.1 (points_of es)
          (λ same. true≢false (sym ((decides found e.0).1 (of ∙ (sym same ∙ sym (All-head (λ e. shown e.0 ≡ outcome programs e.1) e es all)))) ∙ other))
          (rest h)

-- an outcome that is not found goes last
pub put-last : {K V S : Type 0} (eq : K → K → Bool) (m : IndexMap K V S) (k : K) (v : V) → is_some (get eq m k) ≡ false → insert_entry eq m.entries k v ≡ m.entries ++ (k, v) ∷ []
put-last eq m k v absent = insert_entry-new eq m k v (none-found (get eq m k) absent)
  where
    none-found : {X : Type 0} (o : Option X) → is_some o ≡ false → o ≡ None
    none-found None h = refl
    none-found (Some x) h = absurd cc
