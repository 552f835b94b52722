-- From equivalent points programs continue in the same way.
use Rattle.std.proofs.Common.{◌≡◌, ◌<◌, ℕ, ◌+◌, zero, suc, Bool, true, false, ◌==◌, List, [], ◌∷◌, ◌++◌, map, length, cond, Option, Some, None, refl, sym, ap, subst, ◌∙◌, arith}
use Rattle.std.specs.Prelude.{if◌then◌else◌, option_map, find}
use Rattle.std.specs.List.{cons_option, range_with_len, AllByRecursion}
use Rattle.std.specs.Option.{option_or}
use Rattle.std.proofs.lemmas.Bool.{eq-eqb, ne_eqb}
use Rattle.acta_table.specs.declared.answer.Refusal.{Refusal}
use Rattle.acta_table.specs.declared.event.Event.{Event}
use Rattle.acta_table.specs.declared.event.Ret.{Ret}
use Rattle.acta_table.specs.declared.model.Parts.{Parts}
use Rattle.acta_table.specs.Sets.{each_once}
use Rattle.acta_machine.specs.Changes.{effect}
use Rattle.acta_machine.specs.Rules.{lowest_broken}
use Rattle.acta_machine.specs.Summary.{Summary}
use Rattle.acta_machine.specs.Table.{kept_as, refusal_in}
use Rattle.acta_machine.specs.Values.{return_due}
use Rattle.acta_explore.specs.declared.point.Done.{Done}
use Rattle.acta_explore.specs.declared.point.Step.{Step}
use Rattle.acta_explore.specs.declared.point.Turn.{Turn}
use Rattle.acta_explore.specs.Equivalence.{known, line_ops, AreSameByObject, AreEquivalent}
use Rattle.acta_explore.specs.Points.{Point, gone_on, stepped, IsEnd}
use Rattle.acta_explore.specs.Programs.{Programs, is_of_line, done_by, done_at, lines_done, next_line, next_from, operated_lines, event_now}
use Rattle.acta_explore.specs.inside.Noting.{noted, noted_at}
pub use Rattle.acta_explore.specs.inside.Numbered.{IsNumbered}
use Rattle.acta_explore.proofs.Effects.{AreLike, AreNamedEquivalently, lines_after, like-refused, like-return, like-effect}
use Rattle.acta_explore.proofs.Numbering.{Differ, numbered_lines, is_line_named, are-named, unknown-same}
use Rattle.acta_explore.proofs.Pairs.{Pairs}
use Rattle.acta_explore.proofs.Rules.{with_ops, rule_in}
use Rattle.acta_explore.proofs.Stepping.{is_step, stepped_so, lines_named, now-with, next-new, summary-after, lines-gone}
use Rattle.acta_explore.proofs.Taking.{own-more}

-- what lines did, with one step more
done-last : (s : Step) (b : Bool) → option_map done_by (cond b (Some s) None) ≡ (if b then Some (done_by s) else None)
done-last s true = refl
done-last s false = refl

done-by : (s r : Step) (b : Bool) (o p : Option Step) (d : Option Done) → option_map done_by p ≡ option_or (option_map done_by o) d → option_map done_by (cond b (Some r) p) ≡ option_or (option_map done_by (cond b (Some r) o)) d
done-by s r true o p d e = refl
done-by s r false o p d e = e

done-more : (steps : List Step) (s : Step) (l : ℕ) → done_at (steps ++ s ∷ []) l ≡ option_or (done_at steps l) (if s.line == l then Some (done_by s) else None)
done-more [] s l = done-last s (is_of_line l s)
done-more (r ∷ steps) s l = done-by s r (is_of_line l r) (find (is_of_line l) steps) (find (is_of_line l) (steps ++ s ∷ [])) (if s.line == l then Some (done_by s) else None) (done-more steps s l)

or-none : {X : Type 0} (o : Option X) → option_or o None ≡ o
or-none None = refl
or-none (Some x) = refl

later-lines : (f g : ℕ → Option Done) (d : Done) (k n m : ℕ) → k < n → ((l : ℕ) → g l ≡ option_or (f l) (if k == l then Some d else None)) → map g (range_with_len n m) ≡ map f (range_with_len n m)
later-lines f g d k n zero less e = refl
later-lines f g d k n (suc m) less e =
    let here : g n ≡ f n = e n ∙ (ap (λ (b : Bool). option_or (f n) (if b then Some d else None)) (ne_eqb k n (λ same. omega arith)) ∙ or-none (f n)) in
    λ i. here i ∷ later-lines f g d k (n + 1) m (omega arith) e i

noted-from : (f g : ℕ → Option Done) (d : Done) (j n m : ℕ) → ((l : ℕ) → g l ≡ option_or (f l) (if n + j == l then Some d else None)) → map g (range_with_len n m) ≡ noted_at j d (map f (range_with_len n m))
noted-from f g d j n zero e = refl
noted-from f g d zero n (suc m) e =
    let same : n + 0 ≡ n = omega arith in
    let here : g n ≡ option_or (f n) (Some d) = e n ∙ ap (λ (b : Bool). option_or (f n) (if b then Some d else None)) (eq-eqb (n + 0) n same) in
    λ i. here i ∷ later-lines f g d n (n + 1) m (omega arith) (λ l. e l ∙ ap (λ (k : ℕ). option_or (f l) (if k == l then Some d else None)) same) i
noted-from f g d (suc j) n (suc m) e =
    let same : n + suc j ≡ (n + 1) + j = omega arith in
    let here : g n ≡ f n = e n ∙ (ap (λ (b : Bool). option_or (f n) (if b then Some d else None)) (ne_eqb (n + suc j) n (λ eq. omega arith)) ∙ or-none (f n)) in
    λ i. here i ∷ noted-from f g d j (n + 1) m (λ l. e l ∙ ap (λ (k : ℕ). option_or (f l) (if k == l then Some d else None)) same) i

-- a step more is noted
pub lines-noted : {A : Type 0} (programs : Programs A) (steps : List Step) (s : Step) → lines_done programs (steps ++ s ∷ []) ≡ noted s (lines_done programs steps)
lines-noted programs steps s = noted-from (done_at steps) (done_at (steps ++ s ∷ [])) (done_by s) s.line 0 (length programs) (λ l.
    let plus : 0 + s.line ≡ s.line = omega arith in
    done-more steps s l ∙ ap (λ (k : ℕ). option_or (done_at steps l) (if k == l then Some (done_by s) else None)) (sym plus))

operated-one : (P : ℕ → Type 0) (l : ℕ) (ret : Option Ret) (ls : List ℕ) → P l → AllByRecursion P ls → AllByRecursion P (cons_option (option_map (λ r. l) ret) ls)
operated-one P l None ls one all = all
operated-one P l (Some r) ls one all = (one, all)

operated-all : (P : ℕ → Type 0) (steps : List Step) → AllByRecursion P (map (λ s. s.line) steps) → AllByRecursion P (operated_lines steps)
operated-all P [] all = tt
operated-all P (s ∷ steps) all = operated-one P s.line s.ret (operated_lines steps) all.0 (operated-all P steps all.1)

operated-pairs : (l : ℕ) (ret : Option Ret) (ls : List ℕ) → AllByRecursion (Differ l) ls → Pairs Differ ls → Pairs Differ (cons_option (option_map (λ r. l) ret) ls)
operated-pairs l None ls all pairs = pairs
operated-pairs l (Some r) ls all pairs = (all, pairs)

operated-differ : (steps : List Step) → Pairs Differ (map (λ s. s.line) steps) → Pairs Differ (operated_lines steps)
operated-differ [] pairs = tt
operated-differ (s ∷ steps) pairs = operated-pairs s.line s.ret (operated_lines steps) (operated-all (Differ s.line) steps pairs.0) (operated-differ steps pairs.1)

-- points that agree on operations and edges
pub like-of : {A : Type 0} (programs : Programs A) (p q : Point A) → IsNumbered p → IsNumbered q → AreEquivalent programs p q → AreLike (known p) (known q) (operated_lines p.steps) (operated_lines q.steps)
like-of programs p q here there e = record { rest = e.rest; edges = e.edges; operations = e.operations; here = here.counted; there = there.counted }

pub names-of : {A : Type 0} (programs : Programs A) (p q : Point A) (e : Event A) → IsNumbered p → IsNumbered q → AreSameByObject (line_ops p) (line_ops q) → AreNamedEquivalently (known p) (known q) (operated_lines p.steps) (operated_lines q.steps) (each_once (numbered_lines (operated_lines p.steps) (lines_named programs e))) (each_once (numbered_lines (operated_lines q.steps) (lines_named programs e)))
names-of programs p q e here there same = record {
  named = is_line_named (lines_named programs e);
  here = are-named (operated_lines p.steps) (lines_named programs e) (operated-differ p.steps here.lines);
  there = are-named (operated_lines q.steps) (lines_named programs e) (operated-differ q.steps there.lines);
  unknown = unknown-same (operated_lines p.steps) (operated_lines q.steps) (known p).operations (known q).operations (lines_named programs e) here.counted there.counted same;
}

pub equivalent-refl : {A : Type 0} (programs : Programs A) (p : Point A) → AreEquivalent programs p p
equivalent-refl programs p = record {
  lines = refl;
  rest = refl;
  edges = record { many = refl; among = λ test. refl };
  operations = λ ob. refl;
}

pub equivalent-sym : {A : Type 0} (programs : Programs A) (p q : Point A) → AreEquivalent programs p q → AreEquivalent programs q p
equivalent-sym programs p q e = record {
  lines = sym e.lines;
  rest = sym e.rest;
  edges = record { many = sym e.edges.many; among = λ test. sym (e.edges.among test) };
  operations = λ ob. sym (e.operations ob);
}

pub equivalent-trans : {A : Type 0} (programs : Programs A) (p q r : Point A) → AreEquivalent programs p q → AreEquivalent programs q r → AreEquivalent programs p r
equivalent-trans programs p q r e f = record {
  lines = e.lines ∙ f.lines;
  rest = e.rest ∙ f.rest;
  edges = record { many = e.edges.many ∙ f.edges.many; among = λ test. e.edges.among test ∙ f.edges.among test };
  operations = λ ob. e.operations ob ∙ f.operations ob;
}

-- the machine's summary after a step
known-gone : {A : Type 0} (programs : Programs A) (p : Point A) (turn : Turn) (l : ℕ) (e : Event A) → refusal_in p.state (event_now programs p.steps e) ≡ None → known (gone_on p turn l (event_now programs p.steps e)) ≡ effect p.state.model (known p) (with_ops e (each_once (numbered_lines (operated_lines p.steps) (lines_named programs e))))
known-gone programs p turn l e none = summary-after p.state (event_now programs p.steps e) none ∙ ap (effect p.state.model (known p)) (now-with programs p.steps e)

-- the next points
module _ {A : Type 0} (programs : Programs A) (p q : Point A) (here : IsNumbered p) (there : IsNumbered q) (on : p.state.model ≡ q.state.model) (same : AreEquivalent programs p q) where
  -- the same rule is the lowest that an event of the programs breaks
  pub rule-same : (e : Event A) → rule_in (refusal_in p.state (event_now programs p.steps e)) ≡ rule_in (refusal_in q.state (event_now programs q.steps e))
  rule-same e =
      ap (λ (f : Event A). rule_in (refusal_in p.state f)) (now-with programs p.steps e)
      ∙ (like-refused p.state.model (known p) (known q) (operated_lines p.steps) (operated_lines q.steps) (each_once (numbered_lines (operated_lines p.steps) (lines_named programs e))) (each_once (numbered_lines (operated_lines q.steps) (lines_named programs e))) (like-of programs p q here there same) (names-of programs p q e here there same.operations) e
      ∙ (ap (λ (m : Parts A). rule_in (lowest_broken m (known q) (with_ops e (each_once (numbered_lines (operated_lines q.steps) (lines_named programs e)))))) on
      ∙ sym (ap (λ (f : Event A). rule_in (refusal_in q.state f)) (now-with programs q.steps e))))

  ret-same : (e : Event A) → (kept_as p.state (event_now programs p.steps e)).ret ≡ (kept_as q.state (event_now programs q.steps e)).ret
  ret-same e =
      ap (λ (f : Event A). return_due p.state.model (known p) f) (now-with programs p.steps e)
      ∙ (like-return p.state.model (known p) (known q) (operated_lines p.steps) (operated_lines q.steps) (each_once (numbered_lines (operated_lines p.steps) (lines_named programs e))) (each_once (numbered_lines (operated_lines q.steps) (lines_named programs e))) (like-of programs p q here there same) (names-of programs p q e here there same.operations) e
      ∙ (ap (λ (m : Parts A). return_due m (known q) (with_ops e (each_once (numbered_lines (operated_lines q.steps) (lines_named programs e))))) on
      ∙ sym (ap (λ (f : Event A). return_due q.state.model (known q) f) (now-with programs q.steps e))))

  like-after : (l : ℕ) (e : Event A) → AreLike (effect p.state.model (known p) (with_ops e (each_once (numbered_lines (operated_lines p.steps) (lines_named programs e))))) (effect q.state.model (known q) (with_ops e (each_once (numbered_lines (operated_lines q.steps) (lines_named programs e))))) (lines_after e l (operated_lines p.steps)) (lines_after e l (operated_lines q.steps))
  like-after l e =
      subst (λ (m : Parts A). AreLike (effect p.state.model (known p) (with_ops e (each_once (numbered_lines (operated_lines p.steps) (lines_named programs e))))) (effect m (known q) (with_ops e (each_once (numbered_lines (operated_lines q.steps) (lines_named programs e))))) (lines_after e l (operated_lines p.steps)) (lines_after e l (operated_lines q.steps))) on
      (like-effect p.state.model (known p) (known q) (operated_lines p.steps) (operated_lines q.steps) (each_once (numbered_lines (operated_lines p.steps) (lines_named programs e))) (each_once (numbered_lines (operated_lines q.steps) (lines_named programs e))) (like-of programs p q here there same) (names-of programs p q e here there same.operations) l e)

  -- the points after an event of the programs are in agreement
  like-gone : (turn : Turn) (l : ℕ) (e : Event A) → refusal_in p.state (event_now programs p.steps e) ≡ None → refusal_in q.state (event_now programs q.steps e) ≡ None → AreLike (known (gone_on p turn l (event_now programs p.steps e))) (known (gone_on q turn l (event_now programs q.steps e))) (operated_lines (gone_on p turn l (event_now programs p.steps e)).steps) (operated_lines (gone_on q turn l (event_now programs q.steps e)).steps)
  like-gone turn l e none none2 =
      let ls = operated_lines (gone_on p turn l (event_now programs p.steps e)).steps in
      let ks = operated_lines (gone_on q turn l (event_now programs q.steps e)).steps in
      subst (λ (s : Summary). AreLike s (known (gone_on q turn l (event_now programs q.steps e))) ls ks) (sym (known-gone programs p turn l e none))
      (subst (λ (s : Summary). AreLike (effect p.state.model (known p) (with_ops e (each_once (numbered_lines (operated_lines p.steps) (lines_named programs e))))) s ls ks) (sym (known-gone programs q turn l e none2))
      (subst (λ (ls : List ℕ). AreLike (effect p.state.model (known p) (with_ops e (each_once (numbered_lines (operated_lines p.steps) (lines_named programs e))))) (effect q.state.model (known q) (with_ops e (each_once (numbered_lines (operated_lines q.steps) (lines_named programs e))))) ls ks) (sym (lines-gone programs p turn l e none))
      (subst (λ (ks : List ℕ). AreLike (effect p.state.model (known p) (with_ops e (each_once (numbered_lines (operated_lines p.steps) (lines_named programs e))))) (effect q.state.model (known q) (with_ops e (each_once (numbered_lines (operated_lines q.steps) (lines_named programs e))))) (lines_after e l (operated_lines p.steps)) ks) (sym (lines-gone programs q turn l e none2))
      (like-after l e))))

  pub equivalent-gone : (turn : Turn) (l : ℕ) (e : Event A) → refusal_in p.state (event_now programs p.steps e) ≡ None → refusal_in q.state (event_now programs q.steps e) ≡ None → AreEquivalent programs (gone_on p turn l (event_now programs p.steps e)) (gone_on q turn l (event_now programs q.steps e))
  equivalent-gone turn l e none none2 =
      let like = like-gone turn l e none none2 in
      let step : Option Ret → Step = λ ret. record { seat = turn.seat; line = l; alternative = turn.alternative; ret = ret } in
      record {
        lines =
            lines-noted programs p.steps (step (kept_as p.state (event_now programs p.steps e)).ret)
            ∙ (ap (λ (ret : Option Ret). noted (step ret) (lines_done programs p.steps)) (ret-same e)
            ∙ (ap (noted (step (kept_as q.state (event_now programs q.steps e)).ret)) same.lines
            ∙ sym (lines-noted programs q.steps (step (kept_as q.state (event_now programs q.steps e)).ret))));
        rest = like.rest;
        edges = like.edges;
        operations = like.operations;
      }

-- a step does a line that was not done
pub numbered-step : {A : Type 0} (programs : Programs A) (p : Point A) (turn : Turn) (q : Point A) → IsNumbered p → stepped programs p turn ≡ Some q → IsNumbered q
numbered-step programs p turn q here h =
    let one = is_step programs p turn q h in
    let e = event_now programs p.steps one.event in
    let step : Step = record { seat = turn.seat; line = one.line; alternative = turn.alternative; ret = (kept_as p.state e).ret } in
    let like = like-gone programs p p here here refl (equivalent-refl programs p) turn one.line one.event one.admitted one.admitted in
    subst IsNumbered (sym one.gone) (record {
      lines = own-more p.steps step here.lines (next-new programs p.steps turn.seat one.line one.next);
      counted = like.here;
    })

-- a step from one of two equivalent points has its counterpart from the other
pub record HasStepLike {A : Type 0} (programs : Programs A) (p : Point A) (turn : Turn) (r : Point A) : Type 0 where
  pub to : Point A
  pub stepped : stepped programs p turn ≡ Some to
  pub equivalent : AreEquivalent programs to r

pub next-same : {A : Type 0} (programs : Programs A) (p q : Point A) (seat : ℕ) → AreEquivalent programs p q → next_line programs p.steps seat ≡ next_line programs q.steps seat
next-same programs p q seat same = ap (λ (done : List (Option Done)). next_from 0 programs done seat) same.lines

none-from : (a b : Option Refusal) → rule_in a ≡ rule_in b → b ≡ None → a ≡ None
none-from None b e h = refl
none-from (Some x) None e h = absurd cc
none-from (Some x) (Some y) e h = absurd cc

pub step-like : {A : Type 0} (programs : Programs A) (p q : Point A) (turn : Turn) (r : Point A) → IsNumbered p → IsNumbered q → p.state.model ≡ q.state.model → AreEquivalent programs p q → stepped programs q turn ≡ Some r → HasStepLike programs p turn r
step-like programs p q turn r here there on same h =
    let one = is_step programs q turn r h in
    let admitted : refusal_in p.state (event_now programs p.steps one.event) ≡ None = none-from _ _ (rule-same programs p q here there on same one.event) one.admitted in
    record {
      to = gone_on p turn one.line (event_now programs p.steps one.event);
      stepped = stepped_so programs p turn one.line one.event (next-same programs p q turn.seat same ∙ one.next) one.at admitted;
      equivalent = subst (AreEquivalent programs (gone_on p turn one.line (event_now programs p.steps one.event))) (sym one.gone) (equivalent-gone programs p q here there on same turn one.line one.event admitted one.admitted);
    }

end-step : {A : Type 0} (programs : Programs A) (p q : Point A) (turn : Turn) → IsNumbered p → IsNumbered q → p.state.model ≡ q.state.model → AreEquivalent programs p q → stepped programs q turn ≡ None → (o : Option (Point A)) → stepped programs p turn ≡ o → o ≡ None
end-step programs p q turn here there on same none None e = refl
end-step programs p q turn here there on same none (Some r) e =
    let like = step-like programs q p turn r there here (sym on) (equivalent-sym programs p q same) e in
    let h : stepped programs q turn ≡ Some like.to = like.stepped in
    absurd cc

-- both are ends, or neither
pub end-like : {A : Type 0} (programs : Programs A) (p q : Point A) → IsNumbered p → IsNumbered q → p.state.model ≡ q.state.model → AreEquivalent programs p q → IsEnd programs q → IsEnd programs p
end-like programs p q here there on same ended turn = end-step programs p q turn here there on same (ended turn) (stepped programs p turn) refl
