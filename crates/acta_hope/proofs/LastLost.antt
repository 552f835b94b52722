-- The last edges that keep transactions from ever beginning, as they are noted edge by edge.
use Rattle.std.proofs.Common.{◌≡◌, ◌<◌, ◌≤◌, ℕ, zero, suc, ◌+◌, Bool, true, false, ◌==◌, List, length, Some, refl, sym, ap, ◌∙◌, subst, inl, inr, eqb-true, eq-eqb, arith}
use Rattle.std.specs.Prelude.{◌≢◌, get_or, set, unwrap_or}
use Rattle.std.proofs.lemmas.Bool.{true≢false, cases_lt}
use Rattle.std.proofs.lemmas.List.{get_or-set_other, get_or-set_same, get_or_past, length-replicate, length-set}
use Rattle.std.proofs.lemmas.Option.{slice_get_within}
use Rattle.acta_table.specs.declared.answer.Status.{Status}
use Rattle.acta_table.specs.declared.dep.Edge.{Edge}
use Rattle.acta_table.specs.Numbered.{item_at}
use Rattle.acta_hope.specs.Starts.{is_lost_by, AreLast, AreNamed}
use Rattle.acta_hope.proofs.NeverBegun.{zeros, zero-at}

-- a property of the list of this many transactions, after the edges up to this number are noted
pub record AreNoted (most : ℕ) (size : ℕ) (status : ℕ → Status) (edges : List Edge) (lost : List ℕ) : Type 0 where
  pub long : length lost ≡ size
  pub named : AreNamed status edges lost
  pub last : (number : ℕ) (e : Edge) → number ≤ most → e.j.0 < length lost → item_at edges number ≡ Some e → is_lost_by status e ≡ true → number ≤ get_or lost e.j.0 0

-- none is noted at first
pub none-noted : (size : ℕ) (status : ℕ → Status) (edges : List Edge) (lost : List ℕ) → lost ≡ zeros size → AreNoted 0 size status edges lost
none-noted size status edges lost is = record {
  long = ap length is ∙ length-replicate size zero;
  named = λ t some. absurd (some (ap (λ xs. get_or xs t 0) is ∙ zero-at size t));
  last = λ number e low within at bad. omega (arith, low);
}

same-item : (edges : List Edge) (n m : ℕ) (e f : Edge) → n ≡ m → item_at edges n ≡ Some e → item_at edges m ≡ Some f → e ≡ f
same-item edges n m e f same one other = ap (λ o. unwrap_or o f) (sym one ∙ ap (item_at edges) same ∙ other)

module _ (size : ℕ) (status : ℕ → Status) (edges : List Edge) (most : ℕ) (f : Edge) (lost : List ℕ) (at : item_at edges (most + 1) ≡ Some f) (old : AreNoted most size status edges lost) where
  -- another edge up to this number was noted before
  earlier : (number : ℕ) (e : Edge) → number ≤ most + 1 → item_at edges number ≡ Some e → ((e ≡ f) → ⊥) → number ≤ most
  earlier number e low got other =
      elim (cases_lt number (most + 1)) [
        | inl under ↦ omega (arith, under)
        | inr over ↦ absurd (other (same-item edges number (most + 1) e f (omega (arith, low, over)) got at))
      ]

  pub passed-noted : is_lost_by status f ≡ false → AreNoted (most + 1) size status edges lost
  passed-noted so = record {
    long = old.long;
    named = old.named;
    last = λ number e low within got bad. old.last number e (earlier number e low got (λ same. true≢false (sym bad ∙ ap (is_lost_by status) same ∙ so))) within got bad;
  }

  abbrev new : List ℕ
  new = set lost f.j.0 (most + 1)

  new-long : length new ≡ length lost
  new-long = length-set lost f.j.0 (most + 1)

  new-at : (u : ℕ) → u ≡ f.j.0 → f.j.0 < length lost → get_or new u 0 ≡ most + 1
  new-at u same within = ap (λ v. get_or new v 0) same ∙ get_or-set_same lost f.j.0 (most + 1) 0 within

  other-at : (u : ℕ) → (u == f.j.0) ≡ false → get_or new u 0 ≡ get_or lost u 0
  other-at u is = get_or-set_other lost f.j.0 u (most + 1) 0 (λ same. true≢false (sym (eq-eqb u f.j.0 same) ∙ is))

  abbrev Named : ℕ → Type 0
  Named u = (e : Edge) × (item_at edges (get_or new u 0) ≡ Some e) × (e.j.0 ≡ u) × (is_lost_by status e ≡ true)

  named-at : is_lost_by status f ≡ true → (u : ℕ) → get_or new u 0 ≢ 0 → (b : Bool) → (u == f.j.0) ≡ b → Named u
  named-at so u some true is =
      let same = eqb-true u f.j.0 is in
      elim (cases_lt f.j.0 (length lost)) [
        | inl within ↦ (f, ap (item_at edges) (new-at u same within) ∙ at, sym same, so)
        | inr past ↦ absurd (some (ap (λ v. get_or new v 0) same ∙ get_or_past new f.j.0 0 (subst (λ k. k ≤ f.j.0) (sym new-long) past)))
      ]
  named-at so u some false is =
      let same = other-at u is in
      let found = old.named u (λ none. some (same ∙ none)) in
      (found.0, ap (item_at edges) same ∙ found.1, found.2, found.3)

  last-at : (number : ℕ) (e : Edge) → number ≤ most + 1 → e.j.0 < length new → item_at edges number ≡ Some e → is_lost_by status e ≡ true → (b : Bool) → (e.j.0 == f.j.0) ≡ b → number ≤ get_or new e.j.0 0
  last-at number e low within got bad true is =
      let same = eqb-true e.j.0 f.j.0 is in
      subst (λ k. number ≤ k) (sym (new-at e.j.0 same (subst (λ k. k < length lost) same (subst (λ k. e.j.0 < k) new-long within)))) low
  last-at number e low within got bad false is =
      let before = earlier number e low got (λ same. true≢false (sym (eq-eqb e.j.0 f.j.0 (ap (λ g. g.j.0) same)) ∙ is)) in
      subst (λ k. number ≤ k) (sym (other-at e.j.0 is)) (old.last number e before (subst (λ k. e.j.0 < k) new-long within) got bad)

  pub put-noted : is_lost_by status f ≡ true → AreNoted (most + 1) size status edges new
  put-noted so = record {
    long = new-long ∙ old.long;
    named = λ u some. named-at so u some (u == f.j.0) refl;
    last = λ number e low within got bad. last-at number e low within got bad (e.j.0 == f.j.0) refl;
  }

-- one more edge is noted
pub one-noted : (size : ℕ) (status : ℕ → Status) (edges : List Edge) (most : ℕ) (f : Edge) (lost next : List ℕ) → item_at edges (most + 1) ≡ Some f
    → (is_lost_by status f ≡ true → next ≡ set lost f.j.0 (most + 1)) → (is_lost_by status f ≡ false → next ≡ lost)
    → AreNoted most size status edges lost → AreNoted (most + 1) size status edges next
one-noted size status edges most f lost next at noted same old = of (is_lost_by status f) refl
  where
    of : (b : Bool) → is_lost_by status f ≡ b → AreNoted (most + 1) size status edges next
    of true is = subst (AreNoted (most + 1) size status edges) (sym (noted is)) (put-noted size status edges most f lost at old is)
    of false is = subst (AreNoted (most + 1) size status edges) (sym (same is)) (passed-noted size status edges most f lost at old is)

number-within : (edges : List Edge) (number : ℕ) (e : Edge) → item_at edges number ≡ Some e → number ≤ length edges
number-within edges zero e at = omega arith
number-within edges (suc k) e at = let within = slice_get_within edges k e at in omega (arith, within)

-- each is the last, once all edges are noted
pub all-last : (most size : ℕ) (status : ℕ → Status) (edges : List Edge) (lost : List ℕ) → length edges ≤ most → AreNoted most size status edges lost → AreLast status edges lost
all-last most size status edges lost all noted number e within at bad =
    let low = number-within edges number e at in
    noted.last number e (omega (arith, all, low)) within at bad
