-- Debts by edges on one transaction: by which kinds of edge they can be, and when they are all that one owes.
use Rattle.std.proofs.Common.{◌≡◌, ℕ, Bool, true, false, ◌&&◌, ◌||◌, ◌==◌, List, [], ◌∷◌, Option, Some, None, refl, sym, ap, ◌∙◌}
use Rattle.std.specs.List.{list_any}
use Rattle.std.proofs.lemmas.Bool.{eqb-true, eq-eqb, ne_eqb, true≢false, or_parts}
use Rattle.acta_table.specs.declared.dep.Dep.{Dep}
use Rattle.acta_table.specs.declared.dep.Dep.TheVariants.{Cd, Scd, Ad, Wd, Td, Ed, Cmd, Bd, Sd, Bcd, Bad, Wcd}
use Rattle.acta_table.specs.declared.dep.Edge.{Edge}
use Rattle.acta_table.specs.declared.dep.Missing.{Missing}
use Rattle.acta_table.specs.declared.dep.Missing.TheVariants.{Commit, Abort}
use Rattle.acta_table.specs.declared.answer.Status.{Status}
use Rattle.acta_table.specs.declared.event.TxnId.{TxnId}
use Rattle.acta_table.specs.Dependencies.{is_commit, is_abort}
use Rattle.acta_table.specs.Edges.{is_among, same_edge, same_kind}
use Rattle.acta_deps.specs.Statuses.{has_aborted, has_committed, is_in_progress, may_end, with_status}
use Rattle.acta_deps.specs.Debts.{debt_by, debt_of, missing_if, owes_commit, owes_abort, owes_both}
use Rattle.acta_deps.specs.inside.BlockKinds.{owes, owes_by_kind, owes_upon}
use Rattle.acta_deps.proofs.Clashes.{same-debt}

-- Booleans

both_false : (a b : Bool) → (a && (b && false)) ≡ false
both_false true true = refl
both_false true false = refl
both_false false b = refl

or_false : (a : Bool) → (a || false) ≡ a
or_false true = refl
or_false false = refl

more : (a x w : Bool) → ((a || x) && w) ≡ ((a && w) || (x && w))
more true true true = refl
more true true false = refl
more true false true = refl
more true false false = refl
more false x w = refl

mixed : (p q r u : Bool) → ((p || q) || (r || u)) ≡ ((p || r) || (q || u))
mixed true q r u = refl
mixed false true true u = refl
mixed false true false u = refl
mixed false false r u = refl

-- one edge more, for two kinds and for three
two : (a x w b y v : Bool) → (((a && w) || (b && v)) || ((x && w) || (y && v))) ≡ (((a || x) && w) || ((b || y) && v))
two a x w b y v = mixed (a && w) (b && v) (x && w) (y && v) ∙ (λ j. sym (more a x w) j || sym (more b y v) j)

three : (a x w b y v c z u : Bool) → (((a && w) || ((b && v) || (c && u))) || ((x && w) || ((y && v) || (z && u)))) ≡ (((a || x) && w) || (((b || y) && v) || ((c || z) && u)))
three a x w b y v c z u =
    mixed (a && w) ((b && v) || (c && u)) (x && w) ((y && v) || (z && u))
    ∙ (λ j. sym (more a x w) j || two b y v c z u j)

swap : (m n : ℕ) → (m == n) ≡ (n == m)
swap m n = by (m == n) refl
  where
    by : (b : Bool) → (m == n) ≡ b → (m == n) ≡ (n == m)
    by true is = is ∙ sym (eq-eqb n m (sym (eqb-true m n is)))
    by false is = is ∙ sym (ne_eqb n m (λ e. true≢false (sym (eq-eqb m n (sym e)) ∙ is)))

-- an edge of the kind, compared with the one of t on i
module _ (is : Option Missing → Bool) (kind : Dep) (s : ℕ → Status) (i t ei ej : ℕ) where
  here : (a b : Bool) → (ei == i) ≡ a → (ej == t) ≡ b
      → ((ei == i) && ((ej == t) && is (debt_by kind (s ei) (s ej)))) ≡ (((ej == t) && (ei == i)) && is (debt_by kind (s i) (s t)))
  here true true p q =
      (λ x. p x && (q x && is (debt_by kind (s (eqb-true ei i p x)) (s (eqb-true ej t q x)))))
      ∙ sym (λ x. (q x && p x) && is (debt_by kind (s i) (s t)))
  here true false p q =
      (λ x. p x && (q x && is (debt_by kind (s ei) (s ej)))) ∙ sym (λ x. (q x && p x) && is (debt_by kind (s i) (s t)))
  here false true p q =
      (λ x. p x && (q x && is (debt_by kind (s ei) (s ej)))) ∙ sym (λ x. (q x && p x) && is (debt_by kind (s i) (s t)))
  here false false p q =
      (λ x. p x && (q x && is (debt_by kind (s ei) (s ej)))) ∙ sym (λ x. (q x && p x) && is (debt_by kind (s i) (s t)))

  pub same_one : ((ei == i) && ((ej == t) && is (debt_by kind (s ei) (s ej)))) ≡ (((t == ej) && (i == ei)) && ((t == t) && is (debt_by kind (s i) (s t))))
  same_one =
      here (ei == i) (ej == t) refl refl
      ∙ (λ x. (swap ej t x && swap ei i x) && (sym (eq-eqb t t refl) x && is (debt_by kind (s i) (s t))))

-- by no other kind
no_commit : (b : Bool) → is_commit (missing_if b Abort) ≡ false
no_commit true = refl
no_commit false = refl

no_abort : (b : Bool) → is_abort (missing_if b Commit) ≡ false
no_abort true = refl
no_abort false = refl

-- an edge by which the event is owed is one of the kinds by which it can be
module _ (s : ℕ → Status) (i t : ℕ) (ej ei : ℕ) where
  abbrev parties : Bool
  parties = (t == ej) && (i == ei)

  abbrev same_as : Dep → Dep → Bool
  same_as k kind = same_kind k kind && (t == ej) && (i == ei)

  abbrev commit_by : Dep → Bool
  commit_by kind = (t == t) && is_commit (debt_by kind (s i) (s t))

  abbrev abort_by : Dep → Bool
  abort_by kind = (t == t) && is_abort (debt_by kind (s i) (s t))

  commit_edge : (kind : Dep) → ((ei == i) && ((ej == t) && is_commit (debt_by kind (s ei) (s ej))))
      ≡ ((same_as Scd kind && commit_by Scd) || (same_as Cmd kind && commit_by Cmd))
  commit_edge Scd = same_one is_commit Scd s i t ei ej ∙ sym (or_false (parties && commit_by Scd))
  commit_edge Cmd = same_one is_commit Cmd s i t ei ej
  commit_edge Ad = (λ x. (ei == i) && ((ej == t) && no_commit (has_aborted (s ei) && may_end (s ej)) x)) ∙ both_false (ei == i) (ej == t)
  commit_edge Wd = (λ x. (ei == i) && ((ej == t) && no_commit (has_aborted (s ei) && may_end (s ej)) x)) ∙ both_false (ei == i) (ej == t)
  commit_edge Ed = (λ x. (ei == i) && ((ej == t) && no_commit (has_committed (s ei) && is_in_progress (s ej)) x)) ∙ both_false (ei == i) (ej == t)
  commit_edge Cd = both_false (ei == i) (ej == t)
  commit_edge Td = both_false (ei == i) (ej == t)
  commit_edge Bd = both_false (ei == i) (ej == t)
  commit_edge Sd = both_false (ei == i) (ej == t)
  commit_edge Bcd = both_false (ei == i) (ej == t)
  commit_edge Bad = both_false (ei == i) (ej == t)
  commit_edge Wcd = both_false (ei == i) (ej == t)

  abort_edge : (kind : Dep) → ((ei == i) && ((ej == t) && is_abort (debt_by kind (s ei) (s ej))))
      ≡ ((same_as Ad kind && abort_by Ad) || ((same_as Wd kind && abort_by Wd) || (same_as Ed kind && abort_by Ed)))
  abort_edge Ad = same_one is_abort Ad s i t ei ej ∙ sym (or_false (parties && abort_by Ad))
  abort_edge Wd = same_one is_abort Wd s i t ei ej ∙ sym (or_false (parties && abort_by Wd))
  abort_edge Ed = same_one is_abort Ed s i t ei ej
  abort_edge Scd = (λ x. (ei == i) && ((ej == t) && no_abort (has_committed (s ei) && may_end (s ej)) x)) ∙ both_false (ei == i) (ej == t)
  abort_edge Cmd = (λ x. (ei == i) && ((ej == t) && no_abort (has_aborted (s ei) && may_end (s ej)) x)) ∙ both_false (ei == i) (ej == t)
  abort_edge Cd = both_false (ei == i) (ej == t)
  abort_edge Td = both_false (ei == i) (ej == t)
  abort_edge Bd = both_false (ei == i) (ej == t)
  abort_edge Sd = both_false (ei == i) (ej == t)
  abort_edge Bcd = both_false (ei == i) (ej == t)
  abort_edge Bad = both_false (ei == i) (ej == t)
  abort_edge Wcd = both_false (ei == i) (ej == t)

-- so it is enough to look for an edge of each of these kinds
module _ (s : ℕ → Status) (i t : TxnId) where
  abbrev edge : Dep → Edge
  edge kind = record { kind = kind; j = t; i = i }

  pub commit_kinds : (es : List Edge) → list_any (owes_upon Commit s i.0 t.0) es ≡ (owes_by_kind Commit s es i t Scd || owes_by_kind Commit s es i t Cmd)
  commit_kinds [] = refl
  commit_kinds (e ∷ es) =
      (λ x. commit_edge s i.0 t.0 e.j.0 e.i.0 e.kind x || commit_kinds es x)
      ∙ two (same_edge (edge Scd) e) (is_among es (edge Scd)) (owes Commit s t.0 (edge Scd)) (same_edge (edge Cmd) e) (is_among es (edge Cmd)) (owes Commit s t.0 (edge Cmd))

  pub abort_kinds : (es : List Edge) → list_any (owes_upon Abort s i.0 t.0) es ≡ (owes_by_kind Abort s es i t Ad || (owes_by_kind Abort s es i t Wd || owes_by_kind Abort s es i t Ed))
  abort_kinds [] = refl
  abort_kinds (e ∷ es) =
      (λ x. abort_edge s i.0 t.0 e.j.0 e.i.0 e.kind x || abort_kinds es x)
      ∙ three (same_edge (edge Ad) e) (is_among es (edge Ad)) (owes Abort s t.0 (edge Ad)) (same_edge (edge Wd) e) (is_among es (edge Wd)) (owes Abort s t.0 (edge Wd)) (same_edge (edge Ed) e) (is_among es (edge Ed)) (owes Abort s t.0 (edge Ed))

-- a transaction that owes nothing of the kind before another changes owes it only by edges on that one afterwards
module _ (is : Option Missing → Bool) (s : ℕ → Status) (t : ℕ) (new : Status) (u : ℕ) (other : (u == t) ≡ false) where
  abbrev after : ℕ → Status
  after = with_status s t new

  calm_edge : (e : Edge) → ((e.j.0 == u) && is (debt_of s e)) ≡ false → (a : Bool) → (e.i.0 == t) ≡ a → (b : Bool) → (e.j.0 == u) ≡ b
      → ((e.i.0 == t) && ((e.j.0 == u) && is (debt_of after e))) ≡ ((e.j.0 == u) && is (debt_of after e))
  calm_edge e none true on b at = ap (λ x. x && ((e.j.0 == u) && is (debt_of after e))) on
  calm_edge e none false on false at = (λ x. on x && ((e.j.0 == u) && is (debt_of after e))) ∙ sym (λ x. at x && is (debt_of after e))
  calm_edge e none false on true at =
      let apart : (e.j.0 == t) ≡ false = ap (λ v. v == t) (eqb-true e.j.0 u at) ∙ other in
      (λ x. on x && ((e.j.0 == u) && is (debt_of after e))) ∙ sym none ∙ sym (λ x. (e.j.0 == u) && is (same-debt s t new e on apart x))

  pub calm : (es : List Edge) → list_any (λ (e : Edge). (e.j.0 == u) && is (debt_of s e)) es ≡ false
      → list_any (λ (e : Edge). (e.i.0 == t) && ((e.j.0 == u) && is (debt_of after e))) es ≡ list_any (λ (e : Edge). (e.j.0 == u) && is (debt_of after e)) es
  calm [] none = refl
  calm (e ∷ es) none =
      let parts = or_parts ((e.j.0 == u) && is (debt_of s e)) (list_any (λ (x : Edge). (x.j.0 == u) && is (debt_of s x)) es) none in
      λ x. calm_edge e parts.0 (e.i.0 == t) refl (e.j.0 == u) refl x || calm es parts.1 x

-- what a transaction owes the one of, it doesn't owe the other of
only_one : (a b : Bool) → (a && b) ≡ false → a ≡ true → b ≡ false
only_one true b none is = none
only_one false b none is = absurd (true≢false (sym is))

only_other : (a b : Bool) → (a && b) ≡ false → b ≡ true → a ≡ false
only_other true b none is = absurd (true≢false (sym is ∙ none))
only_other false b none is = refl

pub upon_alone : (missing owed : Missing) → (owed ≡ missing → ⊥) → (s : ℕ → Status) (t : ℕ) (new : Status) (u : ℕ) → (u == t) ≡ false → (es : List Edge)
    → owes_both s es u ≡ false → list_any (owes owed s u) es ≡ true
    → list_any (owes_upon missing (with_status s t new) t u) es ≡ list_any (owes missing (with_status s t new) u) es
upon_alone Commit Commit differ s t new u other es clear owed = absurd (differ refl)
upon_alone Abort Abort differ s t new u other es clear owed = absurd (differ refl)
upon_alone Abort Commit differ s t new u other es clear owed =
    calm is_abort s t new u other es (only_one (list_any (owes_commit s u) es) (list_any (owes_abort s u) es) clear owed)
upon_alone Commit Abort differ s t new u other es clear owed =
    calm is_commit s t new u other es (only_other (list_any (owes_commit s u) es) (list_any (owes_abort s u) es) clear owed)
