-- After an event, summaries that agree on what programs can see still agree.
use Rattle.std.proofs.Common.{◌≡◌, ◌==◌, ℕ, ◌+◌, Bool, true, false, List, [], ◌∷◌, ◌++◌, map, length, Option, Some, None, is_none, refl, sym, ap, subst, ◌∙◌}
use Rattle.std.specs.Prelude.{if◌then◌else◌}
use Rattle.std.specs.List.{list_any}
use Rattle.std.proofs.lemmas.List.{length-append, length-map}
use Rattle.acta_table.specs.declared.answer.Fate.{Fate}
use Rattle.acta_table.specs.declared.answer.Status.TheVariants.{Committed as has_committed, Aborted as has_aborted, Joined as has_joined}
use Rattle.acta_table.specs.declared.dep.Edge.{Edge}
use Rattle.acta_table.specs.declared.event.Event.{Event}
use Rattle.acta_table.specs.declared.event.Event.TheVariants.{Begin, Spawn, Split, Join, Delegate, Form, Operate, Commit, Abort, Permit}
use Rattle.acta_table.specs.declared.event.OpNo.{OpNo}
use Rattle.acta_table.specs.declared.event.TxnId.{TxnId}
use Rattle.acta_table.specs.declared.model.Parts.{Parts}
use Rattle.acta_table.specs.Edges.{formed}
use Rattle.acta_table.specs.Sets.{numbers_of}
use Rattle.acta_sets.specs.declared.held_op.HeldOp.{HeldOp}
use Rattle.acta_sets.specs.Operations.{is_held, transferred_op, ended_op, moved_from, operation_at}
use Rattle.acta_machine.specs.Summary.{Summary, stood, terminated, permit_given, entered, linked, given, inherited, operated, fated, counted}
use Rattle.acta_machine.specs.Changes.{begun, edges_due, settled, changed, effect}
use Rattle.acta_machine.specs.Families.{heir_of}
use Rattle.acta_machine.specs.Rules.{lowest_broken}
use Rattle.acta_machine.specs.Values.{value_of, return_due}
use Rattle.acta_explore.specs.declared.key.LineOp.{LineOp}
use Rattle.acta_explore.specs.Equivalence.{by_line, is_on, without_lists, AreSameByObject, AreSameEdges}
use Rattle.acta_explore.specs.Programs.{is_operation}
use Rattle.acta_explore.proofs.Filters.{map-same, push-same, by_line-map, by_line-push}
use Rattle.acta_explore.proofs.Named.{AreNamed, given_line, moved-lines, length-moved}
use Rattle.acta_explore.proofs.Rules.{AreEquivalent, with_lists, with_ops, rule_in, formed-same, refused-same, value-same, return-same, due-same}

-- two summaries agree on what programs can see, if these lines did their operations
pub record AreLike (s u : Summary) (ls ks : List ℕ) : Type 0 where
  pub rest : without_lists s ≡ without_lists u
  pub edges : AreSameEdges s.edges u.edges
  pub operations : AreSameByObject (by_line ls s.operations) (by_line ks u.operations)
  pub here : length ls ≡ length s.operations
  pub there : length ks ≡ length u.operations

-- the lines that did operations, after an event of the line at position l
abbrev pub lines_after : {A : Type 0} → Event A → ℕ → List ℕ → List ℕ
lines_after e l ls = if is_operation e then ls ++ l ∷ [] else ls

on-if : (b : Bool) (i j : HeldOp) (l ob : ℕ) → j.ob.0 ≡ i.ob.0 → is_on ob (record { line = l; held = if b then j else i }) ≡ is_on ob (record { line = l; held = i })
on-if true i j l ob e = ap (λ (n : ℕ). n == ob) e
on-if false i j l ob e = refl

-- a change of each operation that leaves its object
change-same : (f : HeldOp → HeldOp) → ((i : HeldOp) (l ob : ℕ) → is_on ob (record { line = l; held = f i }) ≡ is_on ob (record { line = l; held = i })) → (ls ks : List ℕ) (xs ys : List HeldOp) → AreSameByObject (by_line ls xs) (by_line ks ys) → AreSameByObject (by_line ls (map f xs)) (by_line ks (map f ys))
change-same f k ls ks xs ys same =
    subst (λ (os : List LineOp). AreSameByObject os (by_line ks (map f ys))) (sym (by_line-map f ls xs))
    (subst (λ (os : List LineOp). AreSameByObject (map (λ o. record { line = o.line; held = f o.held }) (by_line ls xs)) os) (sym (by_line-map f ks ys))
    (map-same (λ o. record { line = o.line; held = f o.held }) (λ o ob. k o.held o.line ob) (by_line ls xs) (by_line ks ys) same))

on-transferred : (t : ℕ) (u : TxnId) (i : HeldOp) (l ob : ℕ) → is_on ob (record { line = l; held = transferred_op t u i }) ≡ is_on ob (record { line = l; held = i })
on-transferred t u i l ob = on-if (is_held t i) i (record i { holder = u }) l ob refl

on-ended : (t : ℕ) (fate : Fate) (i : HeldOp) (l ob : ℕ) → is_on ob (record { line = l; held = ended_op t fate i }) ≡ is_on ob (record { line = l; held = i })
on-ended t fate i l ob = on-if (is_held t i) i (record i { fate = fate }) l ob refl

module _ {A : Type 0} (m : Parts A) (s : Summary) (ls ks : List ℕ) (xs ys : List HeldOp) (es fs : List Edge) (ops others : List OpNo) (a : AreEquivalent ls ks xs ys es fs ops others) (l : ℕ) where
  abbrev p : Summary
  p = with_lists s xs es

  abbrev q : Summary
  q = with_lists s ys fs

  -- of operations that are the same
  same-ops : (r : Summary) → AreLike (with_lists r xs es) (with_lists r ys fs) ls ks
  same-ops r = record { rest = refl; edges = a.edges; operations = a.operations; here = a.here; there = a.there }

  mapped-ops : (r : Summary) (f : HeldOp → HeldOp) → ((i : HeldOp) (l ob : ℕ) → is_on ob (record { line = l; held = f i }) ≡ is_on ob (record { line = l; held = i })) → AreLike (with_lists r (map f xs) es) (with_lists r (map f ys) fs) ls ks
  mapped-ops r f k = record {
    rest = refl;
    edges = a.edges;
    operations = change-same f k ls ks xs ys a.operations;
    here = a.here ∙ sym (length-map xs f);
    there = a.there ∙ sym (length-map ys f);
  }

  given-ops : (r : Summary) (u : TxnId) → AreLike (with_lists r (moved_from 1 ops u xs) es) (with_lists r (moved_from 1 others u ys) fs) ls ks
  given-ops r u = record {
    rest = refl;
    edges = a.edges;
    operations =
        subst (λ (os : List LineOp). AreSameByObject os (by_line ks (moved_from 1 others u ys))) (sym (moved-lines a.named ops u 1 ls xs a.named_here))
        (subst (λ (os : List LineOp). AreSameByObject (map (given_line a.named u) (by_line ls xs)) os) (sym (moved-lines a.named others u 1 ks ys a.named_there))
        (map-same (given_line a.named u) (λ o ob. on-if (a.named o.line) o.held (record o.held { holder = u }) o.line ob refl) (by_line ls xs) (by_line ks ys) a.operations));
    here = a.here ∙ sym (length-moved ops u 1 xs);
    there = a.there ∙ sym (length-moved others u 1 ys);
  }

  more-ops : (r : Summary) (i : HeldOp) → AreLike (with_lists r (xs ++ i ∷ []) es) (with_lists r (ys ++ i ∷ []) fs) (ls ++ l ∷ []) (ks ++ l ∷ [])
  more-ops r i = record {
    rest = refl;
    edges = a.edges;
    operations =
        subst (λ (os : List LineOp). AreSameByObject os (by_line (ks ++ l ∷ []) (ys ++ i ∷ []))) (sym (by_line-push ls xs l i a.here))
        (subst (λ (os : List LineOp). AreSameByObject (by_line ls xs ++ (record { line = l; held = i }) ∷ []) os) (sym (by_line-push ks ys l i a.there))
        (push-same (by_line ls xs) (by_line ks ys) (record { line = l; held = i }) a.operations));
    here = length-append ls (l ∷ []) ∙ (ap (λ (n : ℕ). n + 1) a.here ∙ sym (length-append xs (i ∷ [])));
    there = length-append ks (l ∷ []) ∙ (ap (λ (n : ℕ). n + 1) a.there ∙ sym (length-append ys (i ∷ [])));
  }

  settled-same : (t : TxnId) (heir : Option TxnId) → AreLike (settled (terminated p t has_committed) t heir) (settled (terminated q t has_committed) t heir) ls ks
  unfolding terminated inherited fated
  settled-same t None = mapped-ops (terminated s t has_committed) (ended_op t.0 _) (on-ended t.0 _)
  settled-same t (Some heir) = mapped-ops (terminated s t has_committed) (transferred_op t.0 heir) (on-transferred t.0 heir)

  changed-same : (e : Event A) → AreLike (changed m p (with_ops e ops)) (changed m q (with_ops e others)) (lines_after e l ls) (lines_after e l ks)
  unfolding stood terminated permit_given entered given inherited operated fated
  changed-same (Begin t class) = same-ops (begun s t class None)
  changed-same (Spawn t c class) = same-ops (begun s c class (Some t))
  changed-same (Split t u class named) = given-ops (begun s u class None) u
  changed-same (Join t u) = mapped-ops (terminated s t has_joined) (transferred_op t.0 u) (on-transferred t.0 u)
  changed-same (Delegate t u named) = given-ops s u
  changed-same (Form kind j i) = same-ops s
  changed-same (Operate t ob op) = more-ops s _
  changed-same (Commit t) = settled-same t (heir_of m s t.0)
  changed-same (Abort t) = mapped-ops (terminated s t has_aborted) (ended_op t.0 _) (on-ended t.0 _)
  changed-same (Permit t u ob) = same-ops (permit_given s t u ob)

counted-like : (s u : Summary) (ls ks : List ℕ) → AreLike s u ls ks → AreLike (counted s) (counted u) ls ks
unfolding counted
counted-like s u ls ks like = record {
  rest = ap (λ (b : Summary). record b { kept = b.kept + 1 }) like.rest;
  edges = like.edges;
  operations = like.operations;
  here = like.here;
  there = like.there;
}

linked-with : (s : Summary) (xs : List HeldOp) (es due : List Edge) → linked (with_lists s xs es) due ≡ with_lists s xs (formed es due)
unfolding linked
linked-with s xs es due = refl

effect-with : {A : Type 0} (m : Parts A) (s : Summary) (ls ks : List ℕ) (xs ys : List HeldOp) (es fs : List Edge) (ops others : List OpNo) → AreEquivalent ls ks xs ys es fs ops others → (l : ℕ) (e : Event A) → AreLike (effect m (with_lists s xs es) (with_ops e ops)) (effect m (with_lists s ys fs) (with_ops e others)) (lines_after e l ls) (lines_after e l ks)
effect-with m s ls ks xs ys es fs ops others a l e =
    let due = edges_due m (with_lists s xs es) (with_ops e ops) in
    let b : AreEquivalent ls ks xs ys (formed es due) (formed fs due) ops others = record {
      here = a.here;
      there = a.there;
      operations = a.operations;
      edges = formed-same es fs due a.edges;
      named = a.named;
      named_here = a.named_here;
      named_there = a.named_there;
      unknown = a.unknown;
    } in
    let like = changed-same m s ls ks xs ys (formed es due) (formed fs due) ops others b l e in
    counted-like _ _ _ _
    (subst (λ (r : Summary). AreLike (changed m r (with_ops e ops)) (changed m (linked (with_lists s ys fs) (edges_due m (with_lists s ys fs) (with_ops e others))) (with_ops e others)) (lines_after e l ls) (lines_after e l ks)) (sym (linked-with s xs es due))
    (subst (λ (d : List Edge). AreLike (changed m (with_lists s xs (formed es due)) (with_ops e ops)) (changed m (linked (with_lists s ys fs) d) (with_ops e others)) (lines_after e l ls) (lines_after e l ks)) (due-same m s ls ks xs ys es fs ops others a e)
    (subst (λ (r : Summary). AreLike (changed m (with_lists s xs (formed es due)) (with_ops e ops)) (changed m r (with_ops e others)) (lines_after e l ls) (lines_after e l ks)) (sym (linked-with s ys fs due)) like)))

-- operations that are named in both by their lines
pub record AreNamedEquivalently (s u : Summary) (ls ks : List ℕ) (ops others : List OpNo) : Type 0 where
  pub named : ℕ → Bool
  pub here : AreNamed named ops 1 ls
  pub there : AreNamed named others 1 ks
  pub unknown : list_any (λ n. is_none (operation_at s.operations n)) (numbers_of ops) ≡ list_any (λ n. is_none (operation_at u.operations n)) (numbers_of others)

module _ {A : Type 0} (m : Parts A) (s u : Summary) (ls ks : List ℕ) (ops others : List OpNo) (like : AreLike s u ls ks) (names : AreNamedEquivalently s u ls ks ops others) where
  equivalent : AreEquivalent ls ks s.operations u.operations s.edges u.edges ops others
  equivalent = record {
    here = like.here;
    there = like.there;
    operations = like.operations;
    edges = like.edges;
    named = names.named;
    named_here = names.here;
    named_there = names.there;
    unknown = names.unknown;
  }

  -- the same rule is the lowest that an event breaks
  pub like-refused : (e : Event A) → rule_in (lowest_broken m s (with_ops e ops)) ≡ rule_in (lowest_broken m u (with_ops e others))
  like-refused e =
      subst (λ (b : Summary). rule_in (lowest_broken m s (with_ops e ops)) ≡ rule_in (lowest_broken m (with_lists b u.operations u.edges) (with_ops e others))) like.rest
      (refused-same m (without_lists s) ls ks s.operations u.operations s.edges u.edges ops others equivalent e)

  -- it returns the same
  pub like-return : (e : Event A) → return_due m s (with_ops e ops) ≡ return_due m u (with_ops e others)
  like-return e =
      subst (λ (b : Summary). return_due m s (with_ops e ops) ≡ return_due m (with_lists b u.operations u.edges) (with_ops e others)) like.rest
      (return-same m (without_lists s) ls ks s.operations u.operations s.edges u.edges ops others equivalent e)

  -- the values are the same
  pub like-value : (ob : ℕ) → value_of m s ob ≡ value_of m u ob
  like-value ob =
      subst (λ (b : Summary). value_of m s ob ≡ value_of m (with_lists b u.operations u.edges) ob) like.rest
      (value-same m (without_lists s) ls ks s.operations u.operations s.edges u.edges ops others equivalent ob)

  -- and the event leaves them in agreement
  pub like-effect : (l : ℕ) (e : Event A) → AreLike (effect m s (with_ops e ops)) (effect m u (with_ops e others)) (lines_after e l ls) (lines_after e l ks)
  like-effect l e =
      subst (λ (b : Summary). AreLike (effect m s (with_ops e ops)) (effect m (with_lists b u.operations u.edges) (with_ops e others)) (lines_after e l ls) (lines_after e l ks)) like.rest
      (effect-with m (without_lists s) ls ks s.operations u.operations s.edges u.edges ops others equivalent l e)
