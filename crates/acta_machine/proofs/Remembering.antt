-- Parents that are remembered stay right.
use Rattle.std.proofs.Common.{◌≡◌, ◌≤◌, ◌==◌, ◌||◌, ◌+◌, ℕ, Bool, true, false, List, [], Option, Some, None, if◌then◌else◌, inl, inr, refl, sym, ap, ◌∙◌, eq-eqb, arith}
use Rattle.std.specs.List.{list_any}
use Rattle.std.proofs.lemmas.Bool.{ne_eqb}
use Rattle.acta_table.specs.declared.dep.Edge.{Edge}
use Rattle.acta_table.specs.declared.event.Event.{Event}
use Rattle.acta_table.specs.declared.event.Event.TheVariants.{Begin, Spawn, Split, Join, Delegate, Form, Operate, Commit, Abort, Permit}
use Rattle.acta_table.specs.declared.event.TxnId.{TxnId}
use Rattle.acta_table.specs.declared.model.Parts.{Parts}
use Rattle.acta_table.specs.declared.answer.Status.TheVariants.{Committed as has_committed}
use Rattle.acta_table.specs.Classes.{exempts}
use Rattle.acta_sets.specs.Lineages.{Lineage, parent_in, AreExempt, IsEntered}
use Rattle.acta_sets.proofs.Lineages.{exempt-all}
use Rattle.acta_machine.specs.Changes.{changed, settled}
use Rattle.acta_machine.specs.Families.{ancestors_of, has_class, heir_of}
use Rattle.acta_machine.specs.Summary.{Summary, with_entry, stood, terminated, permit_given, entered, linked, operated, given, inherited, fated, counted}
use Rattle.acta_machine.specs.inside.Exempt.{is_exempt}
use Rattle.acta_machine.specs.inside.Remembered.{IsRemembered, IsNoted}

-- a transaction that begins
entered_right : (l new : Lineage) (f : ℕ → Option TxnId) (t : ℕ) (parent : Option TxnId) → IsEntered l new t parent → ((u : ℕ) (p : TxnId) → parent_in l u ≡ Some p → f u ≡ Some p) → (u : ℕ) (p : TxnId) → parent_in new u ≡ Some p → with_entry f t parent u ≡ Some p
entered_right l new f t parent is right u p e = elim (is u p e) [
  | inl before ↦ ap (λ b. if b then parent else f u) (ne_eqb u t before.0) ∙ right u p before.1
  | inr here ↦ ap (λ b. if b then parent else f u) (eq-eqb u t here.0) ∙ here.1
]

settled_parent : (s : Summary) (t : TxnId) (heir : Option TxnId) → (settled s t heir).parent ≡ s.parent
unfolding fated inherited
settled_parent s t None = refl
settled_parent s t (Some u) = refl

settled_kept : (s : Summary) (t : TxnId) (heir : Option TxnId) → (settled s t heir).kept ≡ s.kept
unfolding fated inherited
settled_kept s t None = refl
settled_kept s t (Some u) = refl

same_parents : (l new : Lineage) (s after : Summary) → new ≡ l → after.parent ≡ s.parent → after.kept ≡ s.kept → IsRemembered l s → IsRemembered new (counted after)
unfolding counted
same_parents l new s after same parents kept is = record {
  right = λ t p e. ap (λ (f : ℕ → Option TxnId). f t) parents ∙ is.right t p (ap (λ (k : Lineage). parent_in k t) (sym same) ∙ e);
  few = let most = ap (λ (k : Lineage). k.most) same in let few = is.few in omega (arith, most, kept, few);
}

one_begins : (l new : Lineage) (s after : Summary) (t : ℕ) (parent : Option TxnId) → IsEntered l new t parent → new.most ≤ l.most + 1 → after.parent ≡ with_entry s.parent t parent → after.kept ≡ s.kept → IsRemembered l s → IsRemembered new (counted after)
unfolding counted
one_begins l new s after t parent entered most parents kept is = record {
  right = λ u p e. ap (λ (f : ℕ → Option TxnId). f u) parents ∙ entered_right l new s.parent t parent entered is.right u p e;
  few = let few = is.few in omega (arith, most, kept, few);
}

pub remembered-after : {A : Type 0} (m : Parts A) (s : Summary) (due : List Edge) (event : Event A) (l new : Lineage) → IsNoted l new event → IsRemembered l s → IsRemembered new (counted (changed m (linked s due) event))
unfolding stood terminated permit_given entered linked operated given inherited fated
remembered-after m s due (Begin t class) l new noted is = one_begins l new s (changed m (linked s due) (Begin t class)) t.0 None noted.0 noted.1 refl refl is
remembered-after m s due (Spawn t c class) l new noted is = one_begins l new s (changed m (linked s due) (Spawn t c class)) c.0 (Some t) noted.0 noted.1 refl refl is
remembered-after m s due (Split t u class ops) l new noted is = one_begins l new s (changed m (linked s due) (Split t u class ops)) u.0 None noted.0 noted.1 refl refl is
remembered-after m s due (Join t u) l new noted is = same_parents l new s (changed m (linked s due) (Join t u)) noted refl refl is
remembered-after m s due (Delegate t u ops) l new noted is = same_parents l new s (changed m (linked s due) (Delegate t u ops)) noted refl refl is
remembered-after m s due (Form kind j i) l new noted is = same_parents l new s (changed m (linked s due) (Form kind j i)) noted refl refl is
remembered-after m s due (Operate t ob op) l new noted is = same_parents l new s (changed m (linked s due) (Operate t ob op)) noted refl refl is
remembered-after m s due (Commit t) l new noted is =
    let ended = terminated (linked s due) t has_committed in
    same_parents l new s (changed m (linked s due) (Commit t)) noted (settled_parent ended t (heir_of m (linked s due) t.0)) (settled_kept ended t (heir_of m (linked s due) t.0)) is
remembered-after m s due (Abort t) l new noted is = same_parents l new s (changed m (linked s due) (Abort t)) noted refl refl is
remembered-after m s due (Permit t u ob) l new noted is = same_parents l new s (changed m (linked s due) (Permit t u ob)) noted refl refl is

-- at first, none is remembered
pub none_remembered : (l : Lineage) (s : Summary) → l ≡ record { entries = []; most = 0 } → IsRemembered l s
none_remembered l s none = record {
  right = λ t p e. let no : None ≡ Some p = sym (ap (λ (k : Lineage). parent_in k t) none) ∙ e in cc;
  few = let most = ap (λ (k : Lineage). k.most) none in omega (arith, most);
}

-- the ancestors that are remembered are exempt, for a class that exempts ancestors
exempt_by : {A : Type 0} (m : Parts A) (s : Summary) (t ob u : ℕ) (b : Bool) → b ≡ true → list_any (λ a. a.0 == u) (ancestors_of s t) ≡ true → (list_any (λ a. a.0 == u) (if b then ancestors_of s t else []) || s.permits u t ob) ≡ true
exempt_by m s t ob u true is e = ap (λ c. c || s.permits u t ob) e
exempt_by m s t ob u false is e = cc

pub exempt-remembered : {A : Type 0} (m : Parts A) (s : Summary) (t ob : ℕ) (l : Lineage) → has_class (λ k. exempts k.scope) m s t ≡ true → IsRemembered l s → AreExempt l t (is_exempt m s t ob)
exempt-remembered m s t ob l has is = exempt-all l t s.kept s.parent (is_exempt m s t ob) is.few is.right (λ u e. exempt_by m s t ob u (has_class (λ k. exempts k.scope) m s t) has e)
