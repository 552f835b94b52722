-- A transaction that is not in progress holds no operation in progress.
use Rattle.std.proofs.Common.{◌≡◌, ℕ, ◌+◌, Bool, true, false, ◌&&◌, ◌||◌, not, ◌==◌, List, [], ◌∷◌, map, refl, ap, sym, ◌∙◌, inl, inr}
use Rattle.std.specs.Prelude.{if◌then◌else◌}
use Rattle.std.specs.List.{list_all}
use Rattle.std.proofs.lemmas.Bool.{cases_eq, ne_eqb, true≢false}
use Rattle.acta_table.specs.declared.answer.Status.{Status}
use Rattle.acta_table.specs.Fates.{is_open}
use Rattle.acta_table.specs.Numbered.{numbers_from}
use Rattle.acta_deps.specs.Statuses.{is_in_progress}
use Rattle.acta_sets.specs.declared.held_op.HeldOp.{HeldOp}
use Rattle.acta_sets.specs.Operations.{is_held, access_set}
use Rattle.acta_machine.specs.Places.{is_held_well}

closed : (is held : Bool) → held ≡ false → (not is || held) ≡ true → is ≡ false
closed true held idle well = absurd (true≢false (sym well ∙ idle))
closed false held idle well = refl

neither : (b : Bool) → (b && false) ≡ false
neither true = refl
neither false = refl

not_held : (status : ℕ → Status) (t : ℕ) (i : HeldOp) → is_in_progress (status t) ≡ false → is_held_well status i ≡ true → is_held t i ≡ false
not_held status t i idle well =
    elim (cases_eq i.holder.0 t) [
      | inl e ↦ ap (λ b. (i.holder.0 == t) && b) (closed (is_open i.fate) (is_in_progress (status i.holder.0)) (ap (λ u. is_in_progress (status u)) e ∙ idle) well) ∙ neither (i.holder.0 == t)
      | inr ne ↦ ap (λ b. b && is_open i.fate) (ne_eqb i.holder.0 t ne)
    ]

first : (a b : Bool) → (a && b) ≡ true → a ≡ true
first true b e = refl
first false b e = e

second : (a b : Bool) → (a && b) ≡ true → b ≡ true
second true b e = e
second false b e = absurd (true≢false (sym e))

none_from : (status : ℕ → Status) (t n : ℕ) (items : List HeldOp) → is_in_progress (status t) ≡ false → list_all (is_held_well status) items ≡ true → numbers_from (is_held t) n items ≡ []
none_from status t n [] idle well = refl
none_from status t n (i ∷ items) idle well =
    ap (λ b. if b then n ∷ numbers_from (is_held t) (n + 1) items else numbers_from (is_held t) (n + 1) items) (not_held status t i idle (first (is_held_well status i) (list_all (is_held_well status) items) well))
    ∙ none_from status t (n + 1) items idle (second (is_held_well status i) (list_all (is_held_well status) items) well)

-- its access set is empty
pub none_held : (status : ℕ → Status) (t : ℕ) (items : List HeldOp) → is_in_progress (status t) ≡ false → list_all (is_held_well status) items ≡ true → access_set t items ≡ []
none_held status t items idle well = ap (λ numbers. map (λ n. record { 0 = n }) numbers) (none_from status t 1 items idle well)
