-- An index of the operations: those that each transaction holds in progress.
use Rattle.std.specs.Prelude.{◌≡◌, ℕ, ◌+◌, Bool, true, false, not, nat_lt, ◌==◌, List, [], ◌∷◌, ◌++◌, map, get_or, fold, filter, if◌then◌else◌}
use Rattle.std.specs.List.{list_any}
use Rattle.smallvec.specs.SmallVec.{SmallVec}
use Rattle.acta_table.specs.declared.event.OpNo.{OpNo}
use Rattle.acta_table.specs.Numbered.{numbers_where}
use Rattle.acta_table.specs.declared.event.TxnId.{TxnId}
use Rattle.acta_table.specs.declared.answer.Fate.{Fate}
use Rattle.acta_table.specs.Sets.{is_named}
use Rattle.acta_sets.specs.declared.held_op.HeldOp.{HeldOp}
use Rattle.acta_sets.specs.Operations.{is_held}

-- the lists as plain lists, and the list of t, which is empty past the end
abbrev pub lists : List (SmallVec ℕ) → List (List ℕ)
lists held = map (λ l. l.items) held

abbrev pub list_at : List (SmallVec ℕ) → ℕ → List ℕ
list_at held t = get_or (lists held) t []

-- each transaction's list is its access set
abbrev pub AreHeld : List HeldOp → List (SmallVec ℕ) → Type 0
AreHeld items held = (t : ℕ) → list_at held t ≡ numbers_where (is_held t) items

-- whether a list is not empty
abbrev pub has_any : List ℕ → Bool
has_any [] = false
has_any (n ∷ ns) = true

-- whether the number is in the list
abbrev pub has : List ℕ → ℕ → Bool
has keys t = list_any (λ k. k == t) keys

-- each transaction that holds an operation is among the holders
abbrev pub AreAmong : List (SmallVec ℕ) → List ℕ → Type 0
AreAmong held keys = (t : ℕ) → has_any (list_at held t) ≡ true → has keys t ≡ true

-- the numbers of the operations that pass the test, if the first has the number n
abbrev pub numbers_by : (ℕ → HeldOp → Bool) → ℕ → List HeldOp → List ℕ
numbers_by test n [] = []
numbers_by test n (i ∷ items) =
    if test n i then n ∷ numbers_by test (n + 1) items else numbers_by test (n + 1) items

-- the items, with f applied to those that pass the test, if the first has the number n
abbrev pub changed_from : (ℕ → HeldOp → Bool) → (HeldOp → HeldOp) → ℕ → List HeldOp → List HeldOp
changed_from test f n [] = []
changed_from test f n (i ∷ items) = (if test n i then f i else i) ∷ changed_from test f (n + 1) items

-- the items, with f applied to item number o
abbrev pub changed_at : (HeldOp → HeldOp) → ℕ → List HeldOp → List HeldOp
changed_at f o items = changed_from (λ n _. n == o) f 1 items

-- the items, with f applied to those with these numbers, one after another
abbrev pub changed_each : (HeldOp → HeldOp) → List HeldOp → List ℕ → List HeldOp
changed_each f items ops = fold (λ is o. changed_at f o is) items ops

-- the merge of two ascending lists
abbrev pub merge_with : ℕ → (List ℕ → List ℕ) → List ℕ → List ℕ
merge_with n rest [] = n ∷ rest []
merge_with n rest (m ∷ ms) = if nat_lt n m then n ∷ rest (m ∷ ms) else m ∷ merge_with n rest ms

abbrev pub merge : List ℕ → List ℕ → List ℕ
merge [] ms = ms
merge (n ∷ ns) ms = merge_with n (λ rest. merge ns rest) ms

-- whether the last number of the list is below n, or the list is empty
abbrev pub last_below : List ℕ → ℕ → Bool
last_below [] n = true
last_below (o ∷ []) n = nat_lt o n
last_below (o ∷ p ∷ os) n = last_below (p ∷ os) n

-- whether the last number of the first list is below the first of the second, or one list is empty
abbrev pub is_below : List ℕ → List ℕ → Bool
is_below ns [] = true
is_below ns (m ∷ ms) = last_below ns m

-- the merge of two ascending lists, by appending if possible
abbrev pub joined : List ℕ → List ℕ → List ℕ
joined ns ms = if is_below ns ms then ns ++ ms else merge ns ms

-- the named operations of the list
abbrev pub named_of : List OpNo → List ℕ → List ℕ
named_of named ops = filter (λ o. is_named named o) ops

-- the list without the named operations
abbrev pub without : List OpNo → List ℕ → List ℕ
without named ops = filter (λ o. not (is_named named o)) ops

-- the operation, held by u
abbrev pub held_by : TxnId → HeldOp → HeldOp
held_by u i = record i { holder = u }

-- the operation, with this fate
abbrev pub with_fate : Fate → HeldOp → HeldOp
with_fate fate i = record i { fate = fate }
