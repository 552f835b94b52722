-- The effect of an event on the operations is that of the table's calls.
use Rattle.std.proofs.Common.{if◌then◌else◌, ◌≡◌, ℕ, ◌+◌, ◌==◌, Bool, true, false, ◌&&◌, List, [], ◌∷◌, ◌++◌, Option, Some, None, refl, sym, ap, ◌∙◌, arith}
use Rattle.std.specs.Prelude.{option_to_list}
use Rattle.std.proofs.lemmas.Bool.Decides.{nat_tests}
use Rattle.std.proofs.lemmas.List.{append-nil}
use Rattle.acta_table.specs.declared.answer.Fate.TheVariants.{InProgress, Committed, Aborted}
use Rattle.acta_table.specs.declared.event.Event.{Event}
use Rattle.acta_table.specs.declared.event.Event.TheVariants.{Split, Join, Delegate, Operate, Commit, Abort, Permit}
use Rattle.acta_table.specs.declared.event.ClassId.{ClassId}
use Rattle.acta_table.specs.declared.event.ObjId.{ObjId}
use Rattle.acta_table.specs.declared.event.Op.{Op}
use Rattle.acta_table.specs.declared.event.OpNo.{OpNo}
use Rattle.acta_table.specs.declared.event.TxnId.{TxnId}
use Rattle.acta_table.specs.Fates.{is_open}
use Rattle.acta_table.specs.Sets.{is_named}
use Rattle.acta_sets.specs.declared.held_op.HeldOp.{HeldOp}
use Rattle.acta_sets.specs.Operations.{added, transferred, transferred_of, transferred_from, ended}
use Rattle.acta_axioms.specs.inside.Holding.{in_hand, ended_so, brought, brought_from, op_done}

flip : (a b : ℕ) → (a == b) ≡ (b == a)
flip a b = grind (arith, nat_tests)

-- the effect on the operations in progress of one holder
one_step : (f e d : Bool) (y x : HeldOp) → e ≡ d → (if f then (if e then y else x) else x) ≡ (if d && f then y else x)
one_step true true true y x same = refl
one_step true true false y x same = let no : true ≡ false = same in cc
one_step true false true y x same = let no : false ≡ true = same in cc
one_step true false false y x same = refl
one_step false e true y x same = refl
one_step false e false y x same = refl

-- the effect on those of them that are named
named_step : (f e d b : Bool) (y x : HeldOp) → e ≡ d → (if f then (if e && b then y else x) else x) ≡ (if (d && f) && b then y else x)
named_step true true true b y x same = refl
named_step true true false b y x same = let no : true ≡ false = same in cc
named_step true false true b y x same = let no : false ≡ true = same in cc
named_step true false false b y x same = refl
named_step false e true b y x same = refl
named_step false e false b y x same = refl

split_is : (A : Type 0) (left : Option TxnId) (s u : TxnId) (class : ClassId) (ops : List OpNo) (n : ℕ) (xs : List HeldOp) → transferred_from n s.0 ops u xs ≡ brought_from {A = A} left (Split s u class ops) n xs
split_is A left s u class ops n [] = refl
split_is A left s u class ops n (x ∷ xs) = λ i. sym (named_step (is_open x.fate) (s.0 == x.holder.0) (x.holder.0 == s.0) (is_named ops n) (in_hand u x) x (flip s.0 x.holder.0)) i ∷ split_is A left s u class ops (n + 1) xs i

delegate_is : (A : Type 0) (left : Option TxnId) (s u : TxnId) (ops : List OpNo) (n : ℕ) (xs : List HeldOp) → transferred_from n s.0 ops u xs ≡ brought_from {A = A} left (Delegate s u ops) n xs
delegate_is A left s u ops n [] = refl
delegate_is A left s u ops n (x ∷ xs) = λ i. sym (named_step (is_open x.fate) (s.0 == x.holder.0) (x.holder.0 == s.0) (is_named ops n) (in_hand u x) x (flip s.0 x.holder.0)) i ∷ delegate_is A left s u ops (n + 1) xs i

join_is : (A : Type 0) (left : Option TxnId) (s u : TxnId) (n : ℕ) (xs : List HeldOp) → transferred s.0 u xs ≡ brought_from {A = A} left (Join s u) n xs
join_is A left s u n [] = refl
join_is A left s u n (x ∷ xs) = λ i. sym (one_step (is_open x.fate) (s.0 == x.holder.0) (x.holder.0 == s.0) (in_hand u x) x (flip s.0 x.holder.0)) i ∷ join_is A left s u (n + 1) xs i

heir_is : (A : Type 0) (s u : TxnId) (n : ℕ) (xs : List HeldOp) → transferred s.0 u xs ≡ brought_from {A = A} (Some u) (Commit s) n xs
heir_is A s u n [] = refl
heir_is A s u n (x ∷ xs) = λ i. sym (one_step (is_open x.fate) (s.0 == x.holder.0) (x.holder.0 == s.0) (in_hand u x) x (flip s.0 x.holder.0)) i ∷ heir_is A s u (n + 1) xs i

commit_is : (A : Type 0) (s : TxnId) (n : ℕ) (xs : List HeldOp) → ended s.0 Committed xs ≡ brought_from {A = A} None (Commit s) n xs
commit_is A s n [] = refl
commit_is A s n (x ∷ xs) = λ i. sym (one_step (is_open x.fate) (s.0 == x.holder.0) (x.holder.0 == s.0) (ended_so Committed x) x (flip s.0 x.holder.0)) i ∷ commit_is A s (n + 1) xs i

abort_is : (A : Type 0) (left : Option TxnId) (s : TxnId) (n : ℕ) (xs : List HeldOp) → ended s.0 Aborted xs ≡ brought_from {A = A} left (Abort s) n xs
abort_is A left s n [] = refl
abort_is A left s n (x ∷ xs) = λ i. sym (one_step (is_open x.fate) (s.0 == x.holder.0) (x.holder.0 == s.0) (ended_so Aborted x) x (flip s.0 x.holder.0)) i ∷ abort_is A left s (n + 1) xs i

still : (f : Bool) (x : HeldOp) → x ≡ (if f then x else x)
still true x = refl
still false x = refl

-- all operations after an event, including the event's own
abbrev pub further_on : {A : Type 0} → Option TxnId → Event A → List HeldOp → List HeldOp
further_on left e xs = brought_from left e 1 xs ++ option_to_list (op_done e)

pub split-on : {A : Type 0} (left : Option TxnId) (e : Event A) (s u : TxnId) (class : ClassId) (ops : List OpNo) (xs : List HeldOp) → e ≡ Split s u class ops → transferred_of s.0 ops u xs ≡ further_on left e xs
split-on {A} left e s u class ops xs is = split_is A left s u class ops 1 xs ∙ sym (append-nil (brought_from {A = A} left (Split s u class ops) 1 xs)) ∙ ap (λ (f : Event A). further_on left f xs) (sym is)

pub delegate-on : {A : Type 0} (left : Option TxnId) (e : Event A) (s u : TxnId) (ops : List OpNo) (xs : List HeldOp) → e ≡ Delegate s u ops → transferred_of s.0 ops u xs ≡ further_on left e xs
delegate-on {A} left e s u ops xs is = delegate_is A left s u ops 1 xs ∙ sym (append-nil (brought_from {A = A} left (Delegate s u ops) 1 xs)) ∙ ap (λ (f : Event A). further_on left f xs) (sym is)

pub join-on : {A : Type 0} (left : Option TxnId) (e : Event A) (s u : TxnId) (xs : List HeldOp) → e ≡ Join s u → transferred s.0 u xs ≡ further_on left e xs
join-on {A} left e s u xs is = join_is A left s u 1 xs ∙ sym (append-nil (brought_from {A = A} left (Join s u) 1 xs)) ∙ ap (λ (f : Event A). further_on left f xs) (sym is)

pub heir-on : {A : Type 0} (e : Event A) (s u : TxnId) (xs : List HeldOp) → e ≡ Commit s → transferred s.0 u xs ≡ further_on (Some u) e xs
heir-on {A} e s u xs is = heir_is A s u 1 xs ∙ sym (append-nil (brought_from {A = A} (Some u) (Commit s) 1 xs)) ∙ ap (λ (f : Event A). further_on (Some u) f xs) (sym is)

pub commit-on : {A : Type 0} (e : Event A) (s : TxnId) (xs : List HeldOp) → e ≡ Commit s → ended s.0 Committed xs ≡ further_on None e xs
commit-on {A} e s xs is = commit_is A s 1 xs ∙ sym (append-nil (brought_from {A = A} None (Commit s) 1 xs)) ∙ ap (λ (f : Event A). further_on None f xs) (sym is)

pub abort-on : {A : Type 0} (left : Option TxnId) (e : Event A) (s : TxnId) (xs : List HeldOp) → e ≡ Abort s → ended s.0 Aborted xs ≡ further_on left e xs
abort-on {A} left e s xs is = abort_is A left s 1 xs ∙ sym (append-nil (brought_from {A = A} left (Abort s) 1 xs)) ∙ ap (λ (f : Event A). further_on left f xs) (sym is)

pub still_from : {A : Type 0} (left : Option TxnId) (e : Event A) (n : ℕ) (xs : List HeldOp) → ((k : ℕ) (x : HeldOp) → x ≡ brought left e k x) → xs ≡ brought_from left e n xs
still_from left e n [] same = refl
still_from left e n (x ∷ xs) same = λ i. same n x i ∷ still_from left e (n + 1) xs same i

-- an operation is appended
pub operate-on : {A : Type 0} (left : Option TxnId) (e : Event A) (t : TxnId) (object : ObjId) (op : Op) (xs : List HeldOp) → e ≡ Operate t object op → added xs t object op ≡ further_on left e xs
operate-on {A} left e t object op xs is =
    ap (λ ys. ys ++ (record { ob = object; op = op; holder = t; fate = InProgress }) ∷ []) (still_from {A = A} left (Operate t object op) 1 xs (λ k x. still (is_open x.fate) x))
    ∙ ap (λ (f : Event A). further_on left f xs) (sym is)

-- a permit has no effect on operations
pub permit-on : {A : Type 0} (left : Option TxnId) (e : Event A) (t u : TxnId) (ob : ObjId) (xs : List HeldOp) → e ≡ Permit t u ob → xs ≡ further_on left e xs
permit-on {A} left e t u ob xs is =
    still_from {A = A} left (Permit t u ob) 1 xs (λ k x. still (is_open x.fate) x) ∙ sym (append-nil (brought_from {A = A} left (Permit t u ob) 1 xs)) ∙ ap (λ (f : Event A). further_on left f xs) (sym is)

-- the other events have no effect on them
pub other-on : {A : Type 0} (left : Option TxnId) (e : Event A) (xs : List HeldOp) → ((s u : TxnId) (class : ClassId) (ops : List OpNo) → e ≡ Split s u class ops → ⊥) → ((s u : TxnId) → e ≡ Join s u → ⊥) →
    ((s u : TxnId) (ops : List OpNo) → e ≡ Delegate s u ops → ⊥) → ((t : TxnId) (object : ObjId) (op : Op) → e ≡ Operate t object op → ⊥) → ((s : TxnId) → e ≡ Commit s → ⊥) → ((s : TxnId) → e ≡ Abort s → ⊥) →
    xs ≡ further_on left e xs
other-on left (Split s u class ops) xs split join delegate operate commit abort = absurd (split s u class ops refl)
other-on left (Join s u) xs split join delegate operate commit abort = absurd (join s u refl)
other-on left (Delegate s u ops) xs split join delegate operate commit abort = absurd (delegate s u ops refl)
other-on left (Operate t object op) xs split join delegate operate commit abort = absurd (operate t object op refl)
other-on left (Commit s) xs split join delegate operate commit abort = absurd (commit s refl)
other-on left (Abort s) xs split join delegate operate commit abort = absurd (abort s refl)
other-on left e xs split join delegate operate commit abort = still_from left e 1 xs (λ k x. still (is_open x.fate) x) ∙ sym (append-nil (brought_from left e 1 xs))
