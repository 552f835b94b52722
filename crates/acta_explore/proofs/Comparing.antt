-- `==` on the parts of a key.
use Rattle.std.proofs.Common.{◌≡◌, ◌==◌, ◌&&◌, ℕ, Bool, true, List, [], ◌∷◌, Option, Some, None, refl, sym, ap, ◌∙◌, rules}
use Rattle.std.specs.Cmp.{first_so, second_so}
use Rattle.std.specs.Cmp.Lexicographic.{pointwise}
use Rattle.std.specs.Option.{option_eq}
use Rattle.std.proofs.lemmas.Bool.{eq-eqb, eqb-true}
use Rattle.std.proofs.lemmas.Bool.Decides.{Decides-int_eq}
use denote.Enum.Bare.{sameb, same_true, true_same}
use Rattle.acta_table.specs.declared.answer.Fate.{Fate}
use Rattle.acta_table.specs.declared.answer.Status.{Status}
use Rattle.acta_table.specs.declared.dep.Dep.{Dep}
use Rattle.acta_table.specs.declared.dep.Edge.{Edge}
use Rattle.acta_table.specs.declared.event.ClassId.{ClassId}
use Rattle.acta_table.specs.declared.event.Op.{Op}
use Rattle.acta_table.specs.declared.event.Op.TheVariants.{Read, Write, Get, Add, Insert, Remove, Has, Size}
use Rattle.acta_table.specs.declared.event.TxnId.{TxnId}
use Rattle.acta_table.specs.contracts.answer.Fate.{the_type as fate_type}
use Rattle.acta_table.specs.contracts.answer.Status.{the_type as status_type}
use Rattle.acta_table.specs.contracts.dep.Dep.{the_type as dep_type}
use Rattle.acta_table.specs.contracts.answer.FatePartialEq.TheImpl as fate_eq
use Rattle.acta_table.specs.contracts.dep.EdgePartialEq.TheImpl as edge_eq
use Rattle.acta_table.specs.contracts.event.ClassIdPartialEq.TheImpl as class_eq
use Rattle.acta_table.specs.contracts.event.OpPartialEq.TheImpl as op_eq
use Rattle.acta_table.specs.contracts.event.TxnIdPartialEq.TheImpl as txn_eq
use Rattle.acta_sets.specs.declared.held_op.HeldOp.{HeldOp}
use Rattle.acta_sets.specs.declared.permit.Permit.{Permit}
use Rattle.acta_sets.specs.contracts.held_op.HeldOpPartialEq.TheImpl as held_eq
use Rattle.acta_sets.specs.contracts.permit.PermitPartialEq.TheImpl as permit_eq
use Rattle.acta_explore.specs.declared.key.Key.{Key}
use Rattle.acta_explore.specs.declared.key.LineOp.{LineOp}
use Rattle.acta_explore.specs.declared.key.Txn.{Txn}
use Rattle.acta_explore.specs.declared.point.Done.{Done}
use Rattle.acta_explore.specs.contracts.key.LineOpPartialEq.TheImpl as line_op_eq
use Rattle.acta_explore.specs.contracts.key.TxnPartialEq.TheImpl as entry_eq
use Rattle.acta_explore.specs.contracts.point.DonePartialEq.TheImpl as done_eq
use Rattle.acta_explore.proofs.Equivalence.{done-decides, status-decides}

pub option-same : {X : Type 0} {E : X → X → Bool} → ((a b : X) → E a b ≡ true → a ≡ b) → (a b : Option X) → option_eq E a b ≡ true → a ≡ b
option-same d None None h = refl
option-same d None (Some b) h = absurd cc
option-same d (Some a) None h = absurd cc
option-same d (Some a) (Some b) h = ap Some (d a b h)

-- lists are the same if their items are, one by one
pub lists-same : {X : Type 0} {E : X → X → Bool} → ((a b : X) → E a b ≡ true → a ≡ b) → (xs ys : List X) → pointwise E xs ys ≡ true → xs ≡ ys
lists-same d [] [] h = refl
lists-same d [] (y ∷ ys) h = absurd cc
lists-same d (x ∷ xs) [] h = absurd cc
lists-same {E = E} d (x ∷ xs) (y ∷ ys) h =
    let head = d x y (first_so _ _ h) in
    let tail = lists-same d xs ys (second_so (E x y) _ h) in
    λ i. head i ∷ tail i

op-same : (a b : Op) → (op_eq.eq-value).it a b ≡ true → a ≡ b
op-same Read Read h = refl
op-same Read (Write w) h = absurd cc
op-same Read Get h = absurd cc
op-same Read (Add w) h = absurd cc
op-same Read (Insert w) h = absurd cc
op-same Read (Remove w) h = absurd cc
op-same Read (Has w) h = absurd cc
op-same Read Size h = absurd cc
op-same (Write v) Read h = absurd cc
op-same (Write v) (Write w) h = ap Write ((Decides-int_eq v w).0 h)
op-same (Write v) Get h = absurd cc
op-same (Write v) (Add w) h = absurd cc
op-same (Write v) (Insert w) h = absurd cc
op-same (Write v) (Remove w) h = absurd cc
op-same (Write v) (Has w) h = absurd cc
op-same (Write v) Size h = absurd cc
op-same Get Read h = absurd cc
op-same Get (Write w) h = absurd cc
op-same Get Get h = refl
op-same Get (Add w) h = absurd cc
op-same Get (Insert w) h = absurd cc
op-same Get (Remove w) h = absurd cc
op-same Get (Has w) h = absurd cc
op-same Get Size h = absurd cc
op-same (Add v) Read h = absurd cc
op-same (Add v) (Write w) h = absurd cc
op-same (Add v) Get h = absurd cc
op-same (Add v) (Add w) h = ap Add ((Decides-int_eq v w).0 h)
op-same (Add v) (Insert w) h = absurd cc
op-same (Add v) (Remove w) h = absurd cc
op-same (Add v) (Has w) h = absurd cc
op-same (Add v) Size h = absurd cc
op-same (Insert v) Read h = absurd cc
op-same (Insert v) (Write w) h = absurd cc
op-same (Insert v) Get h = absurd cc
op-same (Insert v) (Add w) h = absurd cc
op-same (Insert v) (Insert w) h = ap Insert ((Decides-int_eq v w).0 h)
op-same (Insert v) (Remove w) h = absurd cc
op-same (Insert v) (Has w) h = absurd cc
op-same (Insert v) Size h = absurd cc
op-same (Remove v) Read h = absurd cc
op-same (Remove v) (Write w) h = absurd cc
op-same (Remove v) Get h = absurd cc
op-same (Remove v) (Add w) h = absurd cc
op-same (Remove v) (Insert w) h = absurd cc
op-same (Remove v) (Remove w) h = ap Remove ((Decides-int_eq v w).0 h)
op-same (Remove v) (Has w) h = absurd cc
op-same (Remove v) Size h = absurd cc
op-same (Has v) Read h = absurd cc
op-same (Has v) (Write w) h = absurd cc
op-same (Has v) Get h = absurd cc
op-same (Has v) (Add w) h = absurd cc
op-same (Has v) (Insert w) h = absurd cc
op-same (Has v) (Remove w) h = absurd cc
op-same (Has v) (Has w) h = ap Has ((Decides-int_eq v w).0 h)
op-same (Has v) Size h = absurd cc
op-same Size Read h = absurd cc
op-same Size (Write w) h = absurd cc
op-same Size Get h = absurd cc
op-same Size (Add w) h = absurd cc
op-same Size (Insert w) h = absurd cc
op-same Size (Remove w) h = absurd cc
op-same Size (Has w) h = absurd cc
op-same Size Size h = refl

fate-same : (a b : Fate) → sameb fate_type a b ≡ true → a ≡ b
fate-same a b h = same_true fate_type (search rules) a b h

status-same : (a b : Status) → sameb status_type a b ≡ true → a ≡ b
status-same a b h = (status-decides a b).0 h

kind-same : (k l : Dep) → sameb dep_type k l ≡ true → k ≡ l
kind-same k l h = same_true dep_type (search rules) k l h

class-same : (a b : ClassId) → (class_eq.eq-value).it a b ≡ true → a ≡ b
class-same a b h = ap (λ n. record { 0 = n }) (eqb-true a.0 b.0 h)

txn-same : (a b : TxnId) → (txn_eq.eq-value).it a b ≡ true → a ≡ b
txn-same a b h = ap (λ n. record { 0 = n }) (eqb-true a.0 b.0 h)

held-same : (a b : HeldOp) → (held_eq.eq-value).it a b ≡ true → a ≡ b
held-same a b h =
    let rest : ((op_eq.eq-value).it a.op b.op && ((a.holder.0 == b.holder.0) && (fate_eq.eq-value).it a.fate b.fate)) ≡ true = second_so (a.ob.0 == b.ob.0) _ h in
    let last : ((a.holder.0 == b.holder.0) && (fate_eq.eq-value).it a.fate b.fate) ≡ true = second_so ((op_eq.eq-value).it a.op b.op) _ rest in
    let ob = eqb-true a.ob.0 b.ob.0 (first_so _ _ h) in
    let op = op-same a.op b.op (first_so _ _ rest) in
    let holder = eqb-true a.holder.0 b.holder.0 (first_so _ _ last) in
    let fate = fate-same a.fate b.fate (second_so (a.holder.0 == b.holder.0) _ last) in
    λ i. record { ob = record { 0 = ob i }; op = op i; holder = record { 0 = holder i }; fate = fate i }

edge-same : (e f : Edge) → (edge_eq.eq-value).it e f ≡ true → e ≡ f
edge-same e f h =
    let rest : ((e.j.0 == f.j.0) && (e.i.0 == f.i.0)) ≡ true = second_so (sameb dep_type e.kind f.kind) _ h in
    let kind = kind-same e.kind f.kind (first_so _ _ h) in
    let j = eqb-true e.j.0 f.j.0 (first_so _ _ rest) in
    let i = eqb-true e.i.0 f.i.0 (second_so (e.j.0 == f.j.0) _ rest) in
    λ n. record { kind = kind n; j = record { 0 = j n }; i = record { 0 = i n } }

permit-same : (a b : Permit) → (permit_eq.eq-value).it a b ≡ true → a ≡ b
permit-same a b h =
    let rest : ((a.to.0 == b.to.0) && (a.object.0 == b.object.0)) ≡ true = second_so (a.by.0 == b.by.0) _ h in
    let by = eqb-true a.by.0 b.by.0 (first_so _ _ h) in
    let to = eqb-true a.to.0 b.to.0 (first_so _ _ rest) in
    let object = eqb-true a.object.0 b.object.0 (second_so (a.to.0 == b.to.0) _ rest) in
    λ n. record { by = record { 0 = by n }; to = record { 0 = to n }; object = record { 0 = object n } }

pub done-same : (a b : Done) → (done_eq.eq-value).it a b ≡ true → a ≡ b
done-same a b h = (done-decides a b).0 h

line_op-same : (a b : LineOp) → (line_op_eq.eq-value).it a b ≡ true → a ≡ b
line_op-same a b h =
    let line = eqb-true a.line b.line (first_so _ _ h) in
    let held = held-same a.held b.held (second_so (a.line == b.line) _ h) in
    λ n. record { line = line n; held = held n }

pub entry-same : (a b : Txn) → (entry_eq.eq-value).it a b ≡ true → a ≡ b
entry-same a b h =
    let rest : (option_eq (class_eq.eq-value).it a.class b.class && option_eq (txn_eq.eq-value).it a.parent b.parent) ≡ true = second_so (sameb status_type a.status b.status) _ h in
    let status = status-same a.status b.status (first_so _ _ h) in
    let class = option-same class-same a.class b.class (first_so _ _ rest) in
    let parent = option-same txn-same a.parent b.parent (second_so (option_eq (class_eq.eq-value).it a.class b.class) _ rest) in
    λ n. record { status = status n; class = class n; parent = parent n }

-- keys that are equal have the same parts
pub record AreSameKeys {A : Type 0} (a b : Key A) : Type 0 where
  pub kept : a.kept ≡ b.kept
  pub lines : a.lines.items ≡ b.lines.items
  pub txns : a.txns.items ≡ b.txns.items
  pub edges : a.edges.items ≡ b.edges.items
  pub operations : a.operations.items ≡ b.operations.items
  pub permits : a.permits.items ≡ b.permits.items

-- what the derived `==` of keys is
abbrev pub key_test : {A : Type 0} → Key A → Key A → Bool
key_test a b =
    (a.kept == b.kept) && (pointwise (option_eq (done_eq.eq-value).it) a.lines.items b.lines.items
    && (pointwise (entry_eq.eq-value).it a.txns.items b.txns.items
    && (pointwise (edge_eq.eq-value).it a.edges.items b.edges.items
    && (pointwise (line_op_eq.eq-value).it a.operations.items b.operations.items
    && pointwise (permit_eq.eq-value).it a.permits.items b.permits.items))))

pub keys-same : {A : Type 0} (a b : Key A) → key_test a b ≡ true → AreSameKeys a b
keys-same a b h =
    let lines = pointwise (option_eq (done_eq.eq-value).it) a.lines.items b.lines.items in
    let txns = pointwise (entry_eq.eq-value).it a.txns.items b.txns.items in
    let edges = pointwise (edge_eq.eq-value).it a.edges.items b.edges.items in
    let operations = pointwise (line_op_eq.eq-value).it a.operations.items b.operations.items in
    let permits = pointwise (permit_eq.eq-value).it a.permits.items b.permits.items in
    let h1 : (lines && (txns && (edges && (operations && permits)))) ≡ true = second_so (a.kept == b.kept) _ h in
    let h2 : (txns && (edges && (operations && permits))) ≡ true = second_so lines _ h1 in
    let h3 : (edges && (operations && permits)) ≡ true = second_so txns _ h2 in
    let h4 : (operations && permits) ≡ true = second_so edges _ h3 in
    record {
      kept = eqb-true a.kept b.kept (first_so _ _ h);
      lines = lists-same (option-same done-same) a.lines.items b.lines.items (first_so _ _ h1);
      txns = lists-same entry-same a.txns.items b.txns.items (first_so _ _ h2);
      edges = lists-same edge-same a.edges.items b.edges.items (first_so _ _ h3);
      operations = lists-same line_op-same a.operations.items b.operations.items (first_so _ _ h4);
      permits = lists-same permit-same a.permits.items b.permits.items (second_so operations _ h4);
    }

pub same-back : {A : Type 0} {a b : Key A} → AreSameKeys a b → AreSameKeys b a
same-back same = record {
  kept = sym same.kept;
  lines = sym same.lines;
  txns = sym same.txns;
  edges = sym same.edges;
  operations = sym same.operations;
  permits = sym same.permits;
}

-- each part is equal to itself
both : (a b : Bool) → a ≡ true → b ≡ true → (a && b) ≡ true
both a b h k = ap (λ (c : Bool). c && b) h ∙ k

number-itself : (n : ℕ) → (n == n) ≡ true
number-itself n = eq-eqb n n refl

option-itself : {X : Type 0} (E : X → X → Bool) → ((x : X) → E x x ≡ true) → (o : Option X) → option_eq E o o ≡ true
option-itself E d None = refl
option-itself E d (Some x) = d x

list-itself : {X : Type 0} (E : X → X → Bool) → ((x : X) → E x x ≡ true) → (xs : List X) → pointwise E xs xs ≡ true
list-itself E d [] = refl
list-itself E d (x ∷ xs) = both (E x x) (pointwise E xs xs) (d x) (list-itself E d xs)

lists-tied : {X : Type 0} (E : X → X → Bool) → ((x : X) → E x x ≡ true) → (xs ys : List X) → xs ≡ ys → pointwise E xs ys ≡ true
lists-tied E d xs ys e = ap (pointwise E xs) (sym e) ∙ list-itself E d xs

op-itself : (a : Op) → (op_eq.eq-value).it a a ≡ true
op-itself Read = refl
op-itself (Write v) = (Decides-int_eq v v).1 refl
op-itself Get = refl
op-itself (Add v) = (Decides-int_eq v v).1 refl
op-itself (Insert v) = (Decides-int_eq v v).1 refl
op-itself (Remove v) = (Decides-int_eq v v).1 refl
op-itself (Has v) = (Decides-int_eq v v).1 refl
op-itself Size = refl

held-itself : (a : HeldOp) → (held_eq.eq-value).it a a ≡ true
held-itself a = both _ _ (number-itself a.ob.0) (both _ _ (op-itself a.op) (both _ _ (number-itself a.holder.0) (true_same fate_type a.fate a.fate refl)))

edge-itself : (e : Edge) → (edge_eq.eq-value).it e e ≡ true
edge-itself e = both _ _ (true_same dep_type e.kind e.kind refl) (both _ _ (number-itself e.j.0) (number-itself e.i.0))

permit-itself : (a : Permit) → (permit_eq.eq-value).it a a ≡ true
permit-itself a = both _ _ (number-itself a.by.0) (both _ _ (number-itself a.to.0) (number-itself a.object.0))

line_op-itself : (a : LineOp) → (line_op_eq.eq-value).it a a ≡ true
line_op-itself a = both _ _ (number-itself a.line) (held-itself a.held)

pub entry-itself : (a : Txn) → (entry_eq.eq-value).it a a ≡ true
entry-itself a =
    both _ _ (true_same status_type a.status a.status refl)
    (both _ _ (option-itself (class_eq.eq-value).it (λ class. number-itself class.0) a.class) (option-itself (txn_eq.eq-value).it (λ t. number-itself t.0) a.parent))

-- keys with the same parts are equal
pub keys-tied : {A : Type 0} (a b : Key A) → AreSameKeys a b → key_test a b ≡ true
keys-tied a b same =
    both _ _ (eq-eqb a.kept b.kept same.kept)
    (both _ _ (lists-tied (option_eq (done_eq.eq-value).it) (option-itself (done_eq.eq-value).it (λ d. (done-decides d d).1 refl)) a.lines.items b.lines.items same.lines)
    (both _ _ (lists-tied (entry_eq.eq-value).it entry-itself a.txns.items b.txns.items same.txns)
    (both _ _ (lists-tied (edge_eq.eq-value).it edge-itself a.edges.items b.edges.items same.edges)
    (both _ _ (lists-tied (line_op_eq.eq-value).it line_op-itself a.operations.items b.operations.items same.operations)
    (lists-tied (permit_eq.eq-value).it permit-itself a.permits.items b.permits.items same.permits)))))
