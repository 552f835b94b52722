-- The state of a machine, as lines.
use Rattle.std.specs.Prelude.{◌≡◌, ℕ, ◌+◌, ◌==◌, ◌||◌, Bool, true, List, [], ◌∷◌, ◌++◌, flat_map, map, codes, decimal, if◌then◌else◌, Option, Some, None}
use Rattle.std.specs.Fmt.{signed_decimal}
use Rattle.std.specs.List.Sorted.{IsStrictlySortedBy}
use Rattle.std.specs.Option.{option_map_or}
use Rattle.acta_table.specs.declared.dep.Edge.{Edge}
use Rattle.acta_table.specs.declared.event.Kept.{Kept}
use Rattle.acta_table.specs.declared.event.ObjId.{ObjId}
use Rattle.acta_table.specs.declared.event.OpNo.{OpNo}
use Rattle.acta_table.specs.declared.event.TxnId.{TxnId}
use Rattle.acta_table.specs.declared.model.Object.{Object}
use Rattle.acta_table.specs.declared.model.Parts.{Parts}
use Rattle.acta_table.specs.Dependencies.{word_of}
use Rattle.acta_table.specs.Events.{started}
use Rattle.acta_words.specs.Text.{line_of}
use Rattle.acta_objects.specs.declared.state.ObjectState.{ObjectState}
use Rattle.acta_objects.specs.declared.state.ObjectState.TheVariants.{Register, Counter, Elements}
use Rattle.acta_sets.specs.declared.permit.Permit.{Permit}
use Rattle.acta_sets.specs.Permits.{is_listed, permit_cmp}
use Rattle.acta_machine.specs.Table.{State, debts_in, edges_in, permitted_in, status_in, value_in}
use Rattle.acta_script.specs.Answers.{owed_line}
use Rattle.acta_script.specs.Writing.{elements_word, object_word, status_word, txn_word}

-- status T STATUS
abbrev pub status_line : {A : Type 0} → State A → TxnId → List ℕ
status_line state t = line_of (codes "status" ∷ txn_word t ∷ status_word (status_in state t.0) ∷ [])

-- the word of a value
abbrev pub state_word : {A : Type 0} → ObjectState A → List ℕ
state_word (Register v) = signed_decimal v
state_word (Counter v) = signed_decimal v
state_word (Elements xs) = elements_word xs

-- value OBJECT V; an object that is not in the model has no value
abbrev pub value_line : {A : Type 0} → State A → ObjId → List ℕ
value_line state ob =
    line_of (codes "value" ∷ object_word state.model ob ∷ option_map_or state_word (value_in state ob.0) [] ∷ [])

-- operations N N ..
abbrev pub operations_line : List OpNo → List ℕ
operations_line ops = codes "operations" ++ flat_map (λ op. 32 ∷ decimal op.0) ops

-- edge N KIND J I
abbrev pub edge_line : ℕ → Edge → List ℕ
edge_line n e = line_of (codes "edge" ∷ decimal n ∷ word_of e.kind ∷ txn_word e.j ∷ txn_word e.i ∷ [])

-- whether the transaction is one of the edge's two; true for every edge if none is named
abbrev pub is_of : Option TxnId → Edge → Bool
is_of None e = true
is_of (Some t) e = (e.j.0 == t.0) || (e.i.0 == t.0)

-- the lines of a transaction's edges among these, which follow this many earlier edges
abbrev pub edge_lines_from : Option TxnId → ℕ → List Edge → List (List ℕ)
edge_lines_from t n [] = []
edge_lines_from t n (e ∷ es) = (if is_of t e then edge_line (n + 1) e ∷ [] else []) ++ edge_lines_from t (n + 1) es

abbrev pub edge_lines : {A : Type 0} → State A → Option TxnId → List (List ℕ)
edge_lines state t = edge_lines_from t 0 (edges_in state)

-- permit T U OBJECT
abbrev pub permit_line : {A : Type 0} → Parts A → Permit → List ℕ
permit_line m p = line_of (codes "permit" ∷ txn_word p.by ∷ txn_word p.to ∷ object_word m p.object ∷ [])

-- the lines of the permits in force, each once, ordered by the permitted transaction, the object, the permitting transaction
pub record ArePermitLines {A : Type 0} (state : State A) (lines : List (List ℕ)) : Type 0 where
  pub permits : List Permit
  pub all : (h t object : ℕ) → is_listed permits h t object ≡ permitted_in state h t object
  pub ascending : IsStrictlySortedBy permit_cmp permits
  pub each : lines ≡ map (permit_line state.model) permits

-- the status of the transaction that an event began, if it began one
abbrev pub started_line : {A : Type 0} → State A → Option ℕ → List (List ℕ)
started_line state None = []
started_line state (Some t) = status_line state (record { 0 = t }) ∷ []

-- the statuses of the transactions that these events began
abbrev pub status_lines_of : {A : Type 0} → State A → List (Kept A) → List (List ℕ)
status_lines_of state [] = []
status_lines_of state (k ∷ ks) = started_line state (started k.event) ++ status_lines_of state ks

-- the statuses of the transactions that have begun, in the order in which they began
abbrev pub status_lines : {A : Type 0} → State A → List (List ℕ)
status_lines state = status_lines_of state state.kept

-- the values of these objects, the first of which has this number
abbrev pub value_lines_from : {A : Type 0} → State A → ℕ → List (Object A) → List (List ℕ)
value_lines_from state n [] = []
value_lines_from state n (ob ∷ obs) = value_line state (record { 0 = n }) ∷ value_lines_from state (n + 1) obs

abbrev pub value_lines : {A : Type 0} → State A → List (List ℕ)
value_lines state = value_lines_from state 0 state.model.objects

-- the statuses of the transactions, the values of the objects, and the debts
abbrev pub state_lines : {A : Type 0} → State A → List (List ℕ)
state_lines state = status_lines state ++ (value_lines state ++ map owed_line (debts_in state))
