-- The parts of an event.
use Rattle.std.specs.Prelude.{ℕ, Bool, true, false, ◌&&◌, ◌==◌, List, [], ◌∷◌, Option, Some, None}
use Rattle.acta_table.specs.declared.event.OpNo.{OpNo}
use Rattle.acta_table.specs.declared.event.EventKind.{EventKind}
use Rattle.acta_table.specs.declared.event.EventKind.TheVariants.{Begin as begin_kind, Spawn as spawn_kind, Split as split_kind, Join as join_kind, Delegate as delegate_kind, Form as form_kind, Operate as operate_kind, Commit as commit_kind, Abort as abort_kind, Permit as permit_kind}
use Rattle.acta_table.specs.declared.event.Event.{Event}
use Rattle.acta_table.specs.declared.event.Event.TheVariants.{Begin, Spawn, Split, Join, Delegate, Form, Operate, Commit, Abort, Permit}

-- the kind of the event
abbrev pub kind_of : {A : Type 0} → Event A → EventKind
kind_of (Begin t class) = begin_kind
kind_of (Spawn t c class) = spawn_kind
kind_of (Split t u class ops) = split_kind
kind_of (Join t u) = join_kind
kind_of (Delegate t u ops) = delegate_kind
kind_of (Form kind j i) = form_kind
kind_of (Operate t ob op) = operate_kind
kind_of (Commit t) = commit_kind
kind_of (Abort t) = abort_kind
kind_of (Permit t u ob) = permit_kind

-- the transactions named, in order
abbrev pub named : {A : Type 0} → Event A → List ℕ
named (Begin t class) = t.0 ∷ []
named (Spawn t c class) = t.0 ∷ c.0 ∷ []
named (Split t u class ops) = t.0 ∷ u.0 ∷ []
named (Join t u) = t.0 ∷ u.0 ∷ []
named (Delegate t u ops) = t.0 ∷ u.0 ∷ []
named (Form kind j i) = j.0 ∷ i.0 ∷ []
named (Operate t ob op) = t.0 ∷ []
named (Commit t) = t.0 ∷ []
named (Abort t) = t.0 ∷ []
named (Permit t u ob) = t.0 ∷ u.0 ∷ []

-- the transaction that acts, which must be in progress
abbrev pub acting : {A : Type 0} → Event A → Option ℕ
acting (Begin t class) = None
acting (Spawn t c class) = Some t.0
acting (Split t u class ops) = Some t.0
acting (Join t u) = Some t.0
acting (Delegate t u ops) = Some t.0
acting (Form kind j i) = None
acting (Operate t ob op) = Some t.0
acting (Commit t) = Some t.0
acting (Abort t) = Some t.0
acting (Permit t u ob) = Some t.0

-- the transaction that is started
abbrev pub started : {A : Type 0} → Event A → Option ℕ
started (Begin t class) = Some t.0
started (Spawn t c class) = Some c.0
started (Split t u class ops) = Some u.0
started _ = None

-- the class named
abbrev pub class_named : {A : Type 0} → Event A → Option ℕ
class_named (Begin t class) = Some class.0
class_named (Spawn t c class) = Some class.0
class_named (Split t u class ops) = Some class.0
class_named _ = None

-- the object named
abbrev pub object_named : {A : Type 0} → Event A → Option ℕ
object_named (Operate t ob op) = Some ob.0
object_named (Permit t u ob) = Some ob.0
object_named _ = None

-- the transaction that receives operations or a permit, which must be in progress too
abbrev pub partner : {A : Type 0} → Event A → Option ℕ
partner (Join t u) = Some u.0
partner (Delegate t u ops) = Some u.0
partner (Permit t u ob) = Some u.0
partner _ = None

-- the operations named
abbrev pub operations_named : {A : Type 0} → Event A → List OpNo
operations_named (Split t u class ops) = ops
operations_named (Delegate t u ops) = ops
operations_named _ = []

-- whether the event lists operations to transfer
abbrev pub transfers_over : {A : Type 0} → Event A → Bool
transfers_over (Split t u class ops) = true
transfers_over (Delegate t u ops) = true
transfers_over _ = false

-- whether the event is a permit by s for t on the object
abbrev pub permits : {A : Type 0} → ℕ → ℕ → ℕ → Event A → Bool
permits s t object (Permit u v ob) = (u.0 == s) && (v.0 == t) && (ob.0 == object)
permits s t object _ = false
