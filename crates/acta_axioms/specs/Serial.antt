-- Strict models, the serial order of a history, and the returns when operations are replayed in an order.
use Rattle.std.specs.Prelude.{ℕ, Bool, ◌&&◌, not, ◌==◌, List, filter, filter_map, flat_map, scan, if◌then◌else◌, Option, Some, None, option_map}
use Rattle.std.specs.List.{list_all}
use Rattle.acta_table.specs.declared.event.EventKind.TheVariants.{Spawn as spawn_kind, Split as split_kind, Join as join_kind, Delegate as delegate_kind, Permit as permit_kind}
use Rattle.acta_table.specs.declared.event.Event.{Event}
use Rattle.acta_table.specs.declared.event.Event.TheVariants.{Commit}
use Rattle.acta_table.specs.declared.event.Kept.{Kept}
use Rattle.acta_table.specs.declared.event.Ret.{Ret}
use Rattle.acta_table.specs.declared.model.Class.{Class}
use Rattle.acta_table.specs.declared.model.Parts.{Parts}
use Rattle.acta_table.specs.Classes.{can_do, exempts, kind_at}
use Rattle.acta_table.specs.Fates.{is_committed}
use Rattle.acta_table.specs.Policies.{refuses}
use Rattle.acta_objects.specs.declared.state.ObjectState.{ObjectState}
use Rattle.acta_objects.specs.Objects.{first_state, step, returned}
use Rattle.acta_axioms.specs.Operations.{Operation, Standing, operations, standing}

-- whether a class is strict: it cannot be spawned or split off, exempts no ancestors, refuses conflicting operations,
-- and may not spawn, split, join, delegate or permit
abbrev pub is_strict_class : {A : Type 0} → Class A → Bool
is_strict_class k =
    not k.starts.spawned && not k.starts.split && not (exempts k.scope) && refuses k.policy
    && not (can_do spawn_kind k) && not (can_do split_kind k) && not (can_do join_kind k) && not (can_do delegate_kind k)
    && not (can_do permit_kind k)

-- whether a model is strict: all its classes are
abbrev pub is_strict : {A : Type 0} → Parts A → Bool
is_strict m = list_all is_strict_class m.classes

-- the transaction that an event commits
abbrev pub committed_by : {A : Type 0} → Event A → Option ℕ
committed_by (Commit t) = Some t.0
committed_by _ = None

-- the transactions that commit, in the order of their commits
abbrev pub commit_order : {A : Type 0} → List (Kept A) → List ℕ
commit_order h = filter_map (λ k. committed_by k.event) h

-- whether an operation with this standing is committed and was last held by t
abbrev pub is_of_group : ℕ → Standing → Bool
is_of_group t s = (s.holder == t) && is_committed s.fate

-- the group of t: the committed operations that it held last, in the order of the history
abbrev pub group_of : {A : Type 0} → Parts A → List (Kept A) → ℕ → List Operation
group_of m h t = filter (λ o. is_of_group t (standing m h o)) (operations h)

-- the serial order: one group after another, in the order of the commits
abbrev pub serial_order : {A : Type 0} → Parts A → List (Kept A) → List Operation
serial_order m h = flat_map (group_of m h) (commit_order h)

-- the values of objects, by object number
abbrev pub Values : Type 0 → Type 0
Values A = ℕ → Option (ObjectState A)

-- the initial values of a model's objects
abbrev pub first_values : {A : Type 0} → Parts A → Values A
first_values m object = option_map first_state (kind_at m object)

-- the values after an operation
abbrev pub values_after : {A : Type 0} → Values A → Operation → Values A
values_after values o object =
    if o.object == object then option_map (λ s. step s o.op) (values object) else values object

-- the return of an operation at these values, or `None` if its object does not exist
abbrev pub returned_from : {A : Type 0} → Values A → Operation → Option Ret
returned_from values o = option_map (λ s. returned s o.op) (values o.object)

-- the returns of operations that are replayed in this order from the initial values
abbrev pub replayed : {A : Type 0} → Parts A → List Operation → List (Option Ret)
replayed {A} m os = scan (values_after {A = A}) returned_from (first_values m) os
