-- The ranges of an event's or a return's numbers, and the order of its operations, as their types guarantee.
use Rattle.std.specs.Prelude.{◌≡◌, ℕ, ◌≤◌, nat_le, true, Option, Some, None, IfSome, ℤ, pos, neg_ℤ, ◌≤ℤ◌, ◌<ℤ◌}
use Rattle.std.specs.List.{AllByRecursion, list_all}
use Rattle.std.specs.List.Sorted.{IsStrictlySortedBy}
use Rattle.std.specs.Ordering.{nat_cmp}
use Rattle.acta_table.specs.declared.event.Event.{Event}
use Rattle.acta_table.specs.declared.event.Event.TheVariants.{Operate}
use Rattle.acta_table.specs.declared.event.Op.{Op}
use Rattle.acta_table.specs.declared.event.Op.TheVariants.{Write, Add, Insert, Remove, Has}
use Rattle.acta_table.specs.declared.event.Ret.{Ret}
use Rattle.acta_table.specs.declared.event.Ret.TheVariants.{Value}
use Rattle.acta_table.specs.Events.{named, operations_named}
use Rattle.acta_table.specs.Sets.{numbers_of}

-- a number from -bound up to bound - 1
abbrev pub IsWithin : ℕ → ℤ → Type 0
IsWithin bound z = (neg_ℤ (pos bound) ≤ℤ z) × (z <ℤ pos bound)

-- the number of an operation, if it has one
abbrev pub integer_of : Op → Option ℤ
integer_of (Write v) = Some v
integer_of (Add n) = Some n
integer_of (Insert x) = Some x
integer_of (Remove x) = Some x
integer_of (Has x) = Some x
integer_of _ = None

-- the 32-bit number of an event, if it has one
abbrev pub integer_named : {A : Type 0} → Event A → Option ℤ
integer_named (Operate t ob op) = integer_of op
integer_named _ = None

pub record HasRanges {A : Type 0} (event : Event A) : Type 0 where
  pub txns : AllByRecursion (λ t. t ≤ 0xffff) (named event)
  pub operations : list_all (λ o. nat_le o.0 0xffff_ffff) (operations_named event) ≡ true
  pub ascending : IsStrictlySortedBy nat_cmp (numbers_of (operations_named event))
  pub integer : IfSome (integer_named event) (IsWithin 0x8000_0000)

-- the 64-bit number of a return, if it has one
abbrev pub value_of : Ret → Option ℤ
value_of (Value v) = Some v
value_of _ = None

abbrev pub HasRange : Ret → Type 0
HasRange ret = IfSome (value_of ret) (IsWithin 0x8000_0000_0000_0000)
