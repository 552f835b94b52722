-- The order of faults: by the axiom's number, then by place, then by the number that breaks it.
use Rattle.std.specs.Prelude.{Bool, List, [], fold}
use Rattle.std.specs.BTreeSet.{insert_key}
use Rattle.std.specs.declared.cmp.Ordering.{Ordering}
use Rattle.std.specs.List.{list_any}
use Rattle.std.specs.Ordering.{nat_cmp, ordering_then, is_eq}
use Rattle.acta_axioms.specs.declared.fault.Fault.{Fault}
use Rattle.acta_axioms.specs.Axioms.{axiom_number}

-- the order of two faults
abbrev pub fault_cmp : Fault → Fault → Ordering
fault_cmp f g =
    ordering_then
    (nat_cmp (axiom_number f.broken) (axiom_number g.broken))
    (ordering_then (nat_cmp f.place g.place) (nat_cmp f.by g.by))

-- the faults with one more in order, unless it is there
abbrev pub with_fault : List Fault → Fault → List Fault
with_fault faults fault = insert_key fault_cmp faults fault

-- faults in order, with others added in order, each once
abbrev pub merged : List Fault → List Fault → List Fault
merged faults others = fold with_fault faults others

-- the faults in order, each once
abbrev pub in_order : List Fault → List Fault
in_order faults = merged [] faults

-- whether the fault is in the list: the same axiom, place and number
abbrev pub is_reported : Fault → List Fault → Bool
is_reported f faults = list_any (λ g. is_eq (fault_cmp f g)) faults
