-- Sets of operations as lists of their numbers.
use Rattle.std.specs.Prelude.{ℕ, Bool, ◌==◌, List, map}
use Rattle.std.specs.List.{list_any}
use Rattle.acta_table.specs.declared.event.OpNo.{OpNo}
use Rattle.acta_table.specs.Numbered.{ascending}

-- the numbers of the operations
abbrev pub numbers_of : List OpNo → List ℕ
numbers_of ops = map (λ o. o.0) ops

-- the operations with these numbers
abbrev pub numbered : List ℕ → List OpNo
numbered ns = map (λ n. record { 0 = n }) ns

-- the operations in ascending order, each once
abbrev pub each_once : List OpNo → List OpNo
each_once ops = numbered (ascending (numbers_of ops))

-- whether the set contains operation n
abbrev pub is_named : List OpNo → ℕ → Bool
is_named ops n = list_any (λ o. o.0 == n) ops
