-- Declarations by name, in order.
use Rattle.std.specs.Prelude.{ℕ, List, map}
use Rattle.std.specs.declared.hash.BuildHasherDefault.{BuildHasherDefault}
use Rattle.std.specs.declared.hash.FoldHasher.{FoldHasher}
use Rattle.indexmap.specs.IndexMap.{IndexMap, keys}
use denote.Ref.{Bor}

-- the names, in order
abbrev pub names_in : {V : Type 0} → IndexMap (Bor (List ℕ)) V (BuildHasherDefault FoldHasher) → List (List ℕ)
names_in m = map (λ name. name.now) (keys m)
