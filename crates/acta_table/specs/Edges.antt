-- The edges in force, in order of forming.
use Rattle.std.specs.Prelude.{Bool, ◌&&◌, ◌==◌, List, [], ◌∷◌, ◌++◌, fold, if◌then◌else◌}
use Rattle.std.specs.List.{list_any}
use Rattle.acta_table.specs.declared.dep.Dep.{Dep}
use Rattle.acta_table.specs.declared.dep.Edge.{Edge}
use Rattle.acta_table.specs.Dependencies.{code_of}

-- whether two kinds are equal
abbrev pub same_kind : Dep → Dep → Bool
same_kind k l = code_of k == code_of l

-- whether two edges are equal
abbrev pub same_edge : Edge → Edge → Bool
same_edge e f = same_kind e.kind f.kind && (e.j.0 == f.j.0) && (e.i.0 == f.i.0)

-- whether the edge is in the list
abbrev pub is_among : List Edge → Edge → Bool
is_among edges e = list_any (same_edge e) edges

-- the edges with one more, unless it is already in force
abbrev pub with_edge : List Edge → Edge → List Edge
with_edge edges e = if is_among edges e then edges else edges ++ e ∷ []

-- the edges with those of the list appended that are not yet in force, in order, each once
abbrev pub formed : List Edge → List Edge → List Edge
formed edges more = fold with_edge edges more
