-- The edges that are formed when one transaction starts another.
use Rattle.std.specs.Prelude.{ℕ, Bool, ◌&&◌, ◌==◌, List, [], ◌∷◌, filter, flat_map, map}
use Rattle.std.specs.List.{list_any}
use Rattle.std.specs.declared.cmp.Ordering.{Ordering}
use Rattle.std.specs.Ordering.{nat_cmp, ordering_then}
use Rattle.acta_table.specs.declared.event.TxnId.{TxnId}
use Rattle.acta_table.specs.declared.dep.Dep.{Dep}
use Rattle.acta_table.specs.declared.dep.Edge.{Edge}
use Rattle.acta_table.specs.declared.start_edges.Dependent.{Dependent}
use Rattle.acta_table.specs.declared.start_edges.Dependent.TheVariants.{Starter, Started}
use Rattle.acta_table.specs.declared.start_edges.StartEdge.{StartEdge}
use Rattle.acta_table.specs.Dependencies.{code_of, all_kinds}
use Rattle.acta_table.specs.Edges.{same_kind}

-- the order of directions: the starting transaction's edge comes first
abbrev pub rank_of : Dependent → ℕ
rank_of Starter = 0
rank_of Started = 1

-- whether two start edges are equal
abbrev pub same_start_edge : StartEdge → StartEdge → Bool
same_start_edge e f = same_kind e.kind f.kind && (rank_of e.dependent == rank_of f.dependent)

-- the order of start edges: by kind code, then the starter's first
abbrev pub start_edge_cmp : StartEdge → StartEdge → Ordering
start_edge_cmp e f =
    ordering_then
    (nat_cmp (code_of e.kind) (code_of f.kind))
    (nat_cmp (rank_of e.dependent) (rank_of f.dependent))

-- both start edges of a kind
abbrev pub both_of : Dep → List StartEdge
both_of kind =
    (record { kind = kind; dependent = Starter }) ∷ (record { kind = kind; dependent = Started }) ∷ []

-- whether the start edge is in the list
abbrev pub is_listed : List StartEdge → StartEdge → Bool
is_listed edges e = list_any (same_start_edge e) edges

-- the start edges in order, each once
abbrev pub each_start_edge_once : List StartEdge → List StartEdge
each_start_edge_once edges = filter (is_listed edges) (flat_map both_of all_kinds)

-- the edge of this kind between the starting and the started transaction
abbrev pub directed : Dep → TxnId → TxnId → Dependent → Edge
directed kind starter started Starter = record { kind = kind; j = starter; i = started }
directed kind starter started Started = record { kind = kind; j = started; i = starter }

-- the edge that a start edge forms
abbrev pub edge_between : TxnId → TxnId → StartEdge → Edge
edge_between starter started e = directed e.kind starter started e.dependent

-- the edges that start edges form
abbrev pub edges_between : TxnId → TxnId → List StartEdge → List Edge
edges_between starter started edges = map (edge_between starter started) edges
