-- The conflict policy of a class: a conflicting operation is refused, or edges are formed to the conflicting holders.
use Rattle.std.specs.Prelude.{ℕ, Bool, true, false, ◌&&◌, ◌||◌, not, List, map, filter, flat_map}
use Rattle.std.specs.List.{list_any}
use Rattle.acta_table.specs.declared.event.TxnId.{TxnId}
use Rattle.acta_table.specs.declared.dep.Dep.{Dep}
use Rattle.acta_table.specs.declared.dep.Dep.TheVariants.{Cd, Ad, Wd, Td}
use Rattle.acta_table.specs.declared.dep.Edge.{Edge}
use Rattle.acta_table.specs.declared.policy.Policy.{Policy}
use Rattle.acta_table.specs.declared.policy.Policy.TheVariants.{Refuse, Depend}
use Rattle.acta_table.specs.Dependencies.{all_kinds, has_dep}

-- whether the policy refuses
abbrev pub refuses : Policy → Bool
refuses Refuse = true
refuses _ = false

-- whether the policy forms edges of this kind
abbrev pub forms : Policy → Dep → Bool
forms Refuse kind = false
forms (Depend kinds) kind = has_dep kinds kind

-- whether a policy may form this kind: neither a start nor an earlier end can break such an edge
abbrev pub is_policy_kind : Dep → Bool
is_policy_kind Cd = true
is_policy_kind Ad = true
is_policy_kind Wd = true
is_policy_kind Td = true
is_policy_kind _ = false

-- whether the policy forms this kind although it may not
abbrev pub forms_other : Policy → Dep → Bool
forms_other policy kind = forms policy kind && not (is_policy_kind kind)

-- whether the policy neither refuses nor forms an edge, or forms a kind that it may not
abbrev pub is_bad_policy : Policy → Bool
is_bad_policy policy =
    not (refuses policy || list_any (forms policy) all_kinds) || list_any (forms_other policy) all_kinds

-- the kinds that the policy forms, by code
abbrev pub kinds_under : Policy → List Dep
kinds_under policy = filter (forms policy) all_kinds

-- the edge of this kind of t on u
abbrev pub edge_on : TxnId → ℕ → Dep → Edge
edge_on t u kind = record { kind = kind; j = t; i = record { 0 = u } }

-- the edges that the policy forms of t on u
abbrev pub edges_on : Policy → TxnId → ℕ → List Edge
edges_on policy t u = map (edge_on t u) (kinds_under policy)

-- the edges that the policy forms of t on each of these, in their order
abbrev pub edges_upon : Policy → TxnId → List ℕ → List Edge
edges_upon policy t us = flat_map (edges_on policy t) us
