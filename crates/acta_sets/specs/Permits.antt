-- Permits: which transaction has permitted which other to work on an object.
use Rattle.std.specs.Prelude.{ℕ, Bool, false, ◌&&◌, ◌||◌, not, ◌==◌, List, [], get_or}
use Rattle.std.specs.List.{list_any}
use Rattle.std.specs.declared.cmp.Ordering.{Ordering}
use Rattle.std.specs.Ordering.{nat_cmp, ordering_then}
use Rattle.acta_table.specs.declared.event.TxnId.{TxnId}
use Rattle.acta_sets.specs.declared.grant.Grant.{Grant}
use Rattle.acta_sets.specs.declared.permit.Permit.{Permit}

-- whether h has permitted t to work on an object, for h, t and the object
abbrev pub Permitted : Type 0
Permitted = ℕ → ℕ → ℕ → Bool

-- no permits
abbrev pub none_permitted : Permitted
none_permitted h t object = false

-- the permits with one more: h permits t to work on the object
abbrev pub with_permit : Permitted → ℕ → ℕ → ℕ → Permitted
with_permit p h t object g u other = p g u other || ((h == g) && (t == u) && (object == other))

-- the permits without those that t gave or received
abbrev pub without_permits : Permitted → ℕ → Permitted
without_permits p t g u other = p g u other && not (g == t) && not (u == t)

-- whether it is the grant of this object with this partner
abbrev pub is_grant : ℕ → ℕ → Grant → Bool
is_grant object partner g = (g.object.0 == object) && (g.partner.0 == partner)

-- whether the grant of this object with this partner is in the list
abbrev pub has_grant : List Grant → ℕ → ℕ → Bool
has_grant grants object partner = list_any (is_grant object partner) grants

-- the order of grants: by object, and then by partner
abbrev pub grant_cmp : Grant → Grant → Ordering
grant_cmp g k = ordering_then (nat_cmp g.object.0 k.object.0) (nat_cmp g.partner.0 k.partner.0)

-- the order of transactions: by number
abbrev pub txn_cmp : TxnId → TxnId → Ordering
txn_cmp t u = nat_cmp t.0 u.0

-- whether it is the permit by h, to t, on the object
abbrev pub is_permit : ℕ → ℕ → ℕ → Permit → Bool
is_permit h t object p = (p.to.0 == t) && ((p.object.0 == object) && (p.by.0 == h))

-- whether the permit by h, to t, on the object is in the list
abbrev pub is_listed : List Permit → ℕ → ℕ → ℕ → Bool
is_listed permits h t object = list_any (is_permit h t object) permits

-- the order of permits: by receiver, then by object, then by giver
abbrev pub permit_cmp : Permit → Permit → Ordering
permit_cmp p q =
    ordering_then (nat_cmp p.to.0 q.to.0) (ordering_then (nat_cmp p.object.0 q.object.0) (nat_cmp p.by.0 q.by.0))

-- whether h has permitted t to work on the object, given the permits that each transaction received
unfoldable pub permitted : List (List Grant) → Permitted
permitted taken h t object = has_grant (get_or taken t []) object h
