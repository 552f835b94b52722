-- Sets of grants, one for each transaction.
use Rattle.std.specs.Prelude.{◌≡◌, ◌≤◌, ℕ, Bool, true, List, [], map, get_or}
use Rattle.std.specs.BTreeSet.{BTreeSet}
use Rattle.acta_table.specs.declared.event.TxnId.{TxnId}
use Rattle.acta_sets.specs.declared.grant.Grant.{Grant}
use Rattle.acta_sets.specs.declared.permit.Permit.{Permit}
use Rattle.acta_sets.specs.Permits.{has_grant}

-- the sets as lists
abbrev pub grant_lists : List (BTreeSet Grant) → List (List Grant)
grant_lists table = map (λ s. s.keys) table

-- the grants at a place; empty past the end
abbrev pub grants_at : List (BTreeSet Grant) → ℕ → List Grant
grants_at table at = get_or (grant_lists table) at []

-- whether the grant of this object with this partner is at the place
abbrev pub is_granted : List (BTreeSet Grant) → ℕ → ℕ → ℕ → Bool
is_granted table at object partner = has_grant (grants_at table at) object partner

-- the partners of grants
abbrev pub partners_of : List Grant → List TxnId
partners_of grants = map (λ g. g.partner) grants

-- the permits that these grants of a transaction stand for
abbrev pub permits_to : TxnId → List Grant → List Permit
permits_to to grants = map (λ g. record { by = g.partner; to = to; object = g.object }) grants

-- each permit received is recorded with its giver too, whose number fits 16 bits
abbrev pub AreMirrored : List (BTreeSet Grant) → List (BTreeSet Grant) → Type 0
AreMirrored taken given = record {
  back : (h t object : ℕ) → is_granted taken t object h ≡ true → is_granted given h object t ≡ true;
  small : (h t object : ℕ) → is_granted taken t object h ≡ true → h ≤ 65535;
}
