-- Edges in a set that preserves the order of insertion.
use Rattle.std.proofs.Common.{if◌then◌else◌, ◌≡◌, Bool, true, false, ◌&&◌, ◌==◌, List, [], ◌∷◌, ◌++◌, refl, ap, ◌∙◌}
use Rattle.std.specs.List.{list_any}
use denote.Enum.Bare.{sameb}
use denote.Enum.Declared.{tag_of}
use lib.Dec.{eqb}
use Rattle.acta_table.specs.contracts.dep.Dep.{the_type}
use Rattle.acta_table.specs.contracts.dep.EdgePartialEq.TheImpl.{eq-value}
use Rattle.acta_table.specs.declared.dep.Dep.{Dep}
use Rattle.acta_table.specs.declared.dep.Dep.TheVariants.{Cd, Scd, Ad, Wd, Td, Ed, Cmd, Bd, Sd, Bcd, Bad, Wcd}
use Rattle.acta_table.specs.declared.dep.Edge.{Edge}
use Rattle.acta_table.specs.Dependencies.{code_of}
use Rattle.acta_table.specs.Edges.{same_kind, same_edge, is_among, with_edge}

-- the code of a kind is the position of its variant
pub tagged : (k : Dep) → tag_of the_type k ≡ code_of k
tagged Cd = refl
tagged Scd = refl
tagged Ad = refl
tagged Wd = refl
tagged Td = refl
tagged Ed = refl
tagged Cmd = refl
tagged Bd = refl
tagged Sd = refl
tagged Bcd = refl
tagged Bad = refl
tagged Wcd = refl

kinds-same : (k l : Dep) → sameb the_type k l ≡ same_kind k l
kinds-same k l i = eqb (tagged k i) (tagged l i)

in_turn : (a b c : Bool) → (a && (b && c)) ≡ (a && b && c)
in_turn true b c = refl
in_turn false b c = refl

-- the edges are the same where the set finds them equal
edges-same : (e f : Edge) → (eq-value).it e f ≡ same_edge e f
edges-same e f = ap (λ b. b && ((e.j.0 == f.j.0) && (e.i.0 == f.i.0))) (kinds-same e.kind f.kind) ∙ in_turn (same_kind e.kind f.kind) (e.j.0 == f.j.0) (e.i.0 == f.i.0)

-- membership after one more insertion
pub form-edge : (es : List Edge) (e : Edge) → (if list_any ((eq-value).it e) es then es else es ++ e ∷ []) ≡ with_edge es e
form-edge es e i = if list_any (λ f. edges-same e f i) es then es else es ++ e ∷ []

-- whether the set has the edge
pub has-edge : (es : List Edge) (e : Edge) → list_any ((eq-value).it e) es ≡ is_among es e
has-edge es e i = list_any (λ f. edges-same e f i) es
