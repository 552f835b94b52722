use Rattle.std.proofs.Common.{◌||◌, List, ℕ, ap, sym, ◌∙◌}
use Rattle.std.specs.List.{list_any}
use Rattle.std.specs.Ordering.{nat_cmp}
use Rattle.std.specs.BTreeMap.{is_at}
use Rattle.acta_axioms.specs.Permits.{is_permitted}
use Rattle.acta_axioms.proofs.Searches.{in-exempt}
use Rattle.acta_axioms.proofs.walk.Walk.is_exempt.Goals as goal

pub returns-then-contains : goal.returns-then-contains
returns-then-contains g c =
    c.if-contains.true
    ∙ ap (λ b. b || is_permitted c.args.self.now.front c.args.u.0 c.args.t.0 c.args.object.0)
    (sym c.if-contains.true ∙ c.contains.ensures
    ∙ ap (λ (keys : List ℕ). list_any (is_at (nat_cmp c.args.u.0)) keys) c.requires
    ∙ in-exempt c.args.self.now.model c.args.self.now.front c.args.t.0 c.args.u.0)

pub returns-else-contains : goal.returns-else-contains
returns-else-contains g c =
    c.is_permitted.ensures
    ∙ ap (λ b. b || is_permitted c.args.self.now.front c.args.u.0 c.args.t.0 c.args.object.0)
    (sym c.if-contains.false ∙ c.contains.ensures
    ∙ ap (λ (keys : List ℕ). list_any (is_at (nat_cmp c.args.u.0)) keys) c.requires
    ∙ in-exempt c.args.self.now.model c.args.self.now.front c.args.t.0 c.args.u.0)
