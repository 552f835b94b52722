use Rattle.std.proofs.Common.{◌≡◌, ◌∙◌, ap, sym, rules, List, length, ◌<◌, get_or}
use Rattle.std.specs.Prelude.{Err}
use Rattle.std.specs.List.Sorted.{IsBinarySearchResult}
use Rattle.std.specs.Ordering.{nat_cmp}
use Rattle.std.proofs.lemmas.List.Sorted.{answers_always}
use Rattle.acta_values.specs.declared.trail.Numbered.{Numbered}
use Rattle.acta_values.specs.Trails.{without}
use Rattle.acta_values.proofs.Trails.{removed_at, found_at, found_none, ascending_without}
use Rattle.acta_values.proofs.trail.Trail.remove.Goals as goal

removed : (g : _) (c : goal.After-remove g) → c.remove.new.self.items ≡ without c.args.number c.self.inside.items.items
removed g c =
    let at = c.in-Ok.ensures.position (λ x. x.number) (answers_always _ _ _ (λ f a r h called. search rules)) in
    let within : c.in-Ok.place < length c.self.inside.items.items = rw (← c.deref.ensures.value) c.in-Ok.ensures.bound in
    let here : (get_or c.self.inside.items.items c.in-Ok.place c.remove.result).number ≡ c.args.number = rw (← c.deref.ensures.value) (found_at _ c.args.number c.in-Ok.place c.remove.result at) in
    c.remove.ensures.items
    ∙ removed_at c.args.number c.self.inside.items.items c.in-Ok.place c.remove.result c.self.invariant within here

pub invariant_of-self : goal.invariant_of-self
invariant_of-self g c = rw (removed g c) (ascending_without c.args.number _ c.self.invariant)

pub returns-in-Ok : goal.returns-in-Ok
returns-in-Ok g c = removed g c ∙ ap (λ (xs : List (Numbered _)). without c.args.number xs) c.self.view_is

pub returns-in_default : goal.returns-in_default
returns-in_default g c =
    let at = c.in_default.ensures.position (λ x. x.number) (answers_always _ _ _ (λ f a r h called. search rules)) in
    let there : IsBinarySearchResult (λ (x : Numbered _). nat_cmp x.number c.args.number) c.self.inside.items.items (Err c.in_default.field-0) = rw (← c.deref.ensures.value) at in
    sym c.self.view_is ∙ sym (found_none c.self.inside.items.items c.args.number c.in_default.field-0 c.self.invariant there) ∙ ap (λ (xs : List (Numbered _)). without c.args.number xs) c.self.view_is
