use Rattle.std.proofs.Common.{Vec, arith, ◌≡◌, ℕ, ◌<◌, ◌==◌, List, [], ◌∷◌, ◌++◌, map, get_or, set, length, ap, ◌∙◌, Result, Ok, Err}
use Rattle.std.specs.Prelude.{if◌then◌else◌, OnErr}
use Rattle.std.proofs.lemmas.Bool.Decides.{nat_tests}
use Rattle.std.proofs.lemmas.Grind.{common_steps}
use Rattle.std.proofs.lemmas.List.{append-nil, length-map, get_or-map, get_or-set_same, get_or-set_other, map-set}
use Rattle.acta_axioms.proofs.groups.Groups.put.Goals as goal

-- lists seen through f, with one more item in one of them
put-there : {X Y : Type 0} (f : X → List Y) (xs : List X) (i u : ℕ) (v w : X) (y : Y) → i < length xs → v ≡ get_or xs i v → f w ≡ f v ++ y ∷ []
    → get_or (map f (set xs i w)) u [] ≡ get_or (map f xs) u [] ++ (if i == u then y ∷ [] else [])
put-there f xs i u v w y within is grown =
    let long = length-map xs f in
    let after = map-set f xs i w in
    let own = get_or-map f xs i v [] within in
    grind (arith, common_steps, nat_tests, after, long, own, append-nil, get_or-set_same, get_or-set_other)

-- and if none of them is changed
put-nowhere : {X Y : Type 0} (f : X → List Y) (xs : List X) (i u : ℕ) (v w : X) → i < length xs → v ≡ get_or xs i v → f w ≡ f v → get_or (map f (set xs i w)) u [] ≡ get_or (map f xs) u []
put-nowhere f xs i u v w within is same =
    let long = length-map xs f in
    let after = map-set f xs i w in
    let own = get_or-map f xs i v [] within in
    grind (arith, common_steps, nat_tests, after, long, own, get_or-set_same, get_or-set_other)

on_err : {T E P : Type 0} (r : Result T E) → P → OnErr r P
on_err (Ok value) p = tt
on_err (Err error) p = p

pub returns-clause-ok : goal.returns-clause-ok
returns-clause-ok g c =
    λ u.
    put-there (λ (list : Vec g.row.T.Denot g.row.A.Denot). list.items) c.self.inside.lists.items c.from.result u c.index_mut-list.result.now c.push.new.self c.args.item
    (omega (arith, c.in_ok-make_room.ensures.room, ap (length {A = List g.row.T.Denot}) c.self.view_is, length-map c.self.inside.lists.items (λ (list : Vec g.row.T.Denot g.row.A.Denot). list.items)))
    c.index_mut-list.ensures.value c.in_ok-push.ensures.items
    ∙ (λ i. get_or (c.self.view_is i) u [] ++ (if c.from.ensures i == u then c.args.item ∷ [] else []))
    ∙ ap (λ items. items ++ (if c.args.t.0 == u then c.args.item ∷ [] else [])) (c.in_ok-make_room.ensures.same u)

pub returns-in_err-push-clause-err : goal.returns-in_err-push-clause-err
returns-in_err-push-clause-err g c =
    on_err c.from_residual-in_err-push.result
    (λ u.
    put-nowhere (λ (list : Vec g.row.T.Denot g.row.A.Denot). list.items) c.self.inside.lists.items c.from.result u c.index_mut-list.result.now c.push.new.self
    (omega (arith, c.in_ok-make_room.ensures.room, ap (length {A = List g.row.T.Denot}) c.self.view_is, length-map c.self.inside.lists.items (λ (list : Vec g.row.T.Denot g.row.A.Denot). list.items)))
    c.index_mut-list.ensures.value c.in_err-push.ensures.items
    ∙ (λ i. get_or (c.self.view_is i) u [])
    ∙ c.in_ok-make_room.ensures.same u)
