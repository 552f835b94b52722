use Rattle.std.specs.Prelude.{◌≡◌, ◌<◌, ◌+◌, suc, List, length, get_or, set, Some, true, false}
use Rattle.std.proofs.Common.{rules, refl, ap, sym, subst, ◌∙◌, arith}
use Rattle.acta_sets.specs.declared.lineage.Entry.{Entry}
use Rattle.acta_sets.specs.Lineages.{Lineage, depth_in, is_in_line, IsStill, unknown}
use Rattle.acta_sets.proofs.Lineages.{well-founded-more, still-more}
use Rattle.acta_sets.proofs.lineage.Lineage.link.Goals as goal

pub invariant_of-self-2 : goal.invariant_of-self-2
invariant_of-self-2 g c =
    let old : Lineage = record { entries = c.self.inside.entries.items; most = c.self.inside.most } in
    let has_parent : c.args.parent.0 < length c.lengthen.new.items.items = search rules in
    let has_child : c.args.t.0 < length c.lengthen.new.items.items = search rules in
    let free : (get_or old.entries c.args.t.0 unknown).is_known ≡ false = ap (λ (l : Lineage). (get_or l.entries c.args.t.0 unknown).is_known) c.self.view_is ∙ c.requires.unknown in
    let entry : c.entry_at-above.result ≡ get_or c.lengthen.new.items.items c.args.parent.0 unknown = c.entry_at-above.ensures ∙ ap (λ (es : List Entry). get_or es c.args.parent.0 unknown) c.deref.ensures.value in
    let deep : c.depth-depth.result + 1 ≡ suc (depth_in old c.args.parent.0) =
    let is = subst (λ (l : Lineage). c.depth-depth.result ≡ depth_in l c.args.parent.0) (sym c.self.view_is) c.depth-depth.ensures.depth in omega (arith, is) in
    let jump : is_in_line old c.jump_from-jump.result c.args.parent.0 ≡ true = subst (λ (l : Lineage). is_in_line l c.jump_from-jump.result c.args.parent.0 ≡ true) (sym c.self.view_is) c.jump_from-jump.ensures in
    well-founded-more old _ c.args.t.0 c.args.parent c.lengthen.new.items.items c.self.invariant free c.requires.other has_parent has_child c.lengthen.ensures.same c.entry_at-above.result entry (c.depth-depth.result + 1) deep c.jump_from-jump.result jump refl (search rules)

pub returns-clause-still : goal.returns-clause-still
returns-clause-still g c =
    let old : Lineage = record { entries = c.self.inside.entries.items; most = c.self.inside.most } in
    let e = c.entry_at-above.result in
    let new : Lineage = record { entries = set (set c.lengthen.new.items.items c.args.parent.0 (record { parent = e.parent; depth = e.depth; jump = e.jump; is_known = true })) c.args.t.0 (record { parent = Some c.args.parent; depth = c.depth-depth.result + 1; jump = c.jump_from-jump.result; is_known = true }); most = c.in-Some.most } in
    let has_parent : c.args.parent.0 < length c.lengthen.new.items.items = search rules in
    let has_child : c.args.t.0 < length c.lengthen.new.items.items = search rules in
    let free : (get_or old.entries c.args.t.0 unknown).is_known ≡ false = ap (λ (l : Lineage). (get_or l.entries c.args.t.0 unknown).is_known) c.self.view_is ∙ c.requires.unknown in
    let entry : e ≡ get_or c.lengthen.new.items.items c.args.parent.0 unknown = c.entry_at-above.ensures ∙ ap (λ (es : List Entry). get_or es c.args.parent.0 unknown) c.deref.ensures.value in
    let deep : c.depth-depth.result + 1 ≡ suc (depth_in old c.args.parent.0) =
    let is = subst (λ (l : Lineage). c.depth-depth.result ≡ depth_in l c.args.parent.0) (sym c.self.view_is) c.depth-depth.ensures.depth in omega (arith, is) in
    let jump : is_in_line old c.jump_from-jump.result c.args.parent.0 ≡ true = subst (λ (l : Lineage). is_in_line l c.jump_from-jump.result c.args.parent.0 ≡ true) (sym c.self.view_is) c.jump_from-jump.ensures in
    subst (λ (l : Lineage). IsStill l new) c.self.view_is
    (still-more old new c.args.t.0 c.args.parent c.lengthen.new.items.items c.self.invariant free c.requires.other has_parent has_child c.lengthen.ensures.same e entry (c.depth-depth.result + 1) deep c.jump_from-jump.result jump refl)
