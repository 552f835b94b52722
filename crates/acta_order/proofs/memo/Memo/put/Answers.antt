use Rattle.std.proofs.Common.{◌∷◌, [], ◌++◌, ◌∙◌, List, sym, ap, subst, inl, inr}
use Rattle.std.specs.Prelude.{IfSome}
use Rattle.acta_order.specs.declared.memo.Entry.{Entry}
use Rattle.acta_order.specs.Memos.{IsShared}
use Rattle.acta_order.specs.Remembered.{Remembered, AreShared}
use Rattle.acta_order.proofs.Remembering.{remembered-grown, shared-grown, shared-more, put-more}
use Rattle.acta_order.proofs.memo.Memo.put.Goals as goal

pub invariant_of-self : goal.invariant_of-self
invariant_of-self g c = shared-grown c.self.inside.shared.items c.share.new.shared.items c.self.inside.entries.items c.share.ensures.grows c.self.invariant

pub invariant_of-self-in_default : goal.invariant_of-self-in_default
invariant_of-self-in_default g c = shared-grown c.self.inside.shared.items c.share.new.shared.items c.self.inside.entries.items c.share.ensures.grows c.self.invariant

pub invariant_of-self-then-place : goal.invariant_of-self-then-place
invariant_of-self-then-place g c = shared-grown c.self.inside.shared.items c.share.new.shared.items c.self.inside.entries.items c.share.ensures.grows c.self.invariant

pub invariant_of-self-in_err-put : goal.invariant_of-self-in_err-put
invariant_of-self-in_err-put g c = shared-grown c.self.inside.shared.items c.share.new.shared.items c.self.inside.entries.items c.share.ensures.grows c.self.invariant

pub returns-in_default : goal.returns-in_default
returns-in_default g c = inl (remembered-grown c.self.inside.shared.items c.share.new.shared.items c.self.inside.entries.items c.share.ensures.grows c.self.invariant ∙ c.self.view_is)

pub returns-then-place : goal.returns-then-place
returns-then-place g c = inl (remembered-grown c.self.inside.shared.items c.share.new.shared.items c.self.inside.entries.items c.share.ensures.grows c.self.invariant ∙ c.self.view_is)

pub invariant_of-self-in_err-push : goal.invariant_of-self-in_err-push
invariant_of-self-in_err-push g c =
    subst (λ (es : List Entry). AreShared c.share.new.shared.items es) (sym c.in_err-push.ensures.items)
    (shared-grown c.self.inside.shared.items c.share.new.shared.items c.self.inside.entries.items c.share.ensures.grows c.self.invariant)

pub invariant_of-self-2 : goal.invariant_of-self-2
invariant_of-self-2 g c =
    let is : IsShared c.share.new.shared.items c.args.rest.items c.args.changes.items c.in-Some.shared = subst (λ o. IfSome o (IsShared c.share.new.shared.items c.args.rest.items c.args.changes.items)) c.in-Some.is c.in_ok-shared.ensures.there in
    subst (λ (es : List Entry). AreShared c.share.new.shared.items es) (sym c.in_ok-push.ensures.items)
    (shared-more c.share.new.shared.items c.self.inside.entries.items (record { word = c.args.word; shared = c.in-Some.shared }) (shared-grown c.self.inside.shared.items c.share.new.shared.items c.self.inside.entries.items c.share.ensures.grows c.self.invariant) is.within)

pub returns : goal.returns
returns g c =
    let is : IsShared c.share.new.shared.items c.args.rest.items c.args.changes.items c.in-Some.shared = subst (λ o. IfSome o (IsShared c.share.new.shared.items c.args.rest.items c.args.changes.items)) c.in-Some.is c.in_ok-shared.ensures.there in
    inr
    (put-more c.self.inside.shared.items c.share.new.shared.items c.self.inside.entries.items c.push.new.self.items c.args.word c.in-Some.shared c.args.rest.items c.args.changes.items c.share.ensures.grows c.self.invariant is c.in_ok-push.ensures.items
    ∙ ap (λ (xs : List (Remembered g.row.A.Denot)). xs ++ (record { words = c.args.word ∷ c.args.rest.items; changes = c.args.changes.items }) ∷ []) c.self.view_is)
