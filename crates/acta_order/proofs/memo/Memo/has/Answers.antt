use Rattle.std.proofs.Common.{◌∷◌, List, subst}
use Rattle.std.specs.Prelude.{IfSome}
use Rattle.std.specs.List.{Contains}
use Rattle.acta_order.specs.declared.memo.Entry.{Entry}
use Rattle.acta_order.specs.Memos.{IsShared}
use Rattle.acta_order.specs.Remembered.{Remembered, Common}
use Rattle.acta_order.proofs.Remembering.{contains-state}
use Rattle.acta_order.proofs.memo.Memo.has.Goals as goal

pub returns-in-Some : goal.returns-in-Some
returns-in-Some g c = λ yes.
    let b = c.self.inside in
    let rest = c.args.rest.now in
    let changes = c.args.changes.now in
    let found = subst (λ o. IfSome o (IsShared c.deref.result.now rest changes)) c.in-Some.is c.in_ok-shared.ensures in
    let is : IsShared b.shared.items rest changes c.in-Some.shared = subst (λ (xs : List (Common g.row.A.Denot)). IsShared xs rest changes c.in-Some.shared) c.deref.ensures.value found in
    let there : Contains b.entries.items (record { word = c.args.word; shared = c.in-Some.shared }) = subst (λ (xs : List Entry). Contains xs (record { word = c.args.word; shared = c.in-Some.shared })) c.deref-in-Some.ensures.value (c.has_entry.ensures yes) in
    subst (λ (xs : List (Remembered g.row.A.Denot)). Contains xs (record { words = c.args.word ∷ rest; changes = changes })) c.self.view_is
    (contains-state b.shared.items b.entries.items c.args.word c.in-Some.shared rest changes is there)
