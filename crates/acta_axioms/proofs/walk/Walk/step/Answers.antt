use Rattle.std.proofs.Common.{List, ◌++◌, drop, subst, take, ◌≡◌, ◌<◌, ◌+◌, length, get_or, sym, ap, arith, ◌∙◌}
use Rattle.std.specs.Prelude.{slice_get}
use Rattle.std.specs.List.{All}
use Rattle.std.specs.Option.{option_copied}
use Rattle.acta_table.specs.Edges.{formed}
use Rattle.acta_table.specs.Events.{named}
use Rattle.acta_axioms.specs.declared.txn_record.TxnRecord.{TxnRecord}
use Rattle.acta_axioms.specs.Edges.{formed_by}
use Rattle.acta_axioms.specs.inside.TxnRecords.{unbegun, begun_in, ended_in, is_late, further, heir_in}
use Rattle.acta_axioms.specs.inside.Walking.{permits_after, AreRemembered, IsKept}
use Rattle.acta_sets.specs.Permits.{permitted}
use Rattle.acta_sets.specs.Lineages.{Lineage}
use Rattle.acta_values.specs.Stores.{Stored}
use Rattle.std.proofs.lemmas.List.{length-take}
use Rattle.acta_axioms.proofs.Bringing.{few-operations}
use Rattle.acta_axioms.proofs.Tables.{written_back}
use Rattle.acta_axioms.proofs.Walking.{IsNext, next-item, shown-more, kept-more}
use Rattle.acta_axioms.proofs.walk.Walk.step.Goals as goal

pub note-requires : goal.note-requires
note-requires g c =
    let h = c.self.inside.kept.now in
    let n = c.self.inside.taken in
    let k = c.in-Some.item.now in
    let next : IsNext h n k = next-item h n k (ap (λ w. slice_get w.ahead 0) c.self.view_is ∙ sym c.next.ensures ∙ ap option_copied c.in-Some.is) in
    let here : All (λ t. t < length c.self.inside.lines.items) (named k.event) =
    subst (λ q. All (λ t. t < length c.self.inside.lines.items) (named q.event)) (sym next.here) (c.self.invariant.wide n k next.within) in
    subst (λ rows. All (λ t. t < length rows) (named k.event)) (sym c.as_mut_slice.ensures.value) here

pub invariant_of-self-2 : goal.invariant_of-self-2
invariant_of-self-2 g c =
    let m = c.self.inside.model.now in
    let h = c.self.inside.kept.now in
    let n = c.self.inside.taken in
    let k = c.in-Some.item.now in
    let lines = c.self.inside.lines.items in
    let store = c.self.inside.store in
    let es = c.self.inside.edges.keys in
    let ps = permitted c.self.inside.permits in
    let next : IsNext h n k = next-item h n k (ap (λ w. slice_get w.ahead 0) c.self.view_is ∙ sym c.next.ensures ∙ ap option_copied c.in-Some.is) in
    let lent = c.as_mut_slice.ensures.value in
    let long : length c.note.new.lines ≡ length lines = c.note.ensures.long ∙ ap length lent in
    let back = written_back c.self.inside.lines.len c.note.new.lines lines long (omega (arith, c.self.inside.lines.ok.0)) in
    let due = c.in_ok-due.ensures ∙ sym (ap (λ w. formed_by w.model w.front k.event) c.self.view_is) in
    let rows = take c.self.inside.lines.len (c.note.new.lines ++ drop (length c.note.new.lines) lines) in
    let lineage : c.go_on.new.store.lineage ≡ store.lineage = ap (λ (s : Stored). s.lineage) c.in_ok-go_on.ensures.brought in
    subst (λ (s : Stored). IsKept m h (n + 1) rows s c.go_on.new.edges.keys (permitted c.go_on.new.permits)) (sym c.remember.ensures.others)
    (kept-more m h n k lines rows store c.go_on.new.store es c.go_on.new.edges.keys ps (permitted c.go_on.new.permits) c.heir_of.result c.remember.new.store.lineage next c.self.invariant
    (c.in_ok-go_on.ensures.formed ∙ ap (formed es) (c.as_slice-3.ensures.value ∙ due))
    (c.heir_of.ensures ∙ ap (λ rows. heir_in m rows k.event) c.as_slice.ensures.value)
    c.in_ok-go_on.ensures.brought
    (c.in_ok-go_on.ensures.permitted ∙ ap (λ b. permits_after b k.event ps) (c.is_late.ensures ∙ ap (λ rows. is_late (ended_in rows) k.event) c.as_slice-2.ensures.value))
    (ap length back ∙ long)
    (λ t. ap (λ rows. get_or rows t unbegun) back ∙ c.note.ensures.further t ∙ ap (λ rows. further (n + 1) (begun_in rows) k.event t (get_or rows t unbegun)) lent)
    (subst (λ (l : Lineage). AreRemembered l c.remember.new.store.lineage rows k.event) lineage
    (subst (λ (found : List TxnRecord). AreRemembered c.go_on.new.store.lineage c.remember.new.store.lineage found k.event) c.as_slice-4.ensures.value c.remember.ensures.remembered))
    (let most = c.remember.ensures.most in let same = ap (λ (l : Lineage). l.most) lineage in omega (arith, most, same)))

pub returns-clause-ok : goal.returns-clause-ok
returns-clause-ok g c =
    let h = c.self.inside.kept.now in
    let n = c.self.inside.taken in
    let k = c.in-Some.item.now in
    let next : IsNext h n k = next-item h n k (ap (λ w. slice_get w.ahead 0) c.self.view_is ∙ sym c.next.ensures ∙ ap option_copied c.in-Some.is) in
    shown-more c.self.inside.model.now h n k c.args.self.now next c.self.view_is

pub go_on-requires : goal.go_on-requires
go_on-requires g c =
    let m = c.self.inside.model.now in
    let h = c.self.inside.kept.now in
    let n = c.self.inside.taken in
    let k = c.in-Some.item.now in
    let next : IsNext h n k = next-item h n k (ap (λ w. slice_get w.ahead 0) c.self.view_is ∙ sym c.next.ensures ∙ ap option_copied c.in-Some.is) in
    let long = ap length c.self.invariant.items_are in
    omega (arith, long, few-operations m (take n h), length-take n h, next.within, c.self.invariant.few)
