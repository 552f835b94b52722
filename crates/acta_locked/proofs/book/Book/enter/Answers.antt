use Rattle.std.proofs.Common.{rules, ◌≡◌, length}
use Rattle.acta_locked.proofs.Growing.{take-kept, take-adds}
use Rattle.acta_locked.proofs.book.Book.enter.Goals as goal

pub invariant_of-self-2 : goal.invariant_of-self-2
invariant_of-self-2 g c =
    let s = c.self.inside.machine in
    let es = c.self.inside.entries.items in
    let counted : c.len.result ≡ length es = search rules in
    take-kept s c.take.new.self es c.reserve.new.self.items c.push.new.self.items c.len.result c.args.seat c.args.event.now c.in_ok-copied.copied c.in_ok-answer.answer counted
    c.in_ok-copied.ensures c.in_ok-answer.ensures.answer c.in_ok-answer.ensures.ok
    c.in_ok-reserve.ensures.items c.in-Ok.ensures.items
    c.self.invariant c.args.self.now c.self.view_is c.requires.room c.take.ensures.follows

pub returns-clause-ok : goal.returns-clause-ok
returns-clause-ok g c =
    let s = c.self.inside.machine in
    let es = c.self.inside.entries.items in
    let counted : c.len.result ≡ length es = search rules in
    take-adds s c.take.new.self es c.reserve.new.self.items c.push.new.self.items c.len.result c.args.seat c.args.event.now c.in_ok-copied.copied c.in_ok-answer.answer counted
    c.in_ok-copied.ensures c.in_ok-answer.ensures.answer c.in_ok-answer.ensures.ok
    c.in_ok-reserve.ensures.items c.in-Ok.ensures.items
    c.self.invariant c.args.self.now c.self.view_is

pub returns-clause-run : goal.returns-clause-run
returns-clause-run g c =
    let s = c.self.inside.machine in
    let es = c.self.inside.entries.items in
    let counted : c.len.result ≡ length es = search rules in
    let kept =
    take-kept s c.take.new.self es c.reserve.new.self.items c.push.new.self.items c.len.result c.args.seat c.args.event.now c.in_ok-copied.copied c.in_ok-answer.answer counted
    c.in_ok-copied.ensures c.in_ok-answer.ensures.answer c.in_ok-answer.ensures.ok
    c.in_ok-reserve.ensures.items c.in-Ok.ensures.items
    c.self.invariant c.args.self.now c.self.view_is c.requires.room c.take.ensures.follows in
    kept.run
