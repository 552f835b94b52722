use Rattle.std.proofs.Common.{◌≡◌, ◌+◌, ◌==◌, ◌&&◌, ap, ◌∙◌, sym, subst, true, false, Option, Some, None, is_none, length, drop, get_or, List}
use Rattle.std.proofs.lemmas.Bool.Decides.{Decides-ltb}
use Rattle.acta_script.specs.declared.programs.ProgramLine.{ProgramLine}
use Rattle.acta_explore.specs.declared.point.Done.{Done}
use Rattle.acta_explore.specs.Programs.{next_from}
use Rattle.acta_explore.proofs.Looping.{next-at, next-past, next-short, not-less}
use Rattle.acta_explore.proofs.plan.Plan.next_line.Goals as goal

pub loop-line-preserved : goal.loop-line-preserved
loop-line-preserved g c =
    let n = c.loop-line.line in
    let at = c.in-Some.ensures.lookup in
    let e = ap (λ (d : Option Done). ((get_or c.self.inside.lines.now n c.index-self-line.result).seat == c.args.seat) && is_none d) (sym at.1) ∙ (sym c.is_next.ensures ∙ c.if-is_next.false) in
    let step = next-at n c.args.seat c.self.inside.lines.now c.args.done.now c.index-self-line.result c.in-Some.did.now false c.loop-line-test.true ((Decides-ltb n (length c.args.done.now)).0 (sym at.0)) e in
    c.loop-line.invariant ∙ subst (λ (ls : List (ProgramLine _)). next_from n (drop n ls) (drop n c.args.done.now) c.args.seat ≡ next_from (n + 1) (drop (n + 1) ls) (drop (n + 1) c.args.done.now) c.args.seat) c.self.view_is step

pub returns-then-is_next : goal.returns-then-is_next
returns-then-is_next g c =
    let n = c.loop-line.line in
    let at = c.in-Some.ensures.lookup in
    let e = ap (λ (d : Option Done). ((get_or c.self.inside.lines.now n c.index-self-line.result).seat == c.args.seat) && is_none d) (sym at.1) ∙ (sym c.is_next.ensures ∙ c.if-is_next.true) in
    let step = next-at n c.args.seat c.self.inside.lines.now c.args.done.now c.index-self-line.result c.in-Some.did.now true c.loop-line-test.true ((Decides-ltb n (length c.args.done.now)).0 (sym at.0)) e in
    sym (c.loop-line.invariant ∙ subst (λ (ls : List (ProgramLine _)). next_from n (drop n ls) (drop n c.args.done.now) c.args.seat ≡ Some n) c.self.view_is step)

pub returns-in_default : goal.returns-in_default
returns-in_default g c = sym (c.loop-line.invariant ∙ next-short c.loop-line.line c.args.seat c.args.self.now c.args.done.now (not-less c.loop-line.line (length c.args.done.now) (sym c.in_default.ensures.lookup.0)))

pub returns : goal.returns
returns g c =
    let n = c.loop-line.line in
    sym (c.loop-line.invariant ∙ subst (λ (ls : List (ProgramLine _)). next_from n (drop n ls) (drop n c.args.done.now) c.args.seat ≡ None) c.self.view_is (next-past n c.args.seat c.self.inside.lines.now c.args.done.now c.loop-line-test.false))
