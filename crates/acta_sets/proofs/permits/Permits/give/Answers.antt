use Rattle.std.specs.Prelude.{◌≤◌, Result, Ok, Err, OnErr}
use Rattle.std.proofs.Common.{arith, ap, ◌∙◌}
use Rattle.acta_sets.specs.Permits.{permitted, with_permit}
use Rattle.acta_sets.proofs.Permitting.{permitted-same, permitted-more, AreMirrored-more}
use Rattle.acta_sets.proofs.permits.Permits.give.Goals as goal

on_err : {T E P : Type 0} (r : Result T E) → P → OnErr r P
on_err (Ok x) p = tt
on_err (Err e) p = p

pub returns-in_err-add-2-clause-err : goal.returns-in_err-add-2-clause-err
returns-in_err-add-2-clause-err g c = on_err c.from_residual-in_err-add-2.result (permitted-same c.self.inside.taken.items c.add-2.new.table.items c.in_err-add-2.ensures.err ∙ ap permitted c.self.view_is)

pub invariant_of-self-2 : goal.invariant_of-self-2
invariant_of-self-2 g c =
    let small : c.args.h.0 ≤ 65535 = omega arith in
    record {
      mirrored = AreMirrored-more c.self.inside.taken.items c.add-2.new.table.items c.self.inside.given.items c.add.new.table.items c.args.h.0 c.args.t.0 c.args.ob.0
          small c.in_ok-add-2.ensures.ok c.in_ok-add.ensures.ok c.self.invariant.mirrored;
      few = c.add-2.ensures.few c.self.invariant.few;
    }

pub returns-clause-ok : goal.returns-clause-ok
returns-clause-ok g c =
    permitted-more c.self.inside.taken.items c.add-2.new.table.items c.args.h.0 c.args.t.0 c.args.ob.0 c.in_ok-add-2.ensures.ok
    ∙ ap (λ p. with_permit (permitted p) c.args.h.0 c.args.t.0 c.args.ob.0) c.self.view_is
