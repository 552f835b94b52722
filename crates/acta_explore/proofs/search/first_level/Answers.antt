use Rattle.std.proofs.Common.{◌≡◌, false, List, refl, sym, subst}
use Rattle.std.specs.Prelude.{is_some}
use Rattle.std.specs.Map.{lookup}
use Rattle.acta_explore.proofs.Comparing.{key_test}
use Rattle.acta_explore.proofs.Expanding.{none-keyed}
use Rattle.acta_explore.proofs.Keying.{put-keyed}
use Rattle.acta_explore.proofs.search.first_level.Goals as goal

pub returns-clause-keyed : goal.returns-clause-keyed
returns-clause-keyed g c =
    put-keyed c.args.plan.now c.in_ok-point.point c.in_ok-key.key c.new-level.result.entries c.insert.new.self.entries (none-keyed c.args.plan.now c.new-level.result.entries c.new-level.ensures.empty) c.in_ok-key.ensures
    (subst (λ (es : List _). is_some (lookup (key_test c.in_ok-key.key) es) ≡ false) (sym c.new-level.ensures.empty) refl) c.in_ok-insert.ensures.entries
