use Rattle.std.specs.Prelude.{[], ◌∷◌, ◌++◌}
use Rattle.std.proofs.lemmas.Result.{on_ok_weaker, on_err_weaker}
use Rattle.acta_sets.specs.inside.Held.{list_at}
use Rattle.acta_sets.proofs.Among.{AreAmong-more, AreAmong-same, AreAmong-wider}
use Rattle.acta_sets.proofs.held.add_held.Goals as goal

pub returns-in-Ok-clause-among : goal.returns-in-Ok-clause-among
returns-in-Ok-clause-among g c =
    on_ok_weaker c.add_at.result
    (λ change. AreAmong-more c.args.held.now.items c.add_at.new.held.items c.args.holders.now.keys c.note.new.holders.keys c.args.at (list_at c.args.held.now.items c.args.at ++ c.args.op ∷ []) c.in-Ok.ensures.ok change)
    c.add_at.ensures.ok

pub returns-in-Ok-clause-still : goal.returns-in-Ok-clause-still
returns-in-Ok-clause-still g c =
    on_err_weaker c.add_at.result
    (λ same among. AreAmong-same c.args.held.now.items c.add_at.new.held.items c.note.new.holders.keys same (AreAmong-wider c.args.held.now.items c.args.holders.now.keys c.note.new.holders.keys c.args.at c.in-Ok.ensures.ok among))
    c.add_at.ensures.err
