use Rattle.std.proofs.Common.{◌≡◌, ◌++◌, map}
use Rattle.acta_lang.specs.inside.Abstraction.{closed_shown}
use Rattle.acta_lang.proofs.draft.Draft.classes.Given as goal

-- with the rest, it is all
abbrev pub invariant-loop-name : goal.invariant-loop-name
invariant-loop-name g l =
    l.classes.items ++ map closed_shown l.name-iterator ≡ map closed_shown l.self.classes.entries
