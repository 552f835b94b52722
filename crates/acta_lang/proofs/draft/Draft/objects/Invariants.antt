use Rattle.std.proofs.Common.{◌≡◌, ◌++◌, map}
use Rattle.acta_lang.specs.inside.Abstraction.{object_shown}
use Rattle.acta_lang.proofs.draft.Draft.objects.Given as goal

-- with the rest, it is all
abbrev pub invariant-loop-name : goal.invariant-loop-name
invariant-loop-name g l =
    l.objects.items ++ map object_shown l.name-iterator ≡ map object_shown l.self.objects.entries
