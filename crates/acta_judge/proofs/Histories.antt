-- Short words for the verdicts of the examples, and models that the words for histories lack.
use Rattle.std.specs.Prelude.{true, false, List, [], ◌∷◌}
use Rattle.acta_table.specs.declared.dep.Dep.{Dep}
use Rattle.acta_table.specs.declared.dep.Dep.TheVariants.{Cd}
use Rattle.acta_table.specs.declared.dep.Owed.{Owed}
use Rattle.acta_table.specs.declared.event.Kept.{Kept}
use Rattle.acta_table.specs.declared.model.AtCommit.TheVariants.{ToParent}
use Rattle.acta_table.specs.declared.model.Parts.{Parts}
use Rattle.acta_axioms.specs.declared.fault.Fault.{Fault}
use Rattle.acta_axioms.proofs.Histories.{form, objects, class}
use Rattle.acta_judge.specs.declared.verdict.Verdict.{Verdict}

-- these faults, and no debts
abbrev pub found : List Fault → Verdict (Unit {0})
found faults = record { faults = faults; owed = [] }

-- no fault, and these debts
abbrev pub owing : List Owed → Verdict (Unit {0})
owing owed = record { faults = []; owed = owed }

-- no fault, and no debts
abbrev pub faultless : Verdict (Unit {0})
faultless = record { faults = []; owed = [] }

-- one class that starts by begin and allows all events
abbrev pub free : Parts (Unit {0})
free = record { objects = objects; classes = class true 255 ∷ [] }

-- class 0 is such a class; class 1 starts only by a spawn, allows all events, and commits to its parent; a spawn forms no
-- edge
abbrev pub untied : Parts (Unit {0})
untied = record {
  objects = objects;
  classes =
      class true 255
      ∷ record (class true 255) {
        starts = record { begin = false; spawned = true; split = false };
        at_commit = ToParent;
      }
      ∷ [];
}

-- a history that first forms an edge of 9 on 8, and then, as edge 2, one of this kind of 4 on 3
abbrev pub upon : Dep → List (Kept (Unit {0})) → List (Kept (Unit {0}))
upon kind ks = form Cd 9 8 ∷ form kind 4 3 ∷ ks
