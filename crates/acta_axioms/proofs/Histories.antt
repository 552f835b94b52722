-- Short words for the histories and models of the examples.
use Rattle.std.specs.Prelude.{ℕ, pos, true, false, Bool, List, [], ◌∷◌, Option, Some, None}
use Rattle.acta_table.specs.declared.dep.Dep.{Dep}
use Rattle.acta_table.specs.declared.dep.Dep.TheVariants.{Cd, Ad, Wd}
use Rattle.acta_table.specs.declared.dep.Edge.{Edge}
use Rattle.acta_table.specs.declared.dep.Missing.{Missing}
use Rattle.acta_table.specs.declared.dep.Owed.{Owed}
use Rattle.acta_table.specs.declared.event.Op.{Op}
use Rattle.acta_table.specs.declared.event.Ret.{Ret}
use Rattle.acta_table.specs.declared.event.Event.{Event}
use Rattle.acta_table.specs.declared.event.Event.TheVariants.{Begin, Spawn, Split, Join, Delegate, Form, Operate, Commit, Abort, Permit}
use Rattle.acta_table.specs.declared.event.Kept.{Kept}
use Rattle.acta_table.specs.declared.model.Class.{Class}
use Rattle.acta_table.specs.declared.model.AtCommit.TheVariants.{Keeps, ToParent}
use Rattle.acta_table.specs.declared.model.Extent.TheVariants.{Whole, Any}
use Rattle.acta_table.specs.declared.model.Kind.TheVariants.{Register, Counter, Elements}
use Rattle.acta_table.specs.declared.model.Object.{Object}
use Rattle.acta_table.specs.declared.model.Parts.{Parts}
use Rattle.acta_table.specs.declared.model.Scope.TheVariants.{Others, NonAncestors}
use Rattle.acta_table.specs.declared.policy.Policy.TheVariants.{Refuse, Depend}
use Rattle.acta_table.specs.declared.start_edges.Dependent.TheVariants.{Starter, Started}
use Rattle.acta_table.specs.Sets.{numbered}
use Rattle.acta_axioms.specs.declared.fault.Fault.{Fault}
use Rattle.acta_axioms.specs.declared.fault.Axiom.{Axiom}
use Rattle.acta_axioms.specs.History.{course}
use Rattle.acta_axioms.specs.Formulas.{is_false}
use Rattle.acta_axioms.specs.Legal.{debt_in, is_broken_in, is_legal}

-- an item with no return
abbrev pub plain : Event (Unit {0}) → Kept (Unit {0})
plain e = record { event = e; ret = None }

abbrev pub begin : ℕ → ℕ → Kept (Unit {0})
begin t class = plain (Begin (record { 0 = t }) (record { 0 = class }))

abbrev pub spawn : ℕ → ℕ → ℕ → Kept (Unit {0})
spawn t c class = plain (Spawn (record { 0 = t }) (record { 0 = c }) (record { 0 = class }))

abbrev pub split : ℕ → ℕ → ℕ → List ℕ → Kept (Unit {0})
split t u class ops = plain (Split (record { 0 = t }) (record { 0 = u }) (record { 0 = class }) (numbered ops))

abbrev pub join : ℕ → ℕ → Kept (Unit {0})
join t u = plain (Join (record { 0 = t }) (record { 0 = u }))

abbrev pub delegate : ℕ → ℕ → List ℕ → Kept (Unit {0})
delegate t u ops = plain (Delegate (record { 0 = t }) (record { 0 = u }) (numbered ops))

abbrev pub form : Dep → ℕ → ℕ → Kept (Unit {0})
form kind j i = plain (Form kind (record { 0 = j }) (record { 0 = i }))

abbrev pub operate : ℕ → ℕ → Op → Ret → Kept (Unit {0})
operate t object op ret = record { event = Operate (record { 0 = t }) (record { 0 = object }) op; ret = Some ret }

abbrev pub commit : ℕ → Kept (Unit {0})
commit t = plain (Commit (record { 0 = t }))

abbrev pub abort : ℕ → Kept (Unit {0})
abort t = plain (Abort (record { 0 = t }))

abbrev pub permit : ℕ → ℕ → ℕ → Kept (Unit {0})
permit t u object = plain (Permit (record { 0 = t }) (record { 0 = u }) (record { 0 = object }))

abbrev pub edge : Dep → ℕ → ℕ → Edge
edge kind j i = record { kind = kind; j = record { 0 = j }; i = record { 0 = i } }

abbrev pub owes : ℕ → ℕ → Missing → Owed
owes number t missing = record { edge = record { 0 = number }; txn = record { 0 = t }; missing = missing }

abbrev pub fault : Axiom → ℕ → ℕ → Fault
fault broken place by = record { broken = broken; place = place; by = by }

-- the register x, the counter n and the set s
abbrev pub objects : List (Object (Unit {0}))
objects = record { name = []; kind = Register (pos 0) } ∷ record { name = []; kind = Counter (pos 0) } ∷ record { name = []; kind = Elements } ∷ []

-- a class, by whether it starts by begin and the bits of what it may do: 1 is to spawn, 8 to delegate, 16 to form,
-- 32 to operate, 64 to commit, 128 to abort and 256 to permit
abbrev pub class : Bool → ℕ → Class (Unit {0})
class begins may = record { name = []; starts = record { begin = begins; spawned = false; split = false }; may = may; scope = Others; policy = Refuse; at_commit = Keeps; extent = Any; spawn_edges = []; split_edges = [] }

-- class 0 may all but delegate and form, class 1 may not operate either, class 2 may not start, class 3 may
-- all but delegate, and classes 4 and 5 all but form: 4 delegates any part, and 5 all that it holds
abbrev pub model : Parts (Unit {0})
model = record {
  objects = objects;
  classes = class true 224 ∷ class true 192 ∷ class false 224 ∷ class true 240
      ∷ class true 232 ∷ record (class true 232) { extent = Whole } ∷ [];
}

-- classes 0 and 1 may permit, and class 0 all but form too
abbrev pub granting : Parts (Unit {0})
granting = record { objects = objects; classes = class true 488 ∷ class true 256 ∷ [] }

-- no class may form edges
abbrev pub edgeless : Parts (Unit {0})
edgeless = record { objects = objects; classes = class true 224 ∷ [] }

-- a class that starts by begin and by split, and may split, join, operate, commit and abort: a transaction that
-- is split off with it depends by abort on the one that splits, which depends by commit on it
abbrev pub parting_class : Class (Unit {0})
parting_class =
    record (class true 230) {
      starts = record { begin = true; spawned = false; split = true };
      split_edges = record { kind = Cd; dependent = Starter } ∷ record { kind = Ad; dependent = Started } ∷ [];
    }

-- class 0 is such a class, class 1 may neither split nor join, nor start by a split, and class 2 splits by handing
-- over all that it holds
abbrev pub parting : Parts (Unit {0})
parting = record { objects = objects; classes = parting_class ∷ class true 224 ∷ record parting_class { extent = Whole } ∷ [] }

-- class 0 starts by begin and may spawn, operate, commit and abort; class 1 may the same, starts by a spawn only, is
-- left to its parent at its commit, and doesn't conflict with its ancestors: the parent of one with it depends by
-- commit on it, and it by weak abort on its parent
abbrev pub nesting : Parts (Unit {0})
nesting = record {
  objects = objects;
  classes =
      class true 225
      ∷ record (class false 225) {
        starts = record { begin = false; spawned = true; split = false };
        scope = NonAncestors;
        at_commit = ToParent;
        spawn_edges = record { kind = Cd; dependent = Starter } ∷ record { kind = Wd; dependent = Started } ∷ [];
      }
      ∷ [];
}

-- class 0 starts by begin, and may delegate, operate, commit and abort: it depends by abort and by termination on those
-- who hold what its operations conflict with; class 1 is such a class that starts by a spawn too, and doesn't
-- conflict with its ancestors
abbrev pub loose : Parts (Unit {0})
loose = record {
  objects = objects;
  classes =
      record (class true 232) { policy = Depend 20; extent = Whole }
      ∷ record (class true 232) {
        starts = record { begin = true; spawned = true; split = false };
        scope = NonAncestors;
        policy = Depend 20;
      }
      ∷ [];
}

-- what is said of an edge of 2 on 1, in a history that forms it first: whether its formula is false, what
-- is owed by it, whether it is broken, and whether the history is legal
pub record Said : Type 0 where
  pub false_there : Bool
  pub debt : Option Missing
  pub broken : Bool
  pub legal : Bool

abbrev pub parsed : Dep → List (Kept (Unit {0})) → Said
parsed kind ks =
    let h = form kind 2 1 ∷ ks in
    record {
      false_there = is_false kind (course h 2) (course h 1);
      debt = debt_in h (edge kind 2 1);
      broken = is_broken_in h (edge kind 2 1);
      legal = is_legal model h;
    }

abbrev pub holds : Said
holds = record { false_there = false; debt = None; broken = false; legal = true }

abbrev pub is_due : Missing → Said
is_due missing = record { false_there = true; debt = Some missing; broken = false; legal = true }

abbrev pub breaks : Said
breaks = record { false_there = true; debt = None; broken = true; legal = false }
