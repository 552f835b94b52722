use Rattle.std.specs.Prelude.{◌≡◌, ◌≤◌, ℕ, [], get_or, length, map}
use Rattle.acta_axioms.proofs.groups.Groups.make_room.Given as goal

-- the new lists are empty, and there are enough of them for the turns so far
abbrev pub invariant-loop : goal.invariant-loop
invariant-loop g l = record {
  same : (u : ℕ) → get_or (map (λ list. list.items) l.self-inside.lists.items) u [] ≡ get_or (map (λ list. list.items) l.initial.self-inside.lists.items) u [];
  long : l.counter ≤ length l.self-inside.lists.items;
}
