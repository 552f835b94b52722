use Rattle.std.proofs.Common.{◌≡◌, ◌<◌, ℕ, true, [], get_or}
use Rattle.std.specs.List.{list_all}
use Rattle.acta_values.specs.KeptValues.{kinds_of}
use Rattle.acta_order.specs.Search.{is_sound, at}
use Rattle.acta_order.proofs.order.first_unsound.Given as goal

-- those so far are sound
abbrev pub invariant-loop-j : goal.invariant-loop-j
invariant-loop-j g l = (k : ℕ) → k < l.j → list_all (is_sound (kinds_of l.model.objects)) (get_or l.groups (at l.ts k) []) ≡ true
