use Rattle.std.proofs.Common.{◌≡◌, ◌&&◌, ℕ, length, get_or}
use Rattle.std.specs.Prelude.{None, nat_lt}
use Rattle.acta_trace.specs.inside.Firsts.{noted}
use Rattle.acta_trace.proofs.firsts.Firsts.note_all.Given as goal

-- what is noted so far
abbrev pub invariant-loop-number : goal.invariant-loop-number
invariant-loop-number g l = record {
  noted : (n : ℕ) → get_or l.self.places.items n None ≡ noted (λ m. nat_lt l.first m && nat_lt m l.number) l.initial.self.places.items l.place n;
  room : length l.self.places.items ≡ length l.initial.self.places.items;
}
