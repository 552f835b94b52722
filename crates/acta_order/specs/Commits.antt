-- What a walk over a history's commits collects: definitions for internal contracts.
use Rattle.std.specs.Prelude.{◌≡◌, ℕ, ◌≤◌, Bool, true, false, List, take, length, get_or, reverse}
use Rattle.std.specs.List.{list_any}
use Rattle.acta_table.specs.declared.event.Kept.{Kept}
use Rattle.acta_axioms.specs.Serial.{commit_order}
use Rattle.acta_order.specs.Orders.{is_in, is_event_of, before_first, AreDistinct}

-- whether t has an event
abbrev pub has_event : {A : Type 0} → ℕ → List (Kept A) → Bool
has_event t h = list_any (λ k. is_event_of t k.event) h

-- by the counts, the transactions that commit before the first event of u are the first to commit
pub record AreNoted {A : Type 0} (counts : List ℕ) (h : List (Kept A)) (ts : List ℕ) : Type 0 where
  pub long : length counts ≡ 65536
  pub later : (u : ℕ) → has_event u h ≡ true → get_or counts u 65536 ≤ length ts
  pub idle : (u : ℕ) → has_event u h ≡ false → get_or counts u 65536 ≡ 65536
  pub before : (t u : ℕ) → is_in (take (get_or counts u 65536) ts) t ≡ is_in (commit_order (before_first u h)) t

-- the transactions that commit, the last first, with the counts
pub record AreCommits {A : Type 0} (h : List (Kept A)) (stack counts : List ℕ) : Type 0 where
  pub each : (t : ℕ) → is_in stack t ≡ is_in (commit_order h) t
  pub few : length stack ≤ length h
  pub noted : AreNoted counts h (reverse stack)
  pub in_order : AreDistinct (commit_order h) → reverse stack ≡ commit_order h
