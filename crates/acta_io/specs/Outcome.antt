-- The effects of a run.
use Rattle.std.specs.Prelude.{◌≡◌, ◌<◌, ◌⊎◌, ℕ, List, Bool, true, false, Option, Some, None, IfSome, IsSome, length, ⊤}
use Rattle.std.specs.Io.KnownBytes.{Appends, Keeps}
use Rattle.acta_io.specs.declared.outcome.Outcome.{Outcome}
use Rattle.acta_io.specs.declared.outcome.Outcome.TheVariants.{Done, Refused, Unread, Unwritten}
use Rattle.acta_io.specs.declared.source.ReadFault.{ReadFault}
use Rattle.acta_io.specs.declared.source.ReadFault.TheVariants.{Device, TooMuch, Memory}
use Rattle.acta_io.specs.Reports.{Output}

-- the exit status for a run's outcome
abbrev pub code_of : Outcome → ℕ
code_of Done = 0
code_of Refused = 1
code_of (Unread reason) = 3
code_of Unwritten = 3

-- why the input was not answered, if it was not
abbrev pub reason_of : Outcome → Option ReadFault
reason_of (Unread reason) = Some reason
reason_of Done = None
reason_of Refused = None
reason_of Unwritten = None

-- whether a read has failed, before and after: true after if the reason is the device, otherwise unchanged
abbrev pub FailsBy : Option ReadFault → Bool → Bool → Type 0
FailsBy None old new = new ≡ old
FailsBy (Some Device) old new = new ≡ true
FailsBy (Some TooMuch) old new = new ≡ old
FailsBy (Some Memory) old new = new ≡ old

-- whether a write has failed, before and after: true after if the outcome is `Unwritten`, otherwise unchanged
abbrev pub WritesBy : Outcome → Bool → Bool → Type 0
WritesBy Unwritten old new = new ≡ true
WritesBy Done old new = new ≡ old
WritesBy Refused old new = new ≡ old
WritesBy (Unread reason) old new = new ≡ old

-- if the outcome is `Unread`, the writer's bytes are unchanged
abbrev pub KeepsUnread : Outcome → Option (List ℕ) → Option (List ℕ) → Type 0
KeepsUnread (Unread reason) old new = Keeps old new
KeepsUnread Done old new = ⊤
KeepsUnread Refused old new = ⊤
KeepsUnread Unwritten old new = ⊤

-- if the input was answered, exactly the output was written, and the outcome tells whether it was refused
abbrev pub Answers : Outcome → Output → Option (List ℕ) → Option (List ℕ) → Type 0
Answers Done out old new = (out.is_refused ≡ false) × Appends old new out.text
Answers Refused out old new = (out.is_refused ≡ true) × Appends old new out.text
Answers (Unread reason) out old new = ⊤
Answers Unwritten out old new = ⊤

-- a model, or an input that is read, of more than 16,777,216 bytes is not answered; if the reason is `TooMuch`, one of them
-- is that long
abbrev pub IsUnreadTooLong : List ℕ → Option (List ℕ) → Option ReadFault → Type 0
IsUnreadTooLong model input reason =
    (16777216 < length model → IsSome reason)
    × IfSome input (λ bytes.
    (16777216 < length bytes → IsSome reason)
    × (reason ≡ Some TooMuch → (16777216 < length model) ⊎ (16777216 < length bytes)))

-- if the input was answered, exactly one of the allowed outputs was written, and the outcome tells whether it was refused
abbrev pub AnswersBy : Outcome → (Output → Type 0) → Option (List ℕ) → Option (List ℕ) → Type 0
AnswersBy Done answer old new = (out : Output) × answer out × Answers Done out old new
AnswersBy Refused answer old new = (out : Output) × answer out × Answers Refused out old new
AnswersBy (Unread reason) answer old new = ⊤
AnswersBy Unwritten answer old new = ⊤
