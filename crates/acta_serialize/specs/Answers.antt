-- The output of `serialize` for a history.
use Rattle.std.specs.Prelude.{◌≡◌, ◌<◌, ◌⊎◌, ℕ, false, true, List, [], ◌∷◌, ◌++◌, flat_map, length, codes, decimal, Option, Some, None, Result, Ok, Err}
use Rattle.acta_table.specs.declared.event.Kept.{Kept}
use Rattle.acta_table.specs.declared.limits.TheConstants.{MOST_EVENTS}
use Rattle.acta_table.specs.declared.model.Parts.{Parts}
use Rattle.acta_words.specs.Text.{line_of, text_of}
use Rattle.acta_script.specs.Reading.{kept_of}
use Rattle.acta_io.specs.declared.input.BadLine.{BadLine}
use Rattle.acta_io.specs.declared.models.NoModel.{NoModel}
use Rattle.acta_io.specs.Models.{of_either}
use Rattle.acta_io.specs.Reports.{Output, refused_by, refused_model, stop_line}
use Rattle.acta_io.specs.Input.{Parsed, parsed_in}
use Rattle.acta_order.specs.declared.orders.Orders.{Orders}
use Rattle.acta_order.specs.Answers.{IsImpossible}
use Rattle.acta_order.specs.Orders.{HasMoreStates, IsSerial}

-- order, and the transactions
abbrev pub order_line : List ℕ → List ℕ
order_line order = codes "order" ++ flat_map (λ t. 32 ∷ decimal t) order

-- not decided after N states
abbrev pub undecided_line : ℕ → List ℕ
undecided_line most =
    line_of (codes "not" ∷ codes "decided" ∷ codes "after" ∷ decimal most ∷ codes "states" ∷ [])

-- the output is the line of a serial order
pub record HasOrder {A : Type 0} (orders : Orders) (m : Parts A) (h : List (Kept A)) (out : Output) : Type 0 where
  pub order : List ℕ
  pub serial : IsSerial orders m h order
  pub out_is : out ≡ record { is_refused = false; text = text_of (order_line order ∷ []) }

-- the output begins with the line that there is no serial order; the reason follows
abbrev pub SaysNone : Output → Type 0
SaysNone out = (why : List ℕ) × (out ≡ record { is_refused = false; text = text_of (codes "no serial order" ∷ []) ++ why })

-- the output is that there is no serial order, and no order is serial
pub record HasNone {A : Type 0} (orders : Orders) (m : Parts A) (h : List (Kept A)) (out : Output) : Type 0 where
  pub none : IsImpossible orders m h
  pub says : SaysNone out

-- the search was given up, since there are more states than allowed
pub record IsUndecided {A : Type 0} (orders : Orders) (most : ℕ) (m : Parts A) (h : List (Kept A)) (out : Output) : Type 0 where
  pub states : HasMoreStates orders m h most
  pub out_is : out ≡ refused_by (undecided_line most)

-- the history has more items than allowed
pub record IsTooLong {A : Type 0} (h : List (Kept A)) (out : Output) : Type 0 where
  pub long : MOST_EVENTS < length h
  pub out_is : out ≡ refused_by (codes "serialize fault 1")

-- the output for a history
abbrev pub IsOfHistory : {A : Type 0} → Orders → ℕ → Parts A → List (Kept A) → Output → Type 0
IsOfHistory orders most m h out =
    HasOrder orders m h out ⊎ (HasNone orders m h out ⊎ (IsUndecided orders most m h out ⊎ IsTooLong h out))

-- the same, unless a line is faulty
abbrev pub IsAnswerUnless : {A : Type 0} → Option BadLine → Orders → ℕ → Parts A → List (Kept A) → Output → Type 0
IsAnswerUnless (Some b) orders most m h out = out ≡ refused_by (stop_line b)
IsAnswerUnless None orders most m h out = IsOfHistory orders most m h out

-- the output on a model for the parsed lines of an input
abbrev pub IsAnswerTo : {A : Type 0} → Orders → ℕ → Parts A → Parsed (Kept A) → Output → Type 0
IsAnswerTo orders most m s out = IsAnswerUnless s.stop orders most m s.parsed out

-- the output on a model for an input
abbrev pub IsAnswerOn : {A : Type 0} → Orders → ℕ → Parts A → List ℕ → Output → Type 0
IsAnswerOn orders most m input out = IsAnswerTo orders most m (parsed_in (kept_of m) input) out

-- the output by the model in the bytes
abbrev pub IsAnswerBy : {A : Type 0} → Orders → ℕ → Result (Parts A) NoModel → List ℕ → Output → Type 0
IsAnswerBy orders most (Err fault) input out = out ≡ refused_model fault
IsAnswerBy orders most (Ok m) input out = IsAnswerOn orders most m input out

-- the output for the bytes of a model and of an input; A is the allocator's type, which makes no difference
abbrev pub IsAnswer : (A : Type 0) → Orders → ℕ → List ℕ → List ℕ → Output → Type 0
IsAnswer A orders most model input out = IsAnswerBy {A = A} orders most (of_either model) input out
