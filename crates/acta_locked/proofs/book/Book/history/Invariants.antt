use Rattle.std.proofs.Common.{◌≡◌, take}
use Rattle.acta_locked.proofs.book.Book.history.Given as goal

-- those so far
abbrev pub invariant-loop-item : goal.invariant-loop-item
invariant-loop-item g l = l.copy.items ≡ take l.item-index l.history
