use Rattle.std.proofs.Common.{rules}
use Rattle.acta_locked.proofs.book.Book.is_full.Goals as goal

pub returns-clause-full : goal.returns-clause-full
returns-clause-full g c = search rules
