use Rattle.std.proofs.Common.{rules}
use Rattle.acta_locked.proofs.book.Book.entries.Goals as goal

pub returns-clause-entries : goal.returns-clause-entries
returns-clause-entries g c = search rules

pub returns-clause-run : goal.returns-clause-run
returns-clause-run g c = search rules
