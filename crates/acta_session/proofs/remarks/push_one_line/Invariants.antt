use Rattle.std.proofs.Common.{◌≡◌, ◌++◌, drop}
use Rattle.acta_session.specs.Remarks.{one_line}
use Rattle.acta_session.proofs.remarks.push_one_line.Given as goal

-- the bytes so far, and the rest
abbrev pub invariant-loop-byte : goal.invariant-loop-byte
invariant-loop-byte g l = l.text.items ++ one_line (drop l.byte-index l.words) ≡ l.initial.text.items ++ one_line l.words
