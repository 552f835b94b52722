use Rattle.std.proofs.Common.{take, rules, arith, subst}
use Rattle.std.specs.Io.KnownBytes.{Consumes}
use Rattle.acta_io.proofs.Turns.{ended, over}
use Rattle.acta_io.proofs.source.read_all.Goals as goal

pub returns-then-n-eq0-clause-bytes : goal.returns-then-n-eq0-clause-bytes
returns-then-n-eq0-clause-bytes g c =
    let bytes = c.in-Ok.ensures.bytes in
    ended (g.S.Source.remaining c.args.reader.now) (g.S.Source.remaining c.loop.reader) (g.S.Source.remaining c.read.new.self) c.loop.bytes.items c.read.new.buf
    c.loop.invariant.taken
    (subst (λ n. Consumes (g.S.Source.remaining c.loop.reader) (g.S.Source.remaining c.read.new.self) (take n c.read.new.buf)) c.if-n-eq0.true bytes.0)
    (bytes.1 c.if-n-eq0.true (search rules))

pub returns-then-len-n-clause-too_much : goal.returns-then-len-n-clause-too_much
returns-then-len-n-clause-too_much g c = λ same.
    let len = c.loop.bytes.ok.0 in
    over (g.S.Source.remaining c.args.reader.now) (g.S.Source.remaining c.loop.reader) (g.S.Source.remaining c.read.new.self) c.loop.bytes.items c.read.new.buf c.in-Ok.n
    c.loop.invariant.taken c.in-Ok.ensures.bytes.0 c.in-Ok.ensures.bound.0 (omega (arith, len)) (omega (arith, len))
