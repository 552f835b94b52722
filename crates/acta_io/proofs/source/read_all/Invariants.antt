use Rattle.std.proofs.Common.{◌≡◌, ◌≤◌, ◌+◌, vec_len}
use Rattle.std.specs.Io.KnownBytes.{Consumes}
use Rattle.acta_io.proofs.source.read_all.Given as goal

abbrev pub invariant-loop : goal.invariant-loop
invariant-loop g l = record {
  taken : Consumes (g.S.Source.remaining l.initial.reader) (g.S.Source.remaining l.reader) l.bytes.items;
  within : vec_len l.bytes ≤ 16777216;
  each : l.counter ≤ vec_len l.bytes;
  reads : g.S.Source.reads l.reader ≤ g.S.Source.reads l.initial.reader + l.counter;
  worked : g.S.Source.has_failed l.reader ≡ g.S.Source.has_failed l.initial.reader;
}
