use Rattle.std.proofs.Common.{◌<◌, vec_len}
use Rattle.std.specs.Io.KnownBytes.{Consumes}
use Rattle.rz_io.proofs.reader.read_whole.Given as goal

-- what was read is what the file has given
abbrev pub invariant-loop : goal.invariant-loop
invariant-loop g l = record {
  given : Consumes (g.R.Read.remaining l.fn.reader) (g.R.Read.remaining l.reader) l.bytes;
  room : 0 < vec_len l.buffer;
}
