use Rattle.std.proofs.Common.{◌≡◌, ◌≤◌, ◌-◌, take, vec_len}
use Rattle.std.specs.Io.KnownBytes.{Consumes}
use Rattle.shp_files.proofs.source.read_all.Given as goal
use Rattle.geo_exact.specs.declared.limits.TheConstants.{FILE_BYTES}

abbrev pub invariant-loop-filled : goal.invariant-loop-filled
invariant-loop-filled g l =
    let remaining = g.R.ByteIn.remaining in
    let failure_count = g.R.ByteIn.failure_count in
    record {
      consumed : Consumes (remaining l.fn.reader) (remaining l.reader) (take l.filled l.bytes.items);
      failures : failure_count l.reader ≡ failure_count l.fn.reader;
      bound : l.filled ≤ FILE_BYTES;
      room : l.filled ≤ vec_len l.bytes;
    }

abbrev pub decreases-loop-filled : goal.decreases-loop-filled
decreases-loop-filled g l = FILE_BYTES - l.filled
