use Rattle.std.proofs.Common.{◌≤◌, vec_len, ◌-◌, take}
use Rattle.text_bytes.specs.Source.{Reads}
use Rattle.text_bytes.proofs.files.read_all.Given as goal

abbrev pub invariant-pieces : goal.invariant-pieces
invariant-pieces g l = record {
  filled_within : l.filled ≤ vec_len l.bytes;
  few : l.filled ≤ 16777216;
  room_within : vec_len l.bytes ≤ 16777217;
  reads : Reads g.N.Fn l.read l.initial.file (take l.filled l.bytes.items) l.file;
}

abbrev pub decreases-pieces : goal.decreases-pieces
decreases-pieces g l = 16777217 - l.filled
