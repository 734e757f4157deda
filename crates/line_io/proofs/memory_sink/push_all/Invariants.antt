use Rattle.std.proofs.Common.{◌≡◌, ◌+◌, ◌++◌, vec_len, vec_capacity, take}
use Rattle.line_io.proofs.memory_sink.push_all.Given as goal

-- the bytes so far were pushed, and the room for all of them was there before
abbrev pub invariant-loop-byte : goal.invariant-loop-byte
invariant-loop-byte l = record {
  pushed : l.bytes.items ≡ l.initial.bytes.items ++ take l.byte-index l.piece;
  long : vec_len l.bytes ≡ vec_len l.initial.bytes + l.byte-index;
  capacity : vec_capacity l.bytes ≡ vec_capacity l.initial.bytes;
}
