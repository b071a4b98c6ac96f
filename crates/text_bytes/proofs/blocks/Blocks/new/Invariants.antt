use Rattle.std.proofs.Common.{◌≡◌, ◌≤◌, All, vec_len, vec_capacity}
use Rattle.text_bytes.specs.declared.blocks.TheConstants.{BLOCK_ROOM}
use Rattle.text_bytes.proofs.blocks.Blocks.new.Given as goal

abbrev pub invariant-loop : goal.invariant-loop
invariant-loop l = record {
  count : vec_len l.blocks ≡ l.counter;
  rooms : All (λ b. BLOCK_ROOM ≤ vec_capacity b) l.blocks.items;
}
