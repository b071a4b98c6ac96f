use Rattle.std.proofs.Common.{◌≡◌, ◌∙◌, rules, take, arith, length, ◌+◌, ◌≤◌, vec_len}
use Rattle.std.proofs.lemmas.List.{length-take-le}
use Rattle.text_bytes.proofs.SourceLemmas.{one_more}
use Rattle.text_bytes.proofs.files.read_all.Goals as goal

pub returns-then-filled-gt-FILE_BYTES_MAX-clause-too_long : goal.returns-then-filled-gt-FILE_BYTES_MAX-clause-too_long
returns-then-filled-gt-FILE_BYTES_MAX-clause-too_long g c _ =
    let given = c.in_ok-count.ensures.gives in
    let filled = c.pieces.filled + c.in_ok-count.count in
    let within : filled ≤ vec_len c.read_more.new.bytes = c.in_ok-count.ensures.fits in
    let most : vec_len c.read_more.new.bytes ≤ 16777217 = c.in_ok-count.ensures.within in
    let here : filled ≤ length c.read_more.new.bytes.items = search rules in
    let count : filled ≡ 16777217 = omega arith in
    (take filled c.read_more.new.bytes.items, one_more _ _ _ _ _ given.0 _ _ c.pieces.invariant.reads given.1 given.3, length-take-le filled c.read_more.new.bytes.items here ∙ count)

pub pieces-preserved : goal.pieces-preserved
pieces-preserved g c = record {
  filled_within = c.in_ok-count.ensures.fits;
  few = omega arith;
  room_within = c.in_ok-count.ensures.within;
  reads = let given = c.in_ok-count.ensures.gives in one_more _ _ _ _ _ given.0 _ _ c.pieces.invariant.reads given.1 given.3;
}
