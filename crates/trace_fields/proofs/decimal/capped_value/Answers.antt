use Rattle.std.proofs.Common.{arith}
use Rattle.text_bytes.proofs.Digits.{digit_at, value_more}
use Rattle.trace_fields.proofs.decimal.capped_value.Goals as goal

pub overflow_sub-c : goal.overflow_sub-c
overflow_sub-c c = (digit_at c.args.word.now c.loop-c.c-index c.requires c.loop-c-test.true).0

pub push_digit-value-requires : goal.push_digit-value-requires
push_digit-value-requires c = omega (arith, (digit_at c.args.word.now c.loop-c.c-index c.requires c.loop-c-test.true).1)

pub loop-c-preserved : goal.loop-c-preserved
loop-c-preserved c = omega (arith, value_more c.args.word.now c.loop-c.c-index (digit_at c.args.word.now c.loop-c.c-index c.requires c.loop-c-test.true) c.loop-c-test.true)
