use Rattle.std.proofs.Common.{◌≡◌, sym, ◌∙◌, true, get_or, arith}
use Rattle.std.specs.Char.{is_ascii_digit}
use Rattle.grub_trace.proofs.NumberLemmas.{digits_more}
use Rattle.text_bytes.proofs.Digits.{digit_range, value_more}
use Rattle.grub_trace.proofs.number.digits_value.Goals as goal

pub loop-c-preserved : goal.loop-c-preserved
loop-c-preserved c =
    let i = c.loop-c.c-index in
    let digit : is_ascii_digit (get_or c.args.word.now i 0) ≡ true = sym c.is_ascii_digit.ensures.value ∙ c.if-not-is_ascii_digit.false in (
      digits_more c.args.word.now i c.loop-c-test.true c.loop-c.invariant.0 digit,
      omega (arith, value_more c.args.word.now i (digit_range (get_or c.args.word.now i 0) digit) c.loop-c-test.true, c.loop-c.invariant.1, c.push_digit-value.ensures),
    )
