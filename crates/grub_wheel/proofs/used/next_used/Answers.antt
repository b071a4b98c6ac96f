use Rattle.std.proofs.Common.{arith, ◌/◌, get_or}
use Rattle.grub_wheel.proofs.Marks.{rest_zero, rest_high, rest_none, rest_used, word_none, word_used}
use Rattle.grub_wheel.proofs.used.next_used.Goals as goal

pub returns-then-rest-ne0-clause-high : goal.returns-then-rest-ne0-clause-high
returns-then-rest-ne0-clause-high c =
    let h = rest_high (get_or c.args.used.now (c.args.slot / 64) 0) c.args.slot (omega (arith, c.type_inv.used (c.args.slot / 64))) c.if-rest-ne0.true in
    let l = c.requires.within in
    omega arith

pub returns-then-rest-ne0-clause-none : goal.returns-then-rest-ne0-clause-none
returns-then-rest-ne0-clause-none c = λ r lo hi. rest_none c.args.used.now c.args.slot r (omega (arith, c.type_inv.used (c.args.slot / 64))) c.if-rest-ne0.true lo hi

pub loop-word-init : goal.loop-word-init
loop-word-init c = record { low = omega arith; high = let l = c.requires.within in omega arith; none = λ r lo hi. rest_zero c.args.used.now c.args.slot r c.if-rest-ne0.false lo hi }

pub returns-then-bits-ne0-clause-none : goal.returns-then-bits-ne0-clause-none
returns-then-bits-ne0-clause-none c = λ r lo hi. word_none c.args.used.now c.args.slot c.loop-word.word r (omega (arith, c.type_inv.used c.loop-word.word)) c.if-bits-ne0.true c.loop-word.invariant.none lo hi

pub returns-then-rest-ne0-clause-used : goal.returns-then-rest-ne0-clause-used
returns-then-rest-ne0-clause-used c = λ lt. rest_used c.args.used.now c.args.slot (omega (arith, c.type_inv.used (c.args.slot / 64))) c.if-rest-ne0.true

pub returns-then-bits-ne0-clause-used : goal.returns-then-bits-ne0-clause-used
returns-then-bits-ne0-clause-used c = λ lt. word_used c.args.used.now c.loop-word.word (omega (arith, c.type_inv.used c.loop-word.word)) c.if-bits-ne0.true
