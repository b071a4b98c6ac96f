use Rattle.std.proofs.Common.{◌≡◌, ap, ◌∙◌, arith, length}
use Rattle.grub_book.specs.Sums.{is_on, is_active_on, running_of, this_of}
use Rattle.book_tests.proofs.Afresh.{tallied, tallied_all}
use Rattle.book_tests.proofs.plain.tally.Goals as goal

pub returns-clause-value : goal.returns-clause-value
returns-clause-value c =
    let book = c.args.records.now in
    let r = c.args.r in
    let last : c.loop-held.held-index ≡ length book = omega arith in
    let running : c.loop-held.running ≡ running_of book r =
    c.loop-held.invariant.running ∙ ap (tallied (is_active_on r) book) last ∙ tallied_all (is_active_on r) book in
    let this : c.loop-held.this ≡ this_of book r =
    c.loop-held.invariant.this ∙ ap (tallied (is_on r) book) last ∙ tallied_all (is_on r) book in
    cc
