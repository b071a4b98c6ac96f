use Rattle.std.proofs.Common.{◌≡◌, ◌*◌, ◌<◌, ◌∙◌, ap, arith}
use Rattle.grub_book.specs.Server.{rate_of}
use Rattle.library_book.specs.Numbers.{reading_of_numbers}
use Rattle.library_book.proofs.Exhausting.{least_is}
use Rattle.library_book.proofs.exhaustion.least_run.Goals as goal

pub returns : goal.returns
returns c =
    let a = c.args in
    let most = c.umax.ensures.limits.most in
    let some : 0 < a.bw = omega (arith, c.requires.some) in
    let cap : 0 < a.queue.most = omega (arith, most.0) in
    let rate : c.from-rate.result ≡ rate_of a.bw a.queue a.now.running_bw a.now.this_bw = c.from-rate.ensures ∙ c.rate.ensures in
    let wanted : c.from.result * c.from-2.result ≡ a.budget * a.queue.most =
    ap (λ n. n * c.from-2.result) c.from.ensures ∙ ap (λ n. a.budget * n) (c.from-2.ensures ∙ c.umax.ensures.value) in
    least_is a.budget a.bw a.queue (reading_of_numbers a.now) (c.from.result * c.from-2.result) c.from-rate.result some cap rate wanted
