use Rattle.std.proofs.Common.{◌≡◌, ◌+◌, ◌-◌, ◌/◌, ◌*◌, ◌%◌, ◌≤◌, ◌<◌, ◌∙◌, arith}
use Rattle.grub_book.proofs.Recharge.{count_is, room_left, no_room, left_after, depleted_some, depleted_none}
use Rattle.grub_book.proofs.server.deplete.Goals as goal

pub returns-then-k-from-clause-value : goal.returns-then-k-from-clause-value
returns-then-k-from-clause-value c =
    let s = c.args.server in
    let p = c.args.params in
    let period : c.from-period.result ≡ p.period = cc in
    let runtime : c.from-runtime.result ≡ p.runtime = cc in
    let k = (c.args.dq - c.from-q.result) / c.from-runtime.result + 1 in
    let lt : (4294967295 - s.d) / p.period < k = rw (← period, ← c.from.ensures) c.if-k-from.true in
    let count = count_is s p c.args.dq _ _ c.requires c.from-q.ensures runtime c.if-dq-q.false in
    depleted_none s p c.args.dq k count (no_room k s.d p.period (omega arith) lt (omega arith))

pub returns-clause-value : goal.returns-clause-value
returns-clause-value c =
    let s = c.args.server in
    let p = c.args.params in
    let dq = c.args.dq in
    let q = c.from-q.result in
    let n = c.from-runtime.result in
    let period : c.from-period.result ≡ p.period = cc in
    let runtime : n ≡ p.runtime = cc in
    let k = (dq - q) / n + 1 in
    let le : k ≤ (4294967295 - s.d) / p.period = rw (← period, ← c.from.ensures) c.if-k-from.false in
    let count = count_is s p dq _ _ c.requires c.from-q.ensures runtime c.if-dq-q.false in
    let budget : n - (dq - q) % n ≡ s.q + k * p.runtime - dq = left_after q dq n (omega arith) c.if-dq-q.false ∙ cc in
    let deadline : s.d + k * c.from-period.result ≡ s.d + k * p.period = cc in
    depleted_some s p dq k _ _ count budget deadline (rw deadline (room_left k s.d p.period (omega arith) le (omega arith)))
