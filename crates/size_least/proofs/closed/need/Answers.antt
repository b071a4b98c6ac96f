use Rattle.std.proofs.Common.{◌≡◌, ◌+◌, ◌-◌, ◌/◌, arith, refl}
use Rattle.std.proofs.lemmas.Bool.{lt-ltb, le-ltb, eq-eqb, ne_eqb}
use Rattle.size_least.specs.Span.{budgets_of}
use Rattle.size_least.specs.Needs.{need_of}
use Rattle.size_least.proofs.closed.need.Goals as goal
use Rattle.size_least.proofs.closed.need.Goals.{then-whole-eq0, else-whole-eq0}

pub returns-then-window-work : goal.returns-then-window-work
unfolding need_of
returns-then-window-work c = rw (lt-ltb c.args.window c.args.work c.if-window-work.true) refl

pub returns : goal.returns
unfolding need_of budgets_of
returns c =
    let p = c.args.period in
    let h = c.args.window in
    let w = c.args.work in
    let is : c.from-period.result ≡ p = c.from-period.ensures in
    let early : c.saturating_sub-early.result ≡ p - (h - w) / (h / p + 1) = rw (← is) c.saturating_sub-early.ensures in
    rw (le-ltb h w c.if-window-work.false) (elim c.if-whole-eq0.branch [
      | then-whole-eq0 b ↦ let none : h / p ≡ 0 = rw (← is) b.if-whole-eq0.true in
          rw (eq-eqb (h / p) 0 none) (omega (arith, c.max.ensures, b.least-is, early))
      | else-whole-eq0 b ↦ let some : h / p ≡ 0 → ⊥ = rw (← is) b.if-whole-eq0.false in
          let budgets : b.div_ceil.result ≡ budgets_of w (h / p) = rw (← is) b.div_ceil.ensures in
          rw (ne_eqb (h / p) 0 some) (omega (arith, c.max.ensures, b.least-is, b.min-least.ensures, budgets, early))
    ])
