use Rattle.std.proofs.Common.{◌≡◌, Bool, true, false, refl, arith, ◌↔◌, IsTrue}
use Rattle.grub_wheel.proofs.Scans.{skips, all_seen, at_once, goes_past}
use Rattle.grub_wheel.proofs.scan.earliest.Goals as goal

not_of : (b : Bool) (P : Type 0) → (IsTrue b ↔ P) → b ≡ false → P → ⊥
not_of true P h e p = absurd cc
not_of false P h e p = let x = h.1 p in absurd cc

so_of : (b : Bool) (P : Type 0) → (IsTrue b ↔ P) → b ≡ true → P
so_of true P h e = h.0 refl
so_of false P h e = absurd cc

pub returns-then-at-count : goal.returns-then-at-count
returns-then-at-count c =
    let r = c.requires in
    let n = c.next_used.ensures in
    let sc = skips c.args.nodes.now c.args.heads.now r.sound c.args.from c.args.m r.after c.args.used.now r.mapped c.loop-k.k c.next_used.result c.loop-k.best c.loop-k.invariant.scanned (omega (arith, c.min-count.ensures, c.loop-k-test.true)) n.low n.high n.none in
    all_seen c.args.nodes.now c.args.heads.now r.sound c.args.from c.args.m r.after _ c.loop-k.best sc (omega (arith, c.min-count.ensures, c.from.ensures, c.if-at-count.true))

pub returns-then-is_at : goal.returns-then-is_at
returns-then-is_at c =
    let r = c.requires in
    let n = c.next_used.ensures in
    let sc = skips c.args.nodes.now c.args.heads.now r.sound c.args.from c.args.m r.after c.args.used.now r.mapped c.loop-k.k c.next_used.result c.loop-k.best c.loop-k.invariant.scanned (omega (arith, c.min-count.ensures, c.loop-k-test.true)) n.low n.high n.none in
    at_once c.args.nodes.now c.args.heads.now r.sound c.args.from c.args.m r.after _ c.loop-k.best _ sc refl (so_of c.is_at.result _ c.is_at.ensures c.if-is_at.true) (omega (arith, c.min-count.ensures, c.from.ensures, c.if-at-count.false))

pub loop-k-preserved : goal.loop-k-preserved
loop-k-preserved c =
    let r = c.requires in
    let n = c.next_used.ensures in
    let sc = skips c.args.nodes.now c.args.heads.now r.sound c.args.from c.args.m r.after c.args.used.now r.mapped c.loop-k.k c.next_used.result c.loop-k.best c.loop-k.invariant.scanned (omega (arith, c.min-count.ensures, c.loop-k-test.true)) n.low n.high n.none in
    record {
      scanned = goes_past c.args.nodes.now c.args.heads.now r.sound c.args.from c.args.m r.after _ c.loop-k.best _ c.sooner-best.result sc refl
          (omega (arith, c.min-count.ensures, c.if-at-count.false)) (not_of c.is_at.result _ c.is_at.ensures c.if-is_at.false) c.sooner-best.ensures;
      low = omega (arith, c.if-at-count.false);
    }
