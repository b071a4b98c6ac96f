use Rattle.std.proofs.Common.{ℕ, Option, sym, ◌∙◌, subst}
use Rattle.std.specs.Prelude.{IfSome}
use Rattle.grub_wheel.specs.inside.Nodes.{node_at, tasks, IsNarrowNode}
use Rattle.grub_wheel.proofs.Keys.{before_key}
use Rattle.grub_wheel.proofs.Scans.{best_is_sooner}
use Rattle.grub_wheel.proofs.scan.sooner.Goals as goal

pub returns-in-Some-best : goal.returns-in-Some-best
returns-in-Some-best c =
    let ns = c.args.nodes.now in
    let i = c.in-Some.i in
    let j = c.in-Some-best.j in
    let narrow = subst (λ (o : Option ℕ). IfSome o (IsNarrowNode ns)) c.in-Some-best.is c.requires.best in
    let lt = before_key (node_at ns j).timer.z (tasks ns j) (node_at ns i).timer.z (tasks ns i) narrow.narrow (sym c.is_before.ensures ∙ c.if-is_before.true) in
    best_is_sooner ns c.args.best c.args.head c.args.m i j c.in-Some.is c.in-Some-best.is lt
