use Rattle.std.proofs.Common.{◌≡◌, ◌-◌, [], length}
use Rattle.grub_table.specs.Calls.{AreNew}
use Rattle.grub_table.specs.inside.Trails.{known}
use Rattle.grub_table.specs.inside.Views.{view, fresh}
use Rattle.grub_table.proofs.opening.dealt.Given as goal

abbrev pub invariant-loop-number : goal.invariant-loop-number
invariant-loop-number l = record {
  table : l.seat.table_id ≡ l.shared.table.inner.shared.table_id;
  left : known l.seat.me ≡ (view (fresh l.shared.terms l.number (l.shared.terms.passes - l.number)), []);
  each : length l.seat.me.0.made ≡ length l.seat.me.0.view.shares;
  count : length l.passes.items ≡ l.number;
  new : AreNew l.shared l.passes.items;
}
