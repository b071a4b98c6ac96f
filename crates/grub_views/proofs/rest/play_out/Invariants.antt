use Rattle.std.proofs.Common.{◌≡◌, ◌++◌, List}
use Rattle.grub_timeline.specs.declared.told.ToldEntry.{ToldEntry}
use Rattle.grub_views.proofs.rest.play_out.Given as goal

-- some more was played
abbrev pub invariant-loop : goal.invariant-loop
invariant-loop l = (l.playing.plan ≡ l.fn.playing.plan) × ((more : List ToldEntry) × (l.playing.told ≡ l.fn.playing.told ++ more))

abbrev pub decreases-loop : goal.decreases-loop
decreases-loop l = l.playing.left
