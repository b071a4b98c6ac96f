-- Playing on, from one ask to the next.
use Rattle.std.proofs.Common.{ℕ, ◌∙◌}
use Rattle.grub_timeline.specs.declared.player.Player.{Player}
use Rattle.grub_timeline.specs.inside.Playing.{Plays}

pub plays_twice : (k m : ℕ) (a b c : Player) → Plays k a b → Plays m b c → Plays m a c
plays_twice k m a b c f g = record { playing = g.playing; setup = g.setup ∙ f.setup; last = g.last; start = g.start ∙ f.start; room = g.room ∙ f.room }
