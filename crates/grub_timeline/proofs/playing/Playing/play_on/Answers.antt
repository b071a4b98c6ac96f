use Rattle.std.proofs.lemmas.Bool.{OnFalse_at, OnFalse_from}
use Rattle.grub_timeline.proofs.Ending.{within_chunk}
use Rattle.grub_timeline.proofs.Left.{none_left}
use Rattle.grub_timeline.proofs.playing.Playing.play_on.Goals as goal

pub returns-clause-over : goal.returns-clause-over
returns-clause-over c = OnFalse_from c.ask_lines.result _ (λ is. none_left _ c.ask_lines.new.done.items (OnFalse_at is c.ask_lines.ensures.over))

pub returns-clause-within : goal.returns-clause-within
returns-clause-within c = within_chunk c.self.inside.plan.now c.ask_lines.new.player c.ask_lines.new.done.items c.ask_lines.ensures.midway
