-- A time line that is played may go to another thread.
use denote.Ref.{NamedLft}
use denote.Param.Send.{IsSend, IsSync, sendable}
use Rattle.std.proofs.Crossing.{crosses}
use Rattle.grub_book.specs.contracts.setup.Setup as Setup
use Rattle.grub_book.specs.contracts.book.Book as Book
use Rattle.grub_wheel.specs.contracts.wheel.Wheel as Wheel
use Rattle.grub_book.specs.contracts.op.Op as Op
use Rattle.grub_book.specs.contracts.reply.Reply as Reply
use Rattle.grub_plan.specs.contracts.entry.Ask as Ask
use Rattle.grub_plan.specs.contracts.entry.Answer as Answer
use Rattle.grub_plan.specs.contracts.entry.Entry as Entry
use Rattle.grub_plan.specs.contracts.plan.Plan as Plan
use Rattle.grub_timeline.specs.contracts.log.Log as Log
use Rattle.grub_timeline.specs.contracts.told.ToldEntry as ToldEntry
use Rattle.grub_timeline.specs.contracts.player.Player as Player
use Rattle.grub_timeline.specs.contracts.playing.Playing as Playing

Setup-sync : IsSync Setup.the_row
Setup-sync = search (sendable, crosses) depth 40

Plan-sync : IsSync Plan.the_row
Plan-sync = search (sendable, crosses) depth 40

Op-send : IsSend Op.the_field.row
Op-send = search sendable depth 40

Reply-send : IsSend Reply.the_field.row
Reply-send = search sendable depth 40

Ask-send : IsSend Ask.the_field.row
Ask-send = search (sendable, Op-send) depth 40

Answer-send : IsSend Answer.the_field.row
Answer-send = search (sendable, Reply-send) depth 40

Entry-send : IsSend Entry.the_field.row
Entry-send = search (sendable, Ask-send, Answer-send) depth 40

Told-send : IsSend ToldEntry.the_field.row
Told-send = search (sendable, Entry-send) depth 40

Log-send : IsSend Log.the_field.row
Log-send = search (sendable, crosses) depth 40

Wheel-send : IsSend Wheel.the_field.row
Wheel-send = search (sendable, crosses) depth 40

Book-send : (κ : NamedLft) → IsSend (Book.the_field κ).row
Book-send κ = search (sendable, crosses, Setup-sync) depth 40

Player-send : (κ : NamedLft) → IsSend (Player.the_field κ).row
Player-send κ = search (sendable, crosses, Book-send, Wheel-send, Told-send, Log-send) depth 40

pub Playing-send : (κ : NamedLft) → IsSend (Playing.the_row κ)
Playing-send κ = search (sendable, crosses, Player-send, Plan-sync) depth 40
