-- The replies of `start`, and what the word of a free task says.
use Rattle.std.proofs.Common.{◌≡◌, ℕ, Bool, true, false, cond, nat_lt, Option, Some, None, [], ◌∷◌, sym, ap, ◌∙◌}
use Rattle.grub_book.specs.Sound.{IsKept}
use Rattle.grub_book.specs.Step.{early, is_under_claim, lag_moment}
use Rattle.grub_book.specs.declared.op.Op.{Op}
use Rattle.grub_book.specs.declared.op.Op.TheVariants.{Join, Wake, Block, Leave, Timer, Exit, Charge, Retune}
use Rattle.grub_book.specs.declared.place.Record.{Record}
use Rattle.grub_book.specs.declared.reply.Reply.{Reply}
use Rattle.grub_book.specs.declared.reply.Reply.TheVariants.{Early, Full}
use Rattle.grub_table.specs.Words.{task_word, PlaceFits}
use Rattle.grub_table.specs.declared.task.TaskWord.{TaskWord}
use Rattle.grub_table.proofs.Bounds.{PlaceFits-kept}
use Rattle.grub_table.proofs.Tasks.{same_fields}
use Rattle.grub_table.specs.declared.shared.Shared.{Shared}
use Rattle.grub_table.specs.declared.view.Mark.TheVariants.{Taken, Given}
use Rattle.grub_table.specs.Calls.{marks_of_call}
use Rattle.grub_table.specs.Layout.{shown}

-- ---- replies
pub outside_marks : (i t : ℕ) (reply : Reply) → is_under_claim reply ≡ false → marks_of_call i t reply ≡ []
outside_marks i t reply is = ap (λ b. cond b (Taken i t ∷ Given i t ∷ []) []) is

pub outside_soon : (reply : Reply) → is_under_claim reply ≡ false → is_under_claim reply ≡ true → (z : ℕ) × (reply ≡ Early z)
outside_soon reply is claimed = let both : false ≡ true = sym is ∙ claimed in absurd cc

early_if : (b : Bool) (z : ℕ) (reply : Reply) → cond b (Some (Early z)) None ≡ Some reply → reply ≡ Early z
early_if true z reply is = ap (λ o. reply_in o) (sym is)
  where
    reply_in : Option Reply → Reply
    reply_in None = Full
    reply_in (Some r) = r
early_if false z reply is = absurd cc

-- the server decides nothing but that a timer is early
pub early_is : (x : Record) (op : Op) (reply : Reply) → early x op ≡ Some reply → (z : ℕ) × (reply ≡ Early z)
early_is x (Timer ticket m) reply is = (lag_moment x, early_if (nat_lt m (lag_moment x)) (lag_moment x) reply is)
early_is x (Join r m) reply is = absurd cc
early_is x (Wake r m) reply is = absurd cc
early_is x (Block r m) reply is = absurd cc
early_is x Leave reply is = absurd cc
early_is x Exit reply is = absurd cc
early_is x (Charge r dt) reply is = absurd cc
early_is x (Retune q p) reply is = absurd cc

-- ---- the task's word
-- what a free task's word says is the task's place and count
pub word_says : (s : Shared) (w : TaskWord) (rec : Record) → PlaceFits w.place → IsKept s.terms.setup rec → task_word w.place w.count false ≡ shown rec false → (w.place ≡ rec.place) × (w.count ≡ rec.count)
word_says s w rec fits kept is = let f = same_fields w.place rec.place w.count rec.count false false fits (PlaceFits-kept s.terms.setup rec s.limited kept) is in (f.0, f.1)
