-- What holds whichever branch is taken.
use Rattle.std.proofs.Common.{ℕ, Bool, true, false, cond, Some, None}
use Rattle.grub_book.specs.Step.{unless}
use Rattle.grub_book.specs.declared.place.Record.{Record}
use Rattle.grub_book.specs.declared.reply.Reply.{Reply}
use Rattle.grub_book.specs.declared.reply.Reply.TheVariants.{Early}

pub of_either : {A : Type 0} → (P : A → Type 0) (b : Bool) (x y : A) → P x → P y → P (cond b x y)
of_either P true x y left right = left
of_either P false x y left right = right

-- a timer: it is early, or this is its outcome
pub of_timer : (P : Record × Reply → Type 0) (is_early : Bool) (x : Record) (z : ℕ) (outcome : Record × Reply) → P (x, Early z) → P outcome → P (unless (cond is_early (Some (Early z)) None) x outcome)
of_timer P true x z outcome early later = early
of_timer P false x z outcome early later = later
