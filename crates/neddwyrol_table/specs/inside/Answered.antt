-- What a pass is answered, before it is the answer of a handle.
use Rattle.std.specs.Prelude.{◌≡◌, ◌<◌, ◌≤◌, ℕ, ◌⊎◌, [], ◌∷◌, length, Some}
use Rattle.grub_book.specs.History.{pass_of}
use Rattle.grub_book.specs.Op.{IsOp}
use Rattle.grub_book.specs.declared.op.Op.{Op}
use Rattle.grub_book.specs.declared.reply.Reply.{Reply}
use Rattle.grub_book.specs.declared.event.Event.TheVariants.{Call}
use Rattle.grub_table.specs.Calls.{terms, number_of, seen}
use Rattle.grub_table.specs.Knowing.{GoesOn}
use Rattle.grub_table.specs.declared.pass.Pass.{Pass}
use Rattle.grub_table.specs.declared.shared.Shared.{Shared}
use Rattle.library_book.specs.Asked.{op_of, plain_reply, reply_of}
use Rattle.library_book.specs.declared.asked.NdOp.{NdOp}
use Rattle.library_book.specs.declared.asked.NdReply.{NdReply}
use Rattle.neddwyrol_table.specs.declared.calls.TheConstants.{BUSY, LOST}
use Rattle.neddwyrol_table.specs.Called.{WasCalled}

-- the call of the pass p was made, with this reply, and the pass is then q
abbrev pub IsMadeBy : ℕ → Op → NdReply → Pass → Pass → Type 0
IsMadeBy t it reply p q = (x : Reply) × (reply ≡ reply_of x) × GoesOn pass_of (number_of p) (seen p) (seen q) (Call (number_of p) t it x ∷ [])

-- no call of it was made
abbrev pub IsNotMadeBy : NdReply → Pass → Pass → Type 0
IsNotMadeBy reply p q = ((reply ≡ plain_reply BUSY) ⊎ (reply ≡ plain_reply LOST)) × GoesOn pass_of (number_of p) (seen p) (seen q) []

-- an op was asked for a task: where it may not be asked it is answered 71, and changes nothing
pub record AnswersOp (s : Shared) (t : ℕ) (it : Op) (tries : ℕ) (reply : NdReply) (p q : Pass) : Type 0 where
  pub made : IsOp (terms s).setup it → IsMadeBy t it reply p q ⊎ IsNotMadeBy reply p q
  pub called : IsOp (terms s).setup it → WasCalled s p t it tries reply q
  pub no_op : ¬ IsOp (terms s).setup it → (reply ≡ plain_reply 71) × (q ≡ p)

-- the same of what was asked in plain numbers: no such task is answered 70
pub record AnswersAsk (s : Shared) (t : ℕ) (op : NdOp) (tries : ℕ) (reply : NdReply) (p q : Pass) : Type 0 where
  pub made : (it : Op) → t < length (terms s).setup.tasks → op_of op ≡ Some it → IsOp (terms s).setup it → IsMadeBy t it reply p q ⊎ IsNotMadeBy reply p q
  pub called : (it : Op) → t < length (terms s).setup.tasks → op_of op ≡ Some it → IsOp (terms s).setup it → WasCalled s p t it tries reply q
  pub no_task : length (terms s).setup.tasks ≤ t → (reply ≡ plain_reply 70) × (q ≡ p)
  pub no_op : t < length (terms s).setup.tasks → ((it : Op) → op_of op ≡ Some it → ¬ IsOp (terms s).setup it) → (reply ≡ plain_reply 71) × (q ≡ p)
