-- What a call by a handle does with the pass that it keeps.
use Rattle.std.specs.Prelude.{◌≡◌, ◌<◌, ◌≤◌, ℕ, ◌⊎◌, List, [], ◌∷◌, ◌++◌, length, Some, IsSome, IfSome, Result, Ok, Err}
use Rattle.std.specs.Arc.{arc_value}
use Rattle.std.specs.List.{All}
use Rattle.grub_book.specs.History.{pass_of}
use Rattle.grub_book.specs.Machine.{Machine}
use Rattle.grub_book.specs.Op.{IsOp}
use Rattle.grub_book.specs.declared.op.Op.{Op}
use Rattle.grub_book.specs.declared.reply.Reply.{Reply}
use Rattle.grub_book.specs.declared.event.Event.{Event}
use Rattle.grub_book.specs.declared.event.Event.TheVariants.{Call, Look}
use Rattle.grub_book.specs.declared.event.Reading.{Reading}
use Rattle.grub_table.specs.Accesses.{StartsBriefly}
use Rattle.grub_table.specs.Calls.{terms, IsPassOf, IsStarted, IsFinished, IsWithin, IsCancelled, number_of, seen, marks, share_of, accesses, started_accesses}
use Rattle.grub_table.specs.Histories.{EndsWith}
use Rattle.grub_table.specs.Knowing.{GoesOn, Learns}
use Rattle.grub_table.specs.Layout.{task_word_at}
use Rattle.grub_table.specs.declared.answer.Started.{Started}
use Rattle.grub_table.specs.declared.answer.Started.TheVariants as started
use Rattle.grub_table.specs.declared.answer.Finished.{Finished}
use Rattle.grub_table.specs.declared.answer.Finished.TheVariants as finished
use Rattle.grub_table.specs.declared.pass.Pass.{Pass}
use Rattle.grub_table.specs.declared.shared.Shared.{Shared}
use Rattle.library_book.specs.Asked.{op_of, plain_reply, reply_of}
use Rattle.library_book.specs.declared.asked.NdOp.{NdOp}
use Rattle.library_book.specs.declared.asked.NdReply.{NdReply}
use Rattle.library_book.specs.declared.numbers.NdReading.{NdReading}
use Rattle.neddwyrol_table.specs.declared.calls.TheConstants.{BUSY, LOST}
use Rattle.neddwyrol_table.specs.declared.held.Kept.{Kept}
use Rattle.neddwyrol_table.specs.declared.held.Held.{Held}

-- what a handle leads to keeps this
abbrev pub Keeps : Held → Kept → Type 0
Keeps h k = h.kept ≡ Some k

abbrev pub table_of : Kept → Shared
table_of k = arc_value k.shared

abbrev pub setup_of : Kept → Machine
setup_of k = (terms (table_of k)).setup

-- the passes that are kept, its own last
abbrev pub passes_of : Kept → List Pass
passes_of k = k.gathered.items ++ k.pass ∷ []

-- all that is kept comes from its table
pub record IsWell (k : Kept) : Type 0 where
  pub of : IsPassOf (table_of k) k.pass
  pub all : All (IsPassOf (table_of k)) k.gathered.items

-- a handle that calls may use
abbrev pub Stands : Held → Type 0
Stands h = IsSome h.kept × IfSome h.kept IsWell

-- the same table, and the same passes gathered
abbrev pub IsBeside : Kept → Kept → Type 0
IsBeside k l = (table_of l ≡ table_of k) × (l.gathered.items ≡ k.gathered.items)

-- nothing is changed
abbrev pub IsSame : Kept → Kept → Type 0
IsSame k l = IsBeside k l × (l.pass ≡ k.pass)

-- these events are all that is new of the pass in the history
abbrev pub GoesOnBy : Kept → Kept → List Event → Type 0
GoesOnBy k l events = GoesOn pass_of (number_of k.pass) (seen k.pass) (seen l.pass) events

-- the call was made, with this reply
abbrev pub WasMade : ℕ → Op → NdReply → Kept → Kept → Type 0
WasMade t it reply k l = (x : Reply) × (reply ≡ reply_of x) × GoesOnBy k l (Call (number_of k.pass) t it x ∷ [])

-- no call was made
abbrev pub WasNotMade : NdReply → Kept → Kept → Type 0
WasNotMade reply k l = ((reply ≡ plain_reply BUSY) ⊎ (reply ≡ plain_reply LOST)) × GoesOnBy k l []

-- a reply, or the number of why there is none
abbrev pub code_reply : Result Reply ℕ → NdReply
code_reply (Ok x) = reply_of x
code_reply (Err code) = plain_reply code

-- what `finish` of the table answered: the reply, or LOST where it lost each try, and then `cancel` gave the task back
abbrev pub EndsBy : Shared → Finished → NdReply → Pass → Type 0
EndsBy s (finished.Done p x) reply q = (reply ≡ reply_of x) × (q ≡ p)
EndsBy s (finished.Held c) reply q = (reply ≡ plain_reply LOST) × IsCancelled s c q

-- what `start` of the table answered: the reply, BUSY where another pass had the task, or a claim, which `finish` ended with so many tries
abbrev pub GoesBy : Shared → ℕ → Started → NdReply → Pass → Type 0
GoesBy s tries (started.Answered p x) reply q = (reply ≡ reply_of x) × (q ≡ p)
GoesBy s tries (started.Busy p sighting) reply q = (reply ≡ plain_reply BUSY) × (q ≡ p)
GoesBy s tries (started.Held c) reply q = (f : Finished) × IsFinished s c tries f × IsWithin c tries f × EndsBy s f reply q

-- the whole call of a pass, by `start`, `finish` and `cancel` of the table
abbrev pub WasCalled : Shared → Pass → ℕ → Op → ℕ → NdReply → Pass → Type 0
WasCalled s p t it tries reply q =
    (b : Started) × IsStarted s p t it b × StartsBriefly (task_word_at (terms s).setup t) (accesses p) (started_accesses b) × GoesBy s tries b reply q

-- the same of what was asked, where there is such a task and op
abbrev pub WasCalledBy : ℕ → NdOp → ℕ → NdReply → Kept → Kept → Type 0
WasCalledBy t op tries reply k l =
    (it : Op) → t < length (setup_of k).tasks → op_of op ≡ Some it → IsOp (setup_of k) it → WasCalled (table_of k) k.pass t it tries reply l.pass

-- what was asked: no such task and no such op are answered 70 and 71, and change nothing
pub record WasAsked (t : ℕ) (op : NdOp) (reply : NdReply) (k l : Kept) : Type 0 where
  pub asked : (it : Op) → t < length (setup_of k).tasks → op_of op ≡ Some it → IsOp (setup_of k) it → WasMade t it reply k l ⊎ WasNotMade reply k l
  pub no_task : length (setup_of k).tasks ≤ t → (reply ≡ plain_reply 70) × (l.pass ≡ k.pass)
  pub no_op : t < length (setup_of k).tasks → ((it : Op) → op_of op ≡ Some it → ¬ IsOp (setup_of k) it) → (reply ≡ plain_reply 71) × (l.pass ≡ k.pass)

-- one load of the runqueue's reading is all that is new of the pass, and the last that it has seen
pub record HasLooked (p : Pass) (r : ℕ) (found : Reading) (q : Pass) : Type 0 where
  pub learns : Learns (share_of p) (share_of q) (Look (number_of p) r found ∷ []) []
  pub last : EndsWith (seen q) (Look (number_of p) r found)
  pub marks : marks q ≡ marks p

-- the runqueue's reading was written; where there is no such runqueue nothing was
pub record WasRead (r code : ℕ) (before after : NdReading) (k l : Kept) : Type 0 where
  pub found : r < length (setup_of k).queues → (code ≡ 0) × HasLooked k.pass r (record { running = after.running_bw; this = after.this_bw }) l.pass
  pub none : length (setup_of k).queues ≤ r → (code ≡ 64) × (after ≡ before) × (l.pass ≡ k.pass)

-- what it keeps before and after is of the same table, with the same passes gathered, and this holds of the two
abbrev pub Went : Held → Held → (Kept → Kept → Type 0) → Type 0
Went before after R = (k l : Kept) → Keeps before k → Keeps after l → IsBeside k l × R k l
