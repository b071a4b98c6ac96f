-- What a call by start, finish and cancel does with the pass that a handle keeps.
use Rattle.std.specs.Prelude.{◌≡◌, ◌<◌, ◌≤◌, ◌⊎◌, ℕ, length, Some, IsSome, IfSome}
use Rattle.std.specs.Arc.{arc_value}
use Rattle.std.specs.List.{All}
use Rattle.core.specs.Mem.{manually_drop_value}
use Rattle.grub_book.specs.Op.{IsOp}
use Rattle.grub_book.specs.declared.op.Op.{Op}
use Rattle.grub_book.specs.declared.reply.Reply.{Reply}
use Rattle.grub_table.specs.Accesses.{StartsBriefly}
use Rattle.grub_table.specs.Calls.{IsPassOf, IsClaimOf, IsStarted, IsFinished, IsWithin, IsCancelled, accesses, started_accesses, terms, claim_share, claim_task}
use Rattle.grub_table.specs.Histories.{record_in}
use Rattle.grub_table.specs.Layout.{task_word_at}
use Rattle.grub_table.specs.declared.answer.Sighting.{Sighting}
use Rattle.grub_table.specs.declared.answer.Started.{Started}
use Rattle.grub_table.specs.declared.answer.Started.TheVariants as started
use Rattle.grub_table.specs.declared.answer.Finished.TheVariants as finished
use Rattle.grub_table.specs.declared.claim.Claim.{Claim}
use Rattle.grub_table.specs.declared.shared.Shared.{Shared}
use Rattle.library_book.specs.Asked.{op_of, plain_reply, reply_of}
use Rattle.library_book.specs.Memory.{record_of, state_max}
use Rattle.library_book.specs.declared.memory.NdTask.{NdTask}
use Rattle.library_book.specs.declared.asked.NdOp.{NdOp}
use Rattle.library_book.specs.declared.asked.NdReply.{NdReply}
use Rattle.neddwyrol_table.specs.declared.calls.TheConstants.{BUSY}
use Rattle.neddwyrol_table.specs.declared.held.Kept.{Kept}
use Rattle.neddwyrol_table.specs.declared.held.Taken.{Taken}
use Rattle.neddwyrol_table.specs.declared.held.Held.{Held}
use Rattle.neddwyrol_table.specs.Called.{Keeps, IsSame, setup_of, table_of}

-- what a handle leads to has this claim
abbrev pub Claims : Held → Taken → Type 0
Claims h x = h.taken ≡ Some x

abbrev pub claimed_table : Taken → Shared
claimed_table x = arc_value x.shared

abbrev pub claim_of : Taken → Claim
claim_of x = manually_drop_value x.claim

-- the claim, and all that is gathered, come from its table
pub record IsWellTaken (x : Taken) : Type 0 where
  pub of : IsClaimOf (claimed_table x) (claim_of x)
  pub all : All (IsPassOf (claimed_table x)) x.gathered.items

-- a handle of a claim that calls may use
abbrev pub HasTask : Held → Type 0
HasTask h = IsSome h.taken × IfSome h.taken IsWellTaken

-- ---- start
-- there is such a task and op, and `start` of the table answered this
abbrev pub StartsWith : ℕ → NdOp → Kept → Started → Type 0
StartsWith t op k b =
    (it : Op) × (t < length (setup_of k).tasks) × (op_of op ≡ Some it) × IsOp (setup_of k) it × IsStarted (table_of k) k.pass t it b × StartsBriefly (task_word_at (setup_of k) t) (accesses k.pass) (started_accesses b)

-- no such task and no such op are answered 70 and 71
abbrev pub IsNotAsked : ℕ → NdOp → NdReply → Kept → Type 0
IsNotAsked t op reply k =
    ((length (setup_of k).tasks ≤ t) × (reply ≡ plain_reply 70)) ⊎ ((t < length (setup_of k).tasks) × ((it : Op) → op_of op ≡ Some it → ¬ IsOp (setup_of k) it) × (reply ≡ plain_reply 71))

-- the pass is back: with the reply of the call, or 50 where the task was busy, or as it was where there is no such task or op
abbrev pub IsTold : ℕ → NdOp → NdReply → Kept → Kept → Type 0
IsTold t op reply k l =
    ((x : Reply) × (reply ≡ reply_of x) × StartsWith t op k (started.Answered l.pass x))
    ⊎ ((x : Sighting) × (reply ≡ plain_reply BUSY) × StartsWith t op k (started.Busy l.pass x))
    ⊎ (IsNotAsked t op reply k × IsSame k l)

-- the pass has the task, by this claim
abbrev pub IsTakenBy : ℕ → NdOp → Kept → Taken → Type 0
IsTakenBy t op k x = StartsWith t op k (started.Held (claim_of x))

-- ---- finish and cancel
-- `finish` of the table made the call within so many tries, with this reply
abbrev pub IsMade : ℕ → NdReply → Taken → Kept → Type 0
IsMade tries reply x l = (y : Reply) × (reply ≡ reply_of y) × IsFinished (claimed_table x) (claim_of x) tries (finished.Done l.pass y) × IsWithin (claim_of x) tries (finished.Done l.pass y)

-- `finish` of the table lost so many tries, and the pass still has the task
abbrev pub IsUnmade : ℕ → Taken → Taken → Type 0
IsUnmade tries x y = IsFinished (claimed_table x) (claim_of x) tries (finished.Held (claim_of y)) × IsWithin (claim_of x) tries (finished.Held (claim_of y))

-- `cancel` of the table gave the task back
abbrev pub IsGivenBack : Taken → Kept → Type 0
IsGivenBack x l = IsCancelled (claimed_table x) (claim_of x) l.pass

-- ---- what a claim's task is
-- the memory has the task's record in the history that the pass has seen, and one of the five states
pub record IsShown (task : NdTask) (x : Taken) : Type 0 where
  pub held : record_of task ≡ record_in (terms (claimed_table x)) (claim_share (claim_of x)).seen (claim_task (claim_of x))
  pub state : task.state ≤ state_max

-- that was written, and the claim stays as it is
abbrev pub IsTaskOf : NdTask → Taken → Taken → Type 0
IsTaskOf task x y = IsShown task x × (claim_of y ≡ claim_of x)

-- ---- what stays: the table, and the passes gathered
abbrev pub GoWith : Kept → Taken → Type 0
GoWith k x = (claimed_table x ≡ table_of k) × (x.gathered.items ≡ k.gathered.items)

abbrev pub GoOn : Taken → Taken → Type 0
GoOn x y = (claimed_table y ≡ claimed_table x) × (y.gathered.items ≡ x.gathered.items)

-- a handle kept a pass, and has a claim
abbrev pub Took : Held → Held → (Kept → Taken → Type 0) → Type 0
Took before after R = (k : Kept) (x : Taken) → Keeps before k → Claims after x → GoWith k x × R k x

-- a handle had a claim, and has it
abbrev pub StillTook : Held → Held → (Taken → Taken → Type 0) → Type 0
StillTook before after R = (x y : Taken) → Claims before x → Claims after y → GoOn x y × R x y

-- a handle had a claim, and keeps a pass
abbrev pub CameBack : Held → Held → (Taken → Kept → Type 0) → Type 0
CameBack before after R = (x : Taken) (l : Kept) → Claims before x → Keeps after l → GoWith l x × R x l
