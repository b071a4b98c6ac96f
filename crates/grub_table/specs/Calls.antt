-- What the calls of a table promise, in terms of its passes and claims.
use Rattle.std.specs.Prelude.{Bool, true, false, ◌≡◌, ◌≢◌, ℕ, ◌-◌, ◌<◌, ◌≤◌, List, [], ◌∷◌, ◌++◌, length, slice_index_or, ◌⊎◌, None, if◌then◌else◌}
use Rattle.std.specs.List.{All, Any}
use mathlib.Core.List.{IsPrefix}
use Rattle.grub_book.specs.Machine.{Machine}
use Rattle.grub_book.specs.Op.{IsOp}
use Rattle.grub_book.specs.History.{HasChanged}
use Rattle.grub_book.specs.Sound.{IsKept}
use Rattle.grub_book.specs.Step.{early, refused, runqueue_of, changes_sum, is_under_claim}
use Rattle.grub_book.specs.declared.event.Event.{Event}
use Rattle.grub_book.specs.declared.event.Event.TheVariants.{Call}
use Rattle.grub_book.specs.declared.event.Reading.{Reading}
use Rattle.grub_book.specs.declared.op.Op.{Op}
use Rattle.grub_book.specs.declared.place.Record.{Record}
use Rattle.grub_book.specs.declared.reply.Reply.{Reply}
use Rattle.grub_book.specs.declared.reply.Reply.TheVariants.{Early}
use Rattle.grub_table.specs.declared.view.Access.{Access}
use Rattle.grub_table.specs.declared.view.Mark.{Mark}
use Rattle.grub_table.specs.declared.view.Mark.TheVariants.{Taken, Given}
use Rattle.grub_table.specs.declared.view.Terms.{Terms}
use Rattle.grub_table.specs.declared.view.Share.{Share}
use Rattle.grub_table.specs.declared.seated.Seated.{Seated}
use Rattle.grub_table.specs.declared.pass.Pass.{Pass}
use Rattle.grub_table.specs.declared.claim.Claim.{Claim}
use Rattle.grub_table.specs.declared.shared.Shared.{Shared}
use Rattle.grub_table.specs.declared.answer.Sighting.{Sighting}
use Rattle.grub_table.specs.declared.answer.Sighting.TheVariants.{Claimed, Changed}
use Rattle.grub_table.specs.declared.answer.Started.{Started}
use Rattle.grub_table.specs.declared.answer.Started.TheVariants as started
use Rattle.grub_table.specs.declared.answer.Started.TheVariants.{Answered, Busy}
use Rattle.grub_table.specs.declared.answer.Finished.{Finished}
use Rattle.grub_table.specs.declared.answer.Finished.TheVariants.{Done, Held}
use Rattle.grub_table.specs.declared.fault.CloseFault.{CloseFault}
use Rattle.grub_table.specs.declared.fault.CloseWhy.{CloseWhy}
use Rattle.grub_table.specs.declared.fault.CloseWhy.TheVariants.{Missing, NoMemory}
use Rattle.grub_table.specs.Marks.{AreLawful}
use Rattle.grub_table.specs.Knowing.{GoesOn, Knows, Learns}
use Rattle.grub_table.specs.Accesses.{FinishesBriefly, lost_tries}
use Rattle.grub_table.specs.Layout.{queue_word_at, shown}
use Rattle.grub_table.specs.Histories.{IsHistory, EndsWith, WasBefore, record_in, reading_in}
use Rattle.grub_table.specs.Trails.{first_made}
use Rattle.grub_table.specs.Views.{first_of}
use Rattle.grub_table.specs.Sightings.{IsHeldByOther, WasClaimedWord}

-- ---- what a pass or a claim knows, by its seat
abbrev pub share_on : Seated → Share
share_on x = first_of x.seat.me.0.view

-- the accesses of the table's words that it has made, the first one first
abbrev pub made_on : Seated → List Access
made_on x = first_made x.seat.me.0

abbrev pub share_of : Pass → Share
share_of p = share_on p.seated

abbrev pub number_of : Pass → ℕ
number_of p = (share_of p).number

-- the history that the pass has seen
abbrev pub seen : Pass → List Event
seen p = (share_of p).seen

-- the marks that the pass knows
abbrev pub marks : Pass → List Mark
marks p = (share_of p).marks

abbrev pub accesses : Pass → List Access
accesses p = made_on p.seated

abbrev pub claim_share : Claim → Share
claim_share c = share_on c.seated

-- the task that it holds, and the op that it is for
abbrev pub claim_task : Claim → ℕ
claim_task c = c.task

abbrev pub claim_op : Claim → Op
claim_op c = c.op

-- the record of the task, as the claim holds it
abbrev pub claim_record : Claim → Record
claim_record c = c.held

-- the runqueue that its op is about
abbrev pub claim_queue : Claim → ℕ
claim_queue c = runqueue_of (claim_record c).place (claim_op c)

-- its own and those of its pass before it
abbrev pub claim_accesses : Claim → List Access
claim_accesses c = made_on c.seated

-- what the table was opened for
abbrev pub terms : Shared → Terms
terms s = s.terms

-- the seat is at this table
pub record IsSeatOf (s : Shared) (x : Seated) : Type 0 where
  pub home : x.seat.table_id ≡ s.table.inner.shared.table_id
  pub terms : (share_on x).terms ≡ s.terms

-- the seat comes from this table
pub record ComesFrom (s : Shared) (x : Seated) : Type 0 where
  pub seat : IsSeatOf s x
  pub history : IsHistory s.terms (share_on x).seen
  pub lawful : AreLawful s.terms.passes (share_on x).marks

-- the pass comes from this table
abbrev pub IsPassOf : Shared → Pass → Type 0
IsPassOf s p = ComesFrom s p.seated

-- the claim comes from this table, and holds a task whose record is the one that it names, for an op that neither the record nor the server refuses
pub record IsClaimOf (s : Shared) (c : Claim) : Type 0 where
  pub of : ComesFrom s c.seated
  pub task : claim_task c < length s.terms.setup.tasks
  pub op : IsOp s.terms.setup (claim_op c)
  pub held : record_in s.terms (claim_share c).seen (claim_task c) ≡ claim_record c
  pub kept : IsKept s.terms.setup (claim_record c)
  pub unrefused : refused (claim_record c).place (claim_record c).count (claim_op c) ≡ None
  pub timely : early (claim_record c) (claim_op c) ≡ None

-- ---- opening
-- the pass of this number, which has seen just these events and knows just these marks
pub record IsPassWith (s : Shared) (k : ℕ) (events : List Event) (known : List Mark) (p : Pass) : Type 0 where
  pub of : IsPassOf s p
  pub number : number_of p ≡ k
  pub seen : seen p ≡ events
  pub marks : marks p ≡ known

-- a new pass of this number, which has seen nothing
abbrev pub IsNew : Shared → ℕ → Pass → Type 0
IsNew s k p = IsPassWith s k [] [] p

-- new passes, in the order of their numbers
abbrev pub AreNew : Shared → List Pass → Type 0
AreNew s ps = (i : ℕ) (d : Pass) → i < length ps → IsNew s i (slice_index_or ps i d)

-- a table and its passes, for these runqueues and tasks
pub record IsOpened (s : Shared) (ps : List Pass) (machine : Machine) (n : ℕ) : Type 0 where
  pub setup : s.terms.setup ≡ machine
  pub passes : s.terms.passes ≡ n
  pub count : length ps ≡ n
  pub of : All (IsPassOf s) ps
  pub new : AreNew s ps

-- ---- meeting
-- q knows what p does, and nothing more of p's own: of the events that are seen, or of the marks
abbrev pub IsBehind : {X : Type 0} → (X → ℕ) → (Pass → List X) → Pass → Pass → Type 0
IsBehind by known p q = GoesOn by (number_of p) (known p) (known q) []

-- ---- closing
-- one reading for each runqueue, of the book after the history
pub record AreReadings (T : Terms) (h : List Event) (readings : List Reading) : Type 0 where
  pub one_each : length readings ≡ length T.setup.queues
  pub value : (r : ℕ) (d : Reading) → r < length T.setup.queues → slice_index_or readings r d ≡ reading_in T h r

-- the whole history and all marks of a table, from its passes and its readings at the end
pub record IsClosed (s : Shared) (ps : List Pass) (last : List Reading) : Type 0 where
  pub history : List Event
  pub is_history : IsHistory s.terms history
  pub marks : List Mark
  pub lawful : AreLawful s.terms.passes marks
  pub knows : All (λ p. Knows (share_of p) history marks) ps
  pub readings : AreReadings s.terms history last
  pub whole : (i : ℕ) → i < s.terms.passes → Any (λ p. number_of p ≡ i) ps

abbrev pub IsReason : Shared → List Pass → CloseWhy → Type 0
IsReason s ps (Missing n) = (length ps < s.terms.passes) × (n ≡ s.terms.passes - length ps)
IsReason s ps NoMemory = s.terms.passes ≤ length ps

-- all is given back, with the reason
pub record IsRefusal (s : Shared) (ps : List Pass) (f : CloseFault) : Type 0 where
  pub shared : f.shared ≡ s
  pub passes : f.passes.items ≡ ps
  pub why : IsReason s ps f.why

-- ---- calls on a task
-- a call that was made under a claim took the task and gave it back
abbrev pub marks_of_call : ℕ → ℕ → Reply → List Mark
marks_of_call i t reply = if is_under_claim reply then Taken i t ∷ Given i t ∷ [] else []

-- `start` made the call: the place, the count or the ticket decided the reply, or it is Early
pub record IsAnswered (s : Shared) (p : Pass) (t : ℕ) (op : Op) (q : Pass) (reply : Reply) : Type 0 where
  pub of : IsPassOf s q
  pub learns : Learns (share_of p) (share_of q) (Call (number_of p) t op reply ∷ []) (marks_of_call (number_of p) t reply)
  pub last : EndsWith (seen q) (Call (number_of p) t op reply)
  pub soon : is_under_claim reply ≡ true → (z : ℕ) × (reply ≡ Early z)

-- `start` took the task
pub record IsTaken (s : Shared) (p : Pass) (t : ℕ) (asked : Op) (c : Claim) : Type 0 where
  pub of : IsClaimOf s c
  pub task : claim_task c ≡ t
  pub op : claim_op c ≡ asked
  pub learns : Learns (share_of p) (claim_share c) [] (Taken (number_of p) t ∷ [])

-- the task word of t was seen with its claim bit, and another pass has t
pub record IsClaimedSighting (T : Terms) (i t : ℕ) (after : List Event) (known : List Mark) (word : ℕ) : Type 0 where
  pub was : WasClaimedWord T after t word
  pub held : IsHeldByOther i t known

-- The task word of t was loaded and, later in the call, found another.
pub record IsChangedSighting (T : Terms) (i t : ℕ) (before after : List Event) (known : List Mark) (loaded found : ℕ) : Type 0 where
  pub differ : found ≢ loaded
  pub at_load : List Event
  pub not_before : IsPrefix before at_load
  pub known_then : IsPrefix at_load after
  pub loaded_word : loaded ≡ shown (record_in T at_load t) false
  pub found_word : IsClaimedSighting T i t after known found ⊎ ((b : List Event) × IsPrefix at_load b × IsPrefix b after × (found ≡ shown (record_in T b t) false))

abbrev pub IsSighting : Terms → ℕ → ℕ → List Event → List Event → List Mark → Sighting → Type 0
IsSighting T i t before after known (Claimed word) = IsClaimedSighting T i t after known word
IsSighting T i t before after known (Changed loaded found) = IsChangedSighting T i t before after known loaded found

-- `start` found the task busy
pub record IsBusy (s : Shared) (p : Pass) (t : ℕ) (q : Pass) (sighting : Sighting) : Type 0 where
  pub of : IsPassOf s q
  pub learns : Learns (share_of p) (share_of q) [] []
  pub sight : IsSighting s.terms (number_of p) t (seen p) (seen q) (marks q) sighting

abbrev pub IsStarted : Shared → Pass → ℕ → Op → Started → Type 0
IsStarted s p t op (Answered q reply) = IsAnswered s p t op q reply
IsStarted s p t op (started.Held c) = IsTaken s p t op c
IsStarted s p t op (Busy q sighting) = IsBusy s p t q sighting

-- the accesses of the pass or the claim that `start` answers with
abbrev pub started_accesses : Started → List Access
started_accesses (Answered q reply) = accesses q
started_accesses (started.Held c) = claim_accesses c
started_accesses (Busy q sighting) = accesses q

-- whether the op of a claim changes a sum of its runqueue
abbrev pub claim_changes_sum : Claim → Bool
claim_changes_sum c = changes_sum (claim_record c) (claim_op c)

-- `finish` made the call on the record that the claim names; with no try it makes only one that changes no sum
pub record IsDone (s : Shared) (c : Claim) (tries : ℕ) (q : Pass) (reply : Reply) : Type 0 where
  pub of : IsPassOf s q
  pub learns : Learns (claim_share c) (share_of q) (Call (claim_share c).number (claim_task c) (claim_op c) reply ∷ []) (Given (claim_share c).number (claim_task c) ∷ [])
  pub before : WasBefore s.terms (claim_task c) (claim_record c) (Call (claim_share c).number (claim_task c) (claim_op c) reply) (seen q)
  pub claimed : is_under_claim reply ≡ true
  pub tried : claim_changes_sum c ≡ true → 1 ≤ tries

-- the claim is as it was
pub record IsStill (s : Shared) (c d : Claim) : Type 0 where
  pub of : IsClaimOf s d
  pub task : claim_task d ≡ claim_task c
  pub op : claim_op d ≡ claim_op c
  pub held : claim_record d ≡ claim_record c
  pub marks : (claim_share d).marks ≡ (claim_share c).marks

-- `finish` gave the claim back, after so many tries, each lost to a change of the runqueue's reading
pub record IsLost (s : Shared) (c : Claim) (tries : ℕ) (d : Claim) : Type 0 where
  pub still : IsStill s c d
  pub learns : Learns (claim_share c) (claim_share d) [] []
  pub sum : claim_changes_sum c ≡ true
  pub changes : HasChanged s.terms.setup (claim_queue c) (claim_share c).seen (claim_share d).seen tries

abbrev pub IsFinished : Shared → Claim → ℕ → Finished → Type 0
IsFinished s c tries (Done q reply) = IsDone s c tries q reply
IsFinished s c tries (Held d) = IsLost s c tries d

-- `finish` made the call within so many tries; where it gave the claim back it made just these, and lost each
abbrev pub IsWithin : Claim → ℕ → Finished → Type 0
IsWithin c tries (Done q reply) = FinishesBriefly (queue_word_at (claim_queue c)) tries (claim_changes_sum c) (claim_accesses c) (accesses q)
IsWithin c tries (Held d) = claim_accesses d ≡ claim_accesses c ++ lost_tries (queue_word_at (claim_queue c)) tries

-- `cancel` gave the task back
pub record IsCancelled (s : Shared) (c : Claim) (q : Pass) : Type 0 where
  pub of : IsPassOf s q
  pub learns : Learns (claim_share c) (share_of q) [] (Given (claim_share c).number (claim_task c) ∷ [])
