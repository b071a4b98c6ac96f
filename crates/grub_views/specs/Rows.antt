-- The steps as a table: rows of fields, with a tab between each two.
use Rattle.std.specs.Prelude.{ℕ, List, [], ◌∷◌, ◌++◌, ◌==◌, codes, decimal, Option, Some, None}
use Rattle.std.specs.List.{flat_map, before_first, join_with_byte}
use Rattle.grub_views.specs.Views.{HandsOnView, HandsPartOfView}
use Rattle.grub_book.specs.declared.event.Reading.{Reading}
use Rattle.grub_book.specs.declared.op.Op.{Op}
use Rattle.grub_book.specs.declared.op.Op.TheVariants.{Join, Wake, Block, Leave, Timer, Exit, Charge, Retune}
use Rattle.grub_book.specs.declared.reply.Reply.{Reply}
use Rattle.grub_book.specs.declared.reply.Reply.TheVariants.{Joined, Woken, Waiting, Charged}
use Rattle.grub_plan.specs.declared.entry.Ask.{Ask}
use Rattle.grub_plan.specs.declared.entry.Ask.TheVariants.{Call, Read}
use Rattle.grub_plan.specs.declared.entry.Answer.{Answer}
use Rattle.grub_plan.specs.declared.entry.Answer.TheVariants.{Replied, Seen, Busy, Lost}
use Rattle.grub_plan.specs.Plans.{PlanView, name_at}
use Rattle.grub_plan.specs.Texts.{ask_text, reply_text}
use Rattle.grub_timeline.specs.declared.told.ToldEntry.{ToldEntry}
use Rattle.grub_timeline.specs.Replay.{steps_of}
use Rattle.grub_timeline.specs.declared.book_steps.Step.{Step}
use Rattle.grub_views.specs.declared.row.AnswerNumbers.{AnswerNumbers}

abbrev pub first_word : List ℕ → List ℕ
first_word text = before_first (λ b. b == 32) text

-- the first word of what was asked; no name stands in front of it
abbrev pub ask_word : Ask → List ℕ
ask_word ask = first_word (ask_text [] ask)

abbrev pub reply_word : Reply → List ℕ
reply_word reply = first_word (reply_text reply)

-- the first word of the answer, and of a reading its ask's
abbrev pub answer_word : Answer → List ℕ
answer_word (Replied reply) = reply_word reply
answer_word (Seen reading) = codes "read"
answer_word Busy = codes "busy"
answer_word Lost = codes "lost"

abbrev pub task_field : List (List ℕ) → Ask → List ℕ
task_field names (Call t op) = name_at names t
task_field names Read = []

-- how long a task ran, the ticket of a timer, or the numbers of a new reservation
abbrev pub op_field : Op → List ℕ
op_field (Charge r dt) = decimal dt
op_field (Timer ticket m) = decimal ticket
op_field (Retune q p) = decimal q ++ codes "/" ++ decimal p
op_field (Join r m) = []
op_field (Wake r m) = []
op_field (Block r m) = []
op_field Leave = []
op_field Exit = []

abbrev pub arg_field : Ask → List ℕ
arg_field (Call t op) = op_field op
arg_field Read = []

abbrev pub no_numbers : AnswerNumbers
no_numbers = record { dq = None; k = None; q = None; d = None; z = None }

-- the numbers of a reply: a reply that refuses has none
abbrev pub reply_numbers : Reply → AnswerNumbers
reply_numbers (Joined q d) = record { dq = None; k = None; q = Some q; d = Some d; z = None }
reply_numbers (Woken q d) = record { dq = None; k = None; q = Some q; d = Some d; z = None }
reply_numbers (Charged k q d dq) = record { dq = Some dq; k = Some k; q = Some q; d = Some d; z = None }
reply_numbers (Waiting ticket z) = record { dq = None; k = None; q = None; d = None; z = Some z }
reply_numbers reply = no_numbers

abbrev pub answer_numbers : Answer → AnswerNumbers
answer_numbers (Replied reply) = reply_numbers reply
answer_numbers (Seen reading) = no_numbers
answer_numbers Busy = no_numbers
answer_numbers Lost = no_numbers

-- a field that there is none of is empty
abbrev pub number_field : Option ℕ → List ℕ
number_field (Some n) = decimal n
number_field None = []

abbrev pub number_fields : AnswerNumbers → List (List ℕ)
number_fields x = number_field x.dq ∷ number_field x.k ∷ number_field x.q ∷ number_field x.d ∷ number_field x.z ∷ []

-- fields with a tab between each two, and the byte that ends a line
abbrev pub row : List (List ℕ) → List ℕ
row fields = join_with_byte 9 fields ++ codes "\n"

abbrev pub header : List ℕ
header = codes "moment\trunqueue\task\ttask\targ\tanswer\tdq\tk\tq\td\tz\trunning\tthis\n"

abbrev pub asked_fields : List (List ℕ) → Step → List (List ℕ)
asked_fields names x =
    let entry = x.told.entry in
    decimal entry.m ∷ decimal x.queue ∷ ask_word entry.ask ∷ task_field names entry.ask ∷ arg_field entry.ask ∷ answer_word entry.answer ∷ []

unfoldable pub step_row : List (List ℕ) → Step → List ℕ
step_row names x = row (asked_fields names x ++ number_fields (answer_numbers x.told.entry.answer) ++ decimal x.reading.running ∷ decimal x.reading.this ∷ [])

-- the names of the columns, and a row for each step
unfoldable pub step_rows : List (List ℕ) → List Step → List ℕ
step_rows names steps = header ++ flat_map (step_row names) steps

abbrev pub rows_of : PlanView → List ToldEntry → List Reading → List ℕ
rows_of plan told closing = step_rows plan.names (steps_of plan.setup told)

-- the rows of the time line of the plan were handed on, behind what was kept
abbrev pub HandsOnSteps : PlanView → Option (List ℕ) → Option (List ℕ) → List ℕ → List ℕ → Type 0
HandsOnSteps plan a b kept left = HandsOnView (rows_of plan) plan a b kept left

-- or a part of them
abbrev pub HandsPartOfSteps : PlanView → Option (List ℕ) → Option (List ℕ) → List ℕ → Type 0
HandsPartOfSteps plan a b kept = HandsPartOfView (rows_of plan) plan a b kept
