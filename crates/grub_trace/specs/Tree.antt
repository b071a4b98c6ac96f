-- Event files: what a file says, and its one text.
use Rattle.std.specs.Prelude.{ℕ, Bool, true, false, ◌&&◌, nat_le, List, [], ◌∷◌, ◌++◌, map, codes, decimal}
use Rattle.std.specs.List.{flat_map, join_with_byte}
use Rattle.grub_book.specs.declared.op.TheConstants.{RUN_MAX}
use Rattle.grub_book.specs.declared.server.TheConstants.{MOMENT_MAX}
use Rattle.grub_book.specs.Bandwidth.{Reservation, Capacity}
use Rattle.grub_plan.specs.declared.line.Act.{Act}
use Rattle.grub_plan.specs.declared.line.Act.TheVariants as act
use Rattle.grub_plan.specs.declared.line.Line as lines
use Rattle.grub_trace.specs.declared.version.Version.{Version}
use Rattle.grub_trace.specs.declared.version.Version.TheVariants.{One, Two}

-- a task that a file declares
pub record Declaration : Type 0 where
  pub name : List ℕ
  pub params : Reservation

-- what a line says that happens, with the name of the task, and its moment
abbrev pub Happening : Type 0
Happening = lines.Line (List ℕ)

-- what a file says
pub record Tree : Type 0 where
  pub version : Version
  pub queue : Capacity
  pub tasks : List Declaration
  pub happenings : List Happening

abbrev pub names_of : List Declaration → List (List ℕ)
names_of ds = map (λ d. d.name) ds

-- ---- the text of a tree

-- the first line
abbrev pub header : Version → List ℕ
header One = codes "grub 1"
header Two = codes "grub 2"

abbrev pub queue_words : Capacity → List (List ℕ)
queue_words c = codes "queue" ∷ decimal c.most ∷ decimal c.extra ∷ []

abbrev pub declaration_words : Declaration → List (List ℕ)
declaration_words d = codes "task" ∷ d.name ∷ decimal d.params.runtime ∷ decimal d.params.period ∷ []

-- an act whose numbers are spelled so
abbrev pub act_words : {V : Type 0} → (V → List ℕ) → Act (List ℕ) V → List (List ℕ)
act_words spell (act.Join name) = codes "join" ∷ name ∷ []
act_words spell (act.Wake name) = codes "wake" ∷ name ∷ []
act_words spell (act.Block name) = codes "block" ∷ name ∷ []
act_words spell (act.Leave name) = codes "leave" ∷ name ∷ []
act_words spell (act.Exit name) = codes "exit" ∷ name ∷ []
act_words spell (act.Run name span) = codes "run" ∷ name ∷ spell span ∷ []
act_words spell (act.Retune name q p) = codes "retune" ∷ name ∷ spell q ∷ spell p ∷ []
act_words spell act.Read = codes "read" ∷ []

abbrev pub happening_words : Happening → List (List ℕ)
happening_words h = codes "at" ∷ decimal h.m ∷ act_words decimal h.act

-- a line: its words with a space between each two, and the byte that ends it
abbrev pub line : List (List ℕ) → List ℕ
line words = join_with_byte 32 words ++ 10 ∷ []

-- the first two lines
abbrev pub head_text : Version → Capacity → List ℕ
head_text v c = header v ++ 10 ∷ line (queue_words c)

unfoldable pub text : Tree → List ℕ
text t = head_text t.version t.queue ++ (flat_map (λ d. line (declaration_words d)) t.tasks ++ flat_map (λ m. line (happening_words m)) t.happenings)

-- ---- the limits

abbrev pub is_moment : ℕ → Bool
is_moment m = nat_le m MOMENT_MAX

abbrev pub is_span : ℕ → Bool
is_span n = nat_le 1 n && nat_le n RUN_MAX

-- only files of version 2 may say that a reservation is new
abbrev pub may_retune : Version → Bool
may_retune One = false
may_retune Two = true
