-- What lines of event files are: their words, their forms, and the numbers in them.
use Rattle.std.specs.Prelude.{ℕ, Bool, false, not, ◌&&◌, ◌||◌, ◌==◌, List, [], ◌∷◌, length, codes, Option, Some, None, if◌then◌else◌, option_map}
use Rattle.std.specs.List.{list_all}
use Rattle.std.specs.Str.{bytes_eq}
use Rattle.std.specs.Char.{is_ascii_digit}
use Rattle.text_bytes.specs.Digits.{value}
use Rattle.grub_book.specs.Bandwidth.{Reservation, Capacity}
use Rattle.grub_plan.specs.declared.line.Act.{Act}
use Rattle.grub_plan.specs.declared.line.Act.TheVariants.{Join, Wake, Block, Leave, Exit, Run, Retune, Read}
use Rattle.grub_trace.specs.declared.version.Version.{Version}
use Rattle.grub_trace.specs.declared.version.Version.TheVariants.{One, Two}
use Rattle.grub_plan.specs.Names.{is_name}
use Rattle.grub_trace.specs.Tree.{header}

-- ---- lines and their words

-- the version that a first line names
abbrev pub version_of : List ℕ → Option Version
version_of line = if bytes_eq line (header One) then Some One else (if bytes_eq line (header Two) then Some Two else None)

-- a form of a line, with its numbers unread
pub data Form : Type 0 where
  queue : List ℕ → List ℕ → Form
  task : List ℕ → List ℕ → List ℕ → Form
  at_moment : List ℕ → Act (List ℕ) (List ℕ) → Form

-- what a verb says that the task with this name does
abbrev pub act_of : List ℕ → List ℕ → Option (Act (List ℕ) (List ℕ))
act_of w n = if bytes_eq w (codes "join") then Some (Join n) else (if bytes_eq w (codes "wake") then Some (Wake n) else (if bytes_eq w (codes "block") then Some (Block n)
    else (if bytes_eq w (codes "leave") then Some (Leave n) else (if bytes_eq w (codes "exit") then Some (Exit n) else None))))

-- the form that the keywords, the number of words and the name among them make
abbrev pub shape_of : List (List ℕ) → Option Form
shape_of (k ∷ a ∷ b ∷ []) = if bytes_eq k (codes "queue") then Some (queue a b) else (if bytes_eq k (codes "at") && bytes_eq b (codes "read") then Some (at_moment a Read) else None)
shape_of (k ∷ a ∷ b ∷ c ∷ []) = if bytes_eq k (codes "task") && is_name a then Some (task a b c) else (if bytes_eq k (codes "at") && is_name c then option_map (at_moment a) (act_of b c) else None)
shape_of (k ∷ a ∷ b ∷ c ∷ d ∷ []) = if bytes_eq k (codes "at") && bytes_eq b (codes "run") && is_name c then Some (at_moment a (Run c d)) else None
shape_of (k ∷ a ∷ b ∷ c ∷ d ∷ e ∷ []) = if bytes_eq k (codes "at") && bytes_eq b (codes "retune") && is_name c then Some (at_moment a (Retune c d e)) else None
shape_of _ = None

abbrev pub is_filled : List ℕ → Bool
is_filled word = not (length word == 0)

-- an empty word fits no form
abbrev pub form_of : List (List ℕ) → Option Form
form_of words = if list_all is_filled words then shape_of words else None

-- ---- numbers

-- `0`, or a digit that is not 0 and any digits
abbrev pub is_number : List ℕ → Bool
is_number [] = false
is_number (c ∷ cs) = list_all is_ascii_digit (c ∷ cs) && (not (c == 48) || length cs == 0)

abbrev pub numbers_of : Form → List (List ℕ)
numbers_of (queue a b) = a ∷ b ∷ []
numbers_of (task n q p) = q ∷ p ∷ []
numbers_of (at_moment m (Run n d)) = m ∷ d ∷ []
numbers_of (at_moment m (Retune n q p)) = m ∷ q ∷ p ∷ []
numbers_of (at_moment m (Join n)) = m ∷ []
numbers_of (at_moment m (Wake n)) = m ∷ []
numbers_of (at_moment m (Block n)) = m ∷ []
numbers_of (at_moment m (Leave n)) = m ∷ []
numbers_of (at_moment m (Exit n)) = m ∷ []
numbers_of (at_moment m Read) = m ∷ []

-- the reservation and the constants that two words spell
abbrev pub reservation_value : List ℕ → List ℕ → Reservation
reservation_value q p = record { runtime = value q; period = value p }

abbrev pub capacity_value : List ℕ → List ℕ → Capacity
capacity_value u x = record { most = value u; extra = value x }
