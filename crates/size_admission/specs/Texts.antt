-- The lines that tell what all proposals come to together.
use Rattle.std.specs.Prelude.{ℕ, ◌+◌, ◌-◌, ◌*◌, ◌/◌, ◌%◌, ◌^◌, ◌==◌, min, nat_le, nat_lt, zero, suc, Bool, List, [], ◌∷◌, ◌++◌, length, codes, decimal, Option, Some, None, if◌then◌else◌}
use Rattle.std.specs.List.{list_any}
use Rattle.size_admission.specs.Together.{load_on}
use Rattle.size_admission.specs.declared.admission.Proposal.{Proposal}
use Rattle.size_admission.specs.declared.admission.RootDomain.{RootDomain}
use Rattle.size_admission.specs.declared.together.Placed.{Placed}

-- hundredths, with two digits behind the point
abbrev pub hundredths_text : ℕ → List ℕ
hundredths_text n = decimal (n / 100) ++ ((if nat_lt (n % 100) 10 then codes ".0" else codes ".") ++ decimal (n % 100))

-- a bandwidth in 1/2^20, in hundredths of a percent, rounded down
abbrev pub hundredths_of : ℕ → ℕ
hundredths_of bandwidth = min (bandwidth * 10000) 18446744073709551615 / 2 ^ 20

unfoldable pub percent_text : ℕ → List ℕ
percent_text bandwidth = hundredths_text (hundredths_of bandwidth)

abbrev pub less_text : RootDomain → List ℕ
less_text machine =
    if nat_lt 0 machine.fair then codes ", less " ++ percent_text (machine.fair * machine.processors) ++ codes " % for fair servers" else []

abbrev pub admits_text : RootDomain → List ℕ
admits_text machine =
    codes " % of a processor; " ++ decimal machine.processors ++ codes " processors admit " ++ percent_text (machine.most * machine.processors) ++ codes " %"

-- whether a root domain admits this sum
abbrev pub admits : ℕ → RootDomain → Bool
admits sum machine = nat_le sum ((machine.most - machine.fair) * machine.processors)

unfoldable pub admission_text : ℕ → RootDomain → List ℕ
admission_text sum machine =
    codes "  " ++ percent_text sum ++ admits_text machine ++ less_text machine ++ (if admits sum machine then codes ": admitted\n" else codes ": refused, EBUSY\n")

-- whether global EDF keeps all deadlines of reservations of this sum, of which this is the greatest
abbrev pub keeps : ℕ → ℕ → RootDomain → Bool
keeps sum greatest machine =
    nat_le (sum + machine.fair * machine.processors + (machine.processors - 1) * greatest) (machine.processors * 2 ^ 20)

abbrev pub bound_text : ℕ → RootDomain → List ℕ
bound_text greatest machine =
    decimal (machine.processors * 100) ++ codes " - " ++ decimal (machine.processors - 1) ++ codes " * " ++ percent_text greatest ++ codes "\n"

abbrev pub together_text : ℕ → RootDomain → List ℕ
together_text sum machine =
    decimal machine.processors ++ codes " processors together: " ++ percent_text sum ++ codes " + " ++ percent_text (machine.fair * machine.processors)

unfoldable pub in_time_text : ℕ → ℕ → RootDomain → List ℕ
in_time_text sum greatest machine =
    (if keeps sum greatest machine then codes "  in time on " else codes "  late by a bounded time, maybe, on ") ++ together_text sum machine
    ++ (if keeps sum greatest machine then codes " <= " else codes " > ") ++ bound_text greatest machine

-- a piece behind others, and a sign between them
abbrev pub with_piece : List ℕ → List ℕ → List ℕ → List ℕ
with_piece sign text piece = if length piece == 0 then text else if length text == 0 then piece else text ++ sign ++ piece

-- a text with the comms of the tasks on a processor, and a space between each and the next
abbrev pub with_names : ℕ → List ℕ → List Proposal → List Placed → List ℕ
with_names processor text [] placed = text
with_names processor text (one ∷ proposals) [] = text
with_names processor text (one ∷ proposals) (place ∷ placed) =
    with_names processor (if place.processor == processor then with_piece (codes " ") text one.comm.items else text) proposals placed

-- a task is on a processor
abbrev pub is_used : ℕ → List Placed → Bool
is_used processor placed = list_any (λ place. place.processor == processor) placed

-- which tasks share a processor, and what they come to; nothing of one that no task has
unfoldable pub processor_text : ℕ → List Proposal → List Placed → List ℕ
processor_text processor proposals placed =
    if is_used processor placed then with_names processor [] proposals placed ++ codes " " ++ percent_text (min (load_on processor placed) 18446744073709551615) ++ codes " %" else []

-- that of the first so many processors
abbrev pub processors_text : ℕ → List Proposal → List Placed → List ℕ
processors_text zero proposals placed = []
processors_text (suc n) proposals placed = with_piece (codes "; ") (processors_text n proposals placed) (processor_text n proposals placed)

abbrev pub placed_text : List Proposal → Option (List Placed) → ℕ → List ℕ
placed_text proposals None processors = codes "  a processor each: they do not fit so\n"
placed_text proposals (Some placed) processors = codes "  a processor each: " ++ processors_text processors proposals placed ++ codes "\n"
