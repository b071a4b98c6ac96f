-- How many accesses of the words of a table a call makes.
use Rattle.std.specs.Prelude.{Bool, false, ◌≡◌, ◌==◌, ℕ, zero, suc, ◌+◌, ◌*◌, ◌≤◌, List, [], ◌∷◌, ◌++◌, length, count_by}
use Rattle.grub_table.specs.declared.view.Access.{Access}
use Rattle.grub_table.specs.declared.view.Access.TheVariants.{Load, Exchange}

abbrev pub is_load_of : ℕ → Access → Bool
is_load_of w (Load v) = v == w
is_load_of w access = false

abbrev pub is_exchange_of : ℕ → Access → Bool
is_exchange_of w (Exchange v won) = v == w
is_exchange_of w access = false

-- how many of the accesses are exchanges of the word w, won or lost
abbrev pub exchanges_of : ℕ → List Access → ℕ
exchanges_of w made = count_by (is_exchange_of w) made

-- so many lost tries at the word w: each is a load of it, and an exchange that found it changed
abbrev pub lost_tries : ℕ → ℕ → List Access
lost_tries w zero = []
lost_tries w (suc n) = Load w ∷ Exchange w false ∷ lost_tries w n

-- `meet` loads the first word three times: for the join, for its look, and for the split
abbrev pub meeting_loads : List Access
meeting_loads = Load 0 ∷ Load 0 ∷ Load 0 ∷ []

-- `start` loads the task's word w once and exchanges it at most once, and makes five accesses at most
pub record StartsBriefly (w : ℕ) (before after : List Access) : Type 0 where
  pub made : List Access
  pub grown : after ≡ before ++ made
  pub load : count_by (is_load_of w) made ≡ 1
  pub exchange : exchanges_of w made ≤ 1
  pub few : length made ≤ 5

-- `finish` made the call with at most so many exchanges of the runqueue's word w, with none where no sum changes, and with few other accesses
pub record FinishesBriefly (w tries : ℕ) (sum : Bool) (before after : List Access) : Type 0 where
  pub made : List Access
  pub grown : after ≡ before ++ made
  pub tried : exchanges_of w made ≤ tries
  pub quiet : sum ≡ false → exchanges_of w made ≡ 0
  pub few : length made ≤ 2 * exchanges_of w made + 4
