-- The armed timers, of which each task has at most one (this project's profile).
use Rattle.std.specs.Prelude.{◌≡◌, ℕ, ◌<◌, ◌≤◌, ◌⊎◌, ◌+◌, ◌-◌, Option, Some, None, IsSomeAnd, refl}
use Rattle.std.specs.Ordering.{nat_cmp}
use Rattle.std.specs.FinMap as map
use Rattle.std.specs.Coded.{Coded, code_by, coded×, coded_ℕ, coded_option}
use Rattle.grub_wheel.specs.declared.timer.Timer.{Timer}

-- the moment and the ticket of each task whose timer is armed
abbrev pub TimerBag : Type 0
TimerBag = map.FinMap nat_cmp (ℕ × ℕ)

-- what a wheel is to its callers: the armed timers, how many more have a place, and the moment of the latest `due`
pub record WheelState : Type 0 where
  pub timers : TimerBag
  pub spare : ℕ
  pub last : Option ℕ

abbrev pub wheel_code : Coded WheelState
wheel_code = code_by (TimerBag × (ℕ × Option ℕ)) (coded× (map.code coded_ℕ (coded× coded_ℕ coded_ℕ)) (coded× coded_ℕ (coded_option coded_ℕ))) (λ w. (w.timers, (w.spare, w.last))) (λ p. record { timers = p.0; spare = p.1.0; last = p.1.1 }) (λ _. refl)

-- no timer, no place for one, and no `due` yet
abbrev pub fresh : WheelState
fresh = record { timers = map.empty; spare = 0; last = None }

-- a timer more, in a place that was spare
abbrev pub after_arming : WheelState → Timer → WheelState
after_arming w x = record { timers = map.insert w.timers x.t (x.z, x.ticket); spare = w.spare - 1; last = w.last }

-- the timer of a task less, and its place spare again
abbrev pub after_taking : WheelState → ℕ → WheelState
after_taking w t = record { timers = map.remove w.timers t; spare = w.spare + 1; last = w.last }

-- this timer is armed
abbrev pub IsArmed : TimerBag → Timer → Type 0
IsArmed timers x = map.get timers x.t ≡ Some (x.z, x.ticket)

-- a timer of the task is armed, with this ticket
abbrev pub IsArmedWith : TimerBag → ℕ → ℕ → Type 0
IsArmedWith timers t ticket = IsSomeAnd (map.get timers t) (λ p. p.1 ≡ ticket)

-- x is y, or comes before it by moment, then by task, then by ticket
abbrev pub IsNotAfter : Timer → Timer → Type 0
IsNotAfter x y = (x.z < y.z) ⊎ ((x.z ≡ y.z) × ((x.t < y.t) ⊎ ((x.t ≡ y.t) × (x.ticket ≤ y.ticket))))

-- no armed timer comes before x
abbrev pub IsLeast : TimerBag → Timer → Type 0
IsLeast timers x = (y : Timer) → IsArmed timers y → IsNotAfter x y

-- each armed timer is later than m
abbrev pub AreLater : TimerBag → ℕ → Type 0
AreLater timers m = (y : Timer) → IsArmed timers y → m < y.z
