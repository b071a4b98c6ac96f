-- A record without a line.
use Rattle.std.proofs.Common.{◌≡◌, ℕ, Bool, List, [], Option, None, nat_eq, refl}
use Rattle.std.proofs.Math.Path.{fun_ext}
use Rattle.std.specs.HashMap.{HashMap, get}
use Rattle.timer_record.specs.declared.before.Before.{Before}
use Rattle.timer_record.specs.declared.event.KeptLine.{KeptLine}
use Rattle.timer_record.specs.declared.lines.AddressLines.{AddressLines}
use Rattle.timer_record.specs.declared.lines.TaskLines.{TaskLines}
use Rattle.timer_record.specs.declared.lines.TaskNote.{TaskNote}
use Rattle.timer_record.specs.declared.lines.TimerLines.{TimerLines}
use Rattle.timer_record.specs.declared.moment.Passing.{Passing}
use Rattle.timer_record.specs.declared.record.TimerPlace.{TimerPlace}
use Rattle.timer_record.specs.Kept.{Kept, before_in, kept_at_first}

-- an empty map has nothing at any key
pub none_in : {X S : Type 0} (m : HashMap ℕ X S) → m.entries ≡ [] → get nat_eq m ≡ (λ (k : ℕ). None)
none_in m empty = fun_ext (λ k. rw empty refl)

pub kept_of_none : (idle cancels : Bool) (tasks : List TaskLines) (addresses : List AddressLines) (timers : List TimerLines) (told : List TaskNote) (kept : List KeptLine) (passing : List Passing)
    (numbers : ℕ → Option ℕ) (places : ℕ → Option TimerPlace) (strangers : ℕ → Option ℕ) (notes : List TaskNote) (before : List Before)
    → tasks ≡ [] → addresses ≡ [] → timers ≡ [] → told ≡ [] → kept ≡ [] → passing ≡ [] → numbers ≡ (λ (k : ℕ). None) → places ≡ (λ (k : ℕ). None) → strangers ≡ (λ (k : ℕ). None) → notes ≡ [] → before ≡ []
    → (let k : Kept = record {
      wants_idle = idle;
      wants_cancels = cancels;
      tasks = tasks;
      passing = passing;
      addresses = addresses;
      timers = timers;
      numbers = numbers;
      places = places;
      strangers = strangers;
      before = before_in before;
      notes = notes;
      come = 0;
      told = told;
      kept = kept;
      begins = None;
      ends = 0;
      count = 0;
      boosted = 0;
      unlisted = None;
    } in k ≡ kept_at_first idle cancels)
kept_of_none idle cancels tasks addresses timers told kept passing numbers places strangers notes before t a x o k p n l s e b = rw (t, a, x, o, k, p, n, l, s, e, b) refl
