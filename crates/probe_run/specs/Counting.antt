-- What a comparison does to a run: the first value that differs is kept, and nothing else changes.
use Rattle.std.specs.Prelude.{◌≡◌, Bool, true, if◌then◌else◌, Option, Some, None}
use Rattle.probe_run.specs.State.{State}

-- this, where a premise holds
abbrev pub where_it_holds : Bool → State → Option State
where_it_holds premise s = if premise then Some s else None

-- where nothing differs after a call, nothing did before, and it made this of the run
abbrev pub Goes : State → Option State → State → Type 0
Goes old made new = new.first ≡ None → (old.first ≡ None) × (made ≡ Some new)

-- where nothing differs after a comparison, nothing did before, it holds, and the run is the same
abbrev pub Holds : State → Bool → State → Type 0
Holds old premise new = new.first ≡ None → (old.first ≡ None) × (premise ≡ true) × (new ≡ old)
