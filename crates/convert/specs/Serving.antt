-- What is made of a trace, by what the calls that look at paths and make files may answer.
use Rattle.std.specs.Prelude.{ℕ, zero, suc, Bool, false, List, [], ◌∷◌, ◌++◌, length, All, Ok, Option}
use Rattle.std.specs.Fn.{Shared, FnReturnsAt, FnReturnsAtPair}
use Rattle.std.specs.Io.KnownBytes.{Appends}
use Rattle.std.specs.List.{AllZip}
use Rattle.std.specs.declared.result.Result.{Result}
use Rattle.std.specs.declared.io.Error.{Error}
use Rattle.trace_options.specs.Messages.{event_path}
use Rattle.trace_file.specs.declared.files.Target.{Target}
use denote.Ref.{Bor}

-- a text was printed and nothing else
abbrev pub Prints : Option (List ℕ) → Option (List ℕ) → Type 0
Prints old new = (text : List ℕ) × Appends old new text

-- the paths of the event files of so many runqueues
abbrev pub event_paths : List ℕ → ℕ → List (List ℕ)
event_paths prefix zero = []
event_paths prefix (suc r) = event_paths prefix r ++ event_path prefix r ∷ []

-- calls that tell whether there is something at a path
abbrev pub Looker : Type 0 → Type 1
Looker X = Shared X (Bor (List ℕ) × Unit {0}) Bool

-- calls that make a file at a path
abbrev pub Maker : Type 0 → Type 1
Maker M = Shared M (Bor (List ℕ) × (Bor (List ℕ) × Unit {0})) (Result (Unit {0}) Error)

-- there may be nothing at any of these paths
abbrev pub AreFree : {X : Type 0} → Looker X → X → List (List ℕ) → Type 0
AreFree x exists paths = All (λ path. FnReturnsAt x exists path false) paths

-- files may have been made at these paths, with these bytes
abbrev pub AreMade : {M : Type 0} → Maker M → M → List (List ℕ) → List (List ℕ) → Type 0
AreMade m make paths files = AllZip (λ path bytes. FnReturnsAtPair m make path bytes (Ok tt)) paths files

-- a file for each runqueue was made, and none over another
pub record MakesEvents {X M R : Type 0} (x : Looker X) (m : Maker M) (target : Target X M R) (prefix : List ℕ) : Type 0 where
  pub files : List (List ℕ)
  pub free : AreFree x target.exists (event_paths prefix (length files))
  pub made : AreMade m target.make (event_paths prefix (length files)) files
