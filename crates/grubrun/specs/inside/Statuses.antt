-- What is printed where a parse answers with a text, and what the status tells where it does not.
use Rattle.std.specs.Prelude.{◌≡◌, ◌≤◌, ◌⊎◌, ℕ, List, Option}
use Rattle.std.specs.Io.KnownBytes.{Appends}
use Rattle.clap.specs.declared.error.kind.ErrorKind.{ErrorKind}
use Rattle.clap.specs.declared.error.kind.ErrorKind.TheVariants as kinds
use Rattle.text_bytes.specs.declared.files.Source.{Source}
use Rattle.text_bytes.specs.Source.{Opener, Reader}
use Rattle.grub_run.specs.Faults.{HasFileFault, Whole}
use Rattle.grub_run.specs.declared.program_fault.TheConstants.{STATUS_FILE, STATUS_SYSTEM, STATUS_USAGE}
use Rattle.grubrun.specs.declared.texts.TheConstants.{HELP, VERSION}
use Rattle.grub_run.specs.Written.{Begins, Writes}
use Rattle.grubrun.specs.Statuses.{HasNoSpan, IsWanted}
use Rattle.grubrun.specs.Views.{IsMistake}
use Rattle.grubrun.specs.declared.view.Wanted.{Wanted}

-- the text of what a parse answered was printed
abbrev pub PrintsKind : ErrorKind → Option (List ℕ) → Option (List ℕ) → Type 0
PrintsKind kind old new = ((kind ≡ kinds.DisplayHelp) × Appends old new HELP.now) ⊎ ((kind ≡ kinds.DisplayVersion) × Appends old new VERSION.now)

-- what the status tells of the files of these names, and of a writer before and after, where this is asked for
module _ {O N D X : Type 0} (o : Opener O D) (g : Reader N D) (source : Source O N) (contents : X → Option (List ℕ)) where
  pub record IsServed (old new : X) (wanted : Wanted) (tries : ℕ) (names : List (List ℕ)) (status : ℕ) : Type 0 where
    pub most : status ≤ 3
    pub done : status ≡ 0 → Whole o g source (Writes (IsWanted wanted tries) (contents old) (contents new)) names
    pub file : status ≡ STATUS_FILE → HasFileFault o g source names
    pub usage : status ≡ STATUS_USAGE → IsMistake wanted ⊎ Whole o g source (HasNoSpan wanted tries) names
    pub nothing : (status ≡ STATUS_FILE) ⊎ (status ≡ STATUS_USAGE) → new ≡ old
    pub failed : status ≡ STATUS_SYSTEM → (new ≡ old) ⊎ Whole o g source (Begins (IsWanted wanted tries) (contents old) (contents new)) names
