-- What files are, by what the calls that open and read them may answer.
use Rattle.std.specs.Prelude.{◌≡◌, ◌<◌, ◌≤◌, ◌⊎◌, ◌+◌, ℕ, List, [], take, length, Ok, Err, IfOk}
use Rattle.std.specs.Fn.{Shared, FnReturnsAt}
use Rattle.std.specs.List.{FoldsTo, concat}
use Rattle.std.specs.declared.result.Result.{Result}
use Rattle.std.specs.declared.io.Error.{Error}
use Rattle.text_bytes.specs.declared.files.Source.{Source}
use Rattle.text_bytes.specs.declared.files.TheConstants.{FILE_BYTES_MAX}
use denote.Ref.{Bor, MutBor}

-- calls that read a file into room
abbrev pub Reader : Type 0 → Type 0 → Type 1
Reader N D = Shared N (MutBor D × (MutBor (List ℕ) × Unit {0})) (Result ℕ Error × (MutBor D × (MutBor (List ℕ) × Unit {0})))

-- calls that open the file of a name
abbrev pub Opener : Type 0 → Type 0 → Type 1
Opener O D = Shared O (Bor (List ℕ) × Unit {0}) (Result D Error)

module _ {N D : Type 0} (g : Reader N D) (read : N) where
  -- a read of this file with room may answer so, and leave this in the room, and the file so
  pub record Answers (file : D) (answer : Result ℕ Error) (room : List ℕ) (after : D) : Type 0 where
    pub shown : MutBor D × (MutBor (List ℕ) × Unit {0})
    pub left : MutBor D × (MutBor (List ℕ) × Unit {0})
    pub says : g.post read shown (answer, left)
    pub shows : shown.0.now ≡ file
    pub has_room : 0 < length shown.1.0.now
    pub fills : left.1.0.now ≡ room
    pub leaves : left.0.now ≡ after

  -- a read may give these bytes
  pub record Gives (file : D) (bytes : List ℕ) (after : D) : Type 0 where
    pub count : ℕ
    pub room : List ℕ
    pub answers : Answers file (Ok count) room after
    pub fits : count ≤ length room
    pub are : bytes ≡ take count room

  -- reads one after another may give these bytes
  pub record Reads (file : D) (bytes : List ℕ) (after : D) : Type 0 where
    pub pieces : List (List ℕ)
    pub each : FoldsTo Gives file pieces after
    pub whole : bytes ≡ concat pieces

  -- a read may fail: answer an error, or claim more bytes than it had room for
  pub record Fails (file after : D) : Type 0 where
    pub answer : Result ℕ Error
    pub room : List ℕ
    pub answers : Answers file answer room after
    pub claims : IfOk answer (λ count. length room < count)

  -- these may be all bytes: the read after them gives none
  abbrev pub ReadsWhole : D → List ℕ → D → Type 0
  ReadsWhole file bytes after = (last : D) × Reads file bytes last × Gives last [] after

  -- reads may give so many bytes, and no more than a file may have
  abbrev pub StopsWithin : D → D → Type 0
  StopsWithin file after = (bytes : List ℕ) × Reads file bytes after × (length bytes ≤ FILE_BYTES_MAX)

  -- a read may fail, the first or one after others that gave no more bytes than a file may have
  abbrev pub BreaksOff : D → D → Type 0
  BreaksOff file after = (last : D) × StopsWithin file last × Fails last after

  -- there may be more bytes than a file may have: one more is read, and no further one
  abbrev pub Exceeds : D → D → Type 0
  Exceeds file after = (bytes : List ℕ) × Reads file bytes after × (length bytes ≡ FILE_BYTES_MAX + 1)

module _ {O N D : Type 0} (o : Opener O D) (g : Reader N D) (source : Source O N) where
  -- such a file may be opened under this name
  pub record Opens (P : D → Type 0) (name : List ℕ) : Type 0 where
    pub file : D
    pub opened : FnReturnsAt o source.open name (Ok file)
    pub is : P file

  -- the file of this name may be read as these bytes, up to its end
  abbrev pub Holds : List ℕ → List ℕ → Type 0
  Holds name bytes = Opens (λ file. (after : D) × ReadsWhole g source.read file bytes after) name

  -- it may be read beyond the bytes that a file may have
  abbrev pub IsLonger : List ℕ → Type 0
  IsLonger name = Opens (λ file. (after : D) × Exceeds g source.read file after) name

  -- it may be opened, and read so far
  abbrev pub IsOpened : List ℕ → Type 0
  IsOpened name = Opens (λ file. (after : D) × StopsWithin g source.read file after) name

  -- opening or reading it may fail
  abbrev pub IsUnreadable : List ℕ → Type 0
  IsUnreadable name = ((e : Error) × FnReturnsAt o source.open name (Err e)) ⊎ Opens (λ file. (after : D) × BreaksOff g source.read file after) name
