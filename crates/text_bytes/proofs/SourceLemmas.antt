-- Reads of one file, one after another.
use Rattle.std.proofs.Common.{◌≡◌, ◌∙◌, ap, sym, refl, ℕ, List, [], ◌∷◌, ◌++◌, ◌<◌, length, Ok}
use Rattle.std.proofs.lemmas.List.{append-nil}
use Rattle.std.proofs.lemmas.List.Folds.{concat-append}
use Rattle.std.proofs.lemmas.Fn.{FoldsTo-push}
use Rattle.std.specs.List.{concat}
use Rattle.std.specs.declared.result.Result.{Result}
use Rattle.std.specs.declared.io.Error.{Error}
use denote.Ref.{Bor, MutBor}
use Rattle.text_bytes.specs.declared.files.Source.{Source}
use Rattle.text_bytes.specs.Source.{Answers, Gives, Opener, Opens, Reader, Reads}

-- what a call of `read` answered
pub answered : {N D : Type 0} (g : Reader N D) (read : N) (shown left : MutBor D × (MutBor (List ℕ) × Unit {0})) (answer : Result ℕ Error) → g.post read shown (answer, left) → 0 < length shown.1.0.now → Answers g read shown.0.now answer left.1.0.now left.0.now
answered g read shown left answer says has_room = record { shown = shown; left = left; says = says; shows = refl; has_room = has_room; fills = refl; leaves = refl }

-- one read more, and all bytes up to then
pub one_more : {N D : Type 0} (g : Reader N D) (read : N) (file : D) (bytes : List ℕ) (mid : D) (piece : List ℕ) (last : D) (all : List ℕ) → Reads g read file bytes mid → Gives g read mid piece last → all ≡ bytes ++ piece → Reads g read file all last
one_more g read file bytes mid piece last all reads gives is = record { pieces = reads.pieces ++ piece ∷ []; each = FoldsTo-push (Gives g read) file reads.pieces mid piece last reads.each gives; whole = is ∙ (ap (λ bs. bs ++ piece) reads.whole ∙ (ap (λ bs. concat reads.pieces ++ bs) (sym (append-nil piece)) ∙ sym (concat-append reads.pieces (piece ∷ [])))) }

-- what is so of a file that was opened
pub opens : {O N D : Type 0} (o : Opener O D) (g : Reader N D) (source : Source O N) (path : Bor (List ℕ)) (file : D) (P : D → Type 0) → o.post source.open (path, tt) (Ok file) → P file → Opens o g source P path.now
opens o g source path file P says is = record { file = file; opened = record { shown = path; shows = refl; says = record { met = says } }; is = is }
