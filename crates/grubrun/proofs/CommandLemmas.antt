-- What is read of the words, argument by argument.
use Rattle.std.proofs.Common.{◌≡◌, ◌∙◌, ℕ, List, false, Option, Some, None, Ok, Err, option_map, ap, sym, subst, refl, inl}
use Rattle.std.specs.Str.Parse.{ParsesUnsigned}
use Rattle.std.specs.declared.result.Result.{Result}
use Rattle.clap.proofs.WalkLemmas.{one_text-rows}
use Rattle.std.specs.Result.{IsErrAnd}
use Rattle.clap.specs.Built.{AddsArg}
use Rattle.clap.specs.Kinds.{FailsBy, HasKind, Kinds}
use Rattle.clap.specs.Values.{kind_of}
use Rattle.clap.specs.declared.error.Error.{Error}
use Rattle.clap.specs.declared.error.kind.ErrorKind.TheVariants.{OutOfMemory}
use Rattle.clap.specs.Words.{App, ReadsOne, Rule, app_of, one_of, one_text, rows_of, rule_of, with_rule}
use Rattle.clap.specs.declared.builder.arg.Arg.{Arg}
use Rattle.clap.specs.declared.builder.command.Command.{Command}
use Rattle.clap.specs.declared.parser.matches.Found.{Found}
use Rattle.grubrun.specs.CommandLine.{ReadsNumber}
use Rattle.grubrun.specs.ViewWords.{view_word}
use Rattle.grubrun.specs.inside.Views.{ReadsViewWord}
use Rattle.grubrun.specs.declared.view_word.ViewWord.{ViewWord}

-- what `get_one` reads of an argument's value
pub number_read : (E : Type 0) (G : List ℕ → Result ℕ E → Type 0) (bits : ℕ) (f : Found) (id : List ℕ) (r : Option ℕ) → (one_text f id ≡ None → r ≡ None) → ((t : List ℕ) → one_text f id ≡ Some t → ReadsOne G t r)
    → ((u : List ℕ) (x : Result ℕ E) → G u x → ParsesUnsigned bits 10 u x) → ReadsNumber bits (one_of id (rows_of f)) r
number_read E G bits f id r none value parses = subst (λ o. ReadsNumber bits o r) (one_text-rows f id) (go (one_text f id) refl r none value)
  where
    go : (o : Option (List ℕ)) → one_text f id ≡ o → (r : Option ℕ) → (one_text f id ≡ None → r ≡ None) → ((t : List ℕ) → one_text f id ≡ Some t → ReadsOne G t r) → ReadsNumber bits o r
    go None is r none value = none is
    go (Some t) is (Some n) none value = parses t (Ok n) (value t is)
    go (Some t) is None none value = let (e, said) = value t is in parses t (Err e) said

-- and of the word that names a view
pub word_read : (f : Found) (id : List ℕ) (r : Option ViewWord) → (one_text f id ≡ None → r ≡ None) → ((t : List ℕ) → one_text f id ≡ Some t → ReadsOne ReadsViewWord t r) → r ≡ option_map view_word (one_of id (rows_of f))
word_read f id r none value = subst (λ o. r ≡ option_map view_word o) (one_text-rows f id) (go (one_text f id) refl r none value)
  where
    go : (o : Option (List ℕ)) → one_text f id ≡ o → (r : Option ViewWord) → (one_text f id ≡ None → r ≡ None) → ((t : List ℕ) → one_text f id ≡ Some t → ReadsOne ReadsViewWord t r) → r ≡ option_map view_word o
    go None is r none value = none is
    go (Some t) is (Some w) none value = ap Some (value t is)
    go (Some t) is None none value = absurd (value t is).1

-- ---- the command line, argument by argument

pub line_more : (old new : Command) (a : Arg) (app : App) (rule : Rule) → AddsArg old a new → a.global ≡ false → app_of old ≡ app → rule_of a ≡ rule → app_of new ≡ with_rule app rule
line_more old new a app rule added local is ruled = added.shape local ∙ (ap (λ x. with_rule x (rule_of a)) is ∙ ap (with_rule app) ruled)

-- an error that is handed on has the kind that it had
pub fails_again : {T : Type 0} (kinds : Kinds) (e : Error) (r : Result T Error) → HasKind kinds e → IsErrAnd r (λ x. x ≡ e) → FailsBy kinds r
fails_again kinds e (Ok x) has same = absurd same
fails_again kinds e (Err x) has same = subst (HasKind kinds) (sym same) has

-- and one that says that memory ran out is among any kinds
pub fails_memory : {T : Type 0} (kinds : Kinds) (r : Result T Error) → IsErrAnd r (λ x. kind_of x ≡ OutOfMemory) → FailsBy kinds r
fails_memory kinds (Ok x) out = absurd out
fails_memory kinds (Err x) out = inl out
