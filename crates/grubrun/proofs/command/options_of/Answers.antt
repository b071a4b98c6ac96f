use Rattle.std.proofs.Common.{◌≡◌, ℕ, List, Option, None, Some, codes, subst, ap, ◌∙◌, option_map}
use Rattle.std.specs.Str.Parse.{ParsesUnsigned, ExplainsUnsignedError, HasUnsignedDigitsIfOk}
use Rattle.clap.specs.Words.{ReadsOne, Row, found_of, one_of, one_text, rows_of}
use Rattle.clap.specs.declared.parser.matches.Found.{Found}
use Rattle.grubrun.proofs.CommandLemmas.{number_read, word_read}
use Rattle.grubrun.specs.CommandLine.{ReadsNumber}
use Rattle.grubrun.specs.ViewWords.{view_word}
use Rattle.grubrun.proofs.command.options_of.Goals as goal

pub returns-clause-tries : goal.returns-clause-tries
returns-clause-tries c =
    let read = number_read _ (λ bs r. ParsesUnsigned 8 10 bs r × ExplainsUnsignedError 10 bs r × HasUnsignedDigitsIfOk bs r) 8 (found_of c.in_ok-matches.matches) (codes "tries") c.get_one.result c.get_one.ensures.none c.get_one.ensures.value (λ u x g. g.0) in
    (c.get_one.result, subst (λ rows. ReadsNumber 8 (one_of (codes "tries") rows) c.get_one.result) c.in_ok-matches.ensures.matches read, c.unwrap_or-tries.ensures)

-- the moment after an option
moment : (id : List ℕ) → (r : Option ℕ) (f : Found) (rows : List Row) → rows_of f ≡ rows → (one_text f id ≡ None → r ≡ None) → ((t : List ℕ) → one_text f id ≡ Some t → ReadsOne (λ bs x. ParsesUnsigned 32 10 bs x × ExplainsUnsignedError 10 bs x × HasUnsignedDigitsIfOk bs x) t r)
    → ReadsNumber 32 (one_of id rows) r
moment id r f rows are none value =
    subst (λ w. ReadsNumber 32 (one_of id w) r) are (number_read _ (λ bs x. ParsesUnsigned 32 10 bs x × ExplainsUnsignedError 10 bs x × HasUnsignedDigitsIfOk bs x) 32 f id r none value (λ u x g. g.0))

pub returns-clause-view : goal.returns-clause-view
returns-clause-view c =
    let read = word_read (found_of c.in_ok-matches.matches) (codes "view") c.get_one-view.result c.get_one-view.ensures.none c.get_one-view.ensures.value in
    read ∙ ap (λ rows. option_map view_word (one_of (codes "view") rows)) c.in_ok-matches.ensures.matches

pub returns-clause-from : goal.returns-clause-from
returns-clause-from c = moment (codes "from") c.get_one-from.result (found_of c.in_ok-matches.matches) _ c.in_ok-matches.ensures.matches c.get_one-from.ensures.none c.get_one-from.ensures.value

pub returns-clause-to : goal.returns-clause-to
returns-clause-to c = moment (codes "to") c.get_one-to.result (found_of c.in_ok-matches.matches) _ c.in_ok-matches.ensures.matches c.get_one-to.ensures.none c.get_one-to.ensures.value
