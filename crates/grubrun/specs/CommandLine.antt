-- The command line: `grubrun [--tries N] [--rounds N] [--view V] [--from M] [--to M] FILE...`, or `--help` or `--version`.
use Rattle.std.specs.Prelude.{◌≡◌, ◌<◌, ◌^◌, ℕ, codes, pos, List, [], ◌∷◌, Option, None, Some, String, true, map, option_map, string_bytes, unwrap_or}
use Rattle.std.specs.Global.{Global}
use Rattle.std.specs.Str.Parse.{IsNumeral, digits_value, without_leading_plus}
use Rattle.clap.specs.Simple.{on_top}
use Rattle.clap.specs.Words.{App, Row, Rule, Text, all_of, one_of, fault_of, matches_of, new_app, new_rule, with_rule}
use Rattle.clap.specs.Kinds.{IsAmong}
use Rattle.clap.specs.Lexer.{usize_max}
use Rattle.clap.specs.declared.error.kind.ErrorKind.TheVariants as kinds
use Rattle.clap.specs.declared.builder.action.ArgAction.TheVariants.{Append}
use Rattle.clap.specs.declared.builder.value_parser.ValueParser.TheVariants as parsers
use Rattle.grubrun.specs.declared.view_word.ViewWord.{ViewWord}
use Rattle.grubrun.specs.ViewWords.{view_word}

-- the texts of words
abbrev pub texts_of : List (String Global) → List Text
texts_of words = map string_bytes words

-- a number from 0 to 255, 8 where it is not given
abbrev pub tries_rule : Rule
tries_rule = record (new_rule (codes "tries")) { long = Some (codes "tries"); value_names = 1; defaults = codes "8" ∷ []; parser = Some (parsers.Signed (pos 0) (pos 255)) }

-- a number from 1 to 65535, 64 where it is not given
abbrev pub rounds_rule : Rule
rounds_rule = record (new_rule (codes "rounds")) { long = Some (codes "rounds"); value_names = 1; defaults = codes "64" ∷ []; parser = Some (parsers.Signed (pos 1) (pos 65535)) }

-- a word that names a view
abbrev pub view_rule : Rule
view_rule = record (new_rule (codes "view")) { long = Some (codes "view"); value_names = 1 }

-- a moment at which a picture begins or ends: a number of 32 bits
abbrev pub moment_rule : Text → Rule
moment_rule id = record (new_rule id) { long = Some id; value_names = 1; parser = Some (parsers.Signed (pos 0) (pos 4294967295)) }

-- one file or more
abbrev pub files_rule : Rule
files_rule = record (new_rule (codes "FILE")) { action = Some Append; range = Some (record { start_inclusive = 1; end_inclusive = usize_max }); required = true }

-- with `--version`
abbrev pub with_version : App → App
with_version app = on_top (λ s. record s { has_version = true }) app

abbrev pub command_line : App
command_line = with_rule (with_rule (with_rule (with_rule (with_rule (with_rule (with_version (new_app (codes "grubrun"))) tries_rule) rounds_rule) view_rule) (moment_rule (codes "from"))) (moment_rule (codes "to"))) files_rule

-- the files that these words name
abbrev pub files_named : List Text → List Text
files_named words = unwrap_or (all_of (codes "FILE") (matches_of command_line words)) []

-- a text is a decimal number of so many bits; a plus may stand first
abbrev pub IsNumber : ℕ → Text → Type 0
IsNumber bits text = IsNumeral 10 (without_leading_plus text) × (digits_value 10 (without_leading_plus text) < 2 ^ bits)

-- the number that is read of a text, if there is one
abbrev pub ReadsNumber : ℕ → Option Text → Option ℕ → Type 0
ReadsNumber bits None r = r ≡ None
ReadsNumber bits (Some text) (Some n) = IsNumber bits text × (n ≡ digits_value 10 (without_leading_plus text))
ReadsNumber bits (Some text) None = IsNumber bits text → ⊥

-- n is the number that the value of this argument spells, and else this one
abbrev pub SpellsOr : ℕ → ℕ → Text → List Row → ℕ → Type 0
SpellsOr other bits id rows n = (r : Option ℕ) × ReadsNumber bits (one_of id rows) r × (n ≡ unwrap_or r other)

-- these words ask for so many tries
abbrev pub TriesNamed : List Text → ℕ → Type 0
TriesNamed words n = SpellsOr 8 8 (codes "tries") (matches_of command_line words) n

-- and for so many rounds
abbrev pub RoundsNamed : List Text → ℕ → Type 0
RoundsNamed words n = SpellsOr 64 16 (codes "rounds") (matches_of command_line words) n

-- these words name this view
abbrev pub view_named : List Text → Option ViewWord
view_named words = option_map view_word (one_of (codes "view") (matches_of command_line words))

-- the moment that these words name by this option, if there is one
abbrev pub MomentNamed : Text → List Text → Option ℕ → Type 0
MomentNamed id words m = ReadsNumber 32 (one_of id (matches_of command_line words)) m

-- these words ask for the help, or for the version
abbrev pub AsksForHelp : List Text → Type 0
AsksForHelp words = IsAmong kinds.DisplayHelp (fault_of command_line words)

abbrev pub AsksForVersion : List Text → Type 0
AsksForVersion words = IsAmong kinds.DisplayVersion (fault_of command_line words)
