-- The command while it is built, and the argument of the rounds among its others.
use Rattle.std.specs.Prelude.{◌≡◌, ℕ, List, codes, pos, true, false, Some}
use Rattle.std.specs.List.{All}
use Rattle.std.specs.Str.{bytes_eq}
use Rattle.clap.specs.Facts.{args_of}
use Rattle.clap.specs.Built.{IsPlain, IsPlainArg}
use Rattle.clap.specs.Words.{App, app_of, new_app, with_rule}
use Rattle.clap.specs.declared.builder.arg.Arg.{Arg}
use Rattle.clap.specs.declared.builder.command.Command.{Command}
use Rattle.clap.specs.declared.builder.value_parser.ValueParser.{ValueParser}
use Rattle.clap.specs.declared.builder.value_parser.ValueParser.TheVariants as parsers
use Rattle.clap.specs.declared.builder.command.Command.TheViews.{out-Command}
use Rattle.grubrun.specs.CommandLine.{moment_rule, rounds_rule, tries_rule, view_rule, with_version}

abbrev pub rounds_id : List ℕ
rounds_id = codes "rounds"

abbrev pub rounds_parser : ValueParser
rounds_parser = parsers.Signed (pos 1) (pos 65535)

-- an argument with this id, which excludes no other
pub record IsOf (id : List ℕ) (a : Arg) : Type 0 where
  pub id_is : a.id.now ≡ id
  pub plain : IsPlainArg a
  pub local : a.global ≡ false

-- the rounds are a number from 1 to 65535
pub record TakesRounds (c : Command) : Type 0 where
  pub plain : IsPlain c
  pub local : (out-Command c).has_globals ≡ false
  pub parser : All (λ a. bytes_eq a.id.now rounds_id ≡ true → a.value_parser ≡ Some rounds_parser) (args_of c)

-- the command line with the options of a run alone
abbrev pub run_line : App
run_line = with_rule (with_rule (with_version (new_app (codes "grubrun"))) tries_rule) rounds_rule

-- and with those of a view
abbrev pub view_line : App
view_line = with_rule (with_rule (with_rule run_line view_rule) (moment_rule (codes "from"))) (moment_rule (codes "to"))

-- a command of this line
pub record IsCommand (app : App) (c : Command) : Type 0 where
  pub rounds : TakesRounds c
  pub line : app_of c ≡ app
