-- An argument as clap has it, and a command while it is built.
use Rattle.std.specs.Prelude.{◌≡◌, false, List, ◌++◌, map}
use Rattle.clap.specs.Words.{Text, app_of, rule_of}
use Rattle.clap.specs.declared.builder.arg.Arg.{Arg}
use Rattle.clap.specs.declared.builder.command.Command.{Command}
use Rattle.clap.specs.declared.builder.command.Command.TheViews.{out-Command as fields_of}
use Rattle.grubtrace.specs.CommandLine.{Argument, argument_of}

abbrev pub given : Arg → Argument
given a = argument_of (rule_of a)

abbrev pub arguments_of : Command → List Argument
arguments_of c = map argument_of (app_of c).top.rules

-- clap's argument is this one, and no subcommand takes it too
pub record Is (wanted : Argument) (a : Arg) : Type 0 where
  pub argument : given a ≡ wanted
  pub local : a.global ≡ false

-- a command of this name that takes these arguments, in this order
pub record IsCommand (word : Text) (wanted : List Argument) (c : Command) : Type 0 where
  pub name : (app_of c).top.name ≡ word
  pub arguments : arguments_of c ≡ wanted
  pub local : (fields_of c).has_globals ≡ false

-- `new` is `old` with these arguments behind what it took
pub record Adds (more : List Argument) (old new : Command) : Type 0 where
  pub name : (app_of new).top.name ≡ (app_of old).top.name
  pub arguments : arguments_of new ≡ arguments_of old ++ more
  pub local : (fields_of new).has_globals ≡ (fields_of old).has_globals
