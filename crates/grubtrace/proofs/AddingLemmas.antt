-- A command grows argument by argument, and the program command by command.
use Rattle.std.proofs.Common.{◌≡◌, ◌∙◌, ◌<◌, ◌+◌, ℕ, List, [], ◌∷◌, ◌++◌, length, map, take, get_or, false, ◌||◌, ap, append-nil, append_assoc, refl, sym}
use Rattle.std.proofs.Math.Bool.{or-false}
use Rattle.std.proofs.lemmas.List.{map-append, take_more}
use Rattle.clap.specs.Built.{AddsArg, AddsSubcommand}
use Rattle.clap.specs.Words.{Text, app_of}
use Rattle.clap.specs.declared.builder.arg.Arg.{Arg}
use Rattle.clap.specs.declared.builder.command.Command.{Command}
use Rattle.clap.specs.declared.builder.command.Command.TheViews.{out-Command as fields_of}
use Rattle.grubtrace.specs.CommandLine.{Argument, IsProgram, argument_of, named}
use Rattle.grubtrace.specs.inside.Arguments.{Adds, Is, IsCommand, arguments_of, given}

pub adds_none : (c : Command) → Adds [] c c
adds_none c = record { name = refl; arguments = sym (append-nil (arguments_of c)); local = refl }

-- the last argument
last_argument : {old new : Command} {a : Arg} → AddsArg old a new → a.global ≡ false → arguments_of new ≡ arguments_of old ++ given a ∷ []
last_argument {old} {new} {a} added local = ap (λ p. map argument_of p.top.rules) (added.shape local) ∙ map-append argument_of (app_of old).top.rules _

pub adds_more : {old mid new : Command} {more : List Argument} {a : Arg} {x : Argument} → Adds more old mid → AddsArg mid a new → Is x a → Adds (more ++ x ∷ []) old new
adds_more {old} {mid} {new} {more} {a} {x} before added is = record {
  name = added.names.0 ∙ before.name;
  arguments = last_argument added is.local ∙ ap (λ l. l ++ given a ∷ []) before.arguments ∙ append_assoc (arguments_of old) more (given a ∷ []) ∙ ap (λ y. arguments_of old ++ (more ++ y ∷ [])) is.argument;
  local = added.globals ∙ ap (λ b. (fields_of mid).has_globals || b) is.local ∙ or-false (fields_of mid).has_globals ∙ before.local;
}

-- the arguments of one more of a list
pub more_taken : {X : Type 0} (f : X → Argument) (xs : List X) (k : ℕ) (d : X) → k < length xs → map f (take k xs) ++ f (get_or xs k d) ∷ [] ≡ map f (take (k + 1) xs)
more_taken f xs k d below = sym (ap (map f) (take_more xs k d below) ∙ map-append f (take k xs) _)

-- the argument as it was given
pub given_is : (a : Arg) → a.global ≡ false → Is (given a) a
given_is a local = record { argument = refl; local = local }

pub adds_given : {old new : Command} {x y z : Argument} {a b : Arg} → Adds (x ∷ given a ∷ given b ∷ []) old new → Is y a → Is z b → Adds (x ∷ y ∷ z ∷ []) old new
adds_given {old} {new} {x} {y} {z} {a} {b} adds one two = record {
  name = adds.name;
  arguments = adds.arguments ∙ ap (λ w. arguments_of old ++ x ∷ w ∷ given b ∷ []) one.argument ∙ ap (λ w. arguments_of old ++ x ∷ y ∷ w ∷ []) two.argument;
  local = adds.local;
}

-- a command that takes more
pub takes_more : {old new : Command} {word : Text} {wanted more : List Argument} → IsCommand word wanted old → Adds more old new → IsCommand word (wanted ++ more) new
takes_more {old} {new} {word} {wanted} {more} is adds = record {
  name = adds.name ∙ is.name;
  arguments = adds.arguments ∙ ap (λ l. l ++ more) is.arguments;
  local = adds.local ∙ is.local;
}

pub takes_one : {old new : Command} {word : Text} {wanted : List Argument} {a : Arg} {x : Argument} → IsCommand word wanted old → AddsArg old a new → Is x a → IsCommand word (wanted ++ x ∷ []) new
takes_one {old} is added one = takes_more is (adds_more (adds_none old) added one)

pub has_more : {old sub new : Command} {before : List (Text × List Argument)} {word : Text} {wanted : List Argument} → IsProgram before old → AddsSubcommand old sub new → IsCommand word wanted sub → IsProgram (before ++ (word, wanted) ∷ []) new
has_more {old} {sub} {new} {before} {word} {wanted} is added one = let shape = added.shape one.local in record {
  name = ap (λ p. p.top.name) shape ∙ is.name;
  version = ap (λ p. p.top.has_version) shape ∙ is.version;
  needs_command = ap (λ p. p.top.subcommand_required) shape ∙ is.needs_command;
  commands = ap (λ p. map named p.subs) shape ∙ map-append named (app_of old).subs _ ∙ ap (λ l. l ++ named (app_of sub).top ∷ []) is.commands ∙ ap (λ (w : Text × List Argument). before ++ w ∷ []) (ap (λ n. (n, arguments_of sub)) one.name ∙ ap (λ l. (word, l)) one.arguments);
  local = added.globals ∙ ap (λ b. b || (fields_of sub).has_globals) is.local ∙ one.local;
}
