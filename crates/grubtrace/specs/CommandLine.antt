-- The command line of `grubtrace`: its commands, and what each of them takes.
use Rattle.std.specs.Prelude.{◌≡◌, Bool, true, false, List, [], ◌∷◌, ◌++◌, map, codes, Option, Some, None}
use Rattle.clap.specs.Words.{Rule, Shape, Text, app_of}
use Rattle.clap.specs.declared.builder.action.ArgAction.{ArgAction}
use Rattle.clap.specs.declared.builder.action.ArgAction.TheVariants.{Append, SetTrue}
use Rattle.clap.specs.declared.builder.command.Command.{Command}
use Rattle.clap.specs.declared.builder.command.Command.TheViews.{out-Command as fields_of}

-- an argument: the word by which it is read, the name of its option, what a use of it does, whether it has to be given, and its
-- values where it is not given
pub record Argument : Type 0 where
  pub id : Text
  pub long : Option Text
  pub action : Option ArgAction
  pub required : Bool
  pub defaults : List Text

abbrev pub argument_of : Rule → Argument
argument_of rule = record { id = rule.id; long = rule.long; action = rule.action; required = rule.required; defaults = rule.defaults }

abbrev pub option : Text → Argument
option name = record { id = name; long = Some name; action = None; required = false; defaults = [] }

-- an option that may be given more than once
abbrev pub repeated : Text → Argument
repeated name = record (option name) { action = Some Append }

-- an option without a value
abbrev pub flag : Text → Argument
flag name = record (option name) { action = Some SetTrue }

-- an option that has to be given
abbrev pub needed : Text → Argument
needed name = record (option name) { required = true }

-- an option that has this value where it is not given
abbrev pub option_or : Text → Text → Argument
option_or name value = record (option name) { defaults = value ∷ [] }

abbrev pub trace_argument : Argument
trace_argument = record { id = codes "TRACE"; long = None; action = None; required = true; defaults = [] }

-- ---- the commands

abbrev pub tasks_arguments : List Argument
tasks_arguments = trace_argument ∷ []

abbrev pub events_arguments : List Argument
events_arguments = repeated (codes "task") ∷ option (codes "cpus") ∷ option (codes "rt") ∷ option (codes "fair-server") ∷ needed (codes "out") ∷ trace_argument ∷ []

-- which runqueues and tasks were recorded
abbrev pub recorded_options : List Argument
recorded_options = repeated (codes "task") ∷ option (codes "cpus") ∷ option (codes "domain") ∷ []

-- what the kernel reserves, and which it is
abbrev pub kernel_options : List Argument
kernel_options = option (codes "rt") ∷ option (codes "fair-server") ∷ option (codes "kernel") ∷ []

-- what is compared with what
abbrev pub comparison_options : List Argument
comparison_options = option_or (codes "within") (codes "20") ∷ option_or (codes "by") (codes "kernel") ∷ flag (codes "timers") ∷ option (codes "laws") ∷ flag (codes "why") ∷ []

-- what is written beside the verdict
abbrev pub written_options : List Argument
written_options = option (codes "table") ∷ option (codes "json") ∷ option (codes "picture") ∷ option (codes "report") ∷ option (codes "from") ∷ option (codes "to") ∷ []

abbrev pub check_arguments : List Argument
check_arguments = recorded_options ++ kernel_options ++ comparison_options ++ written_options ++ trace_argument ∷ []

-- how a task is sized
abbrev pub sizing_options : List Argument
sizing_options = repeated (codes "task") ∷ repeated (codes "within") ∷ option_or (codes "late") (codes "0") ∷ option_or (codes "margin") (codes "10") ∷ []

abbrev pub size_arguments : List Argument
size_arguments = sizing_options ++ option (codes "cpus") ∷ option_or (codes "rt") (codes "950000:1000000") ∷ option_or (codes "fair-server") (codes "50000:1000000") ∷ option (codes "picture") ∷ trace_argument ∷ []

abbrev pub commands : List (Text × List Argument)
commands = (codes "tasks", tasks_arguments) ∷ (codes "events", events_arguments) ∷ (codes "check", check_arguments) ∷ (codes "size", size_arguments) ∷ []

-- ---- what clap has of them

abbrev pub named : Shape → Text × List Argument
named shape = (shape.name, map argument_of shape.rules)

abbrev pub commands_of : Command → List (Text × List Argument)
commands_of c = map named (app_of c).subs

-- `grubtrace` with these commands, in this order, one of which has to be given
pub record IsProgram (wanted : List (Text × List Argument)) (c : Command) : Type 0 where
  pub name : (app_of c).top.name ≡ codes "grubtrace"
  pub version : (app_of c).top.has_version ≡ true
  pub needs_command : (app_of c).top.subcommand_required ≡ true
  pub commands : commands_of c ≡ wanted
  pub local : (fields_of c).has_globals ≡ false
