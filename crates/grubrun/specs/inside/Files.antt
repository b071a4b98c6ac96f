-- The files among the values of all arguments.
use Rattle.std.specs.Prelude.{List, [], codes, unwrap_or}
use Rattle.clap.specs.Words.{Row, Text, all_of}

-- the values of the argument for files, among those of all arguments
abbrev pub names_among : List Row → List Text
names_among rows = unwrap_or (all_of (codes "FILE") rows) []
