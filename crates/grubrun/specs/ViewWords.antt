-- The word that names a view.
use Rattle.std.specs.Prelude.{List, ℕ, codes, if◌then◌else◌}
use Rattle.std.specs.Str.{bytes_eq}
use Rattle.grubrun.specs.declared.view_word.ViewWord.{ViewWord}
use Rattle.grubrun.specs.declared.view_word.ViewWord.TheVariants.{Timeline, Steps, Summary, Picture, Unknown}

-- the view that a word names
abbrev pub view_word : List ℕ → ViewWord
view_word text = if bytes_eq text (codes "timeline") then Timeline else if bytes_eq text (codes "steps") then Steps else if bytes_eq text (codes "summary") then Summary else if bytes_eq text (codes "picture") then Picture else Unknown
