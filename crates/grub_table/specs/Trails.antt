-- The trail of a seat: its view, and the accesses that each of its passes has made.
use Rattle.std.specs.Prelude.{List, [], slice_index_or}
use Rattle.grub_table.specs.declared.view.Access.{Access}
use Rattle.grub_table.specs.declared.view.Trail.{Trail}

-- the accesses of the first pass
abbrev pub first_made : Trail → List Access
first_made t = slice_index_or t.made 0 []
