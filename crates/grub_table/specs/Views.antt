-- The share that a view begins with; the view of a pass is that one alone.
use Rattle.std.specs.Prelude.{[], slice_index_or}
use Rattle.grub_table.specs.declared.view.Share.{Share}
use Rattle.grub_table.specs.declared.view.Hold.TheVariants.{Free}
use Rattle.grub_table.specs.declared.view.View.{View}

abbrev pub no_share : Share
no_share = record { terms = record { setup = record { queues = []; tasks = [] }; passes = 0 }; number = 0; seen = []; hold = Free; marks = [] }

abbrev pub first_of : View → Share
first_of v = slice_index_or v.shares 0 no_share
