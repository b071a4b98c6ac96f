-- What a handle owns: nothing where it is null, and else the same as a `Box<Held>`.
use base.Fml.{Fml, ftrue}
use base.Stored.{Coded}
use denote.RawPtr.{Ptr, block_ptr, null_ptr}
use Rattle.std.specs.Box.Ownership.{box_owns}
use Rattle.std.specs.Global.{Global}
use Rattle.std_heap.specs.contracts.GlobalAllocator.TheImpl.{ghosts}
use Rattle.neddwyrol_table.specs.contracts.held.Held.{the_row}

abbrev pub held_owns : Global → Ptr → the_row.Denot → Fml
held_owns alloc (block_ptr b o) x = box_owns (ghosts.dealloc_token alloc) the_row (block_ptr b o) x
held_owns alloc null_ptr x = ftrue

abbrev pub held_coded : Coded the_row.Denot
held_coded = the_row.coded
