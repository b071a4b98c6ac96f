use mir.Raw.{raw}
use denote.Memory.{lone}
use denote.Struct.Struct.{exits_of}
use denote.Struct.Owning.{shape, fields, to}
use denote.Param.Send.{IsSend, AllSend, owning_send, struct_send, sendable}
use Rattle.std.proofs.Crossing as heap
use Rattle.std_alloc.proofs.SendSync.{quiet, lies}
use Rattle.std_heap.proofs.Global.TheSendSync as handle
use Rattle.neddwyrol_table.specs.contracts.held.Held as Held
use Rattle.neddwyrol_table.proofs.held.Held.TheSendSync.{the_send as home}
use Rattle.neddwyrol_table.specs.contracts.pass.NdPass.{the_row, the_type}
use Rattle.neddwyrol_table.specs.Owned.{held_owns}
use Rattle.std.specs.Global.{Global}
use base.Shift.{Keyless}
use denote.RawPtr.{Ptr, block_ptr, null_ptr}

keyless : (alloc : Global) (p : Ptr) (x : Held.the_row.Denot) → Keyless (held_owns alloc p x)
keyless alloc (block_ptr b o) x = (lies Held.the_row home (block_ptr b o) x, heap.frees.frees alloc (raw (lone Held.the_row.mir)) (block_ptr b o))
keyless alloc null_ptr x = tt

pub send : IsSend the_row
send =
    let all : AllSend (fields the_type) = (search sendable, (handle.the_field_send, tt)) in
    owning_send the_type all (λ d. keyless d.alloc d.at d.held)
    (λ k. quiet (to the_type) (exits_of k (fields the_type)) ((struct_send (shape the_type) all).leaving k))
