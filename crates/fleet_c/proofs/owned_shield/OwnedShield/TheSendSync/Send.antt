-- What C holds may go to another thread, since what it owns may.
use Rattle.std.specs.Prelude.{Option, None, Some}
use mir.Raw.{raw}
use base.Shift.{Keyless}
use denote.Memory.{lone}
use denote.RawPtr.{Ptr}
use denote.Struct.Struct.{exits_of}
use denote.Struct.Owning.{shape, fields, to}
use denote.Param.Send.{IsSend, AllSend, owning_send, struct_send, sendable}
use Rattle.std.proofs.Crossing as heap
use Rattle.std.specs.Global.{Global}
use Rattle.std_alloc.proofs.SendSync.{quiet, lies}
use Rattle.std_heap.specs.contracts.Global as Heap
use Rattle.std_heap.specs.contracts.GlobalAllocator.TheImpl.{ghosts}
use Rattle.std_heap.proofs.Global.TheSendSync as handle
use Rattle.fleet_shield.proofs.shield.Shield.TheSendSync as core
use Rattle.fleet_c.specs.OwnsShield.{HeldValue, held_row, owns}
use Rattle.fleet_c.specs.contracts.owned_shield.OwnedShield.{the_row, the_type}

sent : IsSend held_row
sent = core.the_send Heap.the_row ghosts heap.send heap.frees

keyless : (a : Global) (p : Ptr) (o : Option HeldValue) → Keyless (owns a p o)
keyless a p None = tt
keyless a p (Some x) = (lies held_row sent p x, heap.frees.frees a (raw (lone held_row.mir)) p)

pub send : IsSend the_row
send =
    let all : AllSend (fields the_type) = (search sendable, (handle.the_field_send, tt)) in
    owning_send the_type all (λ d. keyless d.alloc d.at d.held) (λ k. quiet (to the_type) (exits_of k (fields the_type)) ((struct_send (shape the_type) all).leaving k))
