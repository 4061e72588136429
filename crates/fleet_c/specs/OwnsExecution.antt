-- What a handle to an execution owns.
use Rattle.std.specs.Prelude.{Option, None, Some}
use Rattle.std.specs.Coded.{coded_option}
use Rattle.std.specs.Box.Ownership.{box_owns}
use Rattle.std.specs.Global.{Global}
use Rattle.std_heap.specs.contracts.GlobalAllocator.TheImpl.{ghosts}
use Rattle.std_heap.specs.contracts.Global as heap
use Rattle.fleet_execution.specs.contracts.execution.Execution as execution
use base.Fml.{Fml, ftrue}
use base.Stored.{Coded}
use denote.RattleType.{RattleType}
use denote.RawPtr.{Ptr}

-- the type of what an open handle holds: an execution
abbrev pub held_row : RattleType
held_row = execution.the_row heap.the_row ghosts

-- what an open handle holds
abbrev pub HeldValue : Type 0
HeldValue = held_row.Denot

-- how a ghost keeps what a handle holds, `None` of a closed one
abbrev pub owned_code : Coded (Option HeldValue)
owned_code = coded_option held_row.coded

-- nothing, or the value at the pointer with the right to free its block
abbrev pub owns : Global → Ptr → Option HeldValue → Fml
owns alloc p None = ftrue
owns alloc p (Some x) = box_owns (ghosts.dealloc_token alloc) held_row p x
