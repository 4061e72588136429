-- Why a serve does not end well.
use Rattle.fleet_serve.specs.declared.served.ServeFault.{ServeFault}
use Rattle.fleet_serve.specs.declared.served.ServeFault.TheVariants.{Opening, ClockSpent, ChapterFull, Drain, NoMemory, NoThread}
use Rattle.fleet_office.specs.declared.report.TurnCause.{TurnCause}
use Rattle.fleet_office.specs.declared.report.TurnCause.TheVariants as cause

-- a fault that comes after the opening, or out of memory
abbrev pub IsLater : ServeFault → Type 0
IsLater (Opening fault) = ⊥
IsLater ClockSpent = Unit {0}
IsLater ChapterFull = Unit {0}
IsLater Drain = Unit {0}
IsLater NoMemory = Unit {0}
IsLater NoThread = Unit {0}

-- the fault of a serve whose turn was refused for this cause
abbrev pub fault_of : TurnCause → ServeFault
fault_of cause.ClockSpent = ClockSpent
fault_of cause.ChapterFull = ChapterFull
fault_of cause.NoMemory = NoMemory
