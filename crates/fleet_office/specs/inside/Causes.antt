-- The cause that a refused tick is of a turn's end.
use Rattle.fleet_core.specs.declared.faults.TickFault.{TickFault}
use Rattle.fleet_core.specs.declared.faults.TickFault.TheVariants as tick_fault
use Rattle.fleet_office.specs.declared.report.TurnCause.{TurnCause}
use Rattle.fleet_office.specs.declared.report.TurnCause.TheVariants as cause

abbrev pub cause_of : TickFault → TurnCause
cause_of tick_fault.ClockSpent = cause.ClockSpent
cause_of tick_fault.ChapterFull = cause.ChapterFull
cause_of tick_fault.NoMemory = cause.NoMemory
