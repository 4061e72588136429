-- Why a fleet that is talked to was not opened.
use Rattle.fleet_core.specs.declared.faults.OpenFault.{OpenFault}
use Rattle.fleet_core.specs.declared.faults.OpenFault.TheVariants as fault
use Rattle.fleet_talk.specs.declared.fault.TalkFault.{TalkFault}
use Rattle.fleet_talk.specs.declared.fault.TalkFault.TheVariants.{Opening, NoMemory}

-- why a conversation ends, by why its fleet is not opened
abbrev pub talk_fault : OpenFault → TalkFault
talk_fault fault.NoMemory = NoMemory
talk_fault other = Opening other
