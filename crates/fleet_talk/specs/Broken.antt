-- How a conversation breaks off, and what is written until then.
use Rattle.std.specs.Prelude.{◌≡◌, ℕ, List, [], ◌++◌, Option}
use Rattle.fleet_text.specs.Transfer.{AppendsPrefix}
use Rattle.fleet_talk.specs.declared.fault.TalkFault.{TalkFault}
use Rattle.fleet_talk.specs.declared.fault.TalkFault.TheVariants.{Input, Output, Sink, Opening, NoRooms, NoMemory}
use Rattle.fleet_talk.specs.Says.{Says}

-- a fault that leaves what waits to be written
abbrev pub IsMidway : TalkFault → Type 0
IsMidway Input = Unit {0}
IsMidway Output = ⊥
IsMidway Sink = Unit {0}
IsMidway (Opening why) = ⊥
IsMidway NoRooms = ⊥
IsMidway NoMemory = Unit {0}

-- a text was said before this fault: a writer took a prefix of what waited and the text, and nothing waits, where a write failed
abbrev pub SaysUntil : TalkFault → Option (List ℕ) → Option (List ℕ) → List ℕ → List ℕ → List ℕ → Type 0
SaysUntil Input before after waited waits text = Says before after waited waits text
SaysUntil Output before after waited waits text = AppendsPrefix before after (waited ++ text) × (waits ≡ [])
SaysUntil Sink before after waited waits text = Says before after waited waits text
SaysUntil (Opening why) before after waited waits text = ⊥
SaysUntil NoRooms before after waited waits text = ⊥
SaysUntil NoMemory before after waited waits text = Says before after waited waits text
