-- How a conversation of the program ended, and what is said of it.
use Rattle.std.specs.Prelude.{◌≡◌, ℕ, Bool, true, false, List, Option, Some, None, Result, Ok, Err, IfSome}
use Rattle.std.specs.declared.alloc.Global.{Global}
use Rattle.std.specs.Io.KnownBytes.{Appends}
use Rattle.fleet_text.specs.Kit.{kit_of}
use Rattle.fleet_text.specs.Transfer.{AppendsPrefix}
use Rattle.fleet_text.specs.declared.input.InputFault.TheVariants as input_fault
use Rattle.fleet_text.specs.declared.said.Complaint.{Complaint}
use Rattle.fleet_text.specs.declared.said.Complaint.TheVariants as complaint
use Rattle.fleet_grid.specs.Floor.{Floor}
use Rattle.fleet_history.specs.declared.history.Chapter.{Chapter}
use Rattle.fleet_reopen.specs.declared.fault.ReopenFault.TheVariants as reopen_fault
use Rattle.fleet_script.specs.Script.{Draft}
use Rattle.fleet_trace.specs.Reads.{Tells}
use Rattle.fleet_trace.specs.Trace.{trace_of}
use Rattle.fleet_talk.specs.declared.ends.Settings.{Settings}
use Rattle.fleet_talk.specs.declared.fault.TalkFault.{TalkFault}
use Rattle.fleet_talk.specs.declared.fault.TalkFault.TheVariants.{Output, Opening, NoRooms}
use Rattle.fleet_talk.specs.declared.resuming.ResumeFault.{ResumeFault}
use Rattle.fleet_talk.specs.declared.resuming.ResumeFault.TheVariants as resume_fault
use Rattle.fleet_talk.specs.Broken.{IsMidway}
use Rattle.fleet_talk.specs.Chapters.{Adds, ChapterView, chapter_shown}
use Rattle.fleet_talk.specs.Conversation.{IsBegun, IsConversation, IsRefusedHead, IsRoomlessHead, KeptChapters, Terms}
use Rattle.fleet_talk.specs.Resumed.{IsResumeFault, IsResumption, IsResumptionBegun, IsRoomless}
use Rattle.fleet_lib.specs.declared.kept.KeptFault.{KeptFault}
use Rattle.fleet_lib.specs.declared.kept.KeptFault.TheVariants as kept_fault
use Rattle.fleet_lib.specs.declared.kept.KeptText.{KeptText}
use Rattle.fleet_lib.specs.Kept.{ComplainsOfKept, IsKeptFault}
use Rattle.fleet_lib.specs.Said.{Failed}
use Rattle.fleet_lib.specs.Talk.{Complains, IsGround, IsGroundFault, complaint_of}

-- ---- what is written and kept

-- the programs' hooks for as many robots as a conversation may have, a map, the settings, and what header lines of a file said
abbrev pub terms_of : Floor → Draft → Settings → Terms
terms_of floor said settings = record { kit = kit_of 512; floor = floor; settings = settings; head = said }

-- a conversation whose head names the fleet: whole, refused at its opening, without rooms to take turns in, or its beginning; where a write failed a prefix of that
abbrev pub EndsAs : Terms → List ℕ → Option (List ℕ) → Option (List ℕ) → KeptChapters → Result Bool TalkFault → Type 0
EndsAs on bytes before after k (Ok limited) = (text : List ℕ) × (chapters : List (ChapterView Global)) × IsConversation on bytes text chapters limited × Appends before after text × Adds k.old k.new chapters
EndsAs on bytes before after k (Err (Opening why)) = (text : List ℕ) × IsRefusedHead on bytes text why × Appends before after text
EndsAs on bytes before after k (Err NoRooms) = (text : List ℕ) × IsRoomlessHead on bytes text × Appends before after text
EndsAs on bytes before after k (Err Output) = (text : List ℕ) × IsBegun on bytes text × AppendsPrefix before after text
EndsAs on bytes before after k (Err why) = (text : List ℕ) × IsBegun on bytes text × Appends before after text

-- the beginning of one whose fleet went on from a chapter, where it broke off
abbrev pub BreaksOff : Terms → ChapterView Global → List ℕ → Option (List ℕ) → Option (List ℕ) → TalkFault → Type 0
BreaksOff on c bytes before after Output = (text : List ℕ) × IsResumptionBegun on c bytes text × AppendsPrefix before after text
BreaksOff on c bytes before after why = IsMidway why → (text : List ℕ) × IsResumptionBegun on c bytes text × Appends before after text

-- a conversation whose fleet was to go on from a chapter: whole, or broken off; or the chapter was refused, or there were no rooms to take turns in, and nothing was written or kept
abbrev pub EndsOn : Terms → ChapterView Global → List ℕ → Option (List ℕ) → Option (List ℕ) → KeptChapters → Result Bool ResumeFault → Type 0
EndsOn on c bytes before after k (Ok limited) = (text : List ℕ) × (chapters : List (ChapterView Global)) × IsResumption on c bytes text chapters limited × Appends before after text × Adds k.old k.new chapters
EndsOn on c bytes before after k (Err (resume_fault.Talk why)) = BreaksOff on c bytes before after why
EndsOn on c bytes before after k (Err resume_fault.NoRooms) = IsRoomless on c × (after ≡ before) × (k.new ≡ k.old)
EndsOn on c bytes before after k (Err why) = IsResumeFault on.settings.roomy on.kit on.floor on.head c why × (after ≡ before) × (k.new ≡ k.old)

-- the end of a conversation, where it may also be that no chapter could be gone on from
abbrev pub broken_off : Result Bool TalkFault → Result Bool ResumeFault
broken_off (Ok limited) = Ok limited
broken_off (Err why) = Err (resume_fault.Talk why)

-- a conversation whose fleet goes on from a chapter, if there is one
pub data EndsWith (on : Terms) (c : Option (ChapterView Global)) (bytes : List ℕ) (before after : Option (List ℕ)) (k : KeptChapters) (ended : Result Bool ResumeFault) : Type 0 where
  -- there was no memory for the hooks
  unheld : ended ≡ Err (resume_fault.Chapter reopen_fault.NoMemory) → after ≡ before → k.new ≡ k.old → EndsWith on c bytes before after k ended
  began : c ≡ None → (end : Result Bool TalkFault) → ended ≡ broken_off end → EndsAs on bytes before after k end → EndsWith on c bytes before after k ended
  went_on : (chapter : ChapterView Global) → c ≡ Some chapter → EndsOn on chapter bytes before after k ended → EndsWith on c bytes before after k ended

-- ---- with a file that has the chapter

-- the file of a chapter: its name, the chapter's number by this name, and what is in it
pub record KeptFile : Type 0 where
  pub name : List ℕ
  pub number : ℕ
  pub text : List ℕ

-- the file of a chapter, without where its texts lie in memory
abbrev pub file_shown : KeptText → KeptFile
file_shown k = record { name = k.name.now; number = k.number; text = k.text.now }

-- the end of a conversation, where it may also be that the file has no such chapter
abbrev pub kept_end : Result Bool ResumeFault → Result Bool KeptFault
kept_end (Ok limited) = Ok limited
kept_end (Err why) = Err (kept_fault.Resume why)

-- a conversation whose fleet goes on from the chapter of a file, if there is one
pub data IsEnded (on : Terms) (file : Option KeptFile) (bytes : List ℕ) (before after : Option (List ℕ)) (k : KeptChapters) (ended : Result Bool KeptFault) : Type 0 where
  -- the file does not have the chapter, and nothing was written or kept
  unread : (it : KeptFile) → file ≡ Some it → (why : KeptFault) → ended ≡ Err why → IsKeptFault it.text it.number why → after ≡ before → k.new ≡ k.old → IsEnded on file bytes before after k ended
  -- it has this one
  with_file : (it : KeptFile) → file ≡ Some it → (c : Chapter Global) → Tells it.text (trace_of c) → c.number ≡ it.number → (end : Result Bool ResumeFault) → ended ≡ kept_end end
      → EndsWith on (Some (chapter_shown c)) bytes before after k end → IsEnded on file bytes before after k ended
  without : file ≡ None → (end : Result Bool ResumeFault) → ended ≡ kept_end end → EndsWith on None bytes before after k end → IsEnded on file bytes before after k ended

-- ---- what is said of it

-- nothing and the status 0, or that a limit was met
abbrev pub TellsLimit : Bool → Option (List ℕ) → Option (List ℕ) → ℕ → Type 0
TellsLimit false old new status = (status ≡ 0) × (new ≡ old)
TellsLimit true old new status = Complains complaint.Limit old new status

-- why a conversation broke off that was held, or was to be held in turns
abbrev pub broke : KeptFault → Option TalkFault
broke (kept_fault.Resume (resume_fault.Talk why)) = Some why
broke (kept_fault.Resume resume_fault.NoRooms) = Some NoRooms
broke other = None

-- of a file, why no fleet goes on from it; without one only memory can be missing
abbrev pub TellsKeptFault : List ℕ → Option KeptFile → KeptFault → Option (List ℕ) → Option (List ℕ) → ℕ → Type 0
TellsKeptFault map (Some file) why old new status = ComplainsOfKept map file.name file.text why old new status
TellsKeptFault map None why old new status = Failed input_fault.NoMemory old new status

-- that it broke off, if it did, or else why no fleet goes on
abbrev pub TellsFault : Option TalkFault → List ℕ → Option KeptFile → KeptFault → Option (List ℕ) → Option (List ℕ) → ℕ → Type 0
TellsFault (Some broken) map file why old new status = Complains (complaint_of broken) old new status
TellsFault None map file why old new status = TellsKeptFault map file why old new status

-- what is told of the end of a conversation, and its status
abbrev pub TellsEnd : List ℕ → Option KeptFile → Result Bool KeptFault → Option (List ℕ) → Option (List ℕ) → ℕ → Type 0
TellsEnd map file (Ok limited) old new status = TellsLimit limited old new status
TellsEnd map file (Err why) old new status = TellsFault (broke why) map file why old new status

-- ---- the word `talk`

-- what the word `talk` leaves on its writers and in its sink, and its status, with a map, a file of header lines and the file of a
-- chapter, over an input, if it is known
pub data IsTalk (map script : List ℕ) (file : Option KeptFile) (settings : Settings) (known before after : Option (List ℕ)) (k : KeptChapters) (old new : Option (List ℕ)) (status : ℕ) : Type 0 where
  -- the map or the header lines are faulty: no line was read
  groundless : (why : Complaint) → IsGroundFault map script why → Complains why old new status → after ≡ before → k.new ≡ k.old → IsTalk map script file settings known before after k old new status
  -- a conversation was held, and its end is told
  held : (floor : Floor) (said : Draft) → IsGround map script floor said
      → IfSome known (λ bytes. (ended : Result Bool KeptFault) × IsEnded (terms_of floor said settings) file bytes before after k ended × TellsEnd map file ended old new status)
      → IsTalk map script file settings known before after k old new status
