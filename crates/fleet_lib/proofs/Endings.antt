-- How a conversation of the program ended.
use Rattle.std.proofs.Common.{◌≡◌, ℕ, Bool, List, [], Option, Some, None, Result, Ok, Err, IfSome, refl, sym, ap}
use Rattle.std.specs.Prelude.{IfOk, IfErr}
use Rattle.std.specs.Result.{IsErrAnd}
use Rattle.std.specs.declared.alloc.Global.{Global}
use Rattle.std.specs.Io.KnownBytes.{Appends}
use Rattle.fleet_text.specs.Transfer.{AppendsPrefix}
use Rattle.fleet_reopen.specs.declared.fault.ReopenFault.TheVariants as reopen_fault
use Rattle.fleet_talk.specs.declared.fault.TalkFault.{TalkFault}
use Rattle.fleet_talk.specs.declared.fault.TalkFault.TheVariants.{Input, Output, Sink, Opening, NoRooms, NoMemory}
use Rattle.fleet_talk.specs.declared.resuming.ResumeFault.{ResumeFault}
use Rattle.fleet_talk.specs.declared.resuming.ResumeFault.TheVariants as resume_fault
use Rattle.fleet_talk.specs.Broken.{IsMidway}
use Rattle.fleet_talk.specs.Chapters.{Adds, ChapterView}
use Rattle.fleet_talk.specs.Conversation.{IsBegun, IsConversation, IsRefusedHead, IsRoomlessHead, KeptChapters, Terms}
use Rattle.fleet_talk.specs.Resumed.{IsRefusal, IsResumeFault, IsResumption, IsResumptionBegun, IsRoomless}
use Rattle.fleet_lib.specs.Ended.{EndsAs, EndsOn}

-- what holds of an input, if it is known
pub of_each : (known : Option (List ℕ)) (P : List ℕ → Type 0) → ((bytes : List ℕ) → P bytes) → IfSome known P
of_each None P all = tt
of_each (Some bytes) P all = all bytes

pub then_each : (known : Option (List ℕ)) (P Q : List ℕ → Type 0) → ((bytes : List ℕ) → P bytes → Q bytes) → IfSome known P → IfSome known Q
then_each None P Q all h = tt
then_each (Some bytes) P Q all h = all bytes h

-- there was no memory
pub no_memory : (r : Result Bool ResumeFault) → IsErrAnd r (λ f. f ≡ resume_fault.Chapter reopen_fault.NoMemory) → r ≡ Err (resume_fault.Chapter reopen_fault.NoMemory)
no_memory (Ok x) is = absurd is
no_memory (Err f) is = ap (λ (g : ResumeFault). Err g) is

module _ (on : Terms) (k : KeptChapters) where
  -- each end of a conversation has a clause of its own
  pub ends-as : (known a b : Option (List ℕ)) (r : Result Bool TalkFault)
      → IfOk r (λ met. IfSome known (λ bytes. (text : List ℕ) × (chapters : List (ChapterView Global)) × IsConversation on bytes text chapters met × Appends a b text × Adds k.old k.new chapters))
      → ((why : _) → r ≡ Err (Opening why) → IfSome known (λ bytes. (text : List ℕ) × IsRefusedHead on bytes text why × Appends a b text))
      → (r ≡ Err NoRooms → IfSome known (λ bytes. (text : List ℕ) × IsRoomlessHead on bytes text × Appends a b text))
      → IfErr r (λ f. IsMidway f → IfSome known (λ bytes. (text : List ℕ) × IsBegun on bytes text × Appends a b text))
      → (r ≡ Err Output → IfSome known (λ bytes. (text : List ℕ) × IsBegun on bytes text × AppendsPrefix a b text))
      → IfSome known (λ bytes. EndsAs on bytes a b k r)
  ends-as None a b r whole refused roomless broken cut = tt
  ends-as (Some bytes) a b (Ok x) whole refused roomless broken cut = whole
  ends-as (Some bytes) a b (Err Input) whole refused roomless broken cut = broken tt
  ends-as (Some bytes) a b (Err Output) whole refused roomless broken cut = cut refl
  ends-as (Some bytes) a b (Err Sink) whole refused roomless broken cut = broken tt
  ends-as (Some bytes) a b (Err (Opening why)) whole refused roomless broken cut = refused why refl
  ends-as (Some bytes) a b (Err NoRooms) whole refused roomless broken cut = roomless refl
  ends-as (Some bytes) a b (Err NoMemory) whole refused roomless broken cut = broken tt

  -- the same of one whose fleet goes on from a chapter
  pub ends-on : (c : ChapterView Global) (known a b : Option (List ℕ)) {X : Type 0} (r : Result Bool ResumeFault)
      → IfOk r (λ met. IfSome known (λ bytes. (text : List ℕ) × (chapters : List (ChapterView Global)) × IsResumption on c bytes text chapters met × Appends a b text × Adds k.old k.new chapters))
      → IfErr r (λ f. IsRefusal f → IsResumeFault on.settings.roomy on.kit on.floor on.head c f)
      → IfErr r (λ f. IsRefusal f → X) → (r ≡ Err resume_fault.NoRooms → IsRoomless on c × X) → (X → b ≡ a) → (X → k.new ≡ k.old)
      → ((why : TalkFault) → r ≡ Err (resume_fault.Talk why) → IsMidway why → IfSome known (λ bytes. (text : List ℕ) × IsResumptionBegun on c bytes text × Appends a b text))
      → (r ≡ Err (resume_fault.Talk Output) → IfSome known (λ bytes. (text : List ℕ) × IsResumptionBegun on c bytes text × AppendsPrefix a b text))
      → IfSome known (λ bytes. EndsOn on c bytes a b k r)
  ends-on c None a b r whole refused same roomless out kept broken cut = tt
  ends-on c (Some bytes) a b (Ok x) whole refused same roomless out kept broken cut = whole
  ends-on c (Some bytes) a b (Err resume_fault.Robots) whole refused same roomless out kept broken cut = (refused tt, out (same tt), kept (same tt))
  ends-on c (Some bytes) a b (Err resume_fault.Clients) whole refused same roomless out kept broken cut = (refused tt, out (same tt), kept (same tt))
  ends-on c (Some bytes) a b (Err (resume_fault.Chapter why)) whole refused same roomless out kept broken cut = (refused tt, out (same tt), kept (same tt))
  ends-on c (Some bytes) a b (Err (resume_fault.Errand x)) whole refused same roomless out kept broken cut = (refused tt, out (same tt), kept (same tt))
  ends-on c (Some bytes) a b (Err (resume_fault.Talk Input)) whole refused same roomless out kept broken cut = broken Input refl
  ends-on c (Some bytes) a b (Err (resume_fault.Talk Output)) whole refused same roomless out kept broken cut = cut refl
  ends-on c (Some bytes) a b (Err (resume_fault.Talk Sink)) whole refused same roomless out kept broken cut = broken Sink refl
  ends-on c (Some bytes) a b (Err (resume_fault.Talk (Opening why))) whole refused same roomless out kept broken cut = λ mid. absurd mid
  ends-on c (Some bytes) a b (Err resume_fault.NoRooms) whole refused same roomless out kept broken cut = let (is, none) = roomless refl in (is, out none, kept none)
  ends-on c (Some bytes) a b (Err (resume_fault.Talk NoRooms)) whole refused same roomless out kept broken cut = λ mid. absurd mid
  ends-on c (Some bytes) a b (Err (resume_fault.Talk NoMemory)) whole refused same roomless out kept broken cut = broken NoMemory refl
