-- What is told follows from entries that a journal has.
use Rattle.std.specs.Prelude.{◌≡◌, ◌⊎◌, ℕ, Bool, true, false, List, [], ◌++◌, Option, IfSome}
use Rattle.std.specs.declared.alloc.Global.{Global}
use Rattle.std.specs.Io.KnownBytes.{Appends}
use Rattle.fleet_text.specs.Transfer.{AppendsPrefix}
use Rattle.fleet_talk.specs.declared.ends.Settings.{Settings}
use Rattle.fleet_talk.specs.Act.{Act}
use Rattle.fleet_talk.specs.Acts.{Talks}
use Rattle.fleet_talk.specs.Chapters.{AreTurned, ChapterView, beginning, chapter_in}
use Rattle.fleet_talk.specs.Fleet.{Fleet}
use Rattle.fleet_talk.specs.Journal.{IsAt, JournalView, with_each, with_whole}
use Rattle.fleet_talk.specs.Talked.{Goes}

-- a journal has these chapters, and of the next one the entries that it was given; or it failed
abbrev pub Stands : JournalView → List (ChapterView Global) → ChapterView Global → Type 0
Stands j chapters c = (j.failed ≡ true) ⊎ IsAt j chapters c

-- it has these chapters, and all entries of the next one, if it is written
abbrev pub Holds : JournalView → List (ChapterView Global) → ChapterView Global → Type 0
Holds j chapters c = IfSome j.logged (λ logged. logged ≡ with_whole chapters c)

-- before a text is written: it is empty, or the journal has all entries of the chapter that goes on, or it failed, and nothing may be written any more
abbrev pub BacksUp : (j k : JournalView) → List (ChapterView Global) → ChapterView Global → List ℕ → Bool → Type 0
BacksUp j k chapters c text is_mute =
    Stands k chapters c × (((text ≡ []) × (k.logged ≡ j.logged)) ⊎ (Holds k chapters c ⊎ ((is_mute ≡ true) × (k.logged ≡ j.logged))))

-- nothing was told, and nothing logged; or a prefix of this text was told, and the journal has all entries of the chapter that goes on
abbrev pub Tells : (j k : JournalView) → List (ChapterView Global) → ChapterView Global → (before after : Option (List ℕ)) → List ℕ → Type 0
Tells j k chapters c before after text = Stands k chapters c × ((Appends before after [] × (k.logged ≡ j.logged)) ⊎ (AppendsPrefix before after text × Holds k chapters c))

-- the first of these acts were done, a prefix was told of what waited and was said of them, and the journal has all entries up to there: after those that it had, of
-- the chapters that were handed out, and of the one that goes on
pub record Follows (roll : Option ℕ) (s : Fleet Global) (acts : List Act) (before after : Option (List ℕ)) (waited : List ℕ) (chapters : List (ChapterView Global)) (k : JournalView) : Type 0 where
  pub done : List Act
  pub left : List Act
  pub parts : acts ≡ done ++ left
  pub text : List ℕ
  pub last : Fleet Global
  pub talks : Talks roll s done text last
  pub tells : AppendsPrefix before after (waited ++ text)
  pub handed_out : List (ChapterView Global)
  pub turned : AreTurned (beginning s.talk.world) handed_out (beginning last.talk.world)
  pub holds : Holds k (with_each chapters handed_out) (chapter_in last.talk.world)

-- nothing was told, and nothing logged; or what was told follows from entries that the journal has
abbrev pub IsBacked : Option ℕ → Fleet Global → List Act → (before after : Option (List ℕ)) → List ℕ → List (ChapterView Global) → (j k : JournalView) → Type 0
IsBacked roll s acts before after waited chapters j k = (Appends before after [] × (k.logged ≡ j.logged)) ⊎ Follows roll s acts before after waited chapters k

-- from s to t these acts were done: what was told is backed, and the journal goes on where the fleet does
pub record GoesBacked (roll : Option ℕ) (s t : Fleet Global) (acts : List Act) (before after : Option (List ℕ)) (waited : List ℕ) (chapters : List (ChapterView Global)) (j k : JournalView) : Type 0 where
  pub handed_out : List (ChapterView Global)
  pub turned : AreTurned (beginning s.talk.world) handed_out (beginning t.talk.world)
  pub stands : Stands k (with_each chapters handed_out) (chapter_in t.talk.world)
  pub backed : IsBacked roll s acts before after waited chapters j k

-- the same of one act of which nothing was told yet
pub record GoesOnce (s t : Fleet Global) (chapters : List (ChapterView Global)) (j k : JournalView) : Type 0 where
  pub handed_out : List (ChapterView Global)
  pub turned : AreTurned (beginning s.talk.world) handed_out (beginning t.talk.world)
  pub stands : Stands k (with_each chapters handed_out) (chapter_in t.talk.world)
  pub logged : (k.logged ≡ j.logged) ⊎ Holds k chapters (chapter_in s.talk.world)

-- whatever the journal has, if it is where the fleet is
abbrev pub AllBacked : Option ℕ → (s t : Fleet Global) → List Act → (before after : Option (List ℕ)) → List ℕ → (j k : JournalView) → Type 0
AllBacked roll s t acts before after waited j k = (chapters : List (ChapterView Global)) → Stands j chapters (chapter_in s.talk.world) → GoesBacked roll s t acts before after waited chapters j k

-- the same up to a fault
abbrev pub PartBacked : Option ℕ → Fleet Global → List Act → (before after : Option (List ℕ)) → List ℕ → (j k : JournalView) → Type 0
PartBacked roll s acts before after waited j k = (chapters : List (ChapterView Global)) → Stands j chapters (chapter_in s.talk.world) → IsBacked roll s acts before after waited chapters j k

-- the lines of these bytes before this one were answered, and what was told of them is backed
pub record GoesLogged (settings : Settings) (cells : List Bool) (s m : Fleet Global) (asked : List Act) (left : Option (List ℕ)) (number : ℕ) (line : List ℕ) (before after : Option (List ℕ)) (waited waits : List ℕ) (j k : JournalView) : Type 0 where
  pub goes : Goes settings cells s asked left m number line before after waited waits
  pub logged : AllBacked settings.roll s m goes.done before after waited j k
