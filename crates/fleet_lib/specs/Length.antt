-- How long the text of a chapter may be, by the words of `talk` and `live`.
use Rattle.std.specs.Prelude.{◌≡◌, ◌≤◌, ℕ, List, ◌++◌, Option, Some, None, codes}
use Rattle.fleet_map.specs.Text.{number_of}
use Rattle.fleet_lib.specs.declared.talk_words.TalkWordFault.{TalkWordFault}
use Rattle.fleet_lib.specs.declared.talk_words.TalkWordFault.TheVariants as fault

-- the word after `--chapter-bytes` asks for n bytes: from 1 MiB to 1 GiB, and 64 MiB without a word
abbrev pub AsksBytes : Option (List ℕ) → ℕ → Type 0
AsksBytes None n = n ≡ 67108864
AsksBytes (Some word) n = (number_of word ≡ Some n) × (1048576 ≤ n) × (n ≤ 1073741824)

-- what is printed of the words
abbrev pub word_complaint : TalkWordFault → List ℕ
word_complaint fault.NoJournal = codes "error: '--journal' needs '--traces <DIR>'\n"
word_complaint fault.NoRoll = codes "error: '--chapter-bytes' needs '--roll'\n"
word_complaint fault.ChapterBytes = codes "error: invalid value for '--chapter-bytes <N>'\n"
word_complaint fault.Planner = codes "error: invalid value for '--planner <NAME>'\n"
