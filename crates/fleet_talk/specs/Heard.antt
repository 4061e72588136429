-- The lines of a conversation, and what those of its head say.
use Rattle.std.specs.Prelude.{◌≡◌, ℕ, ◌+◌, ◌≤◌, Bool, true, false, List, [], ◌∷◌, ◌++◌, length, map, take, Option, Some, None, is_some, unwrap_or, if◌then◌else◌}
use Rattle.std.specs.List.{AllByRecursion, slice_split}
use Rattle.fleet_map.specs.Text.{is_line_feed, without_empty_last, words_of}
use Rattle.fleet_script.specs.Script.{Draft, with_header_within}
use Rattle.fleet_talk.specs.declared.ask.Asked.{Asked}
use Rattle.fleet_talk.specs.declared.ask.Asked.TheVariants.{Nothing, Events, Chapter, Look, Open, Other}
use Rattle.fleet_talk.specs.declared.ends.Settings.{Settings}
use Rattle.fleet_talk.specs.Ask.{Line, line_in}
use Rattle.fleet_talk.specs.Act.{is_quit}
use Rattle.fleet_text.specs.Answers.{bad_line}
use Rattle.fleet_talk.specs.Says.{marked, end_line}

-- ---- lines

-- the lines of an input, each without its line feed
abbrev pub parts_of : List ℕ → List (List ℕ)
parts_of bytes = without_empty_last (slice_split is_line_feed bytes)

-- no line is longer than a line may be
abbrev pub AreShort : List ℕ → Type 0
AreShort bytes = AllByRecursion (λ line. length line ≤ 8192) (parts_of bytes)

-- what is heard of the lines: of each the first bytes, one more than it may have
abbrev pub heard_lines : List ℕ → List (List ℕ)
heard_lines bytes = map (take 8193) (parts_of bytes)

-- the next line of these bytes, if one is left, and those that follow it
abbrev pub IsNext : List ℕ → Option (List ℕ) → Bool → List ℕ → Type 0
IsNext bytes left found line = (rest : List ℕ) × (left ≡ Some rest) × (heard_lines bytes ≡ (if found then line ∷ heard_lines rest else []))

-- ---- a line of the head

-- what the header lines said, with these words of one more; none where it is no header line, or says what one before said
abbrev pub with_words : Draft → List (List ℕ) → Option Draft
with_words d [] = Some d
with_words d (key ∷ words) = with_header_within 512 d key words

-- the same with one more line, which may be blank or a comment
abbrev pub with_head_line : Draft → Line → Asked → Option Draft
with_head_line d line Nothing = Some d
with_head_line d line Other = with_words d (words_of line.told)
with_head_line d line _ = None

-- where the robots start, if the line asks something of the fleet and the head said it
abbrev pub opens : Draft → Asked → Option (List ℕ)
opens d (Events more) = d.starts
opens d Chapter = d.starts
opens d Look = d.starts
opens d (Open client) = d.starts
opens d _ = None

-- what is said to a line of the head if it is none: that it is a bad line
abbrev pub bad_texts : Line → Bool → List (List ℕ)
bad_texts line true = []
bad_texts line false = marked line.mark (bad_line line.number) ∷ []

-- the end of a line's answer, where that is to be said
abbrev pub end_texts : Settings → Line → List (List ℕ)
end_texts settings line = if settings.marks then marked line.mark (end_line line.number) ∷ [] else []

-- all that is said to a line of the head
abbrev pub header_texts : Settings → Line → Bool → List (List ℕ)
header_texts settings line good = bad_texts line good ++ end_texts settings line

-- ---- the head

-- the opening of a fleet: where its robots start, all that the head said, the number of the line that opens it, and the lines from this one on
pub record Opening : Type 0 where
  pub starts : List ℕ
  pub head : Draft
  pub number : ℕ
  pub lines : List (List ℕ)

-- what is said to the lines of the head, and where the fleet is opened, if it is
pub record Head : Type 0 where
  pub said : List (List ℕ)
  pub opening : Option Opening

-- the head of no lines
abbrev pub no_head : Head
no_head = record { said = []; opening = None }

-- the head, with these texts said before
abbrev pub with_said : List (List ℕ) → Head → Head
with_said texts h = record { said = texts ++ h.said; opening = h.opening }

-- the head ends where the fleet is opened
abbrev pub unless_opened : Option (List ℕ) → (List ℕ → Opening) → Head → Head
unless_opened None opening more = more
unless_opened (Some starts) opening more = record { said = []; opening = Some (opening starts) }

-- the head of lines, the first of which has this number, after header lines that said this: up to the line that opens the fleet, to one
-- that says quit, or to the end
abbrev pub head_of : Settings → Draft → ℕ → List (List ℕ) → Head
head_of settings d number [] = no_head
head_of settings d number (bytes ∷ lines) =
    let line = line_in number bytes in
    let more = with_head_line d line line.asked in
    if is_quit line.asked then no_head
    else unless_opened (opens d line.asked) (λ starts. record { starts = starts; head = d; number = number; lines = bytes ∷ lines })
    (with_said (header_texts settings line (is_some more)) (head_of settings (unwrap_or more d) (number + 1) lines))

-- texts, one after another
abbrev pub all_of : List (List ℕ) → List ℕ
all_of [] = []
all_of (text ∷ texts) = text ++ all_of texts
