-- What the head of a conversation is, line by line.
use Rattle.std.specs.Prelude.{◌≡◌, ℕ, ◌+◌, true, false, List, [], ◌∷◌, ◌++◌, length, Option, Some, None}
use Rattle.fleet_script.specs.Script.{Draft}
use Rattle.fleet_talk.specs.declared.ends.Settings.{Settings}
use Rattle.fleet_talk.specs.Act.{is_quit}
use Rattle.fleet_talk.specs.Ask.{Line, line_in}
use Rattle.fleet_talk.specs.Heading.{IsOfHead}
use Rattle.fleet_talk.specs.Heard.{Head, Opening, end_texts, opens, with_head_line}
use Rattle.fleet_text.specs.Answers.{bad_line}
use Rattle.fleet_talk.specs.Says.{marked}

-- the first lines of an input belong to its head: what they say, after what a file's header lines said, and what is said to them
pub data AreOfHead (settings : Settings) (file : Draft) : List (List ℕ) → Draft → List (List ℕ) → Type 0 where
  none : AreOfHead settings file [] file []
  -- a header line, a comment or a blank line
  good : {lines : List (List ℕ)} {d : Draft} {said : List (List ℕ)} {all : List (List ℕ)} {e : Draft} {told : List (List ℕ)} (bytes : List ℕ) (line : Line)
      → AreOfHead settings file lines d said → line ≡ line_in (length lines + 1) bytes → IsOfHead d line → with_head_line d line line.asked ≡ Some e
      → all ≡ lines ++ bytes ∷ [] → told ≡ said ++ end_texts settings line → AreOfHead settings file all e told
  -- any other, which says nothing
  bad : {lines : List (List ℕ)} {d : Draft} {said : List (List ℕ)} {all : List (List ℕ)} {told : List (List ℕ)} (bytes : List ℕ) (line : Line)
      → AreOfHead settings file lines d said → line ≡ line_in (length lines + 1) bytes → IsOfHead d line → with_head_line d line line.asked ≡ None
      → all ≡ lines ++ bytes ∷ [] → told ≡ said ++ marked line.mark (bad_line line.number) ∷ end_texts settings line → AreOfHead settings file all d told

-- where a head ends that said this, and what the fleet is opened with, if it is; the next line has this number
pub data EndsHead (d : Draft) (number : ℕ) (rest : List (List ℕ)) (opening : Option Opening) : Type 0 where
  -- at the end of the input
  over : rest ≡ [] → opening ≡ None → EndsHead d number rest opening
  -- at a line that says quit
  quits : (bytes : List ℕ) (more : List (List ℕ)) → rest ≡ bytes ∷ more → is_quit (line_in number bytes).asked ≡ true → opening ≡ None → EndsHead d number rest opening
  -- at a line that asks something of the fleet, where the head said where its robots start
  opened : (bytes : List ℕ) (more : List (List ℕ)) (starts : List ℕ) → rest ≡ bytes ∷ more → is_quit (line_in number bytes).asked ≡ false → opens d (line_in number bytes).asked ≡ Some starts
      → opening ≡ Some (record { starts = starts; head = d; number = number; lines = rest }) → EndsHead d number rest opening

-- the head of these lines, after what a file's header lines said
pub record IsHead (settings : Settings) (file : Draft) (lines : List (List ℕ)) (h : Head) : Type 0 where
  pub first : List (List ℕ)
  pub rest : List (List ℕ)
  pub parts : lines ≡ first ++ rest
  pub says : Draft
  pub are : AreOfHead settings file first says h.said
  pub ends : EndsHead says (length first + 1) rest h.opening
