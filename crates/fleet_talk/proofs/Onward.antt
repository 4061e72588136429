-- The lines of an open fleet, one after another.
use Rattle.std.proofs.Common.{◌≡◌, ◌∙◌, ℕ, ◌+◌, Bool, true, false, cond, List, [], ◌∷◌, ◌++◌, Option, Some, None, IfSome, refl, sym, ap, subst, append_assoc, append-nil}
use Rattle.fleet_talk.specs.declared.ends.Settings.{Settings}
use Rattle.fleet_talk.specs.declared.fault.TalkFault.{TalkFault}
use Rattle.fleet_talk.specs.Act.{Act, acts_from, acts_on, is_quit}
use Rattle.fleet_talk.specs.Acts.{Talks}
use Rattle.fleet_talk.specs.Ask.{Line}
use Rattle.fleet_talk.specs.Door.{line_let_in}
use Rattle.fleet_talk.specs.Broken.{IsMidway, SaysUntil}
use Rattle.fleet_talk.specs.Fleet.{Fleet}
use Rattle.fleet_talk.specs.Heard.{heard_lines, IsNext}
use Rattle.fleet_talk.specs.Says.{Says}
use Rattle.fleet_talk.specs.Talked.{Goes, TalksUntil}
use Rattle.fleet_talk.proofs.Breaking.{until-none, until-after, until-more, until-unwritten}
use Rattle.fleet_talk.proofs.Saying.{says-none, says-then, until-then}
use Rattle.fleet_talk.proofs.Talking.{talks-append}

-- what is said of the lines that were asked of an open fleet
abbrev pub TalksAll : {A : Type 0} → Settings → Fleet A → List Act → Fleet A → Option (List ℕ) → Option (List ℕ) → List ℕ → List ℕ → Type 0
TalksAll settings s asked last before after waited waits = (text : List ℕ) × Talks settings.roll s asked text last × Says before after waited waits text

module _ {A : Type 0} (settings : Settings) (cells : List Bool) (s : Fleet A) where
  -- what is done at a line and at those that follow
  abbrev from_line : List Act → Line → List Act
  from_line rest l = cond (is_quit l.asked) [] (acts_on settings l ++ rest)

  pub acts_more : (n : ℕ) (line : List ℕ) (lines : List (List ℕ)) (l : Line) → l ≡ line_let_in cells n line → is_quit l.asked ≡ false → acts_from settings cells n (line ∷ lines) ≡ acts_on settings l ++ acts_from settings cells (n + 1) lines
  acts_more n line lines l at goes = ap (from_line (acts_from settings cells (n + 1) lines)) (sym at) ∙ rw goes refl

  pub acts_over : (n : ℕ) (line : List ℕ) (lines : List (List ℕ)) (l : Line) → l ≡ line_let_in cells n line → is_quit l.asked ≡ true → acts_from settings cells n (line ∷ lines) ≡ []
  acts_over n line lines l at quit = ap (from_line (acts_from settings cells (n + 1) lines)) (sym at) ∙ rw quit refl

  -- no line was answered yet
  pub goes-none : (first : ℕ) (line : List ℕ) (known before : Option (List ℕ)) (waited : List ℕ) → IfSome known (λ xs. Goes settings cells s (acts_from settings cells first (line ∷ heard_lines xs)) known s first line before before waited waited)
  goes-none first line None before waited = tt
  goes-none first line (Some xs) before waited = record { rest = xs; at = refl; done = []; parts = refl; text = []; talks = (refl, refl); says = says-none before waited }

  module _ (asks : List ℕ → List Act) (known left : Option (List ℕ)) (m : Fleet A) (n : ℕ) (line : List ℕ) (before after : Option (List ℕ)) (waited waits : List ℕ)
      (h : IfSome known (λ xs. Goes settings cells s (asks xs) left m n line before after waited waits)) where
    abbrev Going : List ℕ → Type 0
    Going xs = Goes settings cells s (asks xs) left m n line before after waited waits

    at_each : (P : List ℕ → Type 0) → ((xs : List ℕ) → Going xs → P xs) → IfSome known P
    at_each P f = by known h
      where
        by : (o : Option (List ℕ)) → IfSome o Going → IfSome o P
        by None g = tt
        by (Some xs) g = f xs g

    -- lines ran out of numbers
    pub goes-fault : (fault : TalkFault) → IsMidway fault → IfSome known (λ xs. TalksUntil fault settings.roll s (asks xs) before after waited waits)
    goes-fault fault is = at_each (λ xs. TalksUntil fault settings.roll s (asks xs) before after waited waits) (λ xs g.
        subst (λ (acts : List Act). TalksUntil fault settings.roll s acts before after waited waits) (sym g.parts)
        (until-after fault settings.roll s m g.done (acts_from settings cells n (line ∷ heard_lines g.rest)) before after after waited waits waits g.text g.talks g.says
        (until-none fault settings.roll m (acts_from settings cells n (line ∷ heard_lines g.rest)) after waits waits is refl)))

    -- the line ends the conversation
    pub goes-over : (l : Line) → l ≡ line_let_in cells n line → is_quit l.asked ≡ true → IfSome known (λ xs. TalksAll settings s (asks xs) m before after waited waits)
    goes-over l at quit = at_each (λ xs. TalksAll settings s (asks xs) m before after waited waits) (λ xs g.
        let all : asks xs ≡ g.done = g.parts ∙ (ap (λ acts. g.done ++ acts) (acts_over n line (heard_lines g.rest) l at quit) ∙ append-nil g.done) in
        (g.text, subst (λ (acts : List Act). Talks settings.roll s acts g.text m) (sym all) g.talks, g.says))

    -- the line broke off
    pub goes-broken : (l : Line) (fault : TalkFault) (after2 : Option (List ℕ)) (waits2 : List ℕ) → l ≡ line_let_in cells n line → is_quit l.asked ≡ false → TalksUntil fault settings.roll m (acts_on settings l) after after2 waits waits2
        → IfSome known (λ xs. TalksUntil fault settings.roll s (asks xs) before after2 waited waits2)
    goes-broken l fault after2 waits2 at goes u = at_each (λ xs. TalksUntil fault settings.roll s (asks xs) before after2 waited waits2) (λ xs g.
        let rest = acts_from settings cells (n + 1) (heard_lines g.rest) in
        subst (λ (acts : List Act). TalksUntil fault settings.roll s acts before after2 waited waits2) (sym (g.parts ∙ ap (λ acts. g.done ++ acts) (acts_more n line (heard_lines g.rest) l at goes)))
        (until-after fault settings.roll s m g.done (acts_on settings l ++ rest) before after after2 waited waits waits2 g.text g.talks g.says (until-more fault settings.roll m (acts_on settings l) rest after after2 waits waits2 u)))

    -- the line was answered
    module _ (l : Line) (at : l ≡ line_let_in cells n line) (goes : is_quit l.asked ≡ false) (t : Fleet A) (after2 : Option (List ℕ)) (waits2 : List ℕ) (answers : List ℕ) (talks : Talks settings.roll m (acts_on settings l) answers t) (says : Says after after2 waits waits2 answers) where
      abbrev Answered : List ℕ → Type 0
      Answered xs = (rest : List ℕ) × (left ≡ Some rest) × (done : List Act) × (asks xs ≡ done ++ acts_from settings cells (n + 1) (heard_lines rest)) × (text : List ℕ) × Talks settings.roll s done text t × Says before after2 waited waits2 text

      answered_line : (xs : List ℕ) → Going xs → Answered xs
      answered_line xs g = (
        g.rest,
        g.at,
        g.done ++ acts_on settings l,
        g.parts ∙ (ap (λ acts. g.done ++ acts) (acts_more n line (heard_lines g.rest) l at goes) ∙ sym (append_assoc g.done (acts_on settings l) (acts_from settings cells (n + 1) (heard_lines g.rest)))),
        g.text ++ answers,
        talks-append settings.roll s m t g.done (acts_on settings l) g.text answers g.talks talks,
        says-then before after after2 waited waits waits2 g.text answers g.says says,
      )

      -- but not all of that was written
      pub goes-unwritten : (fault : TalkFault) (after3 : Option (List ℕ)) (waits3 : List ℕ) → SaysUntil fault after2 after3 waits2 waits3 [] → IfSome known (λ xs. TalksUntil fault settings.roll s (asks xs) before after3 waited waits3)
      goes-unwritten fault after3 waits3 broken = at_each (λ xs. TalksUntil fault settings.roll s (asks xs) before after3 waited waits3) (λ xs g.
          let (rest, left_is, done, parts, text, all, told) = answered_line xs g in
          subst (λ (acts : List Act). TalksUntil fault settings.roll s acts before after3 waited waits3) (sym parts)
          (until-unwritten fault settings.roll s t done (acts_from settings cells (n + 1) (heard_lines rest)) before after3 waited waits3 text all
          (subst (λ (x : List ℕ). SaysUntil fault before after3 waited waits3 x) (append-nil text) (until-then fault before after2 after3 waited waits2 waits3 text [] told broken))))

      module _ (after3 : Option (List ℕ)) (waits3 : List ℕ) (written : Says after2 after3 waits2 waits3 []) where
        all_said : (text : List ℕ) → Says before after2 waited waits2 text → Says before after3 waited waits3 text
        all_said text told = subst (λ (x : List ℕ). Says before after3 waited waits3 x) (append-nil text) (says-then before after2 after3 waited waits2 waits3 text [] told written)

        -- the next could not be read
        pub goes-unread : (fault : TalkFault) → IsMidway fault → IfSome known (λ xs. TalksUntil fault settings.roll s (asks xs) before after3 waited waits3)
        goes-unread fault is = at_each (λ xs. TalksUntil fault settings.roll s (asks xs) before after3 waited waits3) (λ xs g.
            let (rest, left_is, done, parts, text, all, told) = answered_line xs g in
            let more = acts_from settings cells (n + 1) (heard_lines rest) in
            subst (λ (acts : List Act). TalksUntil fault settings.roll s acts before after3 waited waits3) (sym parts)
            (until-after fault settings.roll s t done more before after3 after3 waited waits3 waits3 text all (all_said text told) (until-none fault settings.roll t more after3 waits3 waits3 is refl)))

        next_is : (rest : List ℕ) (left2 : Option (List ℕ)) (found : Bool) (line2 : List ℕ) → left ≡ Some rest → IfSome left (λ ys. IsNext ys left2 found line2) → IsNext rest left2 found line2
        next_is rest left2 found line2 is next = subst (λ (o : Option (List ℕ)). IfSome o (λ ys. IsNext ys left2 found line2)) is next

        -- it was the last
        pub goes-end : (left2 : Option (List ℕ)) (found : Bool) (line2 : List ℕ) → IfSome left (λ ys. IsNext ys left2 found line2) → found ≡ false → IfSome known (λ xs. TalksAll settings s (asks xs) t before after3 waited waits3)
        goes-end left2 found line2 next none = at_each (λ xs. TalksAll settings s (asks xs) t before after3 waited waits3) (λ xs g.
            let (rest, left_is, done, parts, text, all, told) = answered_line xs g in
            let (rest2, left2_is, lines) = next_is rest left2 false line2 left_is (subst (λ b. IfSome left (λ ys. IsNext ys left2 b line2)) none next) in
            let ends : asks xs ≡ done = parts ∙ (ap (λ (ls : List (List ℕ)). done ++ acts_from settings cells (n + 1) ls) lines ∙ append-nil done) in
            (text, subst (λ (acts : List Act). Talks settings.roll s acts text t) (sym ends) all, all_said text told))

        -- another was read
        pub goes-more : (left2 : Option (List ℕ)) (found : Bool) (line2 : List ℕ) → IfSome left (λ ys. IsNext ys left2 found line2) → found ≡ true → IfSome known (λ xs. Goes settings cells s (asks xs) left2 t (n + 1) line2 before after3 waited waits3)
        goes-more left2 found line2 next some = at_each (λ xs. Goes settings cells s (asks xs) left2 t (n + 1) line2 before after3 waited waits3) (λ xs g.
            let (rest, left_is, done, parts, text, all, told) = answered_line xs g in
            let (rest2, left2_is, lines) = next_is rest left2 true line2 left_is (subst (λ b. IfSome left (λ ys. IsNext ys left2 b line2)) some next) in
            record {
              rest = rest2;
              at = left2_is;
              done = done;
              parts = parts ∙ ap (λ (ls : List (List ℕ)). done ++ acts_from settings cells (n + 1) ls) lines;
              text = text;
              talks = all;
              says = all_said text told;
            })
