-- The lines of an open fleet, one after another, and what is told of them over a journal.
use Rattle.std.proofs.Common.{◌≡◌, ◌∙◌, ℕ, ◌+◌, Bool, true, false, List, [], ◌∷◌, ◌++◌, Option, Some, None, IfSome, refl, sym, ap, subst, append_assoc, append-nil}
use Rattle.std.specs.declared.alloc.Global.{Global}
use Rattle.fleet_talk.specs.declared.ends.Settings.{Settings}
use Rattle.fleet_talk.specs.Act.{Act, acts_from, acts_on, is_quit}
use Rattle.fleet_talk.specs.Acts.{Talks}
use Rattle.fleet_talk.specs.Ask.{Line}
use Rattle.fleet_talk.specs.Backed.{GoesBacked, GoesLogged, IsBacked, Stands, Tells}
use Rattle.fleet_talk.specs.Chapters.{ChapterView, chapter_in}
use Rattle.fleet_talk.specs.Door.{line_let_in}
use Rattle.fleet_talk.specs.Fleet.{Fleet}
use Rattle.fleet_talk.specs.Heard.{heard_lines, IsNext}
use Rattle.fleet_talk.specs.Journal.{JournalView, with_each}
use Rattle.fleet_talk.specs.Says.{Says}
use Rattle.fleet_talk.proofs.Backing.{backed-more, backed-then, goes-then, goes-told, none-backed}
use Rattle.fleet_talk.proofs.Onward.{acts_more, acts_over}
use Rattle.fleet_talk.proofs.Saying.{says-none, says-then}
use Rattle.fleet_talk.proofs.Talking.{talks-append}

module _ (settings : Settings) (cells : List Bool) (s : Fleet Global) (j : JournalView) where
  -- no line was answered yet
  pub logged-none : (first : ℕ) (line : List ℕ) (known a : Option (List ℕ)) (o : List ℕ) → IfSome known (λ xs. GoesLogged settings cells s s (acts_from settings cells first (line ∷ heard_lines xs)) known first line a a o o j j)
  logged-none first line None a o = tt
  logged-none first line (Some xs) a o = record {
    goes = record { rest = xs; at = refl; done = []; parts = refl; text = []; talks = (refl, refl); says = says-none a o };
    logged = λ chapters stands. none-backed settings.roll s [] a o chapters j stands;
  }

  module _ (asks : List ℕ → List Act) (known left : Option (List ℕ)) (m : Fleet Global) (n : ℕ) (line : List ℕ) (a b : Option (List ℕ)) (o p : List ℕ) (k : JournalView)
      (h : IfSome known (λ xs. GoesLogged settings cells s m (asks xs) left n line a b o p j k)) where
    abbrev Going : List ℕ → Type 0
    Going xs = GoesLogged settings cells s m (asks xs) left n line a b o p j k

    at_each : (P : List ℕ → Type 0) → ((xs : List ℕ) → Going xs → P xs) → IfSome known P
    at_each P f = by known h
      where
        by : (x : Option (List ℕ)) → IfSome x Going → IfSome x P
        by None g = tt
        by (Some xs) g = f xs g

    -- what was told of all lines is backed
    abbrev AllBacked : Fleet Global → Option (List ℕ) → JournalView → List ℕ → Type 0
    AllBacked t c l xs = (chapters : List (ChapterView Global)) → Stands j chapters (chapter_in s.talk.world) → GoesBacked settings.roll s t (asks xs) a c o chapters j l

    -- and of the first of them
    abbrev CutBacked : Option (List ℕ) → JournalView → List ℕ → Type 0
    CutBacked c l xs = (chapters : List (ChapterView Global)) → Stands j chapters (chapter_in s.talk.world) → IsBacked settings.roll s (asks xs) a c o chapters j l

    -- the line ends the conversation
    pub logged-over : (l : Line) → l ≡ line_let_in cells n line → is_quit l.asked ≡ true → IfSome known (AllBacked m b k)
    logged-over l at quit = at_each (AllBacked m b k) (λ xs g chapters stands.
        let all : asks xs ≡ g.goes.done = g.goes.parts ∙ (ap (λ acts. g.goes.done ++ acts) (acts_over settings cells s n line (heard_lines g.goes.rest) l at quit) ∙ append-nil g.goes.done) in
        subst (λ (acts : List Act). GoesBacked settings.roll s m acts a b o chapters j k) (sym all) (g.logged chapters stands))

    module _ (l : Line) (at : l ≡ line_let_in cells n line) (goes : is_quit l.asked ≡ false) where
      parts_on : (xs : List ℕ) (g : Going xs) → asks xs ≡ (g.goes.done ++ acts_on settings l) ++ acts_from settings cells (n + 1) (heard_lines g.goes.rest)
      parts_on xs g =
          g.goes.parts ∙ (ap (λ acts. g.goes.done ++ acts) (acts_more settings cells s n line (heard_lines g.goes.rest) l at goes) ∙ sym (append_assoc g.goes.done (acts_on settings l) (acts_from settings cells (n + 1) (heard_lines g.goes.rest))))

      -- the line broke off
      pub logged-broken : (b2 : Option (List ℕ)) (k2 : JournalView) → ((chapters : List (ChapterView Global)) → Stands k chapters (chapter_in m.talk.world) → IsBacked settings.roll m (acts_on settings l) b b2 p chapters k k2)
          → IfSome known (CutBacked b2 k2)
      logged-broken b2 k2 cut = at_each (CutBacked b2 k2) (λ xs g chapters stands.
          let one = g.logged chapters stands in
          subst (λ (acts : List Act). IsBacked settings.roll s acts a b2 o chapters j k2) (sym (parts_on xs g))
          (backed-more settings.roll s (g.goes.done ++ acts_on settings l) (acts_from settings cells (n + 1) (heard_lines g.goes.rest)) a b2 o chapters j k2
          (backed-then settings.roll s m g.goes.done (acts_on settings l) a b b2 o p g.goes.text chapters j k k2 g.goes.talks g.goes.says one (cut (with_each chapters one.handed_out) one.stands))))

      -- the line was answered, and what waits was told, or not yet
      module _ (t : Fleet Global) (b2 b3 : Option (List ℕ)) (q answers : List ℕ) (k2 k3 : JournalView) (talks : Talks settings.roll m (acts_on settings l) answers t) (says : Says b b2 p q answers)
          (logged : (chapters : List (ChapterView Global)) → Stands k chapters (chapter_in m.talk.world) → GoesBacked settings.roll m t (acts_on settings l) b b2 p chapters k k2)
          (tells : (chapters : List (ChapterView Global)) → Stands k2 chapters (chapter_in t.talk.world) → Tells k2 k3 chapters (chapter_in t.talk.world) b2 b3 q) where
        all_talks : (xs : List ℕ) (g : Going xs) → Talks settings.roll s (g.goes.done ++ acts_on settings l) (g.goes.text ++ answers) t
        all_talks xs g = talks-append settings.roll s m t g.goes.done (acts_on settings l) g.goes.text answers g.goes.talks talks

        all_says : (xs : List ℕ) (g : Going xs) → Says a b2 o q (g.goes.text ++ answers)
        all_says xs g = says-then a b b2 o p q g.goes.text answers g.goes.says says

        answered : (xs : List ℕ) (g : Going xs) (chapters : List (ChapterView Global)) → Stands j chapters (chapter_in s.talk.world) → GoesBacked settings.roll s t (g.goes.done ++ acts_on settings l) a b3 o chapters j k3
        answered xs g chapters stands =
            let one = g.logged chapters stands in
            let two = goes-then settings.roll s m g.goes.done (acts_on settings l) a b b2 o p g.goes.text chapters j k k2 g.goes.talks g.goes.says one t (logged (with_each chapters one.handed_out) one.stands) in
            goes-told settings.roll s t (g.goes.done ++ acts_on settings l) a b2 b3 o q (g.goes.text ++ answers) chapters j k2 k3 (all_talks xs g) (all_says xs g) two (tells (with_each chapters two.handed_out) two.stands)

        -- but not all of that was written
        pub logged-unwritten : IfSome known (CutBacked b3 k3)
        logged-unwritten = at_each (CutBacked b3 k3) (λ xs g chapters stands.
            subst (λ (acts : List Act). IsBacked settings.roll s acts a b3 o chapters j k3) (sym (parts_on xs g))
            (backed-more settings.roll s (g.goes.done ++ acts_on settings l) (acts_from settings cells (n + 1) (heard_lines g.goes.rest)) a b3 o chapters j k3 (answered xs g chapters stands).backed))

        module _ (p3 : List ℕ) (written : Says b2 b3 q p3 []) (left2 : Option (List ℕ)) (found : Bool) (line2 : List ℕ) (next : IfSome left (λ ys. IsNext ys left2 found line2)) where
          next_is : (rest : List ℕ) (b : Bool) → left ≡ Some rest → found ≡ b → IsNext rest left2 b line2
          next_is rest b is same = subst (λ (o : Option (List ℕ)). IfSome o (λ ys. IsNext ys left2 b line2)) is (subst (λ (x : Bool). IfSome left (λ ys. IsNext ys left2 x line2)) same next)

          -- it was the last
          pub logged-end : found ≡ false → IfSome known (AllBacked t b3 k3)
          logged-end none = at_each (AllBacked t b3 k3) (λ xs g chapters stands.
              let (rest2, left2_is, lines) = next_is g.goes.rest false g.goes.at none in
              let ends : asks xs ≡ g.goes.done ++ acts_on settings l = parts_on xs g ∙ (ap (λ (ls : List (List ℕ)). (g.goes.done ++ acts_on settings l) ++ acts_from settings cells (n + 1) ls) lines ∙ append-nil (g.goes.done ++ acts_on settings l)) in
              subst (λ (acts : List Act). GoesBacked settings.roll s t acts a b3 o chapters j k3) (sym ends) (answered xs g chapters stands))

          -- another was read
          pub logged-more : found ≡ true → IfSome known (λ xs. GoesLogged settings cells s t (asks xs) left2 (n + 1) line2 a b3 o p3 j k3)
          logged-more some = at_each (λ xs. GoesLogged settings cells s t (asks xs) left2 (n + 1) line2 a b3 o p3 j k3) (λ xs g.
              let (rest2, left2_is, lines) = next_is g.goes.rest true g.goes.at some in
              record {
                goes = record {
                  rest = rest2;
                  at = left2_is;
                  done = g.goes.done ++ acts_on settings l;
                  parts = parts_on xs g ∙ ap (λ (ls : List (List ℕ)). (g.goes.done ++ acts_on settings l) ++ acts_from settings cells (n + 1) ls) lines;
                  text = g.goes.text ++ answers;
                  talks = all_talks xs g;
                  says = subst (λ (x : List ℕ). Says a b3 o p3 x) (append-nil (g.goes.text ++ answers)) (says-then a b2 b3 o q p3 (g.goes.text ++ answers) [] (all_says xs g) written);
                };
                logged = λ chapters stands. answered xs g chapters stands;
              })
