-- A plan as lines of moves, read as a plan.
use Rattle.std.proofs.Common.{◌≡◌, ◌≢◌, ℕ, zero, suc, ◌+◌, ◌-◌, ◌*◌, ◌<◌, ◌≤◌, ◌^◌, ◌⊎◌, inl, inr, true, false, List, [], ◌∷◌, ◌++◌, length, get_or, All, Option, Some, None, Ok, codes, slice_index, slice_index_or, refl, sym, ap, ◌∙◌, subst, arith}
use Rattle.std.proofs.lemmas.Bool.{eq-eqb, lt-ltb}
use Rattle.std.proofs.lemmas.List.{append_assoc, append-nil, length_push}
use Rattle.fleet_map.specs.Text.{lines_of}
use Rattle.fleet_grid.specs.Floor.{Floor, HasForm, IsNeighbour, IsBeside}
use Rattle.fleet_grid.specs.Step.{IsConflictFree}
use Rattle.fleet_grid.specs.declared.dir.Dir.{Dir}
use Rattle.fleet_plans.specs.Head.{Head, blank_head, head_of, and_then}
use Rattle.fleet_plans.specs.Tracks.{is_move, with_track, tracks_of, moved, letter_at, IsMoved, AreWalked}
use Rattle.fleet_plans.specs.Text.{walked, after, source_of, IsReadAs}
use Rattle.fleet_plans.specs.Valid.{place_at, HasSize, IsValidPlan}
use Rattle.fleet_convert.specs.Cells.{cells_text}
use Rattle.fleet_convert.specs.Moves.{step_between, letter, steps_of, track_of, tracks_text, moves_head, moves_plan}
use Rattle.fleet_convert.proofs.Heads.{plain_of, line_front, head_more, head_end, starts_line, form_line, keyed_plain}
use Rattle.fleet_convert.proofs.Placed.{one_fleet, inside, all_inside, some_columns}
use Rattle.fleet_convert.proofs.Steps.{leads, letters_are_moves, letters_plain, track_count, track_at}

-- the tracks of the robots from this one on
abbrev pub tracks_from : ℕ → List (List ℕ) → ℕ → List ℕ → List (List ℕ)
tracks_from w places r [] = []
tracks_from w places r (start ∷ starts) = track_of w r places ∷ tracks_from w places (r + 1) starts

tracks_length : (w r : ℕ) (places : List (List ℕ)) (starts : List ℕ) → length (tracks_from w places r starts) ≡ length starts
tracks_length w r places [] = refl
tracks_length w r places (s ∷ ss) = ap suc (tracks_length w (r + 1) places ss)

tracks_index : (w r k : ℕ) (places : List (List ℕ)) (starts : List ℕ) → k < length starts → slice_index_or (tracks_from w places r starts) k [] ≡ track_of w (r + k) places
tracks_index w r k places [] less = absurd (omega (arith, less))
tracks_index w r zero places (s ∷ ss) less = ap (λ (n : ℕ). track_of w n places) (omega arith)
tracks_index w r (suc k) places (s ∷ ss) less = tracks_index w (r + 1) k places ss (omega (arith, less)) ∙ ap (λ (n : ℕ). track_of w n places) (omega arith)

-- ---- the robots' lines

tracks_more : (robots : ℕ) (before more : List (List ℕ)) (number : ℕ) (line : List ℕ) (lines : List (List ℕ)) → with_track robots before line ≡ Some more
    → tracks_of robots before number (line ∷ lines) ≡ tracks_of robots more (number + 1) lines
unfolding tracks_of
tracks_more robots before more number line lines takes = rw takes refl

tracks_end : (robots : ℕ) (before : List (List ℕ)) (number : ℕ) → length before ≡ robots → tracks_of robots before number [] ≡ Ok before
unfolding tracks_of
tracks_end robots before number all = rw (eq-eqb (length before) robots all) refl

tracks_back : (w robots : ℕ) (places before : List (List ℕ)) (number r : ℕ) (starts : List ℕ) → length before + length starts ≡ robots
    → tracks_of robots before number (lines_of (tracks_text w places r starts)) ≡ Ok (before ++ tracks_from w places r starts)
tracks_back w robots places before number r [] all =
    tracks_end robots before number (omega (arith, all)) ∙ ap (λ (l : List (List ℕ)). Ok l) (sym (append-nil before))
tracks_back w robots places before number r (s ∷ ss) all =
    let line = track_of w r places in
    let more = before ++ line ∷ [] in
    let room : length before < robots = omega (arith, all) in
    let takes : with_track robots before line ≡ Some more = rw (lt-ltb (length before) robots room, letters_are_moves (steps_of w r places)) refl in
    ap (λ (ls : List (List ℕ)). tracks_of robots before number ls) (line_front line (tracks_text w places (r + 1) ss) (letters_plain (steps_of w r places)))
    ∙ (tracks_more robots before more number line (lines_of (tracks_text w places (r + 1) ss)) takes
    ∙ (tracks_back w robots places more (number + 1) (r + 1) ss (omega (arith, length_push before line, all))
    ∙ ap (λ (l : List (List ℕ)). Ok l) (append_assoc before (line ∷ []) (tracks_from w places (r + 1) ss))))

-- ---- the lines before them

three : (a key cells c rest : List ℕ) → (((a ++ 10 ∷ []) ++ key) ++ cells ++ (10 ∷ (c ++ 10 ∷ []))) ++ rest ≡ (a ++ 10 ∷ []) ++ (((key ++ cells) ++ 10 ∷ []) ++ ((c ++ 10 ∷ []) ++ rest))
three a key cells c rest = simp append_assoc

abbrev head_for : List ℕ → Head
head_for starts = record { starts = Some starts; goals = None; is_moves = Some true }

module _ (w h : ℕ) (slim : w ≤ 1024) (low : h ≤ 1024) where
  head_back : (starts rest : List ℕ) → All (λ c. c < h * w) starts → head_of w h blank_head 1 (lines_of (moves_head w starts ++ rest)) ≡ Ok (after (head_for starts) 4 (lines_of rest))
  head_back starts rest inside =
      let a = codes "form=moves" in
      let b = codes "starts=" ++ cells_text w starts in
      let c = codes "solution=" in
      let formed : Head = record { starts = None; goals = None; is_moves = Some true } in
      let lines : lines_of (moves_head w starts ++ rest) ≡ a ∷ b ∷ c ∷ lines_of rest =
      ap lines_of (three a (codes "starts=") (cells_text w starts) c rest)
      ∙ (line_front a ((b ++ 10 ∷ []) ++ ((c ++ 10 ∷ []) ++ rest)) (plain_of a refl)
      ∙ ap (λ (ls : List (List ℕ)). a ∷ ls) (line_front b ((c ++ 10 ∷ []) ++ rest) (keyed_plain w h slim low (codes "starts=") starts refl inside)
      ∙ ap (λ (ls : List (List ℕ)). b ∷ ls) (line_front c rest (plain_of c refl)))) in
      ap (λ (ls : List (List ℕ)). head_of w h blank_head 1 ls) lines
      ∙ (head_more w h blank_head formed 1 a (b ∷ c ∷ lines_of rest) refl (form_line w h slim low blank_head refl)
      ∙ (head_more w h formed (head_for starts) 2 b (c ∷ lines_of rest) refl (starts_line w h slim low formed starts refl inside)
      ∙ head_end w h (head_for starts) 3 (lines_of rest)))

  pub source_is : (places : List (List ℕ)) → All (λ c. c < h * w) (place_at places 0)
      → source_of w h (moves_plan w places) ≡ Ok (walked (head_for (place_at places 0)) (place_at places 0) (tracks_from w places 0 (place_at places 0)))
  source_is places inside =
      let starts = place_at places 0 in
      let text = tracks_text w places 0 starts in
      let tracks : tracks_of (length starts) [] 4 (lines_of text) ≡ Ok (tracks_from w places 0 starts) = tracks_back w (length starts) places [] 4 0 starts (omega arith) in
      rw (head_back starts text inside, tracks) refl

-- ---- the robots go by their tracks

module _ (m : Floor) (form : HasForm m) (places : List (List ℕ)) (size : HasSize places) (valid : IsValidPlan m places) where
  abbrev from_at : ℕ → ℕ → ℕ
  from_at t r = slice_index (place_at places t) r

  way : (t r : ℕ) → (from_at (t + 1) r ≡ from_at t r) ⊎ IsNeighbour m (from_at t r) (from_at (t + 1) r) → (from_at (t + 1) r ≡ from_at t r) ⊎ ((dir : Dir) × IsBeside m.width dir (from_at t r) (from_at (t + 1) r))
  way t r (inl same) = inl same
  way t r (inr next) = inr (next.0, next.1.beside)

  goes : (t r : ℕ) → t + 1 < length places → r < length (place_at places t) → moved m.width m.height (from_at t r) (letter (step_between m.width (from_at t r) (from_at (t + 1) r))) ≡ from_at (t + 1) r
  goes t r less known =
      let step = valid.steps t less in
      let from = inside m form places valid t r (omega (arith, less)) known in
      let to = inside m form places valid (t + 1) r less (omega (arith, known, step.same_length)) in
      leads m.width m.height (from_at t r) (from_at (t + 1) r) (some_columns m (from_at t r) from) from (way t r (step.moves r known)) to

  pub walks : 1 ≤ length (place_at places 0) → AreWalked m.width m.height (place_at places 0) (tracks_from m.width places 0 (place_at places 0)) places
  walks robots =
      let w = m.width in
      let starts = place_at places 0 in
      let tracks = tracks_from w places 0 starts in
      let count = tracks_length w 0 places starts in
      let track_is : (r : ℕ) → r < length starts → slice_index_or tracks r [] ≡ track_of w r places = λ r less. tracks_index w 0 r places starts less ∙ ap (λ (n : ℕ). track_of w n places) (omega arith) in
      record {
        begin = refl;
        step = λ t less. record {
          same_length = (valid.steps t less).same_length;
          each = λ r known.
              let few : r < length starts = omega (arith, known, one_fleet m places valid t (omega (arith, less))) in
              let is : letter_at tracks r t ≡ letter (step_between w (from_at t r) (from_at (t + 1) r)) = ap (λ (l : List ℕ). slice_index_or l t 119) (track_is r few) ∙ track_at w r t places less in
              sym (goes t r less known) ∙ ap (λ (b : ℕ). moved w m.height (from_at t r) b) (sym is);
        };
        whole = λ r less.
            let few : r < length starts = omega (arith, less, count) in
            omega (arith, ap (λ (l : List ℕ). length l) (track_is r few), track_count w r places size.some);
        no_more = inr (0, omega (arith, robots, count), ap (λ (l : List ℕ). length l + 1) (track_is 0 robots) ∙ track_count w 0 places size.some);
      }

  -- the whole text
  pub moves_back : 1 ≤ length (place_at places 0) → IsReadAs m.width m.height (source_of m.width m.height (moves_plan m.width places)) None places
  moves_back robots =
      let starts = place_at places 0 in
      let source = walked (head_for starts) starts (tracks_from m.width places 0 starts) in
      (source, source_is m.width m.height form.slim form.low places (all_inside m form places valid 0 (omega (arith, size.some))), record { goals_are = refl; solved = walks robots })
