-- A plan as lines of cells, read as a plan.
use Rattle.std.proofs.Common.{◌≡◌, ◌≢◌, ℕ, zero, suc, ◌+◌, ◌-◌, ◌*◌, ◌<◌, ◌≤◌, ◌^◌, true, false, ◌==◌, List, [], ◌∷◌, ◌++◌, length, get_or, min, All, Option, Some, None, Ok, codes, decimal, bytes_eq, option_and_then, refl, sym, ap, ◌∙◌, subst, arith}
use Rattle.std.proofs.lemmas.Bool.{eq-eqb}
use Rattle.std.proofs.lemmas.Fmt.{decimal_nonempty}
use Rattle.std.proofs.lemmas.List.{append_assoc, append-nil, length_push}
use Rattle.std.proofs.lemmas.List.Elements.{All-head, All-tail, All-append, All-weaker, All-get_or}
use Rattle.std.proofs.lemmas.Slice.Eq.{bytes_eq-Decides}
use Rattle.fleet_map.specs.Text.{number_of, lines_of}
use Rattle.fleet_plans.specs.Cells.{parts_of, listed_in}
use Rattle.fleet_plans.specs.Head.{Head, Opened, blank_head, split_once, head_of, and_then}
use Rattle.fleet_plans.specs.Places.{is_number, place_in, begins, with_place, with_step, places_of}
use Rattle.fleet_plans.specs.Text.{placed, after, source_after, source_of, IsReadAs}
use Rattle.fleet_grid.specs.Floor.{Floor, HasForm}
use Rattle.fleet_plans.specs.Valid.{place_at, HasSize, IsValidPlan}
use Rattle.fleet_convert.specs.Cells.{cells_text, place_line, places_text, last_place, cells_head, cells_plan}
use Rattle.fleet_convert.proofs.Bytes.{IsDigit, decimal_digits, number_reads, line_more, splits}
use Rattle.fleet_convert.proofs.CellTexts.{listed_read, cells_low}
use Rattle.fleet_convert.proofs.Placed.{one_fleet, all_inside, every_inside}
use Rattle.fleet_convert.proofs.Heads.{plain_of, plain_low, plain_digits, line_front, head_more, head_end, agents_line, starts_line, goals_line, keyed_plain}

-- ---- the line of a time

number_is : (time : ℕ) → time < 2 ^ 32 → is_number time (number_of (decimal time)) ≡ true
number_is time small =
    let capped : min time 4294967296 ≡ time = omega (arith, small) in
    let read : is_number time (number_of (decimal time)) ≡ is_number time (Some time) = ap (λ (o : Option ℕ). is_number time o) (number_reads time (omega (arith, small))) in
    let same : is_number time (Some time) ≡ true = subst (λ (n : ℕ). (n == time) ≡ true) (sym capped) (eq-eqb time time refl) in
    read ∙ same

with_text : (w h : ℕ) (head : Head) (places : List (List ℕ)) (digits rest : List ℕ) → 0 < length digits
    → with_step w h head places (digits ++ rest) ≡ option_and_then (with_place head places) (place_in w h (length places) (split_once 58 (digits ++ rest)))
with_text w h head places [] rest some = absurd (omega arith)
with_text w h head places (d ∷ ds) rest some = refl

module _ (w h : ℕ) (slim : w ≤ 1024) (low : h ≤ 1024) where
  abbrev Inside : List ℕ → Type 0
  Inside place = All (λ c. c < h * w) place

  step_is : (head : Head) (places : List (List ℕ)) (time : ℕ) (place : List ℕ) → length places ≡ time → time < 2 ^ 32 → Inside place
      → with_step w h head places (decimal time ++ 58 ∷ cells_text w place) ≡ with_place head places place
  step_is head places time place count small inside =
      let free : All (λ b. b ≢ 58) (decimal time) = All-weaker IsDigit (λ b. b ≢ 58) (λ b d e. omega (arith, d.1, e)) (decimal time) (decimal_digits time (omega (arith, small))) in
      with_text w h head places (decimal time) (58 ∷ cells_text w place) (decimal_nonempty time (omega (arith, small)))
      ∙ rw (splits 58 (decimal time) (cells_text w place) free, count, number_is time small, listed_read w h place slim low inside) refl

  later_place : (head : Head) (places : List (List ℕ)) (place : List ℕ) → 1 ≤ length places → with_place head places place ≡ Some (places ++ place ∷ [])
  later_place head [] place some = absurd (omega arith)
  later_place head (first ∷ places) place some = refl

  places_more : (head : Head) (places more : List (List ℕ)) (number : ℕ) (line : List ℕ) (lines : List (List ℕ)) → with_step w h head places line ≡ Some more
      → places_of w h head places number (line ∷ lines) ≡ places_of w h head more (number + 1) lines
  unfolding places_of
  places_more head places more number line lines takes = rw takes refl

  shape : (digits cells rest : List ℕ) → (digits ++ (58 ∷ []) ++ cells ++ (10 ∷ [])) ++ rest ≡ (digits ++ 58 ∷ cells) ++ 10 ∷ rest
  shape digits cells rest = simp append_assoc

  line_plain : (time : ℕ) (place : List ℕ) → time < 2 ^ 32 → Inside place → All (λ b. 14 ≤ b) (decimal time ++ 58 ∷ cells_text w place)
  line_plain time place small inside =
      let end : All (λ b. 14 ≤ b) (58 ∷ cells_text w place) = All-append (λ b. 14 ≤ b) (58 ∷ []) (cells_text w place) (plain_of (58 ∷ []) refl) (plain_low (cells_text w place) (cells_low w h place slim low inside)) in
      All-append (λ b. 14 ≤ b) (decimal time) (58 ∷ cells_text w place) (plain_digits time (omega (arith, small))) end

  lines_are : (time : ℕ) (place rest : List ℕ) → time < 2 ^ 32 → Inside place → lines_of (place_line w time place ++ rest) ≡ (decimal time ++ 58 ∷ cells_text w place) ∷ lines_of rest
  lines_are time place rest small inside =
      ap lines_of (shape (decimal time) (cells_text w place) rest) ∙ line_more (decimal time ++ 58 ∷ cells_text w place) rest (line_plain time place small inside)

  ended : (head : Head) (before : List (List ℕ)) (number : ℕ) → 1 ≤ length before → places_of w h head before number [] ≡ Ok (before ++ [])
  unfolding places_of
  ended head [] number some = absurd (omega arith)
  ended head (p ∷ ps) number some = ap (λ (l : List (List ℕ)). Ok l) (sym (append-nil (p ∷ ps)))

  -- the lines of the times from this one on
  places_back : (head : Head) (before rest : List (List ℕ)) (number time : ℕ) → 1 ≤ length before → length before ≡ time → time + length rest < 2 ^ 32 → All Inside rest
      → places_of w h head before number (lines_of (places_text w time rest)) ≡ Ok (before ++ rest)
  places_back head before [] number time some count small inside = ended head before number some
  places_back head before (p ∷ ps) number time some count small inside =
      let here : Inside p = All-head Inside p ps inside in
      let early : time < 2 ^ 32 = omega (arith, small) in
      let more = before ++ p ∷ [] in
      let long = length_push before p in
      ap (λ (ls : List (List ℕ)). places_of w h head before number ls) (lines_are time p (places_text w (time + 1) ps) early here)
      ∙ (places_more head before more number (decimal time ++ 58 ∷ cells_text w p) (lines_of (places_text w (time + 1) ps)) (step_is head before time p count early here ∙ later_place head before p some)
      ∙ (places_back head more ps (number + 1) (time + 1) (omega (arith, long)) (omega (arith, long, count)) (omega (arith, small)) (All-tail Inside p ps inside)
      ∙ ap (λ (l : List (List ℕ)). Ok l) (append_assoc before (p ∷ []) ps)))

  -- ---- the whole text

  abbrev head_for : List ℕ → List ℕ → Head
  head_for starts goals = record { starts = Some starts; goals = Some goals; is_moves = None }

  first_place : (starts goals : List ℕ) → length goals ≡ length starts → with_place (head_for starts goals) [] starts ≡ Some (starts ∷ [])
  first_place starts goals same = rw ((bytes_eq-Decides starts starts).1 refl, eq-eqb (length goals) (length starts) same) refl

  four : (a b c d rest : List ℕ) → ((a ++ 10 ∷ []) ++ (b ++ 10 ∷ []) ++ (c ++ 10 ∷ []) ++ (d ++ 10 ∷ [])) ++ rest ≡ (a ++ 10 ∷ []) ++ ((b ++ 10 ∷ []) ++ ((c ++ 10 ∷ []) ++ ((d ++ 10 ∷ []) ++ rest)))
  four a b c d rest = simp append_assoc

  head_lines : (starts goals rest : List ℕ) → length starts < 2 ^ 64 → Inside starts → Inside goals
      → lines_of (cells_head w starts goals ++ rest) ≡ (codes "agents=" ++ decimal (length starts)) ∷ (codes "starts=" ++ cells_text w starts) ∷ (codes "goals=" ++ cells_text w goals) ∷ codes "solution=" ∷ lines_of rest
  head_lines starts goals rest few from to =
      let a = codes "agents=" ++ decimal (length starts) in
      let b = codes "starts=" ++ cells_text w starts in
      let c = codes "goals=" ++ cells_text w goals in
      let d = codes "solution=" in
      let a-plain = All-append (λ x. 14 ≤ x) (codes "agents=") (decimal (length starts)) (plain_of (codes "agents=") refl) (plain_digits (length starts) few) in
      ap lines_of (four a b c d rest)
      ∙ (line_front a ((b ++ 10 ∷ []) ++ ((c ++ 10 ∷ []) ++ ((d ++ 10 ∷ []) ++ rest))) a-plain
      ∙ ap (λ (ls : List (List ℕ)). a ∷ ls) (line_front b ((c ++ 10 ∷ []) ++ ((d ++ 10 ∷ []) ++ rest)) (keyed_plain w h slim low (codes "starts=") starts refl from)
      ∙ ap (λ (ls : List (List ℕ)). b ∷ ls) (line_front c ((d ++ 10 ∷ []) ++ rest) (keyed_plain w h slim low (codes "goals=") goals refl to)
      ∙ ap (λ (ls : List (List ℕ)). c ∷ ls) (line_front d rest (plain_of d refl)))))

  head_back : (starts goals rest : List ℕ) → length starts < 2 ^ 64 → Inside starts → Inside goals
      → head_of w h blank_head 1 (lines_of (cells_head w starts goals ++ rest)) ≡ Ok (after (head_for starts goals) 5 (lines_of rest))
  head_back starts goals rest few from to =
      let one : Head = record { starts = Some starts; goals = None; is_moves = None } in
      ap (λ (ls : List (List ℕ)). head_of w h blank_head 1 ls) (head_lines starts goals rest few from to)
      ∙ (head_more w h blank_head blank_head 1 (codes "agents=" ++ decimal (length starts)) _ refl (agents_line w h slim low blank_head (decimal (length starts)))
      ∙ (head_more w h blank_head one 2 (codes "starts=" ++ cells_text w starts) _ refl (starts_line w h slim low blank_head starts refl from)
      ∙ (head_more w h one (head_for starts goals) 3 (codes "goals=" ++ cells_text w goals) _ refl (goals_line w h slim low one goals refl to)
      ∙ head_end w h (head_for starts goals) 4 (lines_of rest))))

  pub read_back : (start : List ℕ) (rest : List (List ℕ)) (goals : List ℕ) → length start < 2 ^ 64 → 1 + length rest < 2 ^ 32 → length goals ≡ length start → Inside start → Inside goals → All Inside rest
      → IsReadAs w h (source_of w h (cells_head w start goals ++ places_text w 0 (start ∷ rest))) (Some goals) (start ∷ rest)
  read_back start rest goals few times same from to inside =
      let head = head_for start goals in
      let lines = lines_of (places_text w 0 (start ∷ rest)) in
      let zero-small : 0 < 2 ^ 32 = omega arith in
      let places : places_of w h head [] 5 lines ≡ Ok (start ∷ rest) =
      ap (λ (ls : List (List ℕ)). places_of w h head [] 5 ls) (lines_are 0 start (places_text w 1 rest) zero-small from)
      ∙ (places_more head [] (start ∷ []) 5 (decimal 0 ++ 58 ∷ cells_text w start) (lines_of (places_text w 1 rest)) (step_is head [] 0 start refl zero-small from ∙ first_place start goals same)
      ∙ places_back head (start ∷ []) rest 6 1 (omega arith) refl times inside) in
      let read : source_of w h (cells_head w start goals ++ places_text w 0 (start ∷ rest)) ≡ Ok (placed head (start ∷ rest)) =
      rw (head_back start goals (places_text w 0 (start ∷ rest)) few from to, places) refl in
      (placed head (start ∷ rest), read, record { goals_are = refl; solved = refl })

module _ (m : Floor) (form : HasForm m) where
  pub cells_back : (places : List (List ℕ)) → HasSize places → IsValidPlan m places → IsReadAs m.width m.height (source_of m.width m.height (cells_plan m.width places)) (Some (last_place places)) places
  cells_back [] size valid = absurd (omega (arith, size.some))
  cells_back (start ∷ rest) size valid =
      let places = start ∷ rest in
      let last : length places - 1 < length places = omega arith in
      let every = every_inside m form places valid in
      read_back m.width m.height form.slim form.low start rest (last_place places) (omega (arith, size.robots)) (omega (arith, size.times))
      (one_fleet m places valid (length places - 1) last) (all_inside m form places valid 0 (omega arith)) (all_inside m form places valid (length places - 1) last)
      (All-tail (λ (place : List ℕ). All (λ c. c < m.height * m.width) place) start rest every)
