-- What is read of a plan's text is what its lines say.
use Rattle.std.proofs.Common.{◌≡◌, ◌∙◌, ℕ, zero, suc, ◌+◌, ◌≤◌, Bool, true, false, List, [], ◌∷◌, ◌++◌, length, Option, Some, None, Result, Ok, Err, ◌==◌, refl, sym, ap, subst, arith, append_assoc, append-nil}
use Rattle.std.specs.Prelude.{◌&&◌, if◌then◌else◌, nat_lt, slice_get, slice_index_or, codes}
use Rattle.std.specs.List.{list_all}
use Rattle.std.specs.Option.{option_and_then}
use Rattle.std.specs.Str.{bytes_eq}
use Rattle.std.proofs.lemmas.Bool.{eqb-true}
use Rattle.std.proofs.lemmas.Option.{same_Some}
use Rattle.std.proofs.lemmas.List.{length_push}
use Rattle.std.proofs.lemmas.Slice.Eq.{bytes_eq-Decides}
use Rattle.fleet_plans.specs.Head.{Head, Opened, blank_head, head_of, or_line, and_then, split_once, with_line}
use Rattle.fleet_plans.specs.Places.{begins, place_in, places_of, with_place, with_step}
use Rattle.fleet_plans.specs.Tracks.{is_move, tracks_of, with_track}
use Rattle.fleet_plans.specs.Grammar.{SaysHead, next, none, IsHead, ArePlaces, AreTracks, filled}

abbrev ok : {X : Type 0} → X → Result X ℕ
ok x = Ok x

same_ok : {X : Type 0} (x y : X) → ok x ≡ ok y → x ≡ y
same_ok x y is = cc

-- all was read, so a line says something, and what it says was gone on with
pub went_on : {X Y : Type 0} (n : ℕ) (o : Option X) (f : X → Result Y ℕ) (y : Y) → and_then (or_line n o) f ≡ Ok y → (x : X) × (o ≡ Some x) × (f x ≡ Ok y)
went_on n None f y is = absurd cc
went_on n (Some x) f y is = (x, refl, is)

if_ok : {X : Type 0} (b : Bool) (n : ℕ) (x y : X) → (if b then ok x else Err n) ≡ Ok y → (b ≡ true) × (y ≡ x)
if_ok true n x y is = (refl, sym (same_ok x y is))
if_ok false n x y is = absurd cc

-- ---- tracks

if_both : {X : Type 0} (a b : Bool) (x y : X) → (if a && b then Some x else None) ≡ Some y → (b ≡ true) × (y ≡ x)
if_both true true x y is = (refl, sym (same_Some x y is))
if_both true false x y is = absurd cc
if_both false b x y is = absurd cc

abbrev AreMoves : List (List ℕ) → Type 0
AreMoves lines = (r : ℕ) (line : List ℕ) → slice_get lines r ≡ Some line → list_all is_move line ≡ true

moves_more : (first : List ℕ) (lines : List (List ℕ)) → list_all is_move first ≡ true → AreMoves lines → AreMoves (first ∷ lines)
moves_more first lines is more zero line at = subst (λ (l : List ℕ). list_all is_move l ≡ true) (same_Some first line at) is
moves_more first lines is more (suc r) line at = more r line at

moves_none : AreMoves []
moves_none r line at = absurd cc

tracks_read : (robots : ℕ) (acc : List (List ℕ)) (n : ℕ) (lines tracks : List (List ℕ)) → tracks_of robots acc n lines ≡ Ok tracks → (tracks ≡ acc ++ lines) × (length tracks ≡ robots) × AreMoves lines
unfolding tracks_of
tracks_read robots acc n [] tracks is =
    let (full, same) = if_ok (length acc == robots) n acc tracks is in
    (same ∙ sym (append-nil acc), ap (λ (ls : List (List ℕ)). length ls) same ∙ eqb-true (length acc) robots full, moves_none)
tracks_read robots acc n (line ∷ lines) tracks is =
    let (more, taken, rest) = went_on n (with_track robots acc line) (λ more. tracks_of robots more (n + 1) lines) tracks is in
    let (moves, added) = if_both (nat_lt (length acc) robots) (list_all is_move line) (acc ++ line ∷ []) more taken in
    let (are, count, all) = tracks_read robots more (n + 1) lines tracks rest in
    (are ∙ (ap (λ (ls : List (List ℕ)). ls ++ lines) added ∙ append_assoc acc (line ∷ []) lines), count, moves_more line lines moves all)

pub are-tracks : (robots number : ℕ) (lines tracks : List (List ℕ)) → tracks_of robots [] number lines ≡ Ok tracks → AreTracks robots lines tracks
are-tracks robots number lines tracks is =
    let (are, count, moves) = tracks_read robots [] number lines tracks is in
    record { are = are; count = ap (λ (ls : List (List ℕ)). length ls) (sym are) ∙ count; moves = moves }

-- ---- placements

module _ (w h : ℕ) (head : Head) where
  -- the lines from this time on
  record AreFrom (time : ℕ) (lines places : List (List ℕ)) : Type 0 where
    pub count : length places ≡ length (filled lines)
    pub each : (t : ℕ) (line : List ℕ) → slice_get (filled lines) t ≡ Some line → place_in w h (time + t) (split_once 58 line) ≡ Some (slice_index_or places t [])

  abbrev Begun : List (List ℕ) → Type 0
  Begun [] = Unit {0}
  Begun (place ∷ places) = begins head place ≡ true

  abbrev IsPlaced : List (List ℕ) → List ℕ → List (List ℕ) → Type 0
  IsPlaced acc line more = (place : List ℕ) × (place_in w h (length acc) (split_once 58 line) ≡ Some place) × (more ≡ acc ++ place ∷ []) × Begun more

  begun_more : (acc : List (List ℕ)) (place : List ℕ) (more : List (List ℕ)) → Begun acc → with_place head acc place ≡ Some more → (more ≡ acc ++ place ∷ []) × Begun more
  begun_more [] place more begun is = by (begins head place) refl is
    where
      by : (b : Bool) → begins head place ≡ b → (if b then Some (place ∷ []) else None) ≡ Some more → (more ≡ place ∷ []) × Begun more
      by true fits it = let same = same_Some (place ∷ []) more it in (sym same, subst Begun same fits)
      by false fits it = absurd cc
  begun_more (first ∷ acc) place more begun is = let same = same_Some ((first ∷ acc) ++ place ∷ []) more is in (sym same, subst Begun same begun)

  placed_line : (acc : List (List ℕ)) (b : ℕ) (bs : List ℕ) (more : List (List ℕ)) → Begun acc → with_step w h head acc (b ∷ bs) ≡ Some more → IsPlaced acc (b ∷ bs) more
  placed_line acc b bs more begun is = by (place_in w h (length acc) (split_once 58 (b ∷ bs))) refl is
    where
      by : (o : Option (List ℕ)) → place_in w h (length acc) (split_once 58 (b ∷ bs)) ≡ o → option_and_then (with_place head acc) o ≡ Some more → IsPlaced acc (b ∷ bs) more
      by None at it = absurd cc
      by (Some place) at it = let (added, begins) = begun_more acc place more begun it in (place, at, added, begins)

  from_more : (time : ℕ) (b : ℕ) (bs place : List ℕ) (lines places : List (List ℕ)) → place_in w h time (split_once 58 (b ∷ bs)) ≡ Some place → AreFrom (time + 1) lines places → AreFrom time ((b ∷ bs) ∷ lines) (place ∷ places)
  from_more time b bs place lines places at more = record { count = ap suc more.count; each = each }
    where
      each : (t : ℕ) (line : List ℕ) → slice_get ((b ∷ bs) ∷ filled lines) t ≡ Some line → place_in w h (time + t) (split_once 58 line) ≡ Some (slice_index_or (place ∷ places) t [])
      each zero line is =
          let now : time ≡ time + 0 = omega arith in
          subst (λ (l : List ℕ). place_in w h (time + 0) (split_once 58 l) ≡ Some place) (same_Some (b ∷ bs) line is) (subst (λ (u : ℕ). place_in w h u (split_once 58 (b ∷ bs)) ≡ Some place) now at)
      each (suc t) line is =
          let now : time + 1 + t ≡ time + suc t = omega arith in
          subst (λ (u : ℕ). place_in w h u (split_once 58 line) ≡ Some (slice_index_or places t [])) now (more.each t line is)

  from_none : (time : ℕ) → AreFrom time [] []
  from_none time = record { count = refl; each = λ t line is. absurd cc }

  abbrev AreRead : List (List ℕ) → List (List ℕ) → List (List ℕ) → Type 0
  AreRead acc lines places = (new : List (List ℕ)) × (places ≡ acc ++ new) × AreFrom (length acc) lines new × Begun places × (1 ≤ length places)

  filled_more : (acc : List (List ℕ)) (b : ℕ) (bs place : List ℕ) (more lines places : List (List ℕ)) → place_in w h (length acc) (split_once 58 (b ∷ bs)) ≡ Some place → more ≡ acc ++ place ∷ []
      → AreRead more lines places → AreRead acc ((b ∷ bs) ∷ lines) places
  filled_more acc b bs place more lines places at added (new, are, from, all, some) =
      let count : length more ≡ length acc + 1 = ap (λ (ls : List (List ℕ)). length ls) added ∙ length_push acc place in
      let joined : more ++ new ≡ acc ++ place ∷ new = ap (λ (ls : List (List ℕ)). ls ++ new) added ∙ append_assoc acc (place ∷ []) new in
      (place ∷ new, are ∙ joined, from_more (length acc) b bs place lines new at (subst (λ (u : ℕ). AreFrom u lines new) count from), all, some)

  one_more : (acc : List (List ℕ)) (n : ℕ) (line : List ℕ) (lines : List (List ℕ)) → places_of w h head acc n (line ∷ lines) ≡ and_then (or_line n (with_step w h head acc line)) (λ more. places_of w h head more (n + 1) lines)
  unfolding places_of
  one_more [] n line lines = refl
  one_more (p ∷ ps) n line lines = refl

  none_more : (acc : List (List ℕ)) (n : ℕ) (places : List (List ℕ)) → Begun acc → places_of w h head acc n [] ≡ Ok places → AreRead acc [] places
  unfolding places_of
  none_more [] n places begun is = absurd cc
  none_more (p ∷ ps) n places begun is =
      let same = same_ok (p ∷ ps) places is in
      ([], sym same ∙ sym (append-nil (p ∷ ps)), from_none (length (p ∷ ps)), subst Begun same begun, subst (λ (ls : List (List ℕ)). 1 ≤ length ls) same (omega arith))

  places_read : (acc : List (List ℕ)) (n : ℕ) (lines places : List (List ℕ)) → Begun acc → places_of w h head acc n lines ≡ Ok places → AreRead acc lines places
  places_read acc n [] places begun is = none_more acc n places begun is
  places_read acc n ([] ∷ lines) places begun is =
      let (more, taken, rest) = went_on n (Some acc) (λ more. places_of w h head more (n + 1) lines) places (sym (one_more acc n [] lines) ∙ is) in
      let so : places_of w h head acc (n + 1) lines ≡ Ok places = subst (λ (ls : List (List ℕ)). places_of w h head ls (n + 1) lines ≡ Ok places) (sym (same_Some acc more taken)) rest in
      let (new, are, from, all, some) = places_read acc (n + 1) lines places begun so in
      (new, are, record { count = from.count; each = from.each }, all, some)
  places_read acc n ((b ∷ bs) ∷ lines) places begun is =
      let (more, taken, rest) = went_on n (with_step w h head acc (b ∷ bs)) (λ more. places_of w h head more (n + 1) lines) places (sym (one_more acc n (b ∷ bs) lines) ∙ is) in
      let (place, at, added, begins) = placed_line acc b bs more begun taken in
      filled_more acc b bs place more lines places at added (places_read more (n + 1) lines places begins rest)

  first_of : (places : List (List ℕ)) → Begun places → 1 ≤ length places → begins head (slice_index_or places 0 []) ≡ true
  first_of [] begun some = absurd (omega (arith, some))
  first_of (place ∷ places) begun some = begun

  pub are-places : (number : ℕ) (lines places : List (List ℕ)) → places_of w h head [] number lines ≡ Ok places → ArePlaces w h head lines places
  are-places number lines places is =
      let (new, are, from, begun, some) = places_read [] number lines places tt is in
      record {
        some = some;
        begin = first_of places begun some;
        count = ap (λ (ls : List (List ℕ)). length ls) are ∙ from.count;
        each = λ t line at.
            let now : 0 + t ≡ t = omega arith in
            subst (λ (u : ℕ). place_in w h u (split_once 58 line) ≡ Some (slice_index_or places t [])) now
            (subst (λ (ls : List (List ℕ)). place_in w h (0 + t) (split_once 58 line) ≡ Some (slice_index_or ls t [])) (sym are) (from.each t line at));
      }

-- ---- the head

module _ (w h : ℕ) where
  abbrev IsFrom : List (List ℕ) → List (List ℕ) → Opened → Type 0
  IsFrom before lines o = (rest : List (List ℕ)) × (lines ≡ rest ++ codes "solution=" ∷ o.lines) × SaysHead w h (before ++ rest) o.head × (o.number ≡ length (before ++ rest) + 2)

  -- one more line, and what is read of those after it
  head_line : (before : List (List ℕ)) (line : List ℕ) (lines : List (List ℕ)) (d : Head) (n : ℕ) (o : Opened) → SaysHead w h before d → n ≡ length before + 1
      → ((more : Head) → SaysHead w h (before ++ line ∷ []) more → n + 1 ≡ length (before ++ line ∷ []) + 1 → head_of w h more (n + 1) lines ≡ Ok o → IsFrom (before ++ line ∷ []) lines o)
      → (b : Bool) → bytes_eq line (codes "solution=") ≡ b
      → (if b then ok (record { head = d; number = n + 1; lines = lines }) else and_then (or_line n (with_line w h d line)) (λ more. head_of w h more (n + 1) lines)) ≡ Ok o → IsFrom before (line ∷ lines) o
  head_line before line lines d n o says at again true here is =
      let ends : Opened = record { head = d; number = n + 1; lines = lines } in
      let all : before ≡ before ++ [] = sym (append-nil before) in
      let first : line ≡ codes "solution=" = (bytes_eq-Decides line (codes "solution=")).0 here in
      let count : n + 1 ≡ length before + 2 = omega (arith, at) in
      subst (IsFrom before (line ∷ lines)) (same_ok ends o is)
      ([], ap (λ (l : List ℕ). l ∷ lines) first, subst (λ (ls : List (List ℕ)). SaysHead w h ls d) all says, subst (λ (ls : List (List ℕ)). n + 1 ≡ length ls + 2) all count)
  head_line before line lines d n o says at again false here is =
      let (more, taken, rest) = went_on n (with_line w h d line) (λ more. head_of w h more (n + 1) lines) o is in
      let count : n + 1 ≡ length (before ++ line ∷ []) + 1 = omega (arith, at, length_push before line) in
      let (left, parts, all, number) = again more (next line says taken refl) count rest in
      let whole : (before ++ line ∷ []) ++ left ≡ before ++ line ∷ left = append_assoc before (line ∷ []) left in
      (line ∷ left, ap (λ (ls : List (List ℕ)). line ∷ ls) parts, subst (λ (ls : List (List ℕ)). SaysHead w h ls o.head) whole all, subst (λ (ls : List (List ℕ)). o.number ≡ length ls + 2) whole number)

  head_read : (before lines : List (List ℕ)) (d : Head) (n : ℕ) (o : Opened) → SaysHead w h before d → n ≡ length before + 1 → head_of w h d n lines ≡ Ok o → IsFrom before lines o
  unfolding head_of
  head_read before [] d n o says at is = absurd cc
  head_read before (line ∷ lines) d n o says at is =
      head_line before line lines d n o says at (λ more says count rest. head_read (before ++ line ∷ []) lines more (n + 1) o says count rest) (bytes_eq line (codes "solution=")) refl is

  pub is-head : (lines : List (List ℕ)) (o : Opened) → head_of w h blank_head 1 lines ≡ Ok o → IsHead w h lines o
  is-head lines o is =
      let (before, parts, says, counted) = head_read [] lines blank_head 1 o none refl is in
      record { before = before; parts = parts; says = says; counted = counted }
