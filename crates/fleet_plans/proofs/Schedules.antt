-- What is read of YAML is what its lines say, and each text of which that holds is read.
use Rattle.std.proofs.Common.{◌≡◌, ◌∙◌, ℕ, ◌+◌, ◌-◌, ◌≤◌, Bool, true, false, List, [], ◌∷◌, ◌++◌, length, Option, Some, None, Result, Ok, Err, refl, sym, ap, subst, arith, append_assoc, append-nil, length-append}
use Rattle.std.specs.Prelude.{◌&&◌, not, if◌then◌else◌, nat_lt}
use Rattle.std.specs.List.{list_all}
use Rattle.std.specs.Option.{option_map}
use Rattle.std.proofs.lemmas.Option.{same_Some}
use Rattle.std.proofs.lemmas.List.{length_push}
use Rattle.fleet_plans.specs.declared.limit.TheConstants.{MOST_PLAN_BYTES}
use Rattle.fleet_plans.specs.declared.schedule.Part.{Part}
use Rattle.fleet_plans.specs.declared.schedule.Part.TheVariants.{Begin, Name, Column, Row, Cell}
use Rattle.fleet_plans.specs.Cells.{cell_at}
use Rattle.fleet_plans.specs.Schedule.{names, column_of, row_of, is_at, Draft, drafted, with_next, with_scheduled, is_whole, robots_of, schedule_of}
use Rattle.fleet_plans.specs.Table.{Trails, no_trails, with_cell, paths_of}
use Rattle.fleet_plans.specs.Grammar.{is_schedule, IsCell, AreCells, AreRobots, IsSchedule}
use Rattle.fleet_plans.proofs.Grammar.{went_on}

-- ---- truth values and results

pub both : (a b : Bool) → a ≡ true → b ≡ true → (a && b) ≡ true
both true true pa pb = refl
both true false pa pb = absurd cc
both false b pa pb = absurd cc

pub each_of : (a b : Bool) → (a && b) ≡ true → (a ≡ true) × (b ≡ true)
each_of true true are = (refl, refl)
each_of true false are = absurd cc
each_of false b are = absurd cc

some_if : {X : Type 0} (b : Bool) (x y : X) → (if b then Some x else None) ≡ Some y → (b ≡ true) × (x ≡ y)
some_if true x y is = (refl, same_Some x y is)
some_if false x y is = absurd cc

pub if_true : {X : Type 0} (b : Bool) (x y : X) → b ≡ true → (if b then x else y) ≡ x
if_true true x y is = refl
if_true false x y is = absurd cc

pub if_not : {X : Type 0} (b : Bool) (x y : X) → not b ≡ true → (if b then x else y) ≡ y
if_not true x y is = absurd cc
if_not false x y is = refl

mapped : {X Y : Type 0} (f : X → Y) (o : Option X) (y : Y) → option_map f o ≡ Some y → (x : X) × (o ≡ Some x) × (f x ≡ y)
mapped f None y is = absurd cc
mapped f (Some x) y is = (x, refl, same_Some (f x) y is)

abbrev read : Trails → Result Trails ℕ
read t = Ok t

same_ok : (t u : Trails) → read t ≡ Ok u → t ≡ u
same_ok t u is = cc

-- the paths with one more cell of the last robot, and with one more robot
abbrev pub celled : Trails → ℕ → Trails
celled t c = record { whole = t.whole; path = t.path ++ c ∷ [] }

abbrev pub named : Trails → Trails
named t = record { whole = t.whole ++ t.path ∷ []; path = [] }

module _ (w h : ℕ) where
  -- ---- what is read is what the lines say

  -- the lines go on as these paths do
  record GoesOn (t : Trails) (lines : List (List ℕ)) (u : Trails) : Type 0 where
    pub path : List ℕ
    pub paths : List (List ℕ)
    pub rest : List (List ℕ)
    pub some : 1 ≤ length (t.path ++ path)
    pub cells : AreCells w h (length t.path) path lines rest
    pub robots : AreRobots w h (length t.whole + 1) paths rest
    pub are : paths_of u ≡ t.whole ++ (t.path ++ path) ∷ paths

  abbrev IsTimed : Trails → ℕ → List (List ℕ) → Trails → Type 0
  IsTimed t cell lines u = (last : List ℕ) × (rest : List (List ℕ)) × (lines ≡ last ∷ rest) × (is_at (length t.path) last ≡ true) × GoesOn (celled t cell) rest u

  -- what the lines after such a line are
  abbrev Goes : Part → Trails → List (List ℕ) → Trails → Type 0
  Goes Begin t lines u = t ≡ no_trails → AreRobots w h 0 (paths_of u) lines
  Goes Name t lines u = GoesOn t lines u
  Goes (Column x) t lines u = (row : List ℕ) × (y : ℕ) × (rest : List (List ℕ)) × (lines ≡ row ∷ rest) × (row_of row ≡ Some y) × IsTimed t (cell_at w h x y) rest u
  Goes (Row cell) t lines u = IsTimed t cell lines u
  Goes Cell t lines u = 1 ≤ length t.path → GoesOn t lines u

  -- a cell stands before what goes on
  cell_first : (t : Trails) (column : List ℕ) (x : ℕ) (lines : List (List ℕ)) (u : Trails) → column_of column ≡ Some x → Goes (Column x) t lines u → GoesOn t (column ∷ lines) u
  cell_first t column x lines u column_is (row, y, rest, row_first, row_is, (last, after, last_first, time_is, on)) =
      let cell = cell_at w h x y in
      let joined : (t.path ++ cell ∷ []) ++ on.path ≡ t.path ++ cell ∷ on.path = append_assoc t.path (cell ∷ []) on.path in
      let is : IsCell w h (length t.path) cell (column ∷ lines) after = record {
        x = x;
        y = y;
        column = column;
        row = row;
        last = last;
        parts = ap (λ (ls : List (List ℕ)). column ∷ ls) (row_first ∙ ap (λ (ls : List (List ℕ)). row ∷ ls) last_first);
        column_is = column_is;
        row_is = row_is;
        time_is = time_is;
        there = refl;
      } in
      record {
        path = cell ∷ on.path;
        paths = on.paths;
        rest = on.rest;
        some = omega (arith, length-append t.path (cell ∷ on.path));
        cells = (after, is, subst (λ (n : ℕ). AreCells w h n on.path after on.rest) (length_push t.path cell) on.cells);
        robots = on.robots;
        are = on.are ∙ ap (λ (p : List ℕ). t.whole ++ p ∷ on.paths) joined;
      }

  -- a robot begins
  robot_first : (robot : ℕ) (t : Trails) (line : List ℕ) (lines : List (List ℕ)) (u : Trails) → names robot line ≡ true → t.path ≡ [] → robot ≡ length t.whole → (on : GoesOn t lines u) → AreRobots w h robot (on.path ∷ on.paths) (line ∷ lines)
  robot_first robot t line lines u named_is none same on =
      let some : 1 ≤ length on.path = subst (λ (p : List ℕ). 1 ≤ length (p ++ on.path)) none on.some in
      let cells : AreCells w h 0 on.path lines on.rest = subst (λ (p : List ℕ). AreCells w h (length p) on.path lines on.rest) none on.cells in
      let robots : AreRobots w h (robot + 1) on.paths on.rest = subst (λ (n : ℕ). AreRobots w h (n + 1) on.paths on.rest) (sym same) on.robots in
      (on.rest, record { name = line; cells = lines; parts = refl; named = named_is; some = some; are = cells }, robots)

  -- the next robot stands before what goes on
  next_first : (t : Trails) (line : List ℕ) (lines : List (List ℕ)) (u : Trails) → names (length t.whole + 1) line ≡ true → 1 ≤ length t.path → GoesOn (named t) lines u → GoesOn t (line ∷ lines) u
  next_first t line lines u named_is some on =
      let whole : t.path ≡ t.path ++ [] = sym (append-nil t.path) in
      record {
        path = [];
        paths = on.path ∷ on.paths;
        rest = line ∷ lines;
        some = subst (λ (p : List ℕ). 1 ≤ length p) whole some;
        cells = refl;
        robots = robot_first (length t.whole + 1) (named t) line lines u named_is refl (sym (length_push t.whole t.path)) on;
        are = on.are ∙ (append_assoc t.whole (t.path ∷ []) (on.path ∷ on.paths) ∙ ap (λ (p : List ℕ). t.whole ++ p ∷ on.path ∷ on.paths) whole);
      }

  abbrev Continues : Draft → List (List ℕ) → Trails → Type 0
  Continues d lines u = Goes d.part d.trails lines u

  -- one line
  began : (t : Trails) (line : List ℕ) (d : Draft) (lines : List (List ℕ)) (u : Trails) → with_scheduled w h t Begin line ≡ Some d → Continues d lines u → Goes Begin t (line ∷ lines) u
  began t line d lines u is on none =
      let (named_is, same) = some_if (names 0 line) (drafted t Name) d is in
      let more : GoesOn t lines u = subst (λ (e : Draft). Continues e lines u) (sym same) on in
      let all : GoesOn no_trails lines u = subst (λ (s : Trails). GoesOn s lines u) none more in
      subst (λ (ps : List (List ℕ)). AreRobots w h 0 ps (line ∷ lines)) (sym all.are) (robot_first 0 no_trails line lines u named_is refl refl all)

  columned : (t : Trails) (line : List ℕ) (d : Draft) (lines : List (List ℕ)) (u : Trails) → with_scheduled w h t Name line ≡ Some d → Continues d lines u → GoesOn t (line ∷ lines) u
  columned t line d lines u is on =
      let (x, column_is, same) = mapped (λ column. drafted t (Column column)) (column_of line) d is in
      cell_first t line x lines u column_is (subst (λ (e : Draft). Continues e lines u) (sym same) on)

  rowed : (t : Trails) (x : ℕ) (line : List ℕ) (d : Draft) (lines : List (List ℕ)) (u : Trails) → with_scheduled w h t (Column x) line ≡ Some d → Continues d lines u → Goes (Column x) t (line ∷ lines) u
  rowed t x line d lines u is on =
      let (y, row_is, same) = mapped (λ row. drafted t (Row (cell_at w h x row))) (row_of line) d is in
      (line, y, lines, refl, row_is, subst (λ (e : Draft). Continues e lines u) (sym same) on)

  timed : (t : Trails) (cell : ℕ) (line : List ℕ) (d : Draft) (lines : List (List ℕ)) (u : Trails) → with_scheduled w h t (Row cell) line ≡ Some d → Continues d lines u → Goes (Row cell) t (line ∷ lines) u
  timed t cell line d lines u is on = by (is_at (length t.path) line) refl is
    where
      by : (b : Bool) → is_at (length t.path) line ≡ b → (if b then option_map (λ more. drafted more Cell) (with_cell t cell) else None) ≡ Some d → Goes (Row cell) t (line ∷ lines) u
      by false at it = absurd cc
      by true at it =
          let (more, taken, same) = mapped (λ more. drafted more Cell) (with_cell t cell) d it in
          let added = (some_if (nat_lt (length t.path) MOST_PLAN_BYTES) (celled t cell) more taken).1 in
          let after : 1 ≤ length more.path → GoesOn more lines u = subst (λ (e : Draft). Continues e lines u) (sym same) on in
          let so : 1 ≤ length (t.path ++ cell ∷ []) → GoesOn (celled t cell) lines u = subst (λ (s : Trails). 1 ≤ length s.path → GoesOn s lines u) (sym added) after in
          (line, lines, refl, at, so (omega (arith, length_push t.path cell)))

  celled_on : (t : Trails) (line : List ℕ) (d : Draft) (lines : List (List ℕ)) (u : Trails) → with_scheduled w h t Cell line ≡ Some d → Continues d lines u → 1 ≤ length t.path → GoesOn t (line ∷ lines) u
  celled_on t line d lines u is on some = by (column_of line) refl is
    where
      by : (o : Option ℕ) → column_of line ≡ o → with_next t line o ≡ Some d → GoesOn t (line ∷ lines) u
      by (Some x) column_is it = cell_first t line x lines u column_is (subst (λ (e : Draft). Continues e lines u) (sym (same_Some (drafted t (Column x)) d it)) on)
      by None column_is it =
          let (room, same) = some_if (names (length t.whole + 1) line && nat_lt (length t.whole) (MOST_PLAN_BYTES - 1)) (drafted (named t) Name) d it in
          let named_is = (each_of (names (length t.whole + 1) line) (nat_lt (length t.whole) (MOST_PLAN_BYTES - 1)) room).0 in
          next_first t line lines u named_is some (subst (λ (e : Draft). Continues e lines u) (sym same) on)

  ended : (part : Part) (t u : Trails) (n : ℕ) → (if is_whole part then read t else Err n) ≡ Ok u → Goes part t [] u
  ended Begin t u n is = absurd cc
  ended Name t u n is = absurd cc
  ended (Column x) t u n is = absurd cc
  ended (Row cell) t u n is = absurd cc
  ended Cell t u n is =
      let whole : t.path ≡ t.path ++ [] = sym (append-nil t.path) in
      λ some. record {
        path = [];
        paths = [];
        rest = [];
        some = subst (λ (p : List ℕ). 1 ≤ length p) whole some;
        cells = refl;
        robots = refl;
        are = ap (λ (s : Trails). paths_of s) (sym (same_ok t u is)) ∙ ap (λ (p : List ℕ). t.whole ++ p ∷ []) whole;
      }

  line_read : (part : Part) (t : Trails) (line : List ℕ) (d : Draft) (lines : List (List ℕ)) (u : Trails) → with_scheduled w h t part line ≡ Some d → Continues d lines u → Goes part t (line ∷ lines) u
  line_read Begin t line d lines u is on = began t line d lines u is on
  line_read Name t line d lines u is on = columned t line d lines u is on
  line_read (Column x) t line d lines u is on = rowed t x line d lines u is on
  line_read (Row cell) t line d lines u is on = timed t cell line d lines u is on
  line_read Cell t line d lines u is on = celled_on t line d lines u is on

  lines_read : (part : Part) (t : Trails) (n : ℕ) (lines : List (List ℕ)) (u : Trails) → robots_of w h t part n lines ≡ Ok u → Goes part t lines u
  unfolding robots_of
  lines_read part t n [] u is = ended part t u n is
  lines_read part t n (line ∷ lines) u is =
      let (d, taken, more) = went_on n (with_scheduled w h t part line) (λ d. robots_of w h d.trails d.part (n + 1) lines) u is in
      line_read part t line d lines u taken (lines_read d.part d.trails (n + 1) lines u more)

  -- ---- the line `schedule:`

  begins_here : (line : List ℕ) (lines : List (List ℕ)) (u : Trails) → is_schedule line ≡ true → AreRobots w h 0 (paths_of u) lines → IsSchedule w h (line ∷ lines) (paths_of u)
  begins_here line lines u begun are = record {
    before = [];
    line = line;
    robots = lines;
    parts = refl;
    not_yet = refl;
    begun = begun;
    some = omega (arith, length_push u.whole u.path);
    are = are;
  }

  begins_later : (line : List ℕ) (lines paths : List (List ℕ)) → is_schedule line ≡ false → IsSchedule w h lines paths → IsSchedule w h (line ∷ lines) paths
  begins_later line lines paths not_begun s = record {
    before = line ∷ s.before;
    line = s.line;
    robots = s.robots;
    parts = ap (λ (ls : List (List ℕ)). line ∷ ls) s.parts;
    not_yet = both (not (is_schedule line)) (list_all (λ l. not (is_schedule l)) s.before) (ap not not_begun) s.not_yet;
    begun = s.begun;
    some = s.some;
    are = s.are;
  }

  pub is-schedule : (n : ℕ) (lines : List (List ℕ)) (t : Trails) → schedule_of w h n lines ≡ Ok t → IsSchedule w h lines (paths_of t)
  unfolding schedule_of
  is-schedule n [] t is = absurd cc
  is-schedule n (line ∷ lines) t is = by (λ it. is-schedule (n + 1) lines t it) (is_schedule line) refl is
    where
      by : (schedule_of w h (n + 1) lines ≡ Ok t → IsSchedule w h lines (paths_of t)) → (b : Bool) → is_schedule line ≡ b
          → (if b then robots_of w h no_trails Begin (n + 1) lines else schedule_of w h (n + 1) lines) ≡ Ok t → IsSchedule w h (line ∷ lines) (paths_of t)
      by again true here it = begins_here line lines t here (lines_read Begin no_trails (n + 1) lines t it refl)
      by again false here it = begins_later line lines (paths_of t) here (again it)
