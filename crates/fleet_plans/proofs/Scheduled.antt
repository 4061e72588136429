-- Each text that is a schedule is read, as the paths that it has.
use Rattle.std.proofs.Common.{◌≡◌, ◌∙◌, ℕ, suc, ◌+◌, ◌-◌, ◌≤◌, ◌<◌, Bool, true, false, List, [], ◌∷◌, ◌++◌, length, Option, Some, None, Result, Ok, true≢false, refl, sym, ap, subst, arith, append_assoc, append-nil, length-append}
use Rattle.std.specs.Prelude.{◌&&◌, not, if◌then◌else◌, nat_lt, slice_index_or, codes}
use Rattle.std.specs.List.{list_all}
use Rattle.std.specs.Option.{option_map}
use Rattle.std.specs.Str.{bytes_eq}
use Rattle.std.proofs.lemmas.Bool.{lt-ltb}
use Rattle.std.proofs.lemmas.List.{length_push}
use Rattle.std.proofs.lemmas.Slice.Eq.{bytes_eq-Decides}
use Rattle.fleet_map.specs.Text.{number_of}
use Rattle.fleet_plans.specs.declared.limit.TheConstants.{MOST_PLAN_BYTES}
use Rattle.fleet_plans.specs.declared.schedule.Part.{Part}
use Rattle.fleet_plans.specs.declared.schedule.Part.TheVariants.{Begin, Name, Column, Row, Cell}
use Rattle.fleet_plans.specs.Cells.{cell_at, coordinate}
use Rattle.fleet_plans.specs.Head.{or_line, and_then}
use Rattle.fleet_plans.specs.Places.{is_number}
use Rattle.fleet_plans.specs.Scenario.{word_at}
use Rattle.fleet_plans.specs.Schedule.{is_robot, robot_in, names, column_of, is_at, Draft, drafted, with_next, with_scheduled, robots_of, schedule_of}
use Rattle.fleet_plans.specs.Table.{Trails, no_trails, with_cell, paths_of}
use Rattle.fleet_plans.specs.Grammar.{is_schedule, IsCell, AreCells, AreRobots, IsSchedule, AreFew, HasPaths}
use Rattle.fleet_plans.proofs.Schedules.{both, each_of, if_true, if_not, celled, named}

-- ---- kinds of lines

if_false : {X : Type 0} (b : Bool) (x y : X) → b ≡ false → (if b then x else y) ≡ y
if_false true x y is = absurd cc
if_false false x y is = refl

unlike : (line : List ℕ) → bytes_eq (word_at line 0) (codes "-") ≡ true → is_robot (word_at line 0) ≡ false
unlike line is = subst (λ (word : List ℕ). is_robot word ≡ false) (sym ((bytes_eq-Decides (word_at line 0) (codes "-")).0 is)) refl

no_column : (robot : ℕ) (line : List ℕ) → names robot line ≡ true → column_of line ≡ None
no_column robot line is = by (bytes_eq (word_at line 0) (codes "-")) refl
  where
    named_is : is_robot (word_at line 0) ≡ true
    named_is = (each_of (is_robot (word_at line 0)) (is_number robot (number_of (robot_in (word_at line 0)))) is).0

    by : (b : Bool) → bytes_eq (word_at line 0) (codes "-") ≡ b → (if b && bytes_eq (word_at line 1) (codes "x:") then coordinate (word_at line 2) else None) ≡ None
    by true dash = absurd (true≢false (sym named_is ∙ unlike line dash))
    by false dash = refl

-- ---- short paths

AreShort : List (List ℕ) → Type 0
AreShort [] = Unit {0}
AreShort (path ∷ paths) = (length path ≤ MOST_PLAN_BYTES) × AreShort paths

all_short : (paths : List (List ℕ)) → ((r : ℕ) → length (slice_index_or paths r []) ≤ MOST_PLAN_BYTES) → AreShort paths
unfolding AreShort
all_short [] short = tt
all_short (path ∷ paths) short = (short 0, all_short paths (λ r. short (suc r)))

abbrev read : Trails → Result Trails ℕ
read t = Ok t

-- the last robot's path with these cells
abbrev grown : Trails → List ℕ → Trails
grown t path = record { whole = t.whole; path = t.path ++ path }

module _ (w h : ℕ) where
  -- ---- one line

  taken : (t : Trails) (part : Part) (n : ℕ) (line : List ℕ) (lines : List (List ℕ)) (d : Draft) → with_scheduled w h t part line ≡ Some d → robots_of w h t part n (line ∷ lines) ≡ robots_of w h d.trails d.part (n + 1) lines
  unfolding robots_of
  taken t part n line lines d is = ap (λ (o : Option Draft). and_then (or_line n o) (λ d. robots_of w h d.trails d.part (n + 1) lines)) is

  abbrev Opens : Trails → Part → Type 0
  Opens t part = (line : List ℕ) (x : ℕ) → column_of line ≡ Some x → with_scheduled w h t part line ≡ Some (drafted t (Column x))

  name_opens : (t : Trails) → Opens t Name
  name_opens t line x is = ap (option_map (λ column. drafted t (Column column))) is

  cell_opens : (t : Trails) → Opens t Cell
  cell_opens t line x is = ap (λ (o : Option ℕ). with_next t line o) is

  -- ---- one cell

  a_time : (t : Trails) (c : ℕ) (line : List ℕ) → is_at (length t.path) line ≡ true → length t.path < MOST_PLAN_BYTES → with_scheduled w h t (Row c) line ≡ Some (drafted (celled t c) Cell)
  a_time t c line is room =
      if_true (is_at (length t.path) line) (option_map (λ more. drafted more Cell) (with_cell t c)) None is
      ∙ ap (option_map (λ more. drafted more Cell)) (if_true (nat_lt (length t.path) MOST_PLAN_BYTES) (Some (celled t c)) None (lt-ltb (length t.path) MOST_PLAN_BYTES room))

  a_cell : (t : Trails) (part : Part) → Opens t part → (c n : ℕ) (lines rest : List (List ℕ)) → IsCell w h (length t.path) c lines rest → length t.path < MOST_PLAN_BYTES
      → robots_of w h t part n lines ≡ robots_of w h (celled t c) Cell (n + 1 + 1 + 1) rest
  a_cell t part opens c n lines rest is room =
      let column = taken t part n is.column (is.row ∷ is.last ∷ rest) (drafted t (Column is.x)) (opens is.column is.x is.column_is) in
      let row = taken t (Column is.x) (n + 1) is.row (is.last ∷ rest) (drafted t (Row (cell_at w h is.x is.y))) (ap (option_map (λ row. drafted t (Row (cell_at w h is.x row)))) is.row_is) in
      let timed = subst (λ (cell : ℕ). with_scheduled w h t (Row cell) is.last ≡ Some (drafted (celled t cell) Cell)) is.there (a_time t c is.last is.time_is room) in
      let last = taken t (Row (cell_at w h is.x is.y)) (n + 1 + 1) is.last rest (drafted (celled t (cell_at w h is.x is.y)) Cell) timed in
      ap (λ (ls : List (List ℕ)). robots_of w h t part n ls) is.parts
      ∙ (column ∙ (row ∙ (last ∙ ap (λ (cell : ℕ). robots_of w h (celled t cell) Cell (n + 1 + 1 + 1) rest) (sym is.there))))

  -- ---- all cells of a robot

  cells_on : (path : List ℕ) (t : Trails) (n : ℕ) (lines rest : List (List ℕ)) → AreCells w h (length t.path) path lines rest → length (t.path ++ path) ≤ MOST_PLAN_BYTES
      → (m : ℕ) × (robots_of w h t Cell n lines ≡ robots_of w h (grown t path) Cell m rest)
  cells_on [] t n lines rest are few =
      let same : t ≡ grown t [] = ap (λ (p : List ℕ). record { whole = t.whole; path = p }) (sym (append-nil t.path)) in
      (n, ap (λ (ls : List (List ℕ)). robots_of w h t Cell n ls) are ∙ ap (λ (u : Trails). robots_of w h u Cell n rest) same)
  cells_on (c ∷ cs) t n lines rest (after, is, more) few =
      let count = length-append t.path (c ∷ cs) in
      let joined : (t.path ++ c ∷ []) ++ cs ≡ t.path ++ c ∷ cs = append_assoc t.path (c ∷ []) cs in
      let on = subst (λ (k : ℕ). AreCells w h k cs after rest) (sym (length_push t.path c)) more in
      let short = subst (λ (p : List ℕ). length p ≤ MOST_PLAN_BYTES) (sym joined) few in
      let (m, so) = cells_on cs (celled t c) (n + 1 + 1 + 1) after rest on short in
      let one = a_cell t Cell (cell_opens t) c n lines after is (omega (arith, few, count)) in
      (m, one ∙ (so ∙ ap (λ (p : List ℕ). robots_of w h (record { whole = t.whole; path = p }) Cell m rest) joined))

  abbrev robot_of : List (List ℕ) → List ℕ → Trails
  robot_of whole path = record { whole = whole; path = path }

  robot_on : (path : List ℕ) (whole : List (List ℕ)) (n : ℕ) (lines rest : List (List ℕ)) → 1 ≤ length path → AreCells w h 0 path lines rest → length path ≤ MOST_PLAN_BYTES
      → (m : ℕ) × (robots_of w h (robot_of whole []) Name n lines ≡ robots_of w h (robot_of whole path) Cell m rest)
  robot_on [] whole n lines rest some are few = absurd (omega (arith, some))
  robot_on (c ∷ cs) whole n lines rest some (after, is, more) few =
      let t = robot_of whole [] in
      let one = a_cell t Name (name_opens t) c n lines after is (omega arith) in
      let (m, so) = cells_on cs (robot_of whole (c ∷ [])) (n + 1 + 1 + 1) after rest more few in
      (m, one ∙ so)

  -- ---- all robots

  a_name : (t : Trails) (line : List ℕ) → names (length t.whole + 1) line ≡ true → length t.whole < MOST_PLAN_BYTES - 1 → with_scheduled w h t Cell line ≡ Some (drafted (named t) Name)
  a_name t line is room =
      let all = both (names (length t.whole + 1) line) (nat_lt (length t.whole) (MOST_PLAN_BYTES - 1)) is (lt-ltb (length t.whole) (MOST_PLAN_BYTES - 1) room) in
      ap (λ (o : Option ℕ). with_next t line o) (no_column (length t.whole + 1) line is)
      ∙ if_true (names (length t.whole + 1) line && nat_lt (length t.whole) (MOST_PLAN_BYTES - 1)) (Some (drafted (named t) Name)) None all

  abbrev IsRead : Part → Trails → ℕ → List (List ℕ) → List (List ℕ) → Type 0
  IsRead part t n lines paths = (u : Trails) × (paths ≡ paths_of u) × (robots_of w h t part n lines ≡ Ok u)

  ended : (t : Trails) (n : ℕ) → robots_of w h t Cell n [] ≡ read t
  unfolding robots_of
  ended t n = refl

  robots_on : (paths : List (List ℕ)) (t : Trails) (n : ℕ) (lines : List (List ℕ)) → AreRobots w h (length t.whole + 1) paths lines → length t.whole + 1 + length paths ≤ MOST_PLAN_BYTES → AreShort paths
      → IsRead Cell t n lines (paths_of t ++ paths)
  unfolding AreShort
  robots_on [] t n lines none few short = (t, append-nil (paths_of t), ap (λ (ls : List (List ℕ)). robots_of w h t Cell n ls) none ∙ ended t n)
  robots_on (path ∷ paths) t n lines (after, r, more) few (here, short) =
      let whole = t.whole ++ t.path ∷ [] in
      let count : length whole ≡ length t.whole + 1 = length_push t.whole t.path in
      let name = taken t Cell n r.name r.cells (drafted (named t) Name) (a_name t r.name r.named (omega (arith, few))) in
      let (m, cells) = robot_on path whole (n + 1) r.cells after r.some r.are here in
      let on = subst (λ (k : ℕ). AreRobots w h (k + 1) paths after) (sym count) more in
      let (u, are, so) = robots_on paths (robot_of whole path) m after on (omega (arith, few, count)) short in
      (u, sym (append_assoc whole (path ∷ []) paths) ∙ are, ap (λ (ls : List (List ℕ)). robots_of w h t Cell n ls) r.parts ∙ (name ∙ (cells ∙ so)))

  begun : (paths : List (List ℕ)) (n : ℕ) (lines : List (List ℕ)) → 1 ≤ length paths → AreRobots w h 0 paths lines → length paths ≤ MOST_PLAN_BYTES → AreShort paths → IsRead Begin no_trails n lines paths
  unfolding AreShort
  begun [] n lines some are few short = absurd (omega (arith, some))
  begun (path ∷ paths) n lines some (after, r, more) few (here, short) =
      let named_is = if_true (names 0 r.name) (Some (drafted no_trails Name)) None r.named in
      let name = taken no_trails Begin n r.name r.cells (drafted no_trails Name) named_is in
      let (m, cells) = robot_on path [] (n + 1) r.cells after r.some r.are here in
      let (u, are, so) = robots_on paths (robot_of [] path) m after more (omega (arith, few)) short in
      (u, are, ap (λ (ls : List (List ℕ)). robots_of w h no_trails Begin n ls) r.parts ∙ (name ∙ (cells ∙ so)))

  -- ---- the line `schedule:`

  begun_at : (before : List (List ℕ)) (line : List ℕ) (robots : List (List ℕ)) (paths : List (List ℕ)) (n : ℕ) → list_all (λ l. not (is_schedule l)) before ≡ true → is_schedule line ≡ true
      → ((m : ℕ) → IsRead Begin no_trails m robots paths) → (u : Trails) × (paths ≡ paths_of u) × (schedule_of w h n (before ++ line ∷ robots) ≡ Ok u)
  unfolding schedule_of
  begun_at [] line robots paths n unbegun here reads =
      let (u, are, so) = reads (n + 1) in
      (u, are, if_true (is_schedule line) (robots_of w h no_trails Begin (n + 1) robots) (schedule_of w h (n + 1) robots) here ∙ so)
  begun_at (first ∷ before) line robots paths n unbegun here reads =
      let (not_here, rest) = each_of (not (is_schedule first)) (list_all (λ l. not (is_schedule l)) before) unbegun in
      let all = before ++ line ∷ robots in
      let (u, are, so) = begun_at before line robots paths (n + 1) rest here reads in
      (u, are, if_not (is_schedule first) (robots_of w h no_trails Begin (n + 1) all) (schedule_of w h (n + 1) all) not_here ∙ so)

  pub schedule-read : (lines paths : List (List ℕ)) → AreFew paths → IsSchedule w h lines paths → HasPaths w h lines paths
  schedule-read lines paths few s =
      let reads : (m : ℕ) → IsRead Begin no_trails m s.robots paths = λ m. begun paths m s.robots s.some s.are few.few (all_short paths few.short) in
      let (u, are, so) = begun_at s.before s.line s.robots paths 1 s.not_yet s.begun reads in
      (u, are, subst (λ (ls : List (List ℕ)). schedule_of w h 1 ls ≡ Ok u) (sym s.parts) so)
