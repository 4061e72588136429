-- What a list makes of one value, item by item.
use Rattle.std.specs.Prelude.{ℕ, zero, suc, ◌+◌, ◌==◌, ◌≡◌, ◌<◌, ◌≤◌, List, [], ◌∷◌, ◌++◌, map, max, length, Bool, false, if◌then◌else◌, is_some, unwrap_or, slice_index, slice_index_or}
use Rattle.fleet_history.specs.declared.history.Entry.{Entry}
use Rattle.fleet_history.specs.History.{History, robots, place, front, unfinished, shuts}
use Rattle.fleet_history.specs.Waits.{wait}
use Rattle.fleet_core.specs.Core.{World}
use Rattle.fleet_core.specs.OpenErrands.{open_errands}
use Rattle.fleet_c.specs.declared.chore.Chore.{Chore}
use Rattle.fleet_c.specs.declared.standing.Standing.{Standing}
use Rattle.fleet_c.specs.declared.standing.TheConstants.{SHUT, NOWHERE}
use Rattle.fleet_c.specs.Errands.{chore_of, queued_from, goal_of, state_of}

abbrev pub run : {X Y : Type 0} → (X → Y → Y) → List X → Y → Y
run step [] y = y
run step (x ∷ xs) y = run step xs (step x y)

-- the errands of the clients below this number, client by client
abbrev pub chores_until : {A : Type 0} → History A → ℕ → List Chore
chores_until h zero = []
chores_until h (suc client) = chores_until h client ++ map (chore_of client) (open_errands h client)

-- ---- what one errand makes of a robot's value

-- the greatest place
abbrev pub farther : ℕ → Chore → ℕ → ℕ
farther robot c last = if c.robot == robot then max last c.place else last

-- the cell of the errand at the first place
abbrev pub nearer : ℕ → Chore → ℕ → ℕ
nearer robot c goal = if c.robot == robot then (if c.place == 1 then c.cell else goal) else goal

-- the errand at one place more than this number
abbrev pub put_at : (robot k : ℕ) → Chore → Chore → Chore
put_at robot k c was = if c.robot == robot then (if c.place == k + 1 then c else was) else was

-- a robot with one more of its errands noted
abbrev pub with_chore : Chore → Standing → Standing
with_chore c s = record s { errands = max s.errands c.place; goal = if c.place == 1 then c.cell else s.goal }

abbrev pub noted : ℕ → Chore → Standing → Standing
noted robot c s = record s { errands = farther robot c s.errands; goal = nearer robot c s.goal }

abbrev pub shut_if : Bool → Standing → Standing
shut_if is_shut s = record s { state = if is_shut then SHUT else s.state }

abbrev pub shut_by : {A : Type 0} → ℕ → Entry A → Standing → Standing
shut_by robot e s = shut_if (shuts robot e) s

-- a robot with none of its errands noted, and none of the shuts since the opening
abbrev pub begun : {A : Type 0} → World A → ℕ → Standing
begun w r = record {
  wait = unwrap_or (wait w.history r) 0;
  errands = 0;
  cell = slice_index (place w.history) r;
  goal = NOWHERE;
  state = state_of (slice_index_or (map (λ x. x.shut) w.history.opening.robots) r false) (is_some (wait w.history r));
}

-- a list has all open errands, in whatever order
pub record AreAll {A : Type 0} (h : History A) (all : List Chore) : Type 0 where
  pub few : robots h ≤ 512
  pub longest : (r : ℕ) → r < robots h → run (farther r) all 0 ≡ length (unfinished h r)
  pub goals : (r : ℕ) → r < robots h → run (nearer r) all NOWHERE ≡ goal_of (front h r)
  pub placed : (r k : ℕ) (was d : Chore) → r < robots h → k < length (unfinished h r) → run (put_at r k) all was ≡ slice_index_or (queued_from r 1 (unfinished h r)) k d
  pub past : (r k : ℕ) (was : Chore) → r < robots h → length (unfinished h r) ≤ k → run (put_at r k) all was ≡ was
