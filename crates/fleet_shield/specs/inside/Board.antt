-- A plan in the making. `to` has the cells that robots have reserved, and 4294967295 for a robot that has not decided;
-- `tried` has how many preferences each has tried, and one more for a robot that stays since it got none.
use Rattle.std.specs.Prelude.{◌≡◌, ◌≢◌, ℕ, suc, ◌+◌, ◌*◌, ◌<◌, ◌≤◌, ◌⊎◌, List, length, slice_index, slice_set, Option, Some, None, MatchOption}
use Rattle.fleet_shield.specs.Wishes.{Wishes, robots, cell_of, preference}
use Rattle.fleet_shield.specs.inside.Entered.{IsEntered}

abbrev pub undecided : ℕ
undecided = 4294967295

-- distinct robots stand on distinct cells, and these and all preferences are among the cells of the table of who stands
-- where
pub record AreSeated (w : Wishes) (standing : List ℕ) : Type 0 where
  pub few : length standing ≤ 1048576
  pub lists : length w.cells ≡ robots w * w.each
  pub distinct : (r q : ℕ) → r < robots w → q < robots w → cell_of w r ≡ cell_of w q → r ≡ q
  pub inside : (r : ℕ) → r < robots w → cell_of w r < length standing
  pub within : (r k : ℕ) → r < robots w → k < w.each → preference w r k < length standing
  pub entered : IsEntered w.from standing

-- no robot has reserved the cell, and the one there is not to come to this robot's cell
pub record IsOpen (w : Wishes) (to : List ℕ) (robot cell : ℕ) : Type 0 where
  pub free : (q : ℕ) → q < robots w → slice_index to q ≢ cell
  pub clear : (q : ℕ) → q < robots w → cell_of w q ≡ cell → slice_index to q ≢ cell_of w robot

pub data IsShut (w : Wishes) (to : List ℕ) (robot cell : ℕ) : Type 0 where
  held : (q : ℕ) → q < robots w → slice_index to q ≡ cell → IsShut w to robot cell
  meets : (q : ℕ) → q < robots w → cell_of w q ≡ cell → slice_index to q ≡ cell_of w robot → IsShut w to robot cell

-- a table of who has reserved which of this many cells
pub record IsHolding (robots cells : ℕ) (to holder : List ℕ) : Type 0 where
  pub news : length to ≡ robots
  pub size : length holder ≡ cells
  pub entered : IsEntered to holder

-- the robot stays on its own cell; `next` is the robot that had reserved this
abbrev pub Yields : ℕ → List ℕ → ℕ → ℕ → List ℕ → Option ℕ → Type 0
Yields n to robot own to' next =
    MatchOption next
    (((q : ℕ) → q < n → slice_index to q ≢ own) × (to' ≡ slice_set to robot own))
    (λ q. (q < n) × (slice_index to q ≡ own) × (to' ≡ slice_set (slice_set to q undecided) robot own))

-- the robot reserves its preference at that place; `next` is the robot there, if it has not decided
pub record Reserves (w : Wishes) (to tried : List ℕ) (robot place : ℕ) (to' tried' : List ℕ) (next : Option ℕ) : Type 0 where
  pub within : place < w.each
  pub low : slice_index tried robot ≤ place
  pub shut : (j : ℕ) → slice_index tried robot ≤ j → j < place → IsShut w to robot (preference w robot j)
  pub is_open : IsOpen w to robot (preference w robot place)
  pub to_is : to' ≡ slice_set to robot (preference w robot place)
  pub tried_is : tried' ≡ slice_set tried robot (place + 1)
  pub next_is : MatchOption next
      ((q : ℕ) → q < robots w → cell_of w q ≡ preference w robot place → slice_index to' q ≢ undecided)
      (λ q. (q < robots w) × (cell_of w q ≡ preference w robot place) × (slice_index to' q ≡ undecided))

-- the robot can take none, and stays; `next` is the robot that had reserved its cell
pub record Stays (w : Wishes) (to tried : List ℕ) (robot : ℕ) (to' tried' : List ℕ) (next : Option ℕ) : Type 0 where
  pub shut : (j : ℕ) → slice_index tried robot ≤ j → j < w.each → IsShut w to robot (preference w robot j)
  pub tried_is : tried' ≡ slice_set tried robot (w.each + 1)
  pub next_is : Yields (robots w) to robot (cell_of w robot) to' next

-- the robot chooses
pub data Chooses (w : Wishes) (to tried : List ℕ) (robot : ℕ) (to' tried' : List ℕ) (next : Option ℕ) : Type 0 where
  reserves : (place : ℕ) → Reserves w to tried robot place to' tried' next → Chooses w to tried robot to' tried' next
  stays : Stays w to tried robot to' tried' next → Chooses w to tried robot to' tried' next

-- why the robot could not take the cell, as `to` and `tried` are now
pub data WasBarred (w : Wishes) (to tried : List ℕ) (r c : ℕ) : Type 0 where
  taken : (q : ℕ) → q < robots w → slice_index to q ≡ c → WasBarred w to tried r c
  swaps : (q : ℕ) → q < robots w → cell_of w q ≡ c → slice_index to q ≡ cell_of w r → WasBarred w to tried r c
  pushed : (q j : ℕ) → q < robots w → cell_of w q ≡ c → j < slice_index tried q → j < w.each → preference w q j ≡ cell_of w r
      → slice_index to r ≡ cell_of w r → WasBarred w to tried r c

-- what holds of a plan between two choices; `next` is the robot that has to choose
pub record IsBoard (w : Wishes) (to tried : List ℕ) (next : Option ℕ) : Type 0 where
  pub news : length to ≡ robots w
  pub counts : length tried ≡ robots w
  pub apart : (r q : ℕ) → r < robots w → q < robots w → slice_index to r ≢ undecided → slice_index to r ≡ slice_index to q → r ≡ q
  pub swapless : (r q : ℕ) → r < robots w → q < robots w → slice_index to r ≡ cell_of w q → slice_index to q ≡ cell_of w r → r ≡ q
  pub edge : (r q : ℕ) → r < robots w → q < robots w → slice_index to r ≡ cell_of w q → slice_index to q ≡ undecided → next ≡ Some q
  pub idle : (q : ℕ) → next ≡ Some q → (q < robots w) × (slice_index to q ≡ undecided)
  pub few : (r : ℕ) → r < robots w → slice_index tried r ≤ w.each + 1
  pub spent : (r : ℕ) → r < robots w → w.each < slice_index tried r → slice_index to r ≡ cell_of w r
  pub chosen : (r : ℕ) → r < robots w → slice_index to r ≢ undecided → slice_index tried r ≤ w.each
      → (k : ℕ) × (slice_index tried r ≡ suc k) × (preference w r k ≡ slice_index to r)
  pub barred : (r k : ℕ) → r < robots w → k < slice_index tried r → k < w.each → slice_index to r ≢ preference w r k
      → WasBarred w to tried r (preference w r k)

-- those that had decided keep their cells
abbrev pub Keeps : Wishes → (to to' : List ℕ) → Type 0
Keeps w to to' = (r : ℕ) → r < robots w → slice_index to r ≢ undecided → slice_index to' r ≡ slice_index to r
