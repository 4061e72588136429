-- Whose turn is lent, and which door is shut. The rooms of a map are lists by cells: `core`, by each cell one cell of its part;
-- `door`, by each cell the door of its room, or the core where it is in none; `mouth`, by each door the cell next to it outside the
-- room; `capacity`, by each core for how many robots the cells of its part are served; `away`, by each cell its distance from the
-- core.
use Rattle.std.specs.Prelude.{◌≡◌, ◌≢◌, ℕ, ◌+◌, ◌-◌, ◌^◌, ◌<◌, ◌≤◌, ◌⊎◌, Option, Some, None, MatchOption, List, length, slice_index, slice_index_or, slice_set}
use Rattle.fleet_pibt.specs.Eldest.{IsEldest}
use Rattle.fleet_pibt.specs.Order.{wait_of}
use Rattle.fleet_planner.specs.declared.lending.Lending.{Lending}

-- this many robots may have errands to the cell: the cells of its part are served for them
abbrev pub IsServedFor : (core capacity : List ℕ) → (robots cell : ℕ) → Type 0
IsServedFor core capacity robots cell = robots ≤ slice_index capacity (slice_index core cell)

-- the robot's goal; `None` where it has none
abbrev pub goal_at : List (Option ℕ) → ℕ → Option ℕ
goal_at goals robot = slice_index_or goals robot None

-- a robot's rank: its wait, and 2^63 more if its goal is served; the greater rank comes first
pub record IsRank (core capacity : List ℕ) (robots : ℕ) (goal wait rank : Option ℕ) : Type 0 where
  pub idle : wait ≡ None → rank ≡ None
  pub served : (g w : ℕ) → goal ≡ Some g → wait ≡ Some w → IsServedFor core capacity robots g → rank ≡ Some (w + 2 ^ 63)
  pub unserved : (g w : ℕ) → goal ≡ Some g → wait ≡ Some w → (IsServedFor core capacity robots g → ⊥) → rank ≡ Some w
  pub aimless : (w : ℕ) → goal ≡ None → wait ≡ Some w → rank ≡ Some w

-- the ranks of the robots with these goals and waits
pub record AreRanks (core capacity : List ℕ) (goals waits ranks : List (Option ℕ)) : Type 0 where
  pub same_length : length ranks ≡ length waits
  pub each : (r : ℕ) → r < length waits → IsRank core capacity (length waits) (goal_at goals r) (wait_of waits r) (wait_of ranks r)

-- another robot than `but` that is in the room of this door
pub record IsInside (door cells : List ℕ) (room but robot : ℕ) : Type 0 where
  pub known : robot < length cells
  pub other : robot ≢ but
  pub inside : slice_index door (slice_index cells robot) ≡ room

-- of the first n robots that are there the nearest to the mouth, and of several as near the one of least number. In a room a cell is
-- nearer to the mouth exactly if it is nearer to the core.
pub record IsNearestOf (door away cells : List ℕ) (room but n robot : ℕ) : Type 0 where
  pub is : IsInside door cells room but robot
  pub below : robot < n
  pub nearest : (r : ℕ) → r < n → IsInside door cells room but r →
      (slice_index away (slice_index cells robot) < slice_index away (slice_index cells r))
      ⊎ ((slice_index away (slice_index cells robot) ≡ slice_index away (slice_index cells r)) × (robot ≤ r))

-- the same of all robots
abbrev pub IsNearestInside : (door away cells : List ℕ) → (room but robot : ℕ) → Type 0
IsNearestInside door away cells room but robot = IsNearestOf door away cells room but (length cells) robot

-- nothing is lent, and no door is shut
abbrev pub IsNothing : Lending → Type 0
IsNothing lending = (lending.lender ≡ None) × (lending.door ≡ None)

-- the door of a room is shut
abbrev pub IsShut : (mouth : List ℕ) (room : ℕ) → Lending → Type 0
IsShut mouth room lending = lending.door ≡ Some (record { from = slice_index mouth room; to = room })

-- what is lent where the eldest robot goes to this goal
pub record IsLentTo (core door mouth away cells : List ℕ) (eldest goal : ℕ) (lending : Lending) : Type 0 where
  pub outside : slice_index door goal ≡ slice_index core goal → IsNothing lending
  -- the robot that goes first in its place
  pub lender : slice_index door goal ≢ slice_index core goal →
      MatchOption lending.lender ((r : ℕ) → IsInside door cells (slice_index door goal) eldest r → ⊥) (λ x. IsNearestInside door away cells (slice_index door goal) eldest x)
  -- the door is shut, unless the eldest is at the mouth, and nobody else inside
  pub shut : slice_index door goal ≢ slice_index core goal → (x : ℕ) → lending.lender ≡ Some x → IsShut mouth (slice_index door goal) lending
  pub shut_before : slice_index door goal ≢ slice_index core goal → lending.lender ≡ None → slice_index cells eldest ≢ slice_index mouth (slice_index door goal) → IsShut mouth (slice_index door goal) lending
  pub free : slice_index door goal ≢ slice_index core goal → lending.lender ≡ None → slice_index cells eldest ≡ slice_index mouth (slice_index door goal) → lending.door ≡ None

-- what is lent for robots on these cells, with these goals and waits, and the ranks by which they are put in order
pub record IsLent (core door mouth capacity away cells : List ℕ) (goals waits ranks : List (Option ℕ)) (lending : Lending) : Type 0 where
  pub own : List (Option ℕ)
  pub ranked : AreRanks core capacity goals waits own
  -- the lender has the greatest rank, and all others have their own
  pub written : MatchOption lending.lender (ranks ≡ own) (λ x. ranks ≡ slice_set own x (Some (2 ^ 64 - 1)))
  -- it is lent to the first of the robots whose goals are served
  pub served : (e g : ℕ) → IsEldest own e → goal_at goals e ≡ Some g → IsServedFor core capacity (length waits) g → IsLentTo core door mouth away cells e g lending
  pub unserved : ((e g : ℕ) → IsEldest own e → goal_at goals e ≡ Some g → IsServedFor core capacity (length waits) g → ⊥) → IsNothing lending
