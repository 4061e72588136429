-- The first fault of what a step is asked for.
use Rattle.std.specs.Prelude.{◌≡◌, ◌≢◌, ℕ, ◌*◌, ◌<◌, ◌≤◌, List, length, slice_index}
use Rattle.fleet_grid.specs.Floor.{Floor, IsFloor}
use Rattle.fleet_grid.specs.Step.{IsPlacement}
use Rattle.fleet_shield.specs.Wishes.{Wishes, robots, cell_of, IsNear, AreApart, IsOrder}
use Rattle.fleet_shield.specs.Size.{Size}
use Rattle.fleet_shield.specs.declared.refusal.Refusal.{Refusal}
use Rattle.fleet_shield.specs.declared.refusal.Refusal.TheVariants.{Map, Length, Outside, Wall, Shared, Unknown, Twice, Far}

-- the first number below a bound of which it does not hold
pub record IsFirstNot (Holds : ℕ → Type 0) (bound k : ℕ) : Type 0 where
  pub inside : k < bound
  pub before : (j : ℕ) → j < k → Holds j
  pub fails : Holds k → ⊥

-- the item at the second place is the first that an earlier place has, which is the first place
pub record IsFirstTwice (xs : List ℕ) (i j : ℕ) : Type 0 where
  pub order : i < j
  pub inside : j < length xs
  pub same : slice_index xs i ≡ slice_index xs j
  pub before : AreApart xs j

-- the lists are as long as this number of robots asks; `count` is the number of new cells
pub record HasLengths (order : List ℕ) (w : Wishes) (count n : ℕ) : Type 0 where
  pub placed : length w.from ≡ n
  pub listed : length order ≡ n
  pub news : count ≡ n
  pub preferred : length w.cells ≡ n * w.each

-- map and lists have the shield's size
pub record Fits (m : Floor) (order : List ℕ) (w : Wishes) (news : ℕ) (size : Size) : Type 0 where
  pub map : size.cells ≡ length m.letters
  pub lengths : HasLengths order w news size.robots

-- the robot stands on a floor cell
abbrev pub IsOnFloor : Floor → Wishes → ℕ → Type 0
IsOnFloor m w robot = IsFloor m (cell_of w robot)

-- the place of the order names a robot that there is
abbrev pub IsKnown : List ℕ → ℕ → Type 0
IsKnown order place = slice_index order place < length order

-- each of the robot's preferences is its own cell or a neighbour of it
abbrev pub AllNear : Floor → Wishes → ℕ → Type 0
AllNear m w robot = (place : ℕ) → place < w.each → IsNear m w robot place

-- the fault of a step that fits: it is there, and no fault before it
abbrev pub IsFault : Floor → List ℕ → Wishes → Refusal → Type 0
IsFault m order w Map = ⊥
IsFault m order w Length = ⊥
IsFault m order w (Outside r) = IsFirstNot (IsOnFloor m w) (robots w) r × (length m.letters ≤ cell_of w r)
IsFault m order w (Wall r) = IsFirstNot (IsOnFloor m w) (robots w) r × (cell_of w r < length m.letters)
IsFault m order w (Shared q r) = ((k : ℕ) → k < robots w → IsOnFloor m w k) × IsFirstTwice w.from q r
IsFault m order w (Unknown k) = IsPlacement m w.from × IsFirstNot (IsKnown order) (length order) k
IsFault m order w (Twice k) = IsPlacement m w.from × ((j : ℕ) → j < length order → IsKnown order j) × ((i : ℕ) × IsFirstTwice order i k)
IsFault m order w (Far r k) =
    IsPlacement m w.from × IsOrder order (robots w) × IsFirstNot (AllNear m w) (robots w) r × IsFirstNot (IsNear m w r) w.each k

-- what a refusal says: the fault that it names is the first; `news` is the number of new cells
abbrev pub IsRefusal : Floor → List ℕ → Wishes → ℕ → Size → Refusal → Type 0
IsRefusal m order w news size Map = size.cells ≢ length m.letters
IsRefusal m order w news size Length = (size.cells ≡ length m.letters) × (HasLengths order w news size.robots → ⊥)
IsRefusal m order w news size (Outside r) = Fits m order w news size × IsFault m order w (Outside r)
IsRefusal m order w news size (Wall r) = Fits m order w news size × IsFault m order w (Wall r)
IsRefusal m order w news size (Shared q r) = Fits m order w news size × IsFault m order w (Shared q r)
IsRefusal m order w news size (Unknown k) = Fits m order w news size × IsFault m order w (Unknown k)
IsRefusal m order w news size (Twice k) = Fits m order w news size × IsFault m order w (Twice k)
IsRefusal m order w news size (Far r k) = Fits m order w news size × IsFault m order w (Far r k)
