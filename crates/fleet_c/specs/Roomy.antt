-- To which cells a fleet takes errands.
use Rattle.std.specs.Prelude.{ℕ, ◌≡◌, ◌<◌, ◌↔◌, Bool, true, false, List, [], Option, None, Some, length}
use Rattle.fleet_book.specs.declared.order.Order.{Order}
use Rattle.fleet_book.specs.declared.order.Order.TheVariants.{Go}
use Rattle.fleet_grid.specs.Floor.{Floor}
use Rattle.fleet_history.specs.History.{clients, robots}
use Rattle.fleet_core.specs.Core.{World}
use Rattle.fleet_roomy.specs.Unroomy.{IsUnroomyCell, has}
use Rattle.fleet_c.specs.Answers.{OfKnown, IsTaken}
use Rattle.fleet_c.specs.Owns.{HeldValue}
use Rattle.fleet_c.specs.declared.codes.TheConstants.{NO_CLIENT, NO_ROOM}
use Rattle.fleet_c.specs.declared.judgement.Judgement.{Judgement}

-- exactly these cells: if that is asked for, the floor cells that are not roomy for n robots, and else none
pub record AreRefused (roomy : Bool) (m : Floor) (n : ℕ) (cells : List Bool) : Type 0 where
  pub exact : (c : ℕ) → (has cells c ≡ true) ↔ ((roomy ≡ true) × IsUnroomyCell m n c)

-- the fleet refuses errands to floor cells that are not roomy for its robots, if it was opened so, and else none
abbrev pub Refuses : Bool → HeldValue → Type 0
Refuses roomy f = AreRefused roomy f.core.floor (robots f.core.history) f.refused.marks.items

-- whether an order is an errand to one of these cells
abbrev pub goes_to : List Bool → Order → Bool
goes_to cells (Go robot cell) = has cells cell
goes_to cells order = false

-- the client's order, where there is such a client: refused if it is an errand to one of these cells, and else as by the world
abbrev pub LetsIn : {A : Type 0} → List Bool → World A → ℕ → Order → ℕ → Judgement → World A → Type 0
LetsIn cells w client order code told n = OfKnown (clients w.history) client NO_CLIENT w code n
    ((goes_to cells order ≡ true → (code ≡ NO_ROOM) × (n ≡ w)) × (goes_to cells order ≡ false → IsTaken w client order code told n))

-- a fleet that was opened so refuses an errand of a client exactly if its cell is not roomy, and no other fleet refuses any
abbrev pub KnowsRoom : Option HeldValue → (client cell code : ℕ) → Type 0
KnowsRoom None client cell code = Unit {0}
KnowsRoom (Some f) client cell code = (roomy : Bool) → Refuses roomy f
    → (code ≡ NO_ROOM) ↔ ((roomy ≡ true) × (client < clients f.core.history) × IsUnroomyCell f.core.floor (robots f.core.history) cell)

-- a world of the same map and as many robots, which take the same turns
pub record IsSameFleet {A : Type 0} (w n : World A) : Type 0 where
  pub floor : n.floor ≡ w.floor
  pub robots : robots n.history ≡ robots w.history
  pub turns : n.turns ≡ w.turns
