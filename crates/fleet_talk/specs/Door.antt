-- To which cells posts are refused.
use Rattle.std.specs.Prelude.{◌≡◌, ◌↔◌, ℕ, Bool, true, List, ◌++◌, codes, decimal, nat_lt, if◌then◌else◌}
use Rattle.fleet_book.specs.declared.event.Event.{Event}
use Rattle.fleet_book.specs.declared.event.Event.TheVariants.{Post}
use Rattle.fleet_book.specs.declared.order.Order.{Order}
use Rattle.fleet_book.specs.declared.order.Order.TheVariants.{Go}
use Rattle.fleet_core.specs.Core.{World}
use Rattle.fleet_grid.specs.Floor.{Floor, IsFloor, IsNeighbour}
use Rattle.fleet_grid.specs.Walk.{IsRoomy}
use Rattle.fleet_history.specs.History.{clients}
use Rattle.fleet_roomy.specs.Unroomy.{has}
use Rattle.fleet_script.specs.declared.lines.Repeat.{Repeat}
use Rattle.fleet_text.specs.Answers.{no_room_line}
use Rattle.fleet_text.specs.Output.{no_client_line}
use Rattle.fleet_talk.specs.Ask.{Line, line_in}
use Rattle.fleet_talk.specs.declared.ask.Asked.{Asked}
use Rattle.fleet_talk.specs.declared.ask.Asked.TheVariants.{Events, NoRoom}

-- posts to exactly these cells are refused: if that is asked for, to the floor cells that are not roomy for n robots, and else to none
pub record AreRefused (roomy : Bool) (m : Floor) (n : ℕ) (cells : List Bool) : Type 0 where
  pub exact : (c : ℕ) → (has cells c ≡ true) ↔ ((roomy ≡ true) × IsFloor m c × (IsRoomy (IsNeighbour m) n c → ⊥))

-- what a line asks of a fleet that refuses posts to these cells
abbrev pub order_let_in : List Bool → Repeat → ℕ → Order → Asked
order_let_in cells more client (Go robot cell) = if has cells cell then NoRoom client else Events more
order_let_in cells more client order = Events more

-- what a line of this event asks of such a fleet
abbrev pub event_let_in : List Bool → Repeat → Event → Asked
event_let_in cells more (Post client order) = order_let_in cells more client order
event_let_in cells more event = Events more

-- what a line asks of such a fleet that would ask this of another
abbrev pub let_in : List Bool → Asked → Asked
let_in cells (Events more) = event_let_in cells more more.event
let_in cells asked = asked

-- the line of this number, as such a fleet hears it
abbrev pub line_let_in : List Bool → ℕ → List ℕ → Line
line_let_in cells number bytes = let line = line_in number bytes in record line { asked = let_in cells line.asked }

-- the answer to a post that is refused so
abbrev pub refused_post_text : {A : Type 0} → World A → ℕ → List ℕ
refused_post_text w client = if nat_lt client (clients w.history) then no_room_line client else no_client_line client

-- the warning where posts to them are not refused
abbrev pub unroomy_line : (unroomy floor robots : ℕ) → List ℕ
unroomy_line unroomy floor robots =
    codes "fleet: " ++ (decimal unroomy ++ (codes " of " ++ (decimal floor ++ (codes " cells are not roomy for " ++ (decimal robots ++ codes " robots: errands there may block the fleet for ever (see --planner turns)\n")))))
