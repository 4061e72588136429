-- The four lists of a client's rings: sent and taken orders, given and collected notices.
use Rattle.std.specs.Prelude.{ℕ, Bool, true, false, List}
use Rattle.std.specs.List.{list_any}
use Rattle.fleet_book.specs.declared.order.Order.{Order}
use Rattle.fleet_book.specs.declared.order.Order.TheVariants.{Close}
use Rattle.fleet_book.specs.declared.notice.Notice.{Notice}
use Rattle.fleet_lanes.specs.Names.{LaneName}

-- the order is Close
abbrev pub is_close : Order → Bool
is_close Close = true
is_close _ = false

-- Close stands in the list
abbrev pub has_close : List Order → Bool
has_close orders = list_any is_close orders

-- what a client knows: how many orders it may send, what it sent and collected, how many slots of the lane it has
-- seen free, and which notices it has seen on the outlet
pub record ClientView (A : Type 0) : Type 0 where
  pub number : ℕ
  pub lane : LaneName A
  pub orders : ℕ
  pub sent : List Order
  pub collected : List Notice
  pub free : ℕ
  pub known : List Notice

-- what a hall end knows: what it took and gave, how many slots of the outlet it has seen free, and which orders it
-- has seen in the lane
pub record EndView (A : Type 0) : Type 0 where
  pub lane : LaneName A
  pub taken : List Order
  pub given : List Notice
  pub free : ℕ
  pub known : List Order
