-- What a post is refused.
use Rattle.std.specs.Prelude.{◌≡◌, ◌+◌, false, length}
use Rattle.fleet_book.specs.declared.order.Order.{Order}
use Rattle.fleet_lanes.specs.declared.fault.PostFault.{PostFault}
use Rattle.fleet_lanes.specs.declared.fault.PostFault.TheVariants.{Closed, LaneFull, NumbersSpent}
use Rattle.fleet_lanes.specs.Ends.{ClientView, is_close, has_close}

-- only the number that is kept for Close is left, and the order is another
abbrev pub AreSpent : {A : Type 0} → ClientView A → Order → Type 0
AreSpent c order = (has_close c.sent ≡ false) × (is_close order ≡ false) × (length c.sent + 1 ≡ c.orders)

-- a fault that carries an order carries the one that was refused
abbrev pub HandsBack : Order → PostFault → Type 0
HandsBack order Closed = Unit {0}
HandsBack order (LaneFull back) = back ≡ order
HandsBack order (NumbersSpent back) = back ≡ order
