-- The numbers that were found say how roomy each cell is.
use Rattle.std.proofs.Common.{ℕ, List, sym, subst, arith}
use Rattle.fleet_bridge.specs.Roominess.{AreRoomyFor}
use Rattle.fleet_talk.proofs.door.door_for.Goals as goal

pub unroomy_by-requires : goal.unroomy_by-requires
unroomy_by-requires c =
    subst (λ (xs : List ℕ). AreRoomyFor c.args.grid.now xs) (sym c.deref.ensures.value) (record { size = omega (arith, c.in_ok-roominess.ensures.size, c.in_ok-roominess.roominess.ok.0); each = c.in_ok-roominess.ensures.exact })
