use Rattle.std.proofs.Common.{List, ℕ, arith, sym, subst}
use Rattle.fleet_bridge.specs.Roominess.{AreRoomyFor}
use Rattle.fleet_c.proofs.reopening.rooms_of.Goals as goal

pub unroomy_by-requires : goal.unroomy_by-requires
unroomy_by-requires c =
    subst (λ (xs : List ℕ). AreRoomyFor c.args.grid.now xs) (sym c.deref.ensures.value) (record { size = omega (arith, c.in_ok-most.ensures.size, c.in_ok-most.most.ok.0); each = c.in_ok-most.ensures.exact })
