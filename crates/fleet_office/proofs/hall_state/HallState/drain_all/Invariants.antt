use Rattle.std.proofs.Common.{◌≡◌}
use Rattle.fleet_office.specs.Views.{cores}
use Rattle.fleet_office.specs.Draining.{DrainsFirst}
use Rattle.fleet_office.proofs.Settling.{SettledBelow, StayFrom}
use Rattle.fleet_office.proofs.hall_state.HallState.drain_all.Given as goal

abbrev pub invariant-loop-number : goal.invariant-loop-number
invariant-loop-number g l =
    (cores l.clients ≡ cores l.fn.clients)
    × (l.self.total ≡ l.fn.self.total)
    × SettledBelow l.number l.self.ends l.clients
    × StayFrom l.number l.fn.self.ends l.self.ends
    × DrainsFirst l.number l.fn.self.ends (cores l.fn.clients) l.fn.self.world l.self.world
