use Rattle.std.proofs.Common.{length, arith, ap}
use Rattle.fleet_core.specs.Core.{pending}
use Rattle.fleet_office.proofs.Places.{from_first}
use Rattle.fleet_office.proofs.Uncollected.{at_most_found}
use Rattle.fleet_office.proofs.hall_state.HallState.uncollected.Goals as goal

pub returns : goal.returns
returns g c =
    at_most_found c.args.clients.now c.in-Some.k c.args.number c.in-Some-checked_add.count c.args.self.now.world c.index-clients-k.result c.requires.distinct c.in-Some.ensures.some.1 c.in-Some.ensures.some.2
    (omega (
      arith,
      c.in-Some-checked_add.ensures.1,
      c.known.ensures,
      ap (λ x. length x.known) c.index-clients-k.is,
      c.pending_count-pending.ensures,
      ap (λ h. length (pending h.world c.args.number).notices) c.self.view_is,
    ))

pub returns-in_default : goal.returns-in_default
returns-in_default g c = λ k x at same. absurd (c.in_default.ensures.none k x (from_first k) at same)

pub pending_count-pending-requires : goal.pending_count-pending-requires
pending_count-pending-requires g c = omega (arith, c.requires.known, c.self.invariant.ring_count, c.self.invariant.end_count)

pub offset_bounds-clients-k : goal.offset_bounds-clients-k
offset_bounds-clients-k g c = omega (arith, c.in-Some.ensures.some.1)

pub bounds-clients-k : goal.bounds-clients-k
bounds-clients-k g c = c.in-Some.ensures.some.1
