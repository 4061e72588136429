-- The lender comes first.
use Rattle.std.proofs.Common.{◌≡◌, ℕ, Some, subst, arith}
use Rattle.std.specs.Prelude.{slice_set}
use Rattle.fleet_pibt.specs.Eldest.{IsEldest}
use Rattle.fleet_planner.proofs.Lenders.{lender_first, lender_known, ranks_small}
use Rattle.fleet_planner.proofs.lending.lend.Goals as goal

pub returns-in-Some-lender-clause-first : goal.returns-in-Some-lender-clause-first
returns-in-Some-lender-clause-first c x is =
    let rooms = c.args.rooms in
    let own = c.put_ranks.new.ranks in
    let lender = c.in-Some-lender.lender in
    let known = lender_known rooms.core.now rooms.door.now rooms.mouth.now rooms.away.now c.args.cells.now c.in-Some.first c.in-Some-goals.goal c.lent_to-lending.result c.lent_to-lending.ensures lender c.in-Some-lender.is in
    let same : lender ≡ x = cc (is, c.in-Some-lender.is) in
    subst (λ (y : ℕ). IsEldest (slice_set own lender (Some 18446744073709551615)) y) same
    (lender_first own lender (omega (arith, known, c.requires.same_cells, c.put_ranks.ensures.same_length))
    (ranks_small rooms.core.now rooms.capacity.now c.args.goals.now c.args.waits.now own c.put_ranks.ensures c.requires.early))
