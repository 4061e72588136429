use Rattle.std.proofs.Common.{ap, refl}
use Rattle.fleet_pibt.specs.inside.Seating.{Seating, stander_in, holder_in}
use Rattle.fleet_pibt.proofs.Entries.{entry-none, read-written, read-kept}
use Rattle.fleet_pibt.proofs.seats.Seats.leave.Goals as goal

pub returns-clause-standing : goal.returns-clause-standing
returns-clause-standing g c = read-written stander_in c.self.inside.entries.items c.args.cell _ _ _ (entry-none 65535) (ap (λ (z : Seating). z.standing) c.self.view_is)

pub returns-clause-holder : goal.returns-clause-holder
returns-clause-holder g c = read-kept holder_in c.self.inside.entries.items c.args.cell c.index_mut.result.now _ _ c.index_mut.ensures.value refl (ap (λ (z : Seating). z.holder) c.self.view_is)
