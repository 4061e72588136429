use Rattle.fleet_pibt.specs.inside.Seating.{stander_in, holder_in}
use Rattle.fleet_pibt.proofs.Entries.{blank-empty, entry-none}
use Rattle.fleet_pibt.proofs.seats.Seats.new.Goals as goal

pub returns-clause-standing : goal.returns-clause-standing
returns-clause-standing g c = blank-empty stander_in _ (entry-none 65535) c.args.len c.in_ok-vec.field-0.items (c.in_ok-vec.ensures.items_if_clones_equal (λ y e. e))

pub returns-clause-holder : goal.returns-clause-holder
returns-clause-holder g c = blank-empty holder_in _ (entry-none 65535) c.args.len c.in_ok-vec.field-0.items (c.in_ok-vec.ensures.items_if_clones_equal (λ y e. e))
