-- The tick of these cells, arrivals and farewells.
use Rattle.std.proofs.Common.{refl}
use Rattle.fleet_core.proofs.entries.tick_entry.Goals as goal

pub returns : goal.returns
returns g c = rw (c.from_vec.ensures, c.from_vec-2.ensures, c.from_vec-3.ensures) refl
