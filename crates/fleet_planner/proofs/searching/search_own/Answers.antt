use Rattle.std.proofs.Common.{Option, ap, sym, subst}
use Rattle.fleet_field.proofs.Grown.{grown_serves}
use Rattle.fleet_field.specs.Growing.{growth_of}
use Rattle.fleet_planner.specs.Courses.{growth_in}
use Rattle.fleet_planner.proofs.searching.search_own.Goals as goal

pub search-requires-clause-serves : goal.search-requires-clause-serves
search-requires-clause-serves g c = grown_serves c.args.grid.now c.in-Some.field (c.requires.grown (growth_of c.in-Some.field) (ap growth_in c.in-Some.is))
