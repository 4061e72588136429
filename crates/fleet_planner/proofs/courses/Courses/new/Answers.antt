use Rattle.fleet_planner.proofs.Merged.{fields-none, merged-none, none-own}
use Rattle.fleet_planner.proofs.courses.Courses.new.Goals as goal

pub returns-clause-none : goal.returns-clause-none
returns-clause-none g c = rw (c.in_ok-own.ensures, c.in_ok-shared.ensures.none, fields-none _ c.args.robots) (merged-none c.args.robots)

pub returns-clause-on : goal.returns-clause-on
returns-clause-on g c m = record {
  shared = c.in_ok-shared.ensures.on m;
  grown = rw (c.in_ok-own.ensures, fields-none _ c.args.robots) (none-own m c.args.robots);
}
