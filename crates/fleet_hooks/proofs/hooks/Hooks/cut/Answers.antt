-- The farewells that are kept.
use Rattle.fleet_hooks.proofs.hooks.Hooks.cut.Goals as goal

pub returns-clause-farewells : goal.returns-clause-farewells
returns-clause-farewells g c = c.truncate-3.ensures.items
