use Rattle.std.proofs.Common.{sym, ◌∙◌}
use Rattle.fleet_planner.specs.Keys.{key_at}
use Rattle.fleet_planner.proofs.Fields.{ways_shown, ways_none, goal_there}
use Rattle.fleet_planner.proofs.keys.outlook_of.Goals as goal

pub outlook-requires-clause-shown : goal.outlook-requires-clause-shown
outlook-requires-clause-shown g c = c.requires.showing c.args.robot c.in-Some.key (sym c.key_of.ensures ∙ c.in-Some.is)

pub returns-in-Some-clause-nearer : goal.returns-in-Some-clause-nearer
returns-in-Some-clause-nearer g c =
    let key = sym c.key_of.ensures ∙ c.in-Some.is in
    ways_shown c.args.store.now (key_at c.args.keys.now c.args.robot) c.in-Some.key c.args.grid.now c.args.cell c.outlook.result.nearer.byte key (c.requires.showing c.args.robot c.in-Some.key key) c.outlook.ensures.nearer

pub returns-in-Some-clause-idle : goal.returns-in-Some-clause-idle
returns-in-Some-clause-idle g c =
    let key = sym c.key_of.ensures ∙ c.in-Some.is in
    λ none. absurd (goal_there c.args.store.now (key_at c.args.keys.now c.args.robot) c.in-Some.key key (c.requires.showing c.args.robot c.in-Some.key key) none)

pub returns-in-None-clause-nearer : goal.returns-in-None-clause-nearer
returns-in-None-clause-nearer g c = ways_none c.args.store.now (key_at c.args.keys.now c.args.robot) c.args.grid.now c.args.cell (sym c.key_of.ensures ∙ c.in-None.is)
