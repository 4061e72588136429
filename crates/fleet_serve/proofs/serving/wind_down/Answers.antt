-- Which ticker's cause ends a serve.
use Rattle.fleet_serve.proofs.Faults.{first-named, second-named, first-none, second-none}
use Rattle.fleet_serve.proofs.serving.wind_down.Goals as goal

pub returns-in-Err-clause-first : goal.returns-in-Err-clause-first
returns-in-Err-clause-first g c cause own =
    let stop = c.first_cause-stopped in
    first-named c.args.home.1.stopped c.args.home.2.stopped stop.result c.make_last_turns.result
    (record { first = stop.ensures.first; second = stop.ensures.second; refused = c.make_last_turns.ensures.stopped }) c.in-Err.fault c.in-Err.is cause own

pub returns-in-Err-clause-second : goal.returns-in-Err-clause-second
returns-in-Err-clause-second g c cause none own =
    let stop = c.first_cause-stopped in
    second-named c.args.home.1.stopped c.args.home.2.stopped stop.result c.make_last_turns.result
    (record { first = stop.ensures.first; second = stop.ensures.second; refused = c.make_last_turns.ensures.stopped }) c.in-Err.fault c.in-Err.is cause none own

pub returns-in-Ok-clause-first : goal.returns-in-Ok-clause-first
returns-in-Ok-clause-first g c cause own =
    let stop = c.first_cause-stopped in
    first-none c.args.home.1.stopped c.args.home.2.stopped stop.result c.make_last_turns.result
    (record { first = stop.ensures.first; second = stop.ensures.second; refused = c.make_last_turns.ensures.stopped }) tt c.in-Ok.is cause own

pub returns-in-Ok-clause-second : goal.returns-in-Ok-clause-second
returns-in-Ok-clause-second g c cause none own =
    let stop = c.first_cause-stopped in
    second-none c.args.home.1.stopped c.args.home.2.stopped stop.result c.make_last_turns.result
    (record { first = stop.ensures.first; second = stop.ensures.second; refused = c.make_last_turns.ensures.stopped }) tt c.in-Ok.is cause none own
