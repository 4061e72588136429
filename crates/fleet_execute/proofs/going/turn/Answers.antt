-- Steps are planned, and then moves begin.
use Rattle.fleet_execute.proofs.Steps.{goes_after}
use Rattle.fleet_execute.proofs.going.turn.Goals as goal

pub returns-clause-turned : goal.returns-clause-turned
returns-clause-turned c o x =
    let first = c.in_ok-plan_ahead.ensures.gone o x in
    let last = c.in_ok-begin_all.ensures first.course first.executes in
    record {
      moves = last.moves;
      gone = record {
        course = last.gone.course;
        goes = goes_after c.args.plan.now o first.course last.moves last.gone.course first.goes last.gone.goes;
        executes = last.gone.executes;
      };
      written = last.written;
      returned = last.returned;
      none = last.none;
    }
