-- The next move that may begin.
use Rattle.fleet_execution.specs.State.{desk_of}
use Rattle.fleet_execution.proofs.Answered.{all_of}
use Rattle.fleet_execution.proofs.Choosing.{none_ready}
use Rattle.fleet_execution.proofs.state.State.begin.Goals as goal

pub returns-in_err-start-clause-none : goal.returns-in_err-start-clause-none
returns-in_err-start-clause-none g c it_is o x =
    let now = c.in_err-start.ensures.keeps o x in (
      all_of o c.choose.new.self.turning c.in_err-start.ensures.idle now.turning,
      none_ready (desk_of c.choose.new.self) o now c.in_err-start.ensures.first,
      now,
    )

pub returns-in-Alone-clause-some : goal.returns-in-Alone-clause-some
returns-in-Alone-clause-some g c o x = c.begin_alone.ensures.gives o (c.in_ok-start.ensures.keeps o x)

pub returns-in-Turning-clause-some : goal.returns-in-Turning-clause-some
returns-in-Turning-clause-some g c o x = c.begin_turn.ensures.gives o (c.in_ok-start.ensures.keeps o x)
