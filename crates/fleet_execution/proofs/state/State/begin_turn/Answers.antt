-- A cycle begins.
use Rattle.std.proofs.Common.{true, Some, sym, subst}
use Rattle.fleet_execution.specs.declared.motion.Move.{Move}
use Rattle.fleet_execution.specs.declared.state.State.{State}
use Rattle.fleet_execution.specs.Given.{Gives}
use Rattle.fleet_execution.specs.State.{desk_of, IsSized}
use Rattle.fleet_execution.proofs.Choosing.{sized_ready}
use Rattle.fleet_execution.proofs.Beginnings.{give_move, sized_give, sized_turning, turn_gives}
use Rattle.fleet_execution.proofs.state.State.begin_turn.Goals as goal

pub before-next-requires-clause-sized : goal.before-next-requires-clause-sized
before-next-requires-clause-sized g c = sized_ready c.args.self.now c.drop_first.new.self c.requires.sound.sized c.drop_first.ensures.robots

pub give-requires-clause-sized : goal.give-requires-clause-sized
give-requires-clause-sized g c = sized_turning (record c.args.self.now { ready = c.drop_first.new.self }) (Some (record { step = c.args.step; first = c.args.robot; next = c.before-next.result }))
    (sized_ready c.args.self.now c.drop_first.new.self c.requires.sound.sized c.drop_first.ensures.robots)

pub returns-clause-sized : goal.returns-clause-sized
returns-clause-sized g c =
    subst (λ (s : State g.row.A.Denot). IsSized s) (sym c.give.ensures.rest)
    (sized_give (record c.args.self.now { ready = c.drop_first.new.self; turning = Some (record { step = c.args.step; first = c.args.robot; next = c.before-next.result }) }) c.args.robot c.args.step true
    (sized_turning (record c.args.self.now { ready = c.drop_first.new.self }) (Some (record { step = c.args.step; first = c.args.robot; next = c.before-next.result }))
    (sized_ready c.args.self.now c.drop_first.new.self c.requires.sound.sized c.drop_first.ensures.robots)))

pub returns-clause-gives : goal.returns-clause-gives
returns-clause-gives g c o x =
    subst (λ (m : Move). Gives o m (desk_of c.give.new.self)) (sym c.give.ensures.value)
    (subst (λ (s : State g.row.A.Denot). Gives o (give_move c.args.self.now c.args.robot c.args.step) (desk_of s)) (sym c.give.ensures.rest)
    (turn_gives c.args.self.now o x c.requires.sound.sized c.args.robot c.args.step c.requires.inside c.requires.idle c.drop_first.new.self c.requires.first
    c.requires.may.0 c.requires.may.1.0 c.requires.may.1.1 c.drop_first.ensures.items c.before-next.result c.before-next.ensures))
