-- A cycle goes on.
use Rattle.std.proofs.Common.{true, sym, subst}
use Rattle.fleet_execution.specs.declared.motion.Move.{Move}
use Rattle.fleet_execution.specs.declared.state.State.{State}
use Rattle.fleet_execution.specs.Given.{Gives}
use Rattle.fleet_execution.specs.State.{desk_of, IsSized}
use Rattle.fleet_execution.proofs.Beginnings.{give_move, sized_give, sized_turning, turning_in, passes}
use Rattle.fleet_execution.proofs.state.State.go_on.Goals as goal

pub before-next-requires-clause-sized : goal.before-next-requires-clause-sized
before-next-requires-clause-sized g c = c.requires.sound.sized

pub before-next-requires-clause-inside : goal.before-next-requires-clause-inside
before-next-requires-clause-inside g c = turning_in c.args.self.now c.requires.sound.course c.requires.sound.executes c.requires.sound.sized c.args.turning c.requires.turning

pub give-requires-clause-sized : goal.give-requires-clause-sized
give-requires-clause-sized g c = sized_turning c.args.self.now c.rest-self.result c.requires.sound.sized

pub give-requires-clause-inside : goal.give-requires-clause-inside
give-requires-clause-inside g c = turning_in c.args.self.now c.requires.sound.course c.requires.sound.executes c.requires.sound.sized c.args.turning c.requires.turning

pub returns-clause-sized : goal.returns-clause-sized
returns-clause-sized g c =
    subst (λ (s : State g.row.A.Denot). IsSized s) (sym c.give.ensures.rest)
    (sized_give (record c.args.self.now { turning = c.rest-self.result }) c.args.turning.next c.args.turning.step true (sized_turning c.args.self.now c.rest-self.result c.requires.sound.sized))

pub returns-clause-gives : goal.returns-clause-gives
returns-clause-gives g c o x =
    subst (λ (m : Move). Gives o m (desk_of c.give.new.self)) (sym c.give.ensures.value)
    (subst (λ (s : State g.row.A.Denot). Gives o (give_move c.args.self.now c.args.turning.next c.args.turning.step) (desk_of s)) (sym c.give.ensures.rest)
    (passes c.args.self.now o x c.requires.sound.sized c.args.turning c.requires.turning c.before-next.result c.before-next.ensures c.rest-self.result c.rest-self.ensures.through c.rest-self.ensures.more))
