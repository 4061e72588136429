-- A robot begins by itself.
use Rattle.std.proofs.Common.{◌≡◌, ℕ, false, sym, ◌∙◌, ap, subst, List}
use Rattle.fleet_execution.specs.declared.motion.Move.{Move}
use Rattle.fleet_execution.specs.declared.state.State.{State}
use Rattle.fleet_execution.specs.Executes.{IsIn}
use Rattle.fleet_execution.specs.Given.{Gives}
use Rattle.fleet_execution.specs.State.{desk_of, IsSized}
use Rattle.fleet_execution.proofs.Answered.{all_of}
use Rattle.fleet_execution.proofs.Choosing.{sized_ready}
use Rattle.fleet_execution.proofs.Beginnings.{give_state, give_move, sized_give, alone_gives}
use Rattle.fleet_execution.proofs.state.State.begin_alone.Goals as goal

pub returns-clause-sized : goal.returns-clause-sized
returns-clause-sized g c =
    let is : c.give.new.self ≡ give_state (record c.args.self.now { ready = c.wake.new.self.ready }) c.args.robot c.args.step false =
    c.give.ensures.rest ∙ ap (λ (s : State g.row.A.Denot). give_state s c.args.robot c.args.step false) c.wake.ensures.rest in
    subst (λ (s : State g.row.A.Denot). IsSized s) (sym is)
    (sized_give (record c.args.self.now { ready = c.wake.new.self.ready }) c.args.robot c.args.step false
    (sized_ready c.args.self.now c.wake.new.self.ready c.requires.sound.sized (c.wake.ensures.robots ∙ c.drop_first.ensures.robots)))

pub returns-clause-gives : goal.returns-clause-gives
returns-clause-gives g c o x =
    let is : c.give.new.self ≡ give_state (record c.args.self.now { ready = c.wake.new.self.ready }) c.args.robot c.args.step false =
    c.give.ensures.rest ∙ ap (λ (s : State g.row.A.Denot). give_state s c.args.robot c.args.step false) c.wake.ensures.rest in
    let move_is : c.give.result ≡ give_move c.args.self.now c.args.robot c.args.step =
    c.give.ensures.value ∙ ap (λ (s : State g.row.A.Denot). give_move s c.args.robot c.args.step) c.wake.ensures.rest in
    let all = all_of o c.args.self.now.turning c.requires.idle x.turning in
    subst (λ (m : Move). Gives o m (desk_of c.give.new.self)) (sym move_is)
    (subst (λ (s : State g.row.A.Denot). Gives o (give_move c.args.self.now c.args.robot c.args.step) (desk_of s)) (sym is)
    (alone_gives c.args.self.now o x c.requires.sound.sized c.args.robot c.args.step c.requires.inside c.requires.idle c.wake.new.self.ready c.requires.first (c.requires.may o x all)
    (λ y has. c.wake.ensures.keeps y (subst (λ (ys : List ℕ). IsIn ys y) (sym c.drop_first.ensures.items) has)) c.wake.ensures.woken))
