-- A report.
use Rattle.std.proofs.Common.{◌≡◌, ◌%◌, ◌<◌, get_or, refl, sym, ◌∙◌, ap, subst, arith}
use Rattle.fleet_execution.specs.declared.motion.Move.{Move}
use Rattle.fleet_execution.specs.declared.robot.Robot.{Robot}
use Rattle.fleet_execution.specs.declared.state.State.{State}
use Rattle.fleet_execution.specs.Given.{IsReported}
use Rattle.fleet_execution.specs.State.{desk_of, nobody, IsSized}
use Rattle.fleet_execution.proofs.Choosing.{sized_ready, more_ready}
use Rattle.fleet_execution.proofs.Reporting.{arrive_state, sized_arrive, some_left, reported_is}
use Rattle.fleet_execution.proofs.state.State.reached.Goals as goal

pub returns-then-robot-self-clause-refused : goal.returns-then-robot-self-clause-refused
returns-then-robot-self-clause-refused g c = (refl, λ o x inside. absurd (omega (arith, inside, x.robots, c.if-robot-self.true)))

pub returns-then-state-clause-refused : goal.returns-then-state-clause-refused
returns-then-state-clause-refused g c = (
  refl,
  λ o x inside.
      let k = x.tracked c.args.robot inside in
      let is = c.get-state.ensures nobody in
      sym k.returned ∙ (sym (ap (λ (s : Robot). s.returned) is) ∙ (c.if-state.true ∙ (ap (λ (s : Robot). s.reached) is ∙ k.reached))),
)

pub wake_after-requires-clause-sound : goal.wake_after-requires-clause-sound
wake_after-requires-clause-sound g c = record {
  sized = sized_ready c.args.self.now c.add.new.self c.requires.sound.sized c.add.ensures.robots;
  course = c.requires.sound.course;
  executes = more_ready c.args.self.now c.add.new.self c.requires.sound.course c.requires.sound.executes c.add.ensures.keeps;
}

pub wake_after-requires-clause-state : goal.wake_after-requires-clause-state
wake_after-requires-clause-state g c = sym (c.get-state.ensures nobody)

pub arrive-requires-clause-sized : goal.arrive-requires-clause-sized
arrive-requires-clause-sized g c = subst (λ (s : State g.row.A.Denot). IsSized s) (sym c.wake_after.ensures.rest)
    (sized_ready (record c.args.self.now { ready = c.add.new.self }) c.wake_after.new.self.ready (sized_ready c.args.self.now c.add.new.self c.requires.sound.sized c.add.ensures.robots) c.wake_after.ensures.robots)

pub arrive-requires-clause-inside : goal.arrive-requires-clause-inside
arrive-requires-clause-inside g c = subst (λ (s : State g.row.A.Denot). c.args.robot < s.count) (sym c.wake_after.ensures.rest) (omega (arith, c.if-robot-self.false))

pub arrive-requires-clause-some : goal.arrive-requires-clause-some
arrive-requires-clause-some g c =
    let robot = c.args.robot in
    let x = more_ready c.args.self.now c.add.new.self c.requires.sound.course c.requires.sound.executes c.add.ensures.keeps in
    let inside : c.args.robot < c.args.self.now.count = omega (arith, c.if-robot-self.false) in
    subst (λ (s : State g.row.A.Denot). 0 < get_or s.unreached (c.get-state.result.returned % s.ahead) 0) (sym c.wake_after.ensures.rest)
    (some_left c.args.self.now c.requires.sound.course c.requires.sound.executes c.requires.sound.sized c.args.robot c.get-state.result inside (sym (c.get-state.ensures nobody)) (λ e. c.if-state.false (sym e))
    c.wake_after.new.self.ready (λ y has. c.wake_after.ensures.keeps y (c.add.ensures.keeps y has)) (c.wake_after.ensures.keeps c.args.robot c.add.ensures.added)
    (c.wake_after.ensures.wakes c.requires.sound.course x))

pub returns-clause-sized : goal.returns-clause-sized
returns-clause-sized g c =
    let now : c.arrive.new.self ≡ arrive_state (record c.args.self.now { ready = c.wake_after.new.self.ready }) c.args.robot c.get-state.result =
    c.arrive.ensures.rest ∙ ap (λ (s : State g.row.A.Denot). arrive_state s c.args.robot c.get-state.result) c.wake_after.ensures.rest in
    subst (λ (s : State g.row.A.Denot). IsSized s) (sym now) (sized_arrive (record c.args.self.now { ready = c.wake_after.new.self.ready }) c.args.robot c.get-state.result
    (sized_ready c.args.self.now c.wake_after.new.self.ready c.requires.sound.sized (c.wake_after.ensures.robots ∙ c.add.ensures.robots)))

pub returns-clause-robot : goal.returns-clause-robot
returns-clause-robot g c = ap (λ (m : Move). m.robot) c.arrive.ensures.value

pub returns-clause-reported : goal.returns-clause-reported
returns-clause-reported g c o x =
    let now : c.arrive.new.self ≡ arrive_state (record c.args.self.now { ready = c.wake_after.new.self.ready }) c.args.robot c.get-state.result =
    c.arrive.ensures.rest ∙ ap (λ (s : State g.row.A.Denot). arrive_state s c.args.robot c.get-state.result) c.wake_after.ensures.rest in
    let inside : c.args.robot < c.args.self.now.count = omega (arith, c.if-robot-self.false) in
    let more = more_ready c.args.self.now c.add.new.self o x c.add.ensures.keeps in
    subst (λ (m : Move). IsReported o m (desk_of c.arrive.new.self)) (sym c.arrive.ensures.value)
    (subst (λ (s : State g.row.A.Denot). IsReported o (record { robot = c.args.robot; from = c.get-state.result.cell; to = c.get-state.result.bound; tick = c.get-state.result.returned }) (desk_of s)) (sym now)
    (reported_is c.args.self.now o x c.requires.sound.sized c.args.robot c.get-state.result inside (sym (c.get-state.ensures nobody)) (λ e. c.if-state.false (sym e))
    c.wake_after.new.self.ready (λ y has. c.wake_after.ensures.keeps y (c.add.ensures.keeps y has)) (c.wake_after.ensures.keeps c.args.robot c.add.ensures.added)
    (c.wake_after.ensures.wakes o more)))
