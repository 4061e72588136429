-- What a report wakes.
use Rattle.std.proofs.Common.{sym}
use Rattle.fleet_execution.specs.State.{desk_of}
use Rattle.fleet_execution.proofs.Waking.{wakes_straight, wakes_turned, wakes_started, ring_now}
use Rattle.fleet_execution.proofs.state.State.wake_after.Goals as goal

pub returns-then-state-clause-wakes : goal.returns-then-state-clause-wakes
returns-then-state-clause-wakes g c o x = wakes_straight (desk_of c.args.self.now) o x c.args.robot c.args.state c.requires.inside c.requires.state (λ e. c.requires.under_way (sym e)) c.wake.new.self.ready.items
    c.if-state.true c.wake.ensures.woken

pub returns-in-Started-clause-wakes : goal.returns-in-Started-clause-wakes
returns-in-Started-clause-wakes g c o x = wakes_started (desk_of c.args.self.now) o x c.args.robot c.args.state c.requires.inside c.requires.state (λ e. c.requires.under_way (sym e)) c.args.self.now.ready.items c.in-Started.is

pub lap-size-requires-clause-ring : goal.lap-size-requires-clause-ring
lap-size-requires-clause-ring g c = ring_now (desk_of c.args.self.now) c.requires.sound.course c.requires.sound.executes c.args.robot c.args.state c.requires.inside c.requires.state (λ e. c.requires.under_way (sym e))
    c.args.self.now.ready.items c.if-state.false

pub wake_turn-requires-clause-ring : goal.wake_turn-requires-clause-ring
wake_turn-requires-clause-ring g c = ring_now (desk_of c.args.self.now) c.requires.sound.course c.requires.sound.executes c.args.robot c.args.state c.requires.inside c.requires.state (λ e. c.requires.under_way (sym e))
    c.args.self.now.ready.items c.if-state.false

pub returns-in-Arrived-clause-wakes : goal.returns-in-Arrived-clause-wakes
returns-in-Arrived-clause-wakes g c o x = wakes_turned (desk_of c.args.self.now) o x c.args.robot c.args.state c.requires.inside c.requires.state (λ e. c.requires.under_way (sym e)) c.wake_turn.new.self.ready.items
    c.if-state.false c.in-Arrived.is c.lap-size.result c.lap-size.ensures.round c.lap-size.ensures.waits c.wake_turn.ensures.added
