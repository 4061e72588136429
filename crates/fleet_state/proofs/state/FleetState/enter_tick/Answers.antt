use Rattle.std.proofs.Common.{arith, ◌≡◌, ◌<◌, ◌∙◌, Some, None, length, sym, subst}
use Rattle.fleet_history.specs.declared.history.Entry.TheVariants as entry
use Rattle.fleet_history.specs.History.{after}
use Rattle.fleet_state.proofs.Parts.{inside, account-count, cell-count, queue-count, tally-count, wait-count}
use Rattle.fleet_state.proofs.Dues.{to-count, landing-known, dues-owed, told-small, waits-small}
use Rattle.fleet_state.proofs.Steps.{AreStepped, AreArrived, lands-still, stepped-more, arrived-same, arrived-more, arrival-owed, arrival-small}
use Rattle.fleet_state.proofs.Entered.{ticked-is}
use Rattle.fleet_state.proofs.state.FleetState.enter_tick.Goals as goal
use Rattle.fleet_state.proofs.state.FleetState.enter_tick.Goals.{in-Some, in_default}

pub step-requires-clause-known : goal.step-requires-clause-known
step-requires-clause-known g c =
    omega (arith, c.loop-r-test.true, c.loop-r.invariant.steps.queue_count, to-count (inside c.self.view_is c.requires.may.is) c.args.to.now c.requires.may.fits)

pub step-requires-clause-small : goal.step-requires-clause-small
step-requires-clause-small g c w e =
    waits-small (inside c.self.view_is c.requires.may.is) c.args.to.now c.requires.may.early c.loop-r.r w (sym (c.loop-r.invariant.steps.waiting c.loop-r.r (omega arith)) ∙ e)

pub arrive-requires-clause-client : goal.arrive-requires-clause-client
arrive-requires-clause-client g c =
    let inv = c.loop-r.invariant in
    let i = inside c.self.view_is c.requires.may.is in
    let l : c.loop-r.r < length c.self.inside.robots.queues = omega (arith, c.loop-r-test.true, to-count i c.args.to.now c.requires.may.fits) in
    let known = landing-known i c.args.to.now c.loop-r.r c.in-Some.errand l (lands-still c.args.to.now c.loop-r.r c.self.inside.robots c.loop-r.self-inside.robots (Some c.in-Some.errand) inv.steps c.in-Some.ensures.landing) in
    omega (arith, known, account-count i, tally-count i, inv.arrive.tally_count)

pub arrive-requires-clause-owed : goal.arrive-requires-clause-owed
arrive-requires-clause-owed g c =
    let inv = c.loop-r.invariant in
    let f = c.in-Some.errand in
    let queues = c.self.inside.robots.queues in
    let i = inside c.self.view_is c.requires.may.is in
    let l : c.loop-r.r < length queues = omega (arith, c.loop-r-test.true, to-count i c.args.to.now c.requires.may.fits) in
    let e = lands-still c.args.to.now c.loop-r.r c.self.inside.robots c.loop-r.self-inside.robots (Some f) inv.steps c.in-Some.ensures.landing in
    let known = landing-known i c.args.to.now c.loop-r.r f l e in
    arrival-owed queues c.args.to.now c.loop-r.r c.self.inside.clients c.loop-r.self-inside.clients inv.arrive (length queues) f e l known (dues-owed i c.args.to.now c.requires.may.fits f.client known)

pub arrive-requires-clause-noticed : goal.arrive-requires-clause-noticed
arrive-requires-clause-noticed g c =
    let inv = c.loop-r.invariant in
    let f = c.in-Some.errand in
    let queues = c.self.inside.robots.queues in
    let i = inside c.self.view_is c.requires.may.is in
    let l : c.loop-r.r < length queues = omega (arith, c.loop-r-test.true, to-count i c.args.to.now c.requires.may.fits) in
    let e = lands-still c.args.to.now c.loop-r.r c.self.inside.robots c.loop-r.self-inside.robots (Some f) inv.steps c.in-Some.ensures.landing in
    let known = landing-known i c.args.to.now c.loop-r.r f l e in
    arrival-small queues c.args.to.now c.loop-r.r c.self.inside.clients c.loop-r.self-inside.clients inv.arrive (length queues) 18446744073709551616 f e l known
    (dues-owed i c.args.to.now c.requires.may.fits f.client known) (told-small i c.args.to.now c.requires.may.few f.client known)

pub loop-r-preserved : goal.loop-r-preserved
loop-r-preserved g c =
    let inv = c.loop-r.invariant in
    let may = c.requires.may in
    let i = inside c.self.view_is may.is in
    let to = c.args.to.now in
    let r = c.loop-r.r in
    let x = c.self.inside.robots in
    let many = to-count i to may.fits in
    let l : r < length x.queues = omega (arith, c.loop-r-test.true) in
    let moved = stepped-more to r x c.loop-r.self-inside.robots inv.steps (omega (arith, l, cell-count i, queue-count i)) l (omega (arith, l, wait-count i, queue-count i)) in
    elim c.match-step.branch [
      | in-Some w ↦
          (let f = w.in-Some.errand in
          let e = lands-still to r x c.loop-r.self-inside.robots (Some f) inv.steps w.in-Some.ensures.landing in
          let known = landing-known i to r f l e in
          record {
            steps = rw (w.self-inside-is, c.step.ensures.stepped) moved;
            arrive = rw (w.self-inside-is, w.arrive.ensures)
                (arrived-more x.queues to r c.self.inside.clients c.loop-r.self-inside.clients inv.arrive f e known (omega (arith, known, account-count i, tally-count i)));
            queue = rw w.self-inside-is inv.queue;
            rooms = rw w.self-inside-is inv.rooms;
            tick = rw w.self-inside-is inv.tick;
          })
      | in_default w ↦
          (let e = lands-still to r x c.loop-r.self-inside.robots None inv.steps w.in_default.ensures.landing in
          record {
            steps = rw (w.self-inside-is, c.step.ensures.stepped) moved;
            arrive = rw w.self-inside-is (arrived-same x.queues to r c.self.inside.clients c.loop-r.self-inside.clients inv.arrive e);
            queue = rw w.self-inside-is inv.queue;
            rooms = rw w.self-inside-is inv.rooms;
            tick = rw w.self-inside-is inv.tick;
          })
    ]

pub invariant_of-self : goal.invariant_of-self
invariant_of-self g c =
    let inv = c.loop-r.invariant in
    let may = c.requires.may in
    let last : c.loop-r.r ≡ length c.args.to.now = omega (arith, c.loop-r-test.false, c.loop-r.auto.r-end) in
    record {
      floor = may.floor;
      history = after may.history (entry.Tick c.args.to.now c.requires.arrived c.requires.farewells);
      is = rw (inv.queue, inv.rooms, inv.tick)
          (ticked-is (inside c.self.view_is may.is) c.args.to.now c.requires.arrived c.requires.farewells c.loop-r.self-inside.robots c.loop-r.self-inside.clients may.fits
          (subst (λ n. AreStepped c.args.to.now n c.self.inside.robots c.loop-r.self-inside.robots) last inv.steps)
          (subst (λ n. AreArrived c.self.inside.robots.queues c.args.to.now n c.self.inside.clients c.loop-r.self-inside.clients) last inv.arrive));
    }

pub returns-clause-follows : goal.returns-clause-follows
returns-clause-follows g c arrived farewells m h k fits =
    let inv = c.loop-r.invariant in
    let last : c.loop-r.r ≡ length c.args.to.now = omega (arith, c.loop-r-test.false, c.loop-r.auto.r-end) in
    rw (inv.queue, inv.rooms, inv.tick)
    (ticked-is (inside c.self.view_is k) c.args.to.now arrived farewells c.loop-r.self-inside.robots c.loop-r.self-inside.clients fits
    (subst (λ n. AreStepped c.args.to.now n c.self.inside.robots c.loop-r.self-inside.robots) last inv.steps)
    (subst (λ n. AreArrived c.self.inside.robots.queues c.args.to.now n c.self.inside.clients c.loop-r.self-inside.clients) last inv.arrive))
