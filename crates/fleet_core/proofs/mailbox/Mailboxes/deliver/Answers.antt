use Rattle.std.proofs.Common.{◌==◌, List, take, arith, refl, subst, get_or}
use Rattle.std.proofs.lemmas.List.{length-take, take_all}
use Rattle.std.proofs.lemmas.List.Sums.{count_by-le-length}
use Rattle.fleet_history.specs.declared.history.Arrival.{Arrival}
use Rattle.fleet_core.specs.inside.Mailboxes.{box_at, AreDelivered}
use Rattle.fleet_core.proofs.Deliveries.{delivered-more, room-here, nobody}
use Rattle.std.specs.Prelude.{slice_index}
use Rattle.fleet_core.proofs.mailbox.Mailboxes.deliver.Goals as goal

pub push-requires-clause-room : goal.push-requires-clause-room
push-requires-clause-room g c =
    let i = (get_or c.args.arrived.now c.loop-a.a-index nobody).client in
    let known = c.requires.known c.loop-a.a-index nobody (omega (arith, c.loop-a-test.true)) in
    room-here c.args.arrived.now c.loop-a.a-index nobody (box_at c.loop-a.self.boxes i) (box_at c.args.self.now.boxes i) c.args.to.now c.args.tick (slice_index c.args.self.now.noticed i) i (omega (arith, c.loop-a-test.true)) refl
    (c.loop-a.invariant.boxes i known) (c.requires.room i known)

pub loop-a-preserved : goal.loop-a-preserved
loop-a-preserved g c =
    rw c.push.ensures
    (delivered-more c.args.arrived.now c.loop-a.a-index c.args.to.now c.args.tick c.next_number.result c.args.self.now c.loop-a.self c.loop-a.invariant (omega (arith, c.loop-a-test.true))
    (c.requires.known c.loop-a.a-index nobody (omega (arith, c.loop-a-test.true))) c.next_number.ensures.one_each c.next_number.ensures.next)

pub next_number-requires : goal.next_number-requires
next_number-requires g c =
    let i = (get_or c.args.arrived.now c.loop-a.a-index nobody).client in
    let known = c.requires.known c.loop-a.a-index nobody (omega (arith, c.loop-a-test.true)) in
    let few = count_by-le-length (λ a. a.client == i) (take c.loop-a.a-index c.args.arrived.now) in
    let part = length-take c.loop-a.a-index c.args.arrived.now in
    record {
      known = omega (arith, known, c.loop-a.invariant.count);
      small = omega (arith, c.loop-a.invariant.noticed i known, c.requires.small i known, few, part, c.loop-a-test.true);
    }

pub push-requires-clause-known : goal.push-requires-clause-known
push-requires-clause-known g c =
    let known = c.requires.known c.loop-a.a-index nobody (omega (arith, c.loop-a-test.true)) in
    omega (arith, known, c.loop-a.invariant.count)

pub push-requires-clause-small : goal.push-requires-clause-small
push-requires-clause-small g c =
    let i = (get_or c.args.arrived.now c.loop-a.a-index nobody).client in
    let known = c.requires.known c.loop-a.a-index nobody (omega (arith, c.loop-a-test.true)) in
    let few = count_by-le-length (λ a. a.client == i) (take c.loop-a.a-index c.args.arrived.now) in
    let part = length-take c.loop-a.a-index c.args.arrived.now in
    omega (arith, c.loop-a.invariant.noticed i known, c.requires.small i known, few, part, c.loop-a-test.true)

pub bounds-to-a : goal.bounds-to-a
bounds-to-a g c = c.requires.on_map c.loop-a.a-index nobody (omega (arith, c.loop-a-test.true))

pub returns : goal.returns
returns g c = subst (λ (arrived : List Arrival). AreDelivered arrived c.args.to.now c.args.tick c.args.self.now c.loop-a.self) (take_all c.loop-a.a-index c.args.arrived.now c.loop-a-test.false) c.loop-a.invariant
