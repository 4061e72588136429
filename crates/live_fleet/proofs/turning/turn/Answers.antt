-- All was told, judged, moved, and told.
use Rattle.fleet_book.specs.declared.event.Event.TheVariants.{Tick}
use Rattle.live_fleet.specs.Stepping.{StepsOn}
use Rattle.live_fleet.specs.Taking.{Takes}
use Rattle.live_fleet.specs.Telling.{TellsAll}
use Rattle.live_fleet.specs.Went.{Both, at_of}
use Rattle.live_fleet.proofs.Parts.{both}
use Rattle.live_fleet.proofs.turning.turn.Goals as goal

pub returns-clause-ok : goal.returns-clause-ok
returns-clause-ok g c =
    let who = c.args.speakers.now in
    let count = c.args.clients in
    let reply = c.in_ok-reply.reply in
    let start = at_of c.args.fleet.now c.args.out.now in
    let told = at_of c.tell_all.new.fleet c.tell_all.new.out in
    let taken = at_of c.take_all.new.fleet c.take_all.new.out in
    let moved = at_of c.step_on.new.fleet c.step_on.new.out in
    let end = at_of c.tell_all-2.new.fleet c.tell_all-2.new.out in
    both (TellsAll who) (Both (Takes count) (Both (StepsOn Tick reply) (TellsAll who))) start told end c.in_ok-tell_all.ensures.ok
    (both (Takes count) (Both (StepsOn Tick reply) (TellsAll who)) told taken end c.in_ok-take_all.ensures.ok
    (both (StepsOn Tick reply) (TellsAll who) taken moved end c.in_ok-reply.ensures.ok c.in_ok-tell_all-2.ensures.ok))
