-- All was told, judged, and told.
use Rattle.std.proofs.lemmas.Result.{on_ok_weaker}
use Rattle.live_fleet.specs.Taking.{Takes}
use Rattle.live_fleet.specs.Telling.{TellsAll}
use Rattle.live_fleet.specs.Went.{Both, at_of}
use Rattle.live_fleet.proofs.Parts.{both}
use Rattle.live_fleet.proofs.turning.settle.Goals as goal

pub returns-clause-ok : goal.returns-clause-ok
returns-clause-ok g c =
    let who = c.args.speakers.now in
    let count = c.args.clients in
    let start = at_of c.args.fleet.now c.args.out.now in
    let told = at_of c.tell_all.new.fleet c.tell_all.new.out in
    let taken = at_of c.take_all.new.fleet c.take_all.new.out in
    let end = at_of c.tell_all-2.new.fleet c.tell_all-2.new.out in
    on_ok_weaker c.tell_all-2.result
    (λ last. both (TellsAll who) (Both (Takes count) (TellsAll who)) start told end c.in_ok-tell_all.ensures.ok (both (Takes count) (TellsAll who) told taken end c.in_ok-take_all.ensures.ok last))
    c.tell_all-2.ensures.ok
