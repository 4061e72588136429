-- What is told has the numbers after those that were told before.
use Rattle.std.proofs.Common.{refl}
use Rattle.live_fleet.specs.Law.{clients_in, notices_told}
use Rattle.live_fleet.proofs.InTime.{begins-in-time, in-time}
use Rattle.live_fleet.proofs.Kept.{kept-by}
use Rattle.live_fleet.proofs.Once.{runs-once}
use Rattle.live_fleet.proofs.Plays.{plays-right, plays-run}
use Rattle.live_fleet.proofs.law.first_notices_are_in_time.Goals as goal

pub returns : goal.returns
returns c = record {
  stays = λ s t events acts plays client known recalled inside before was.
      let rights = plays-right (clients_in s.speakers) refl plays in
      let run = plays-run plays in
      let adds = runs-once (clients_in s.speakers) client s.at.fleet.talk acts t.at.fleet.talk known rights.right run.runs in
      in-time client s.at.fleet t.at.fleet (notices_told client acts) adds.fresh inside adds.once adds.numbers (kept-by client acts s.at.fleet.recalls t.at.fleet.recalls run.recalls recalled) before was;
  begins = λ h r t client inside begun low. begins-in-time h r t client inside begun low;
}
