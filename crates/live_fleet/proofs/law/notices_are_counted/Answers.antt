-- What was told, and what waits, is what waited before, and what was made since.
use Rattle.std.proofs.Common.{refl}
use Rattle.live_fleet.specs.Law.{clients_in, notices_told}
use Rattle.live_fleet.proofs.Kept.{counted-begins, counted-on, kept-by}
use Rattle.live_fleet.proofs.Once.{runs-once}
use Rattle.live_fleet.proofs.Plays.{plays-right, plays-run}
use Rattle.live_fleet.proofs.law.notices_are_counted.Goals as goal

pub returns : goal.returns
returns c = record {
  counted = λ s t events acts plays client known recalled inside before.
      let rights = plays-right (clients_in s.speakers) refl plays in
      let run = plays-run plays in
      let adds = runs-once (clients_in s.speakers) client s.at.fleet.talk acts t.at.fleet.talk known rights.right run.runs in
      counted-on client s.at.fleet t.at.fleet (notices_told client acts) adds.fresh inside adds.once adds.numbers (kept-by client acts s.at.fleet.recalls t.at.fleet.recalls run.recalls recalled) before;
  begins = λ f r client none quiet inside begun. counted-begins client f r none quiet inside begun;
}
