-- Each part tells its conversation's own clients.
use Rattle.std.proofs.Common.{refl}
use Rattle.live_fleet.specs.Law.{clients_in}
use Rattle.live_fleet.proofs.Plays.{plays-right}
use Rattle.live_fleet.proofs.law.notices_are_told_to_their_own.Goals as goal

pub returns : goal.returns
returns c = λ s t events acts plays. let rights = plays-right (clients_in s.speakers) refl plays in (rights.right, rights.same)
