-- One conversation less each time.
use Rattle.std.proofs.Common.{length}
use Rattle.fleet_live.proofs.handing.+hand_texts.Given as goal

abbrev pub decreases-hand_texts : goal.decreases-hand_texts
decreases-hand_texts g l = length l.texts.now
