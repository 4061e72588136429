-- The text of the conversation is gone.
use Rattle.std.proofs.Common.{ℕ, Vec, Global}
use Rattle.live_fleet.proofs.Texts.{emptied-at}
use Rattle.live_fleet.proofs.outboxes.Outboxes.take_text.Goals as goal

pub returns-clause-texts : goal.returns-clause-texts
returns-clause-texts c = emptied-at (λ (t : Vec ℕ Global). t.items) c.args.self.now.texts.items c.args.to c.clear.new.self c.clear.ensures.items
