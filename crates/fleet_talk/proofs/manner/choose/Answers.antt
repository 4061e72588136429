-- The manner is chosen, or there are no turns.
use Rattle.std.proofs.Common.{ap, refl}
use Rattle.std.proofs.lemmas.Result.{on_ok_weaker}
use Rattle.fleet_talk.proofs.Manners.{same-in-turns, taken-in-turns, taken-plainly}
use Rattle.fleet_talk.proofs.manner.choose.Goals as goal

pub returns-in-Plain-clause-taken : goal.returns-in-Plain-clause-taken
returns-in-Plain-clause-taken g c = taken-plainly c.args.manner c.args.session.now.world.core c.in-Plain.is c.requires

pub returns-in-Plain-clause-same : goal.returns-in-Plain-clause-same
returns-in-Plain-clause-same g c = refl

pub returns-in-Turns-clause-taken : goal.returns-in-Turns-clause-taken
returns-in-Turns-clause-taken g c = on_ok_weaker c.take_turns.result (λ taken. taken-in-turns c.args.manner c.args.session.now.world.core c.take_turns.new.self.world.core c.in-Turns.is taken) c.take_turns.ensures.taken

pub returns-in-Turns-clause-same : goal.returns-in-Turns-clause-same
returns-in-Turns-clause-same g c =
    on_ok_weaker c.take_turns.result (λ taken. same-in-turns c.args.session.now.world.core c.take_turns.new.self.world.core c.args.session.now.waiting.items c.take_turns.new.self.waiting.items (ap (λ waiting. waiting.items) c.take_turns.ensures.waiting) taken) c.take_turns.ensures.taken
