-- The event was done, and its text was said.
use Rattle.std.proofs.Common.{◌||◌, refl, ap}
use Rattle.std.proofs.lemmas.Result.{on_ok_weaker}
use Rattle.fleet_world.specs.Keeps.{talk}
use Rattle.fleet_talk.proofs.Keeping.{step-beginning}
use Rattle.fleet_talk.proofs.plays.play.Goals as goal

pub returns-clause-ok : goal.returns-clause-ok
returns-clause-ok g c = on_ok_weaker c.tell.result (λ added. (_, record { reply = c.in_ok-reply.reply; step = c.in_ok-reply.ensures.step; met = ap (λ b. c.args.fleet.now.limited || b) c.is_limit_met.ensures.value; said = refl }, added)) c.tell.ensures.ok

pub returns-clause-same : goal.returns-clause-same
returns-clause-same g c = on_ok_weaker c.tell.result (λ _. step-beginning (talk c.args.fleet.now.session) (talk c.step.new.self) c.args.event c.in_ok-reply.reply c.in_ok-reply.ensures.step) c.tell.ensures.ok
