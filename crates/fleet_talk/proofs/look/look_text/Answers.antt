-- What the line has is what was read of the world.
use Rattle.std.proofs.Common.{◌∙◌, ◌<◌, ap, arith, length}
use Rattle.std.proofs.lemmas.Result.{IfOk-weaker}
use Rattle.fleet_history.proofs.Legal.{length-place}
use Rattle.fleet_talk.proofs.Looks.{at-eldest, same_line}
use Rattle.fleet_talk.proofs.look.look_text.Goals as goal

pub returns : goal.returns
returns g c =
    IfOk-weaker c.look_line.result _ _
    (λ text is. record {
      eldest = c.eldest-eldest.result;
      oldest = c.eldest-eldest.ensures;
      within = c.in_ok-known.known.within;
      blocked = c.in_ok-known.known.blocked;
      plain = c.in_ok-known.ensures.plain;
      turns = c.in_ok-known.ensures.turns;
      is = is ∙ same_line c.eldest-eldest.result c.in_ok-known.known.within c.in_ok-known.known.blocked c.clock.ensures c.chapter-chapter.ensures.number
          (c.len.ensures ∙ (c.chapter-chapter.result.now.entries.ok.0 ∙ ap (λ h. length h.entries) c.chapter-chapter.ensures.history)) c.placement.ensures;
    }) c.look_line.ensures

pub foreseen-requires-clause-known : goal.foreseen-requires-clause-known
foreseen-requires-clause-known g c e is = at-eldest c.args.world.now.core.history c.eldest-eldest.result e c.eldest-eldest.ensures is

pub foreseen-requires-clause-there : goal.foreseen-requires-clause-there
foreseen-requires-clause-there g c e is =
    omega (arith, at-eldest c.args.world.now.core.history c.eldest-eldest.result e c.eldest-eldest.ensures is, length-place c.args.world.now.core.floor c.args.world.now.core.history c.chapter-chapter.ensures.legal)
