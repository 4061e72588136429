-- One figure after another.
use Rattle.std.proofs.Common.{codes}
use Rattle.std.proofs.lemmas.Result.{on_ok_weaker}
use Rattle.live_parts.specs.Figures.{counter, period_text}
use Rattle.live_parts.specs.Histogram.{histogram_text}
use Rattle.live_parts.proofs.Figuring.{four}
use Rattle.live_parts.proofs.figures.Figures.add_turns.Goals as goal

pub returns : goal.returns
returns c =
    let f = c.args.self.now in
    on_ok_weaker c.add_period.result
    (four (counter (codes "fleet_turns_left_out_total") (codes "Deadlines that went by without a turn.") f.timing.left_out)
    (histogram_text (codes "fleet_turn_lateness_seconds") (codes "How long after its deadline a turn began.") f.timing.lateness)
    (histogram_text (codes "fleet_turn_duration_seconds") (codes "How long a turn took, with what was told.") f.timing.turns)
    (period_text f.period) _ _ _ _ _ c.in_ok-add_counter.ensures c.in_ok-add_to.ensures c.in_ok-add_to-2.ensures)
    c.add_period.ensures
