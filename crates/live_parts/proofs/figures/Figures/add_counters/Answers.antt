-- One figure after another.
use Rattle.std.proofs.Common.{codes, string_bytes}
use Rattle.std.proofs.lemmas.Result.{on_ok_weaker}
use Rattle.live_parts.specs.Figures.{counter}
use Rattle.live_parts.proofs.Figuring.{five}
use Rattle.live_parts.proofs.figures.Figures.add_counters.Goals as goal

pub returns : goal.returns
returns c =
    on_ok_weaker c.add_counter-5.result
    (five (counter (codes "fleet_ticks_total") (codes "Ticks made.") c.args.self.now.tally.ticks)
    (counter (codes "fleet_orders_total") (codes "Orders judged.") c.args.self.now.tally.orders)
    (counter (codes "fleet_turns_late_total") (codes "Turns that began a period or more after their deadline.") c.args.self.now.tally.late)
    (counter (codes "fleet_arrivals_total") (codes "Arrivals told.") c.args.self.now.notices.arrived)
    (counter (codes "fleet_chapters_kept_total") (codes "Chapters kept.") c.args.self.now.kept) (string_bytes c.args.text.now) _ _ _ _ _
    c.in_ok-add_counter.ensures c.in_ok-add_counter-2.ensures c.in_ok-add_counter-3.ensures c.in_ok-add_counter-4.ensures)
    c.add_counter-5.ensures
