-- One figure after another.
use Rattle.std.proofs.Common.{◌∙◌, codes, string_bytes, ap, ◌++◌, ℕ}
use Rattle.std.proofs.lemmas.Result.{on_ok_weaker}
use Rattle.live_parts.specs.Figures.{gauge}
use Rattle.live_parts.specs.Notices.{open_count}
use Rattle.live_parts.proofs.Figuring.{three}
use Rattle.live_parts.proofs.figures.Figures.add_queues.Goals as goal

pub returns : goal.returns
returns c =
    on_ok_weaker c.add_gauge-3.result
    (three
    (gauge (codes "fleet_errands_open") (codes "Errands by a verdict that was told, without an arrival that was told.") (open_count c.args.self.now.before c.args.self.now.notices))
    (gauge (codes "fleet_queued_errands") (codes "Errands in the robots' queues.") c.args.self.now.queues.total)
    (gauge (codes "fleet_queue_longest") (codes "Errands in the longest queue.") c.args.self.now.queues.longest) (string_bytes c.args.text.now) _ _ _
    (c.in_ok-add_gauge.ensures
    ∙ ap (λ (n : ℕ). string_bytes c.args.text.now ++ gauge (codes "fleet_errands_open") (codes "Errands by a verdict that was told, without an arrival that was told.") n) c.open.ensures)
    c.in_ok-add_gauge-2.ensures)
    c.add_gauge-3.ensures
