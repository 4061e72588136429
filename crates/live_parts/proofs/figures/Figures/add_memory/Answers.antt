-- One figure after another.
use Rattle.std.proofs.Common.{codes, string_bytes}
use Rattle.std.proofs.lemmas.Result.{on_ok_weaker}
use Rattle.fleet_text.proofs.RunLines.{on}
use Rattle.live_parts.specs.Figures.{gauge}
use Rattle.live_parts.proofs.figures.Figures.add_memory.Goals as goal

pub returns : goal.returns
returns c =
    on_ok_weaker c.add_gauge-2.result
    (on (string_bytes c.args.text.now)
    (gauge (codes "fleet_chapters_waiting") (codes "Chapters that could not be kept yet.") c.args.self.now.waiting)
    (gauge (codes "fleet_kept_field_bytes") (codes "Bytes of the distance fields that are kept for later.") c.args.self.now.field_bytes) _ _
    c.in_ok-add_gauge.ensures)
    c.add_gauge-2.ensures
