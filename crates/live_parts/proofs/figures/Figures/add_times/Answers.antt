-- The version, and one time after another.
use Rattle.std.proofs.Common.{codes}
use Rattle.std.proofs.lemmas.Result.{on_ok_weaker}
use Rattle.live_parts.specs.Figures.{time_text, version_text}
use Rattle.live_parts.proofs.Figuring.{three}
use Rattle.live_parts.proofs.figures.Figures.add_times.Goals as goal

pub returns : goal.returns
returns c =
    let f = c.args.self.now in
    on_ok_weaker c.add_time-2.result
    (three (version_text f.version.now)
    (time_text (codes "fleet_start_time_seconds") (codes "When the fleet began, since 1970.") f.began_at)
    (time_text (codes "fleet_chapter_kept_time_seconds") (codes "When the last chapter was kept, since 1970; 0 if none was.") f.kept_at) _ _ _ _
    c.in_ok-add_version.ensures c.in_ok-add_time.ensures)
    c.add_time-2.ensures
