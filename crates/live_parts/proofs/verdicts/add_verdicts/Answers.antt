-- The head of the verdicts, and their lines.
use Rattle.std.proofs.Common.{codes, flat_map, string_bytes}
use Rattle.std.proofs.lemmas.Result.{on_ok_weaker}
use Rattle.fleet_text.proofs.RunLines.{on}
use Rattle.live_parts.specs.Figures.{all_verdicts, kind_line}
use Rattle.live_parts.proofs.verdicts.add_verdicts.Goals as goal

pub returns : goal.returns
returns c =
    on_ok_weaker c.add_kinds.result
    (on (string_bytes c.args.text.now) (codes "# HELP fleet_verdicts_total Verdicts told.\n# TYPE fleet_verdicts_total counter\n") (flat_map (kind_line c.args.notices.now) all_verdicts) _ _
    c.in_ok-push_str.ensures.bytes)
    c.add_kinds.ensures
