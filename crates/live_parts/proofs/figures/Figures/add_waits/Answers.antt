-- One figure after another.
use Rattle.std.proofs.Common.{◌∙◌, codes, string_bytes, unwrap_or, ap, ◌++◌, ℕ}
use Rattle.std.proofs.lemmas.Result.{on_ok_weaker}
use Rattle.fleet_text.proofs.RunLines.{on}
use Rattle.live_parts.specs.Figures.{gauge, limit_text}
use Rattle.live_parts.proofs.figures.Figures.add_waits.Goals as goal

pub returns : goal.returns
returns c =
    on_ok_weaker c.add_limit.result
    (on (string_bytes c.args.text.now)
    (gauge (codes "fleet_wait_ticks") (codes "How long the robot has waited that has waited longest; 0 if none has an errand.") (unwrap_or c.args.self.now.waits.longest 0))
    (limit_text c.args.self.now.waits.limit) _ _
    (c.in_ok-add_gauge.ensures
    ∙ ap (λ (n : ℕ). string_bytes c.args.text.now ++ gauge (codes "fleet_wait_ticks") (codes "How long the robot has waited that has waited longest; 0 if none has an errand.") n) c.unwrap_or.ensures))
    c.add_limit.ensures
