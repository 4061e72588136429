-- What is said of a world that was not opened.
use Rattle.std.proofs.Common.{ap}
use Rattle.fleet_text.specs.Outcome.{fault}
use Rattle.errands_lib.specs.Answer.{IsUnplayed}
use Rattle.errands_lib.proofs.Outcomes.{said_is}
use Rattle.errands_lib.proofs.texts.unplayed.Goals as goal

pub returns-in_ok-opening_complaint-in-Opening : goal.returns-in_ok-opening_complaint-in-Opening
returns-in_ok-opening_complaint-in-Opening c =
    said_is (IsUnplayed c.args.fault) c.faulty.result _ c.faulty.ensures
    (rw c.in-Opening.is (c.in_ok-opening_complaint-in-Opening.ensures.named, ap fault c.in_ok-opening_complaint-in-Opening.ensures.value))
