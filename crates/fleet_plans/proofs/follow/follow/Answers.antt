-- The robots have followed the longest path to its end.
use Rattle.fleet_plans.specs.Paths.{AreFollowed}
use Rattle.fleet_plans.specs.inside.Follow.{AreTaken}
use Rattle.fleet_plans.specs.inside.Given.{IsGiven}
use Rattle.fleet_plans.proofs.Givings.{if_ok_then}
use Rattle.fleet_plans.proofs.Follows.{followed}
use Rattle.fleet_plans.proofs.follow.follow.Goals as goal

pub returns : goal.returns
returns g c =
    let m = c.args.judge.now.floor in
    let paths = c.args.paths.now in
    let judge = c.take_times.new.judge in
    if_ok_then c.take_times.result (λ _. AreTaken m paths c.max-times.result judge) (λ _. IsGiven m (AreFollowed paths) judge)
    (λ _ taken. followed m paths c.max-times.result c.longest.result judge taken c.longest.ensures c.max-times.ensures) c.take_times.ensures
