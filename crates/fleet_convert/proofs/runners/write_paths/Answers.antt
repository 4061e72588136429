-- One more robot's path.
use Rattle.std.proofs.Common.{◌<◌, ℕ, List, ◌++◌, length, string_bytes, codes, refl, subst}
use Rattle.fleet_plans.specs.Valid.{place_at}
use Rattle.fleet_convert.specs.Moves.{steps_of}
use Rattle.fleet_convert.specs.Runners.{comma_before, path_from, paths_from}
use Rattle.fleet_convert.proofs.Pieces.{next_path}
use Rattle.fleet_convert.proofs.runners.write_paths.Goals as goal

pub loop-robot-preserved : goal.loop-robot-preserved
loop-robot-preserved c =
    let w = c.args.width in
    let places = c.args.places.now in
    let r = c.loop-robot.robot in
    let starts = place_at places 0 in
    let less : r < length starts = subst (λ (l : List ℕ). r < length l) c.at-robot-end.ensures c.loop-robot-test.true in
    next_path w r places starts (string_bytes c.loop-robot.out) (string_bytes c.write_quoted.new.out) (string_bytes c.args.out.now ++ paths_from w places 0 starts)
    (comma_before r ++ codes "\"" ++ path_from 0 (steps_of w r places) ++ codes "\"") less refl c.in_ok-write_quoted.ensures c.loop-robot.invariant
