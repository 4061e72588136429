use Rattle.std.proofs.Common.{◌≡◌, ◌++◌, drop, string_bytes}
use Rattle.fleet_plans.specs.Valid.{place_at}
use Rattle.fleet_convert.specs.Listing.{paths_text}
use Rattle.fleet_convert.proofs.listing.write_paths.Given as goal

abbrev pub invariant-loop-robot : goal.invariant-loop-robot
invariant-loop-robot l = string_bytes l.out ++ paths_text l.listing l.width l.places l.robot (drop l.robot (place_at l.places 0)) ≡ string_bytes l.fn.out ++ paths_text l.listing l.width l.places 0 (place_at l.places 0)
