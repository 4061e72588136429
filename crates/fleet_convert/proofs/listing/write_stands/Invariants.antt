use Rattle.std.proofs.Common.{◌≡◌, ◌++◌, drop, string_bytes}
use Rattle.fleet_convert.specs.Listing.{stands_from}
use Rattle.fleet_convert.proofs.listing.write_stands.Given as goal

abbrev pub invariant-loop-time : goal.invariant-loop-time
invariant-loop-time l = string_bytes l.out ++ stands_from l.listing l.width l.robot l.time (drop l.time l.places) ≡ string_bytes l.fn.out ++ stands_from l.listing l.width l.robot 0 l.places
