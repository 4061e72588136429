use Rattle.std.proofs.Common.{take}
use Rattle.std.specs.Prelude.{map, string_bytes}
use Rattle.fleet_lib.specs.Names.{AreNumbers, AreReadable}
use Rattle.fleet_lib.proofs.names.numbers_in.Given as goal

abbrev pub invariant-loop-at : goal.invariant-loop-at
invariant-loop-at l = record {
  numbers : AreNumbers (map (λ s. string_bytes s) (take l.at l.names)) l.numbers.items;
  readable : AreReadable (map (λ s. string_bytes s) (take l.at l.names));
}
