use Rattle.std.proofs.Common.{◌≡◌, ◌≤◌, length, map, take, vec_len, vec_capacity}
use Rattle.std.specs.Prelude.{All}
use Rattle.fleet_hooks.specs.Law.{IsStampLaw}
use Rattle.fleet_core.proofs.hook_laws.farewell_laws.Given as goal

abbrev pub invariant-loop-hook : goal.invariant-loop-hook
invariant-loop-hook g l = record {
  laws : l.laws.items ≡ map (λ h. h.law) (take l.hook-index l.hooks);
  orderly : All IsStampLaw l.laws.items;
  len : vec_len l.laws ≡ l.hook-index;
  room : length l.hooks ≤ vec_capacity l.laws;
}
