-- Ties between ways that lead equally near.
use Rattle.std.specs.Prelude.{ℕ, ◌+◌, ◌*◌, ◌/◌, ◌%◌, ◌^◌, if◌then◌else◌, List, Option, Some, None, codes, bytes_eq}
use Rattle.rand_core.specs.Stream.{next_u64}
use Rattle.rand_core.specs.Steps.{stream_of, steps_u64_high}
use Rattle.rand_xoshiro.specs.SplitMix64.{splitmix_seed}
use Rattle.rand_xoshiro.specs.Xoshiro256.{of_seed, plus_plus}
use Rattle.fleet_grid.specs.Direction.{dir_number}
use Rattle.fleet_hooks.specs.declared.views.TieView.{TieView}
use Rattle.fleet_sim.specs.declared.ties.Ties.{Ties}
use Rattle.fleet_sim.specs.declared.ties.Ties.TheVariants as ties

abbrev pub ties_named : List ℕ → Option Ties
ties_named name = if bytes_eq name (codes "plain") then Some ties.Plain else if bytes_eq name (codes "random") then Some ties.Random else None

-- a number for each seed, tick, robot and direction
abbrev pub tie_seed : ℕ → TieView → ℕ
tie_seed seed view = (seed * 2 ^ 32 + ((view.tick * 512 + view.robot) * 4 + dir_number view.dir)) % 2 ^ 64

-- the highest byte of the first number of xoshiro256++ with that seed
abbrev pub random_rank : ℕ → TieView → ℕ
random_rank seed view = (next_u64 (stream_of (steps_u64_high plus_plus) (of_seed (splitmix_seed 32 (tie_seed seed view))))).0 / 2 ^ 56
