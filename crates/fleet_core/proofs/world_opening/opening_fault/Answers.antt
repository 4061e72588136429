-- Why an opening is refused for its hooks, and that it is not.
use Rattle.std.proofs.lemmas.Bool.{both_ways}
use Rattle.std.proofs.Common.{ℕ, List}
use Rattle.fleet_grid.specs.Floor.{Floor}
use Rattle.fleet_book.specs.declared.limits.Limits.{Limits}
use Rattle.fleet_core.specs.declared.faults.OpenFault.{OpenFault}
use Rattle.fleet_core.specs.declared.faults.OpenFault.TheVariants as fault
use Rattle.fleet_core.specs.Hooks.{HookLaws, laws_of}
use Rattle.fleet_core.specs.OpeningFaults.{IsRefused, IsStartRefused}
use Rattle.fleet_core.proofs.world_opening.opening_fault.Goals as goal

refused : (m : Floor) (starts : List ℕ) (clients : ℕ) (limits : Limits) (laws : HookLaws) (f : OpenFault) → IsStartRefused m starts clients limits f → IsRefused m starts clients limits laws f
refused m starts clients limits laws fault.Limits is = is
refused m starts clients limits laws fault.NoRobots is = is
refused m starts clients limits laws (fault.Start r) is = is
refused m starts clients limits laws (fault.Shared i j) is = is
refused m starts clients limits laws fault.Hooks is = elim is [ ]
refused m starts clients limits laws fault.NoMemory is = elim is [ ]

pub returns-in-Some : goal.returns-in-Some
returns-in-Some g c = refused c.args.grid.now c.args.starts.now c.args.clients c.args.limits (laws_of c.args.hooks.now) c.in-Some.fault c.in-Some.ensures

pub returns-then-not-are_enough : goal.returns-then-not-are_enough
returns-then-not-are_enough g c = (
  c.in_default.ensures.range,
  c.in_default.ensures.robots,
  c.in_default.ensures.placed,
  λ e. both_ways c.are_enough.result c.if-not-are_enough.true (c.are_enough.ensures.1 e),
)

pub returns : goal.returns
returns g c = record {
  range = c.in_default.ensures.range;
  robots = c.in_default.ensures.robots;
  placed = c.in_default.ensures.placed;
  hooks = c.are_enough.ensures.0 c.if-not-are_enough.false;
}
