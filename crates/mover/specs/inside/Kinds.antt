-- What a planner of either kind is seen as.
use Rattle.std.specs.Prelude.{None}
use Rattle.mover.specs.Moving.{Mover}
use Rattle.mover.specs.inside.Turning.{moved}
use Rattle.mover.specs.declared.mover.Kind.{Kind}
use Rattle.mover.specs.declared.mover.Kind.TheVariants as kind

abbrev pub seen : {A : Type 0} → Kind A → Mover
seen (kind.Plain p) = record { planner = p; turns = None }
seen (kind.Turns f) = moved f
