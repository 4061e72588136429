use Rattle.std.proofs.Common.{map, take}
use Rattle.fleet_world.specs.Keeps.{talk}
use Rattle.fleet_world.specs.inside.Shown.{Leads}
use Rattle.fleet_world.proofs.play.play.Given as goal

abbrev pub invariant-loop-i : goal.invariant-loop-i
invariant-loop-i g l =
    Leads (talk l.initial.session) (map (λ v. v.items) l.initial.collected.items) (take l.i l.events) l.replies.items (talk l.session) (map (λ v. v.items) l.collected.items)
