use Rattle.std.proofs.Common.{◌≡◌, subst, true}
use Rattle.fleet_hooks.specs.Law.{IsStamp}
use Rattle.fleet_hooks.specs.declared.law.StampLaw.{StampLaw}
use Rattle.fleet_trace.proofs.judging.stamps.is_arrival_stamp.Goals as goal

pub returns : goal.returns
returns g c =
    let b = c.is_stamp.result in
    subst (λ (law : StampLaw). (b ≡ true → IsStamp law c.args.stamp) × (IsStamp law c.args.stamp → b ≡ true)) c.arrival_law_of.ensures c.is_stamp.ensures
