-- The closures that are chosen have the laws that are chosen.
use Rattle.std.proofs.Common.{◌∙◌, Bool, length, ap}
use Rattle.std.specs.Prelude.{if◌then◌else◌, unwrap_or}
use Rattle.fleet_text.specs.Kit.{kit_laws}
use Rattle.fleet_text.proofs.Kits.{first_laws}
use Rattle.fleet_core.specs.Hooks.{laws_of}
use Rattle.fleet_talk.specs.Resumed.{has_stamps}
use Rattle.fleet_talk.proofs.Resumptions.{cut-is}
use Rattle.fleet_talk.proofs.resuming.hooks_after.Goals as goal

pub returns : goal.returns
returns g c =
    let kit = kit_laws c.args.kit in
    let south = c.unwrap_or-south.ensures ∙ ap (λ (b : Bool). unwrap_or c.args.head.now.south b) c.has_stamps.ensures in
    cut-is (if unwrap_or c.args.head.now.south (has_stamps c.args.opening.now) then kit.south else kit.plain) (laws_of c.choose.result) c.len.result (length c.args.opening.now.robots) _ _ _
    (c.choose.ensures ∙ ap (λ (b : Bool). if b then kit.south else kit.plain) south) c.len.ensures
    (first_laws (λ x. x.law) c.len.result c.choose.result.ties.items c.cut.result.ties.items c.cut.ensures.ties)
    (first_laws (λ x. x.law) c.len.result c.choose.result.arrivals.items c.cut.result.arrivals.items c.cut.ensures.arrivals)
    (first_laws (λ x. x.law) c.len.result c.choose.result.farewells.items c.cut.result.farewells.items c.cut.ensures.farewells)
