use Rattle.std.proofs.Common.{rules, refl, Ok, Err, ap}
use Rattle.fleet_grid.specs.Floor.{floor_of_map}
use Rattle.fleet_world.specs.declared.faults.RunFault.{RunFault}
use Rattle.fleet_world.specs.Answers.{events_in, replies_in}
use Rattle.fleet_map.specs.Grammar.{view}
use Rattle.fleet_core.specs.Hooks.{laws_of}
use Rattle.fleet_text.specs.Kit.{kit_laws}
use Rattle.errands_lib.specs.Answer.{IsScriptOutcome}
use Rattle.fleet_script.specs.Runs.{runs_plan, unrolled}
use Rattle.errands_lib.proofs.Outcomes.{said_is, played_is, none_refused, refused_is}
use Rattle.fleet_text.proofs.Kits.{first_laws, chosen_is}
use Rattle.errands_lib.proofs.texts.run_script.Goals as goal

pub returns-in-Ok : goal.returns-in-Ok
returns-in-Ok g c =
    let plan = runs_plan c.args.script in
    let m = floor_of_map (view c.args.map) in
    let laws = laws_of c.cut-hooks.result in
    let answers = c.in-Ok.played.answers.items in
    said_is (IsScriptOutcome (kit_laws c.args.kit) c.args.trace m plan) c.ended_text.result _ c.ended_text.ensures
    (played_is (kit_laws c.args.kit) laws m c.in_ok-grid.grid plan c.args.trace (unrolled c.deref.result.now) (events_in answers) (replies_in answers) c.in-Ok.played.world.core c.in_ok-grid.ensures (ap unrolled c.deref.ensures.value) c.in-Ok.ensures.events (chosen_is (kit_laws c.args.kit) plan (laws_of c.choose.result) c.len.result _ _ _ c.choose.ensures (search rules)
    (first_laws (λ x. x.law) c.len.result c.choose.result.ties.items c.cut-hooks.result.ties.items c.cut-hooks.ensures.ties)
    (first_laws (λ x. x.law) c.len.result c.choose.result.arrivals.items c.cut-hooks.result.arrivals.items c.cut-hooks.ensures.arrivals)
    (first_laws (λ x. x.law) c.len.result c.choose.result.farewells.items c.cut-hooks.result.farewells.items c.cut-hooks.ensures.farewells)) (none_refused c.in_ok-grid.grid plan.starts plan.clients plan.limits laws (Ok c.in-Ok.played) c.in-Ok.played refl (λ f named. c.in-Ok.ensures.refused f named)) c.in-Ok.ensures.played)

pub returns : goal.returns
returns g c = refused_is (kit_laws c.args.kit) (laws_of c.cut-hooks.result) c.unplayed.result (floor_of_map (view c.args.map)) c.in_ok-grid.grid (runs_plan c.args.script) c.args.trace c.in-Err.fault c.in_ok-grid.ensures (chosen_is (kit_laws c.args.kit) (runs_plan c.args.script) (laws_of c.choose.result) c.len.result _ _ _ c.choose.ensures (search rules)
    (first_laws (λ x. x.law) c.len.result c.choose.result.ties.items c.cut-hooks.result.ties.items c.cut-hooks.ensures.ties)
    (first_laws (λ x. x.law) c.len.result c.choose.result.arrivals.items c.cut-hooks.result.arrivals.items c.cut-hooks.ensures.arrivals)
    (first_laws (λ x. x.law) c.len.result c.choose.result.farewells.items c.cut-hooks.result.farewells.items c.cut-hooks.ensures.farewells))
    (λ f named is. (c.in-Err.ensures.refused f named).0 (ap (λ (x : RunFault). Err x) is)) c.unplayed.ensures
