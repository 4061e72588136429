-- What is said of a script that is served on a grid.
use Rattle.std.proofs.Common.{rules, ◌≡◌, refl}
use Rattle.fleet_history.specs.History.{history_of}
use Rattle.fleet_core.specs.Hooks.{laws_of}
use Rattle.fleet_script.specs.Shown.{plan}
use Rattle.fleet_text.specs.Kit.{kit_laws, chosen_laws}
use Rattle.fleet_text.proofs.Kits.{first_laws, chosen_is}
use Rattle.errands_lib.proofs.Services.{served_is, unserved_is}
use Rattle.errands_lib.proofs.service.serve_on.Goals as goal

pub returns-in-Ok : goal.returns-in-Ok
returns-in-Ok g c =
    let laws = laws_of c.cut-hooks.result in
    let script = plan c.args.script.now in
    let chosen : laws ≡ chosen_laws (kit_laws c.args.kit) script = chosen_is (kit_laws c.args.kit) script (laws_of c.choose.result) c.len.result _ _ _ c.choose.ensures (search rules)
    (first_laws (λ x. x.law) c.len.result c.choose.result.ties.items c.cut-hooks.result.ties.items c.cut-hooks.ensures.ties)
    (first_laws (λ x. x.law) c.len.result c.choose.result.arrivals.items c.cut-hooks.result.arrivals.items c.cut-hooks.ensures.arrivals)
    (first_laws (λ x. x.law) c.len.result c.choose.result.farewells.items c.cut-hooks.result.farewells.items c.cut-hooks.ensures.farewells) in
    let last = c.in-Ok.served.last in
    let e = c.in-Ok.ensures in
    served_is (kit_laws c.args.kit) laws c.args.grid c.args.grid script refl chosen c.served_text.result c.in-Ok.served c.args.judged.now last.grid
    last.chapter.number c.in-Ok.served.lane_full (history_of last.chapter) c.requires.same c.in-Ok.ensures.first
    (record {
      floor = e.floor;
      opening = e.opening;
      planned = e.planned;
      advancing = e.advancing;
      bounded = e.bounded;
      counted = e.counted;
    })
    c.in-Ok.ensures.opens
    c.in-Ok.ensures.posted c.in-Ok.ensures.all c.served_text.ensures.legal c.served_text.ensures.said

pub returns-in-Err : goal.returns-in-Err
returns-in-Err g c =
    let laws = laws_of c.cut-hooks.result in
    let script = plan c.args.script.now in
    let chosen : laws ≡ chosen_laws (kit_laws c.args.kit) script = chosen_is (kit_laws c.args.kit) script (laws_of c.choose.result) c.len.result _ _ _ c.choose.ensures (search rules)
    (first_laws (λ x. x.law) c.len.result c.choose.result.ties.items c.cut-hooks.result.ties.items c.cut-hooks.ensures.ties)
    (first_laws (λ x. x.law) c.len.result c.choose.result.arrivals.items c.cut-hooks.result.arrivals.items c.cut-hooks.ensures.arrivals)
    (first_laws (λ x. x.law) c.len.result c.choose.result.farewells.items c.cut-hooks.result.farewells.items c.cut-hooks.ensures.farewells) in
    unserved_is (kit_laws c.args.kit) laws c.args.grid c.args.grid script refl chosen c.unserved_text.result c.in-Err.fault c.in-Err.ensures.refused
    c.in-Err.ensures.opens c.unserved_text.ensures
