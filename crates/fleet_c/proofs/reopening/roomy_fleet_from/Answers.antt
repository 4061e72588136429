use Rattle.std.proofs.Common.{◌∙◌, ap, subst}
use Rattle.std.specs.Global.{Global}
use Rattle.fleet_grid.specs.Floor.{Floor}
use Rattle.fleet_bridge.specs.Roominess.{AreRoomyFor}
use Rattle.fleet_core.specs.Core.{World}
use Rattle.std.specs.Box.{box_value}
use Rattle.fleet_c.proofs.Refused.{not-roomy, is-roomy, kept-roomily}
use Rattle.fleet_c.proofs.reopening.roomy_fleet_from.Goals as goal

pub returns-then-not-are_roomy-clause-err : goal.returns-then-not-are_roomy-clause-err
returns-then-not-are_roomy-clause-err c =
    let w = c.in_ok-core.core in
    let on = c.in_ok-core.ensures.ok in
    let floor = ap (λ (x : World Global). x.floor) on.goes_on.world in
    let known = subst (λ (m : Floor). AreRoomyFor m c.in-Ok.rooms.most.items) (c.grid.ensures ∙ floor) c.in-Ok.ensures.most in
    (w, on, not-roomy c.args.grid w c.in-Ok.rooms.most.items c.deref.result.now c.are_roomy.result floor known c.deref.ensures.value c.are_roomy.ensures c.if-not-are_roomy.true)

pub returns-clause-ok : goal.returns-clause-ok
returns-clause-ok c =
    let w = c.in_ok-core.core in
    let on = c.in_ok-core.ensures.ok in
    let floor = ap (λ (x : World Global). x.floor) on.goes_on.world in
    let known = subst (λ (m : Floor). AreRoomyFor m c.in-Ok.rooms.most.items) (c.grid.ensures ∙ floor) c.in-Ok.ensures.most in
    let roomy = is-roomy c.args.grid w c.in-Ok.rooms.most.items c.deref.result.now c.are_roomy.result floor known c.deref.ensures.value c.are_roomy.ensures c.if-not-are_roomy.false in
    kept-roomily c.args.grid c.args.text.now c.args.robots.now c.args.setup.now w (box_value c.in_ok-boxed.field-0).core c.robots_of.result c.grid.result.now
    c.in-Ok.rooms.refused.marks.items (box_value c.in_ok-boxed.field-0).refused.marks.items c.in_ok-boxed.ensures.0 (ap (λ x. x.marks.items) c.in_ok-boxed.ensures.1)
    on roomy c.grid.ensures c.robots_of.ensures c.in-Ok.ensures.refused
