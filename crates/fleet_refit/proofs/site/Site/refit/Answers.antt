-- What changes come to, or why they were not made.
use Rattle.std.proofs.Common.{◌∙◌}
use Rattle.std.proofs.lemmas.Result.{IfOk-weaker, IfErr-weaker}
use Rattle.fleet_refit.proofs.Chained.{reached-safe}
use Rattle.fleet_refit.proofs.Opened.{refit-opened}
use Rattle.fleet_refit.proofs.Refitted.{reached, refitted, same-map, unopened}
use Rattle.fleet_refit.proofs.site.Site.refit.Goals as goal

pub returns-clause-done : goal.returns-clause-done
returns-clause-done g c =
    let (gone, are, first) = c.in_ok-site.ensures.made in
    let (seats, last, settled, is, second) = c.in-Ok.ensures.settled in
    let on = reached c.args.self.now c.in_ok-site.site c.settled.new.self c.args.changes.now c.in-Ok.grid seats c.new-dropped.result.items c.changed.new.dropped.items c.settled.new.dropped.items gone last are
    c.new-dropped.ensures.items first c.in-Ok.ensures.grid settled is second in
    IfOk-weaker c.handed.result _ _
    (λ r e. refitted c.args.self.now c.settled.new.self c.args.changes.now c.in-Ok.grid c.settled.new.dropped.items r on
    (c.in-Ok.ensures.grid ∙ same-map c.args.self.now c.settled.new.self c.args.changes.now c.settled.new.dropped.items on.changed on.seats on.last on.is on.settled) e) c.handed.ensures.handed

pub returns-clause-accounted : goal.returns-clause-accounted
returns-clause-accounted g c = IfOk-weaker c.handed.result _ _ (λ r e. (reached-safe c.args.self.now r.site c.args.changes.now r.dropped.items e.reached).accounted) (returns-clause-done g c)

pub returns-clause-in_order : goal.returns-clause-in_order
returns-clause-in_order g c = IfOk-weaker c.handed.result _ _ (λ r e. (reached-safe c.args.self.now r.site c.args.changes.now r.dropped.items e.reached).in_order) (returns-clause-done g c)

pub returns-clause-opening : goal.returns-clause-opening
returns-clause-opening g c = IfOk-weaker c.handed.result _ _ (λ r e. refit-opened c.args.self.now c.args.changes.now r e) (returns-clause-done g c)

pub returns-clause-refused : goal.returns-clause-refused
returns-clause-refused g c =
    let (gone, are, first) = c.in_ok-site.ensures.made in
    let (seats, last, settled, is, second) = c.in-Ok.ensures.settled in
    let on = reached c.args.self.now c.in_ok-site.site c.settled.new.self c.args.changes.now c.in-Ok.grid seats c.new-dropped.result.items c.changed.new.dropped.items c.settled.new.dropped.items gone last are
    c.new-dropped.ensures.items first c.in-Ok.ensures.grid settled is second in
    IfErr-weaker c.handed.result _ _ (λ why e. unopened c.args.self.now c.settled.new.self c.args.changes.now c.settled.new.dropped.items why on e) c.handed.ensures.refused
