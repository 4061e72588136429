-- One robot more.
use Rattle.std.proofs.Common.{◌∙◌, ◌++◌, ◌∷◌, [], ap, length, sym}
use Rattle.std.proofs.lemmas.List.{take_all}
use Rattle.fleet_refit.specs.Everyone.{seats_of}
use Rattle.fleet_refit.specs.Site.{seat_of}
use Rattle.fleet_refit.proofs.Apart.{seats-all, seats-length, seats-more}
use Rattle.fleet_refit.proofs.everyone.seats_of.Goals as goal

pub loop-place-preserved : goal.loop-place-preserved
loop-place-preserved g c =
    c.in_ok-push.ensures.items
    ∙ ap (λ z. c.loop-place.seats.items ++ seat_of c.standing_at-standing.result z ∷ []) c.in_ok-robot.ensures
    ∙ seats-more c.loop-place.seats.items c.args.standings.now c.args.robots.now c.loop-place.place c.standing_at-standing.result c.index-robots-place.result
    c.loop-place.invariant c.requires c.loop-place-test.true c.standing_at-standing.ensures c.index-robots-place.is

pub returns-clause-exact : goal.returns-clause-exact
returns-clause-exact g c = c.loop-place.invariant ∙ seats-all c.args.standings.now c.args.robots.now c.loop-place.place c.requires c.loop-place-test.false

pub returns-clause-length : goal.returns-clause-length
returns-clause-length g c = ap length (returns-clause-exact g c) ∙ seats-length c.args.standings.now c.args.robots.now c.requires
