-- One change more is made.
use Rattle.std.proofs.Common.{◌≡◌, ◌++◌, ◌+◌, refl, subst, sym, take}
use Rattle.fleet_refit.proofs.Made.{Made, made-nothing, made-more}
use Rattle.fleet_refit.proofs.site.Site.make_all.Goals as goal

pub loop-place-init : goal.loop-place-init
loop-place-init g c = made-nothing c.args.self.now c.args.dropped.now.items

pub loop-place-preserved : goal.loop-place-preserved
loop-place-preserved g c =
    let (can, last, is, listed) = c.in-Ok.ensures.made in
    subst (λ d. Made c.args.self.now (take (c.loop-place.place + 1) c.args.changes.now) c.change.new.self c.args.dropped.now.items d) (sym listed)
    (made-more c.args.self.now c.loop-place.self c.change.new.self c.args.changes.now c.args.dropped.now.items c.loop-place.dropped.items last c.loop-place.place _ c.loop-place.invariant
    c.loop-place-test.true can is)
