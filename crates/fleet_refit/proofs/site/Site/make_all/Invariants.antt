use Rattle.std.proofs.Common.{take}
use Rattle.fleet_refit.proofs.Made.{Made}
use Rattle.fleet_refit.proofs.site.Site.make_all.Given as goal

abbrev pub invariant-loop-place : goal.invariant-loop-place
invariant-loop-place g l = Made l.fn.self (take l.place l.changes) l.self l.fn.dropped.items l.dropped.items
