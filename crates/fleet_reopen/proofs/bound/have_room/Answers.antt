use Rattle.std.proofs.Common.{arith}
use Rattle.fleet_reopen.proofs.Rooms.{count-few}
use Rattle.fleet_reopen.proofs.bound.have_room.Goals as goal

pub fits-requires-clause-before : goal.fits-requires-clause-before
fits-requires-clause-before c = omega (arith, c.count_before-before.ensures, count-few c.args.waits.now c.loop-r.r c.in-Some.wait, c.requires.few)
