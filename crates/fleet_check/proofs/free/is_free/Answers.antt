-- Each robot is found for its own cell, and none exchanges its cell with another.
use Rattle.std.proofs.Common.{refl}
use Rattle.fleet_check.proofs.Found.{is_free}
use Rattle.fleet_check.proofs.free.is_free.Goals as goal

pub returns-then-are_found : goal.returns-then-are_found
returns-then-are_found g c = λ t.
    is_free c.args.grid.now c.args.from.now c.args.to.now c.seat_all.new.slots c.if-to-from.false (c.if-are_found.ensures refl) c.requires (c.if-not-are_moves.ensures refl) (c.is_without_swap.ensures t)
