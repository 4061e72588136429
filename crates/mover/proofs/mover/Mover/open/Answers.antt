use Rattle.mover.proofs.Seen.{new-plain, new-in-turns}
use Rattle.mover.proofs.mover.Mover.open.Goals as goal
use Rattle.mover.proofs.mover.Mover.open.Goals.{then-branch+in_ok-open, else-branch+in_ok-open-2}

pub returns : goal.returns
returns g c = elim c.if-branch.branch [
  | then-branch+in_ok-open w ↦
      let taken = c.in_ok-takes_turns.ensures.taken w.if-branch.true in
      rw w.kind-is (new-in-turns c.args.grid.now c.args.robots c.args.manner w.in_ok-open.field-0 w.in_ok-open.ensures taken.0 taken.1)
  | else-branch+in_ok-open-2 w ↦ rw w.kind-is (new-plain c.args.grid.now c.args.robots c.args.manner w.in_ok-open-2.field-0 w.in_ok-open-2.ensures (c.in_ok-takes_turns.ensures.plain w.if-branch.false))
]
