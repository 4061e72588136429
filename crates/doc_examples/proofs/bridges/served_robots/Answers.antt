use Rattle.std.proofs.Common.{◌≤◌, ℕ, subst, arith}
use Rattle.std.specs.Prelude.{slice_index}
use Rattle.doc_examples.proofs.bridges.served_robots.Goals as goal

pub returns-in-Some : goal.returns-in-Some
returns-in-Some c = λ n le.
    let r = c.in-Some.rooms in
    c.rooms_serve.ensures.served c.args.grid.now (slice_index r.core.items) (slice_index r.door.items) (slice_index r.mouth.items) (slice_index r.size.items) (slice_index r.capacity.items)
    (rw c.in-Some.is at c.in_ok-found.ensures) c.args.cell n c.requires (omega (arith, le, c.capacity.ensures))
