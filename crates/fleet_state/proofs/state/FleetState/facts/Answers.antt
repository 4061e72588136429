use Rattle.std.proofs.Common.{arith, ◌≡◌, ◌∙◌, ◌<◌, ◌↔◌, length, ap, slice_index, subst}
use Rattle.std.specs.Prelude.{IsTrue}
use Rattle.fleet_grid.specs.Floor.{IsNeighbour}
use Rattle.fleet_grid.specs.Walk.{AreJoined}
use Rattle.fleet_queue.specs.Queue.{Queue}
use Rattle.fleet_history.specs.History.{robots, place}
use Rattle.fleet_state.proofs.Laws.{both_ways}
use Rattle.fleet_state.proofs.Parts.{inside, cells-in, cells-of, cell-count, queue-count, queue-of, queue-limit}
use Rattle.fleet_state.proofs.Judged.{facts-are, facts-unknown, place-among}
use Rattle.fleet_state.proofs.state.FleetState.facts.Goals as goal

pub same_part-requires-clause-a : goal.same_part-requires-clause-a
same_part-requires-clause-a g c =
    rw (c.cell_of.ensures, cells-in c.self.view_is)
    (c.requires.on_floor c.in-Go.robot (omega (arith, c.if-r-len.true, cell-count c.self.invariant.is, queue-count c.self.invariant.is, ap length (cells-in c.self.view_is), c.len.ensures)))

pub returns-then-facts : goal.returns-then-facts
returns-then-facts g c h k =
    let i = inside c.self.view_is k in
    let known : c.in-Go.robot < robots h = omega (arith, c.if-r-len.true, c.len.ensures, queue-count i) in
    let stands : c.cell_of.result ≡ slice_index (place h) c.in-Go.robot = c.cell_of.ensures ∙ ap (λ cells. slice_index cells c.in-Go.robot) (cells-of i) in
    rw c.in-Go.is
    (facts-are c.args.grid.now h c.in-Go.robot c.in-Go.cell c.cell_count.result c.len-then-r-len.result c.self.inside.queue c.is_floor.result c.same_part.result known
    (c.cell_count.ensures.value ∙ c.cell_count.ensures.form.covered) c.is_floor.ensures (λ f. subst (λ k. IsTrue c.same_part.result ↔ AreJoined (IsNeighbour c.args.grid.now) k c.in-Go.cell) stands c.same_part.ensures)
    (c.len-then-r-len.ensures.len ∙ ap (λ (q : Queue). length q.items) (c.queue.ensures ∙ queue-of i c.in-Go.robot known)) (queue-limit i))

pub returns-else-facts : goal.returns-else-facts
returns-else-facts g c h k =
    let i = inside c.self.view_is k in
    let known : c.in-Go.robot < robots h = omega (arith, c.if-r-len.true, c.len.ensures, queue-count i) in
    rw c.in-Go.is
    (facts-are c.args.grid.now h c.in-Go.robot c.in-Go.cell c.cell_count.result c.len-then-r-len.result c.self.inside.queue c.is_floor.result c.is_floor.result known
    (c.cell_count.ensures.value ∙ c.cell_count.ensures.form.covered) c.is_floor.ensures (λ f. absurd (both_ways c.is_floor.result c.if-facts.false (c.is_floor.ensures.1 f)))
    (c.len-then-r-len.ensures.len ∙ ap (λ (q : Queue). length q.items) (c.queue.ensures ∙ queue-of i c.in-Go.robot known)) (queue-limit i))

pub returns-else-r-len : goal.returns-else-r-len
returns-else-r-len g c h k =
    let i = inside c.self.view_is k in
    rw c.in-Go.is
    (facts-unknown c.args.grid.now h c.in-Go.robot c.in-Go.cell c.cell_count.result c.is_floor.result (omega (arith, c.if-r-len.false, c.len.ensures, queue-count i))
    (c.cell_count.ensures.value ∙ c.cell_count.ensures.form.covered) c.is_floor.ensures)

pub returns-in-Withdraw : goal.returns-in-Withdraw
returns-in-Withdraw g c h k = rw c.in-Withdraw.is (place-among (inside c.self.view_is k) c.args.client c.in-Withdraw.number c.place_of-facts.result c.place_of-facts.ensures)
