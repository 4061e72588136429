-- Which cells a placement has.
use Rattle.std.proofs.Common.{ℕ, ◌-◌, length, take, drop, get_or, sym, ap, ◌∙◌, arith}
use Rattle.fleet_plans.proofs.Cuts.{cut_at, rising, below, place_past}
use Rattle.fleet_plans.proofs.placements.place_at.Goals as goal

pub returns-then-time-ends : goal.returns-then-time-ends
returns-then-time-ends c = sym (place_past 0 c.args.ends.now c.args.cells.now c.args.time (omega arith))

pub part-requires-clause-order : goal.part-requires-clause-order
part-requires-clause-order c =
    let here = rising 0 c.args.ends.now (length c.args.cells.now) c.args.time c.requires (omega arith) in
    omega (arith, here, c.start_of-start.ensures)

pub part-requires-clause-inside : goal.part-requires-clause-inside
part-requires-clause-inside c = below 0 c.args.ends.now (length c.args.cells.now) c.args.time c.requires (omega arith)

pub returns : goal.returns
returns c =
    let ends = c.args.ends.now in
    let cells = c.args.cells.now in
    let here = cut_at 0 ends cells c.args.time (omega arith) in
    c.part.ensures ∙ (ap (λ (s : ℕ). take (get_or ends c.args.time 0 - s) (drop s cells)) c.start_of-start.ensures ∙ sym here)
