use Rattle.std.proofs.Common.{◌≡◌, ℕ, subst, arith}
use Rattle.fleet_grid.proofs.Rounds.{HasTurned, dir_at, turned_on, turned_round}
use Rattle.fleet_grid.proofs.parts.around.Goals as goal

pub loop-dir-preserved : goal.loop-dir-preserved
loop-dir-preserved g c =
    turned_on c.args.cells.now c.args.label c.args.head c.loop-dir.dir-index _ c.args.labels.now c.args.queue.now.items c.loop-dir.labels c.loop-dir.queue.items c.visit.new.labels c.visit.new.queue.items
    c.requires.bare c.requires.spread c.requires.head (dir_at c.loop-dir.dir-index (omega (arith, c.loop-dir-test.true))) c.loop-dir.invariant c.in_ok-visit.ensures.ok c.in_ok-visit.ensures.same

pub returns : goal.returns
returns g c =
    let four : c.loop-dir.dir-index ≡ 4 = omega (arith, c.loop-dir-test.false, c.loop-dir.auto.dir-index-end) in
    record {
      ok = turned_round c.args.cells.now c.args.label c.args.head c.args.labels.now c.args.queue.now.items c.loop-dir.labels c.loop-dir.queue.items c.requires.bare c.requires.spread c.requires.head
          (subst (λ (k : ℕ). HasTurned c.args.cells.now c.args.label c.args.head k c.args.labels.now c.args.queue.now.items c.loop-dir.labels c.loop-dir.queue.items) four c.loop-dir.invariant);
    }
