use Rattle.std.proofs.Common.{◌≡◌, length, ℕ, subst, arith}
use Rattle.fleet_bridge.specs.inside.Capped.{IsCappedBelow}
use Rattle.fleet_bridge.proofs.Capped.{capped_more, capped_begin}
use Rattle.fleet_bridge.proofs.caps.cap_all.Goals as goal

pub loop-cell-init : goal.loop-cell-init
loop-cell-init g c = capped_begin c.args.grid.now c.args.most.now.items

pub loop-cell-preserved : goal.loop-cell-preserved
loop-cell-preserved g c = capped_more c.args.grid.now c.loop-cell.cell c.args.most.now.items c.loop-cell.most.items c.cap_around.new.most.items c.loop-cell.invariant c.in_ok-cap_around.ensures

pub returns : goal.returns
returns g c =
    let end : c.loop-cell.cell ≡ length c.args.grid.now.letters = omega (arith, c.loop-cell-test.false, c.loop-cell.auto.cell-end, c.cell_count-cell-end.ensures.value) in
    subst (λ (n : ℕ). IsCappedBelow c.args.grid.now n c.args.most.now.items c.loop-cell.most.items) end c.loop-cell.invariant
