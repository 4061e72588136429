use Rattle.std.proofs.Common.{ℕ, [], ◌∷◌, ◌++◌, slice_index, ap, ◌∙◌, arith}
use Rattle.fleet_bridge.specs.inside.Preorder.{subtree_size}
use Rattle.fleet_bridge.proofs.Inner.{more_by}
use Rattle.fleet_bridge.proofs.rooms.sizes_of.Goals as goal

pub loop-cell-init : goal.loop-cell-init
loop-cell-init g c = record { size = c.in_ok-sizes.ensures.len; room = c.in_ok-sizes.ensures.capacity; each = λ k less. absurd (omega (arith, less)) }

pub push_reserved-requires : goal.push_reserved-requires
push_reserved-requires g c = omega (arith, c.loop-cell-test.true, c.loop-cell.invariant.size, c.loop-cell.invariant.room)

pub loop-cell-preserved : goal.loop-cell-preserved
loop-cell-preserved g c =
    let f : ℕ → ℕ = subtree_size (slice_index c.args.tree.now.number.items) (slice_index c.args.tree.now.end.items) in
    record {
      size = omega (arith, c.push_reserved.ensures.len, c.loop-cell.invariant.size);
      room = omega (arith, c.push_reserved.ensures.capacity, c.loop-cell.invariant.room);
      each = more_by f c.loop-cell.sizes.items c.push_reserved.new.self.items c.loop-cell.cell (omega (arith, c.loop-cell.sizes.ok.0, c.loop-cell.invariant.size))
          (c.push_reserved.ensures.items ∙ ap (λ (x : ℕ). c.loop-cell.sizes.items ++ x ∷ []) c.size.ensures) c.loop-cell.invariant.each;
    }

pub returns : goal.returns
returns g c = λ k less. c.loop-cell.invariant.each k (omega (arith, less, c.loop-cell-test.false))
