use Rattle.std.proofs.Common.{◌≡◌, ℕ, set, sym, ap, subst, ◌∙◌}
use Rattle.std.specs.Prelude.{slice_index}
use Rattle.fleet_bridge.specs.inside.Tree.{AreUnder}
use Rattle.fleet_bridge.proofs.Inner.{under_set}
use Rattle.fleet_bridge.proofs.reach.hand_up.Goals as goal

pub returns-then-read : goal.returns-then-read
returns-then-read g c = λ n small under.
    let written : c.write.new.list.items ≡ set c.args.inner.now.items (slice_index c.args.up.now.items c.args.cell) (slice_index c.args.inner.now.items c.args.cell) =
    c.write.ensures ∙ (ap (λ (p : ℕ). set c.args.inner.now.items p c.read-found.result) c.read-parent.ensures ∙ ap (λ (v : ℕ). set c.args.inner.now.items (slice_index c.args.up.now.items c.args.cell) v) c.read-found.ensures) in
    subst (AreUnder c.args.up.now.items n) (sym written) (under_set c.args.up.now.items n c.args.inner.now.items c.args.cell small under)
