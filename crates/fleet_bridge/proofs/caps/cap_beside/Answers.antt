-- The search marks the side, and its marks are counted.
use Rattle.std.proofs.Common.{◌≡◌, ◌<◌, false, length, refl, sym, ap, subst, ◌∙◌, arith, get_or}
use Rattle.std.specs.Prelude.{count_by, ℕ}
use Rattle.std.proofs.lemmas.List.{get_or_read_under}
use Rattle.fleet_grid.specs.Floor.{IsNeighbour}
use Rattle.fleet_grid.proofs.Forms.{floor_inside, few_cells}
use Rattle.fleet_bridge.specs.inside.Capped.{IsCapped, IsCappedBeside}
use Rattle.fleet_bridge.specs.inside.Search.{IsMarked}
use Rattle.fleet_bridge.proofs.Capped.{capped_none, capped_side, not_beside}
use Rattle.fleet_bridge.proofs.caps.cap_beside.Goals as goal
use Rattle.fleet_bridge.proofs.caps.cap_beside.Goals.{then-not-index, else-not-index}

pub marked_count-size-requires : goal.marked_count-size-requires
marked_count-size-requires g c = omega (arith, c.in_ok-seen.ensures.size, few_cells c.args.grid.now c.requires.form)

pub returns-in_default : goal.returns-in_default
returns-in_default g c = capped_none c.args.grid.now c.args.cell c.args.dir c.args.most.now.items (λ b n bridge. absurd (c.in_default.ensures b n))

pub returns : goal.returns
returns g c =
    let m = c.args.grid.now in
    let a = c.args.cell in
    let b = c.in-Some.next in
    let n = c.in-Some.ensures in
    let seen = c.in_ok-seen.seen.items in
    let old = c.args.most.now.items in
    let inside : a < length seen = omega (arith, floor_inside m a n.from, c.in_ok-seen.ensures.size, c.in_ok-seen.seen.ok.0) in
    let read : c.index.result.now ≡ get_or seen a false = get_or_read_under _ _ _ _ false c.index.ensures inside refl in
    let edge : IsNeighbour m a b = (c.args.dir, n) in
    elim c.if-not-index.branch [
      | then-not-index w ↦ (
          let made : c.if-not-index.most.items ≡ w.cap_marked.new.most.items = ap (λ v. v.items) w.most-is in
          let size : length old ≡ length m.letters = omega (arith, c.requires.size, c.args.most.now.ok.0) in
          let capped : IsCapped (IsMarked seen) (count_by (λ s. s) seen) old w.cap_marked.new.most.items = subst (λ (k : ℕ). IsCapped (IsMarked seen) k old w.cap_marked.new.most.items) w.marked_count-size.ensures w.cap_marked.ensures in
          subst (IsCappedBeside m a c.args.dir old) (sym made)
          (capped_side m a b seen edge c.in_ok-seen.ensures.reach c.args.dir old w.cap_marked.new.most.items n size (sym read ∙ w.if-not-index.true) capped))
      | else-not-index w ↦ (
          let made : c.if-not-index.most.items ≡ old = ap (λ v. v.items) w.most-is in
          subst (IsCappedBeside m a c.args.dir old) (sym made)
          (capped_none m a c.args.dir old (not_beside m a b seen c.args.dir n c.in_ok-seen.ensures.reach (sym read ∙ w.if-not-index.false))))
    ]
