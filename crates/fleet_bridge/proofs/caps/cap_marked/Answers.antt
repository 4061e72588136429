-- The marked cells, one after another.
use Rattle.std.proofs.Common.{◌≡◌, ◌<◌, false, length, List, ℕ, ◌+◌, refl, sym, ap, subst, ◌∙◌, arith, get_or}
use Rattle.std.proofs.lemmas.List.{get_or_read_under}
use Rattle.fleet_bridge.proofs.Capped.{IsCappedTo, capped_to_begin, capped_to_marked, capped_to_other, capped_to_all}
use Rattle.fleet_bridge.proofs.caps.cap_marked.Goals as goal
use Rattle.fleet_bridge.proofs.caps.cap_marked.Goals.{then-index, else-index}

pub loop-cell-init : goal.loop-cell-init
loop-cell-init g c = capped_to_begin c.args.seen.now.items c.args.size c.args.most.now.items

pub loop-cell-preserved : goal.loop-cell-preserved
loop-cell-preserved g c =
    let seen = c.args.seen.now.items in
    let old = c.args.most.now.items in
    let cell = c.loop-cell.cell in
    let inside : cell < length seen = omega (arith, c.loop-cell-test.true, c.len-cell-end.ensures, c.args.seen.now.ok.0) in
    let read : c.index.result.now ≡ get_or seen cell false = get_or_read_under _ _ _ _ false c.index.ensures inside refl in
    elim c.if-index.branch [
      | then-index w ↦ (
          let made : c.if-index.most.items ≡ w.cap.new.most.items = ap (λ m. m.items) w.most-is in
          let small : cell < length c.loop-cell.most.items = omega (arith, inside, c.loop-cell.invariant.same, c.requires, c.args.seen.now.ok.0, c.args.most.now.ok.0) in
          subst (λ (list : List ℕ). IsCappedTo seen c.args.size old list (cell + 1)) (sym (made ∙ w.cap.ensures))
          (capped_to_marked seen c.args.size old c.loop-cell.most.items cell small (sym read ∙ w.if-index.true) c.loop-cell.invariant))
      | else-index w ↦ (
          let made : c.if-index.most.items ≡ c.loop-cell.most.items = ap (λ m. m.items) w.most-is in
          subst (λ (list : List ℕ). IsCappedTo seen c.args.size old list (cell + 1)) (sym made)
          (capped_to_other seen c.args.size old c.loop-cell.most.items cell (sym read ∙ w.if-index.false) c.loop-cell.invariant))
    ]

pub returns : goal.returns
returns g c =
    capped_to_all c.args.seen.now.items c.args.size c.args.most.now.items c.loop-cell.most.items c.loop-cell.cell
    (omega (arith, c.loop-cell-test.false, c.len-cell-end.ensures, c.args.seen.now.ok.0, c.args.most.now.ok.0, c.requires)) c.loop-cell.invariant
