use Rattle.std.proofs.Common.{◌≡◌, take, arith, ℕ, ◌+◌, ◌≤◌, inl, inr, [], length, slice_index, refl, subst, ◌∙◌}
use Rattle.fleet_field.proofs.Spread.{front_inside, ends, begins, kept, extends_on, still_done}
use Rattle.std.proofs.lemmas.Bool.{cases_lt}
use Rattle.std.proofs.lemmas.List.{length-take-le}
use Rattle.std.proofs.lemmas.List.Elements.{Contains-get_or}
use Rattle.fleet_field.specs.inside.Search.{IsLink}
use Rattle.fleet_field.proofs.flood.spread.Goals as goal

pub around-count-requires-clause-inside : goal.around-count-requires-clause-inside
around-count-requires-clause-inside c =
    front_inside c.args.stride c.args.level c.loop-cell.cell-index c.args.dist.now c.args.now.now c.loop-cell.dist (take c.loop-cell.count c.loop-cell.next) c.requires.small c.requires.search
    c.loop-cell.invariant.extends (omega (arith, c.loop-cell-test.true))

pub returns-clause-search : goal.returns-clause-search
returns-clause-search c =
    ends c.args.stride c.args.level c.args.dist.now c.args.now.now c.loop-cell.dist (take c.loop-cell.count c.loop-cell.next) c.requires.small c.requires.search c.loop-cell.invariant.extends
    (λ k below. c.loop-cell.invariant.done k (omega (arith, c.loop-cell-test.false, below)))

pub loop-cell-init : goal.loop-cell-init
loop-cell-init c =
    record {
      kept = refl;
      most = omega arith;
      extends = begins c.args.stride c.args.level c.args.dist.now c.args.now.now c.requires.small c.requires.search;
      done = λ k below v l. absurd (omega (arith, below));
    }

pub around-count-requires-clause-size : goal.around-count-requires-clause-size
around-count-requires-clause-size c = omega (arith, c.requires.size, c.loop-cell.auto.dist)

pub around-count-requires-clause-small : goal.around-count-requires-clause-small
around-count-requires-clause-small c = c.requires.small

pub around-count-requires-clause-step : goal.around-count-requires-clause-step
around-count-requires-clause-step c = c.requires.step

pub around-count-requires-clause-at : goal.around-count-requires-clause-at
around-count-requires-clause-at c =
    let here = c.requires.search.is_level (slice_index c.args.now.now c.loop-cell.cell-index) (Contains-get_or c.args.now.now c.loop-cell.cell-index 0 (omega (arith, c.loop-cell-test.true))) in
    kept c.args.dist.now c.loop-cell.dist (c.args.level + 1) (slice_index c.args.now.now c.loop-cell.cell-index) c.loop-cell.invariant.extends.keeps (λ w. omega (arith, here.1, w, c.requires.small)) ∙ here.1

pub around-count-requires-clause-room : goal.around-count-requires-clause-room
around-count-requires-clause-room c = omega (arith, c.requires.room, c.loop-cell.invariant.most, c.loop-cell.invariant.kept, c.loop-cell-test.true)

pub around-count-requires-clause-search : goal.around-count-requires-clause-search
around-count-requires-clause-search c = c.loop-cell.invariant.extends.search

pub loop-cell-preserved : goal.loop-cell-preserved
loop-cell-preserved c =
    let i = c.loop-cell.invariant in
    let at = c.loop-cell.cell-index in
    let now = c.args.now.now in
    let front = take c.loop-cell.count c.loop-cell.next in
    let new = c.around-count.new.dist in
    let next = take c.around-count.result c.around-count.new.next in
    let x = c.around-count.ensures.extends in
    record {
      kept = c.around-count.ensures.kept ∙ i.kept;
      most = omega (arith, c.around-count.ensures.most, i.most);
      extends = extends_on c.args.stride c.args.level c.args.dist.now [] c.loop-cell.dist front new next c.requires.small i.extends x;
      done = λ k below v l. elim (cases_lt k at) [
        | inl before ↦ still_done c.args.stride c.args.level (slice_index now k) v c.loop-cell.dist front new next c.requires.small x (i.done k before) l
        | inr after ↦ (
            let here : k ≡ at = omega (arith, below, after) in
            c.around-count.ensures.reached v (subst (λ (j : ℕ). IsLink new c.args.stride (slice_index now j) v) here l))
      ];
    }

pub returns-clause-len : goal.returns-clause-len
returns-clause-len c = c.loop-cell.auto.dist

pub returns-clause-kept : goal.returns-clause-kept
returns-clause-kept c = c.loop-cell.invariant.kept

pub returns-clause-most : goal.returns-clause-most
returns-clause-most c = omega (arith, c.requires.room, c.loop-cell.invariant.most, c.loop-cell.invariant.kept, c.loop-cell-test.false)

pub returns-clause-keeps : goal.returns-clause-keeps
returns-clause-keeps c = c.loop-cell.invariant.extends.keeps

pub returns-clause-count : goal.returns-clause-count
returns-clause-count c =
    let most : c.loop-cell.count ≤ length c.loop-cell.next = omega (arith, c.requires.room, c.loop-cell.invariant.most, c.loop-cell.invariant.kept, c.loop-cell-test.false) in
    omega (arith, c.loop-cell.invariant.extends.count, length-take-le c.loop-cell.count c.loop-cell.next most)
