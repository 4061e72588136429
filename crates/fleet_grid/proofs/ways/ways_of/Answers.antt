use Rattle.std.proofs.Common.{◌≡◌, ◌%◌, ◌<◌, ℕ, length, refl, sym, subst, ◌∙◌, arith}
use native.Mathlib.Nat.{zero-mod}
use Rattle.fleet_grid.proofs.Forms.{some_column}
use Rattle.fleet_grid.proofs.Opens.{ways_more}
use Rattle.fleet_grid.proofs.ways.ways_of.Goals as goal

pub loop-cell-init : goal.loop-cell-init
loop-cell-init g c = record {
  column = λ pos. sym (zero-mod c.width-width.result);
  ways = rw c.in_ok-ways.ensures.items (record { size = refl; each = λ cell below. absurd (omega (arith, below)); low = λ cell below. absurd (omega (arith, below)) });
  len = c.in_ok-ways.ensures.len;
  room = c.in_ok-ways.ensures.capacity;
  far = omega arith;
}

pub open_ways-requires-clause-inside : goal.open_ways-requires-clause-inside
open_ways-requires-clause-inside g c = omega (arith, c.loop-cell-test.true, c.count-count.ensures.value)

pub open_ways-requires-clause-column : goal.open_ways-requires-clause-column
open_ways-requires-clause-column g c =
    let m = c.args.cells.now in
    let pos = some_column m c.loop-cell.cell c.count-count.ensures.form (omega (arith, c.loop-cell-test.true, c.count-count.ensures.value)) in
    subst (λ (w : ℕ). 0 < w → c.loop-cell.column ≡ c.loop-cell.cell % w) c.width-width.ensures.value c.loop-cell.invariant.column pos

pub push_reserved-requires : goal.push_reserved-requires
push_reserved-requires g c = omega (arith, c.loop-cell.invariant.len, c.loop-cell.invariant.room, c.loop-cell-test.true)

pub next_column-column-requires-clause-wide : goal.next_column-column-requires-clause-wide
next_column-column-requires-clause-wide g c =
    rw c.width-width.ensures.value (some_column c.args.cells.now c.loop-cell.cell c.count-count.ensures.form (omega (arith, c.loop-cell-test.true, c.count-count.ensures.value)))

pub next_column-column-requires-clause-column : goal.next_column-column-requires-clause-column
next_column-column-requires-clause-column g c =
    let pos = some_column c.args.cells.now c.loop-cell.cell c.count-count.ensures.form (omega (arith, c.loop-cell-test.true, c.count-count.ensures.value)) in
    c.loop-cell.invariant.column (rw c.width-width.ensures.value pos)

pub next_column-column-requires-clause-slim : goal.next_column-column-requires-clause-slim
next_column-column-requires-clause-slim g c = rw c.width-width.ensures.value c.count-count.ensures.form.slim

pub loop-cell-preserved : goal.loop-cell-preserved
loop-cell-preserved g c =
    let m = c.args.cells.now in
    let i = c.loop-cell.invariant in
    let on = ways_more m c.loop-cell.cell c.open_ways.result.byte c.loop-cell.ways.items i.ways c.open_ways.ensures.open c.open_ways.ensures.low in
    record {
      column = λ pos. c.next_column-column.ensures;
      ways = rw c.push_reserved.ensures.items on;
      len = omega (arith, i.len, c.push_reserved.ensures.len);
      room = omega (arith, i.room, c.push_reserved.ensures.capacity);
      far = omega (arith, c.loop-cell-test.true);
    }

pub returns : goal.returns
returns g c =
    let to = c.loop-cell.invariant.ways in
    let all : length c.args.cells.now.letters ≡ c.loop-cell.cell = omega (arith, c.loop-cell-test.false, c.loop-cell.invariant.far, c.count-count.ensures.value) in
    record {
      size = to.size ∙ sym all;
      each = λ cell below. to.each cell (omega (arith, below, all));
      low = λ cell below. to.low cell (omega (arith, below, all));
    }
