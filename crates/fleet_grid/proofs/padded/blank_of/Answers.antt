use Rattle.std.proofs.Common.{◌≡◌, ℕ, ◌+◌, ◌*◌, ◌<◌, ◌≤◌, length, set, sym, ap, subst, ◌∙◌, arith}
use Rattle.std.proofs.lemmas.Grind.{common_steps}
use Rattle.std.proofs.lemmas.Nat.{mul-le}
use Rattle.fleet_grid.specs.Padded.{place}
use Rattle.fleet_grid.proofs.Forms.{wide}
use Rattle.fleet_grid.proofs.Places.{place_inside}
use Rattle.fleet_grid.proofs.Made.{IsPartly, none_yet, floor_more, wall_more, all_in}
use Rattle.fleet_grid.proofs.padded.blank_of.Goals as goal
use Rattle.fleet_grid.proofs.padded.blank_of.Goals.{then-is_floor, else-is_floor}

pub overflow_mul-size : goal.overflow_mul-size
overflow_mul-size g c =
    let h = c.height-height.result in
    let most : (h + 2) * c.args.stride ≤ 1026 * 1041 = mul-le (h + 2) c.args.stride 1026 1041 (omega (arith, c.height-height.ensures.value, c.height-height.ensures.form.low)) c.requires.stride.1 in
    omega (arith, most)

pub loop-cell-init : goal.loop-cell-init
loop-cell-init g c =
    rw (c.in_ok-blank.ensures.items_if_clones_equal (λ y e. e)) (none_yet c.args.cells.now c.args.stride _ (ap (λ (h : ℕ). (h + 2) * c.args.stride) c.height-height.ensures.value))

pub place_of-at-requires-clause-wide : goal.place_of-at-requires-clause-wide
place_of-at-requires-clause-wide g c = rw c.width-width.ensures.value (wide c.args.cells.now c.loop-cell.cell c.height-height.ensures.form (sym c.is_floor.ensures ∙ c.if-is_floor.true))

pub place_of-at-requires-clause-small : goal.place_of-at-requires-clause-small
place_of-at-requires-clause-small g c =
    let m = c.args.cells.now in
    let below : c.loop-cell.cell < m.height * m.width = omega (arith, c.loop-cell-test.true, c.height-height.ensures.form.covered, c.count-cell-end.ensures.value) in
    let pos = wide m c.loop-cell.cell c.height-height.ensures.form (sym c.is_floor.ensures ∙ c.if-is_floor.true) in
    let i = place_inside m.height m.width c.args.stride c.loop-cell.cell pos c.requires.stride.0 below in
    let most : (m.height + 2) * c.args.stride ≤ 1026 * 1041 = mul-le (m.height + 2) c.args.stride 1026 1041 (omega (arith, c.height-height.ensures.form.low)) c.requires.stride.1 in
    rw c.width-width.ensures.value (omega (arith, i.1, most))

pub index_mut-requires : goal.index_mut-requires
index_mut-requires g c =
    let m = c.args.cells.now in
    let below : c.loop-cell.cell < m.height * m.width = omega (arith, c.loop-cell-test.true, c.height-height.ensures.form.covered, c.count-cell-end.ensures.value) in
    let pos = wide m c.loop-cell.cell c.height-height.ensures.form (sym c.is_floor.ensures ∙ c.if-is_floor.true) in
    let i = place_inside m.height m.width c.args.stride c.loop-cell.cell pos c.requires.stride.0 below in
    let inside : place m.width c.args.stride c.loop-cell.cell < length c.loop-cell.blank.items = omega (arith, i.1, c.loop-cell.invariant.size) in
    grind (arith, common_steps, inside, c.place_of-at.ensures)

pub loop-cell-preserved : goal.loop-cell-preserved
loop-cell-preserved g c =
    let m = c.args.cells.now in
    let below : c.loop-cell.cell < m.height * m.width = omega (arith, c.loop-cell-test.true, c.height-height.ensures.form.covered, c.count-cell-end.ensures.value) in
    elim c.if-is_floor.branch [
      | then-is_floor w ↦ (
          let on = sym c.is_floor.ensures ∙ w.if-is_floor.true in
          let pos = wide m c.loop-cell.cell c.height-height.ensures.form on in
          let made = floor_more m c.args.stride c.loop-cell.cell c.loop-cell.blank.items pos c.requires.stride.0 below c.loop-cell.invariant on in
          let at : c.if-is_floor.blank.items ≡ set c.loop-cell.blank.items (place m.width c.args.stride c.loop-cell.cell) 4294967295 =
          ap (λ v. v.items) w.blank-is ∙ ap (λ (i : ℕ). set c.loop-cell.blank.items i 4294967295) (w.place_of-at.ensures ∙ ap (λ (x : ℕ). place x c.args.stride c.loop-cell.cell) c.width-width.ensures.value) in
          subst (IsPartly m c.args.stride (c.loop-cell.cell + 1)) (sym at) made)
      | else-is_floor w ↦ (
          let made = wall_more m c.args.stride c.loop-cell.cell c.loop-cell.blank.items c.loop-cell.invariant (sym c.is_floor.ensures ∙ w.if-is_floor.false) in
          let at : c.if-is_floor.blank.items ≡ c.loop-cell.blank.items = ap (λ v. v.items) w.blank-is in
          subst (IsPartly m c.args.stride (c.loop-cell.cell + 1)) (sym at) made)
    ]

pub returns : goal.returns
returns g c =
    let p = c.loop-cell.invariant in
    all_in c.args.cells.now c.args.stride c.loop-cell.blank.items c.requires.stride.0 c.height-height.ensures.form.low c.requires.stride.1 (record {
      size = p.size;
      each = λ k below f. p.each k (omega (arith, below, c.loop-cell-test.false, c.count-cell-end.ensures.value)) f;
      only = p.only;
    })
