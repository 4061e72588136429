use Rattle.std.proofs.Common.{◌∙◌, arith}
use Rattle.fleet_field.proofs.Sides.{is_slim, is_within, is_wide, is_low, has_step, is_apart, is_small, is_few, has_cells, are_low, stride_fits}
use Rattle.fleet_field.proofs.Unseen.{ready_by}
use Rattle.fleet_field.proofs.Nearer.{searched_out, compass_by}
use Rattle.std.proofs.lemmas.Result.{IfOk-from_err}
use Rattle.fleet_field.proofs.compass.Compass.over.Goals as goal

pub new-columns-requires-clause-wide : goal.new-columns-requires-clause-wide
new-columns-requires-clause-wide g c = is_wide c.args.grid.now c.width.result c.args.goal c.width.ensures.value c.width.ensures.form c.requires

pub new-columns-requires-clause-slim : goal.new-columns-requires-clause-slim
new-columns-requires-clause-slim g c = is_slim c.args.grid.now c.width.result c.width.ensures.value c.width.ensures.form

pub place-start-requires-clause-few : goal.place-start-requires-clause-few
place-start-requires-clause-few g c = is_within c.args.grid.now c.args.goal c.width.ensures.form c.requires

pub place-start-requires-clause-small : goal.place-start-requires-clause-small
place-start-requires-clause-small g c =
    is_low c.args.grid.now c.new-columns.result.width c.args.goal (c.new-columns.ensures ∙ c.width.ensures.value) c.width.ensures.form c.requires c.padded-stride.result.0 c.padded-stride.result.1.now c.padded-stride.ensures.padded

pub unseen-requires-clause-wide : goal.unseen-requires-clause-wide
unseen-requires-clause-wide g c = is_wide c.args.grid.now c.new-columns.result.width c.args.goal (c.new-columns.ensures ∙ c.width.ensures.value) c.width.ensures.form c.requires

pub unseen-requires-clause-apart : goal.unseen-requires-clause-apart
unseen-requires-clause-apart g c = is_apart c.args.grid.now c.padded-stride.result.0 c.padded-stride.result.1.now c.padded-stride.ensures.padded c.height-height.result c.new-columns.result.width c.height-height.ensures.value (c.new-columns.ensures ∙ c.width.ensures.value)

pub unseen-requires-clause-few : goal.unseen-requires-clause-few
unseen-requires-clause-few g c = is_few c.args.grid.now c.padded-stride.result.0 c.padded-stride.result.1.now c.padded-stride.ensures.padded c.height-height.result c.new-columns.result.width c.height-height.ensures.value (c.new-columns.ensures ∙ c.width.ensures.value) c.width.ensures.form

pub unseen-requires-clause-small : goal.unseen-requires-clause-small
unseen-requires-clause-small g c = is_small c.args.grid.now c.padded-stride.result.0 c.padded-stride.result.1.now c.padded-stride.ensures.padded c.height-height.result c.new-columns.result.width c.height-height.ensures.value (c.new-columns.ensures ∙ c.width.ensures.value)

pub unseen-requires-clause-cells : goal.unseen-requires-clause-cells
unseen-requires-clause-cells g c =
    has_cells c.args.grid.now c.padded-stride.result.0 c.padded-stride.result.1.now c.padded-stride.ensures.padded c.height-height.result c.new-columns.result.width c.height-height.ensures.value (c.new-columns.ensures ∙ c.width.ensures.value)
    c.ways-exits.result.now c.ways-exits.ensures.ways c.width.ensures.form

pub search-requires-clause-step : goal.search-requires-clause-step
search-requires-clause-step g c = has_step c.args.grid.now c.padded-stride.result.0 c.padded-stride.result.1.now c.padded-stride.ensures.padded

pub search-requires-clause-ready : goal.search-requires-clause-ready
search-requires-clause-ready g c = (
  c.padded-stride.result.1.now,
  ready_by c.args.grid.now c.height-height.result c.new-columns.result.width c.padded-stride.result.0 c.args.goal c.place-start.result c.padded-stride.result.1.now c.ways-exits.result.now c.in_ok-fresh.fresh.items
      c.height-height.ensures.value (c.new-columns.ensures ∙ c.width.ensures.value) c.height-height.ensures.form c.padded-stride.ensures.padded c.ways-exits.ensures.ways c.in_ok-fresh.ensures c.requires c.place-start.ensures,
)

pub pointed-requires-clause-laid_out : goal.pointed-requires-clause-laid_out
pointed-requires-clause-laid_out g c =
    let blank = c.padded-stride.result.1.now in
    let ready = ready_by c.args.grid.now c.height-height.result c.new-columns.result.width c.padded-stride.result.0 c.args.goal c.place-start.result blank c.ways-exits.result.now c.in_ok-fresh.fresh.items
    c.height-height.ensures.value (c.new-columns.ensures ∙ c.width.ensures.value) c.height-height.ensures.form c.padded-stride.ensures.padded c.ways-exits.ensures.ways c.in_ok-fresh.ensures c.requires c.place-start.ensures in
    rw c.deref.ensures.value (searched_out c.args.grid.now c.height-height.result c.new-columns.result.width c.padded-stride.result.0 c.args.goal c.place-start.result blank c.in_ok-labels.labels.items
    c.height-height.ensures.value (c.new-columns.ensures ∙ c.width.ensures.value) c.height-height.ensures.form c.padded-stride.ensures.padded c.requires c.place-start.ensures (c.in_ok-labels.ensures blank ready))

pub pointed-requires-clause-cells : goal.pointed-requires-clause-cells
pointed-requires-clause-cells g c =
    has_cells c.args.grid.now c.padded-stride.result.0 c.padded-stride.result.1.now c.padded-stride.ensures.padded c.height-height.result c.new-columns.result.width c.height-height.ensures.value (c.new-columns.ensures ∙ c.width.ensures.value)
    c.ways-exits.result.now c.ways-exits.ensures.ways c.width.ensures.form

pub pointed-requires-clause-low : goal.pointed-requires-clause-low
pointed-requires-clause-low g c =
    are_low c.args.grid.now c.padded-stride.result.0 c.padded-stride.result.1.now c.padded-stride.ensures.padded c.height-height.result c.new-columns.result.width c.height-height.ensures.value (c.new-columns.ensures ∙ c.width.ensures.value)
    c.ways-exits.result.now c.ways-exits.ensures.ways c.width.ensures.form

pub invariant_of-result : goal.invariant_of-result
invariant_of-result g c =
    let blank = c.padded-stride.result.1.now in
    let ready = ready_by c.args.grid.now c.height-height.result c.new-columns.result.width c.padded-stride.result.0 c.args.goal c.place-start.result blank c.ways-exits.result.now c.in_ok-fresh.fresh.items
    c.height-height.ensures.value (c.new-columns.ensures ∙ c.width.ensures.value) c.height-height.ensures.form c.padded-stride.ensures.padded c.ways-exits.ensures.ways c.in_ok-fresh.ensures c.requires c.place-start.ensures in
    (compass_by c.args.grid.now c.height-height.result c.new-columns.result.width c.padded-stride.result.0 c.args.goal c.place-start.result blank c.in_ok-labels.labels.items c.ways-exits.result.now c.in_ok-ways.ways.items
    c.height-height.ensures.value (c.new-columns.ensures ∙ c.width.ensures.value) c.height-height.ensures.form c.padded-stride.ensures.padded c.requires c.place-start.ensures (c.in_ok-labels.ensures blank ready) c.ways-exits.ensures.ways
    c.in_ok-ways.ensures.len (rw c.deref.ensures.value at c.in_ok-ways.ensures.each)).0

pub returns : goal.returns
returns g c =
    let blank = c.padded-stride.result.1.now in
    let ready = ready_by c.args.grid.now c.height-height.result c.new-columns.result.width c.padded-stride.result.0 c.args.goal c.place-start.result blank c.ways-exits.result.now c.in_ok-fresh.fresh.items
    c.height-height.ensures.value (c.new-columns.ensures ∙ c.width.ensures.value) c.height-height.ensures.form c.padded-stride.ensures.padded c.ways-exits.ensures.ways c.in_ok-fresh.ensures c.requires c.place-start.ensures in
    (compass_by c.args.grid.now c.height-height.result c.new-columns.result.width c.padded-stride.result.0 c.args.goal c.place-start.result blank c.in_ok-labels.labels.items c.ways-exits.result.now c.in_ok-ways.ways.items
    c.height-height.ensures.value (c.new-columns.ensures ∙ c.width.ensures.value) c.height-height.ensures.form c.padded-stride.ensures.padded c.requires c.place-start.ensures (c.in_ok-labels.ensures blank ready) c.ways-exits.ensures.ways
    c.in_ok-ways.ensures.len (rw c.deref.ensures.value at c.in_ok-ways.ensures.each)).1

pub overflow_cast-start : goal.overflow_cast-start
overflow_cast-start g c =
    let low = is_low c.args.grid.now c.new-columns.result.width c.args.goal (c.new-columns.ensures ∙ c.width.ensures.value) c.width.ensures.form c.requires c.padded-stride.result.0 c.padded-stride.result.1.now c.padded-stride.ensures.padded in
    omega (arith, low, c.place-start.ensures)

pub overflow_cast-stride : goal.overflow_cast-stride
overflow_cast-stride g c =
    let fits = stride_fits c.args.grid.now c.padded-stride.result.0 c.padded-stride.result.1.now c.padded-stride.ensures.padded in
    omega (arith, fits)

pub returns-in_err-fresh : goal.returns-in_err-fresh
returns-in_err-fresh g c = IfOk-from_err c.from_residual.result _ c.from_residual.ensures.0

pub returns-in_err-labels : goal.returns-in_err-labels
returns-in_err-labels g c = IfOk-from_err c.from_residual-in_err-labels.result _ c.from_residual-in_err-labels.ensures.0

pub returns-in_err-ways : goal.returns-in_err-ways
returns-in_err-ways g c = IfOk-from_err c.from_residual-in_err-ways.result _ c.from_residual-in_err-ways.ensures.0
