use Rattle.std.proofs.Common.{◌∙◌, arith}
use Rattle.fleet_field.proofs.Sides.{is_slim, is_within, is_wide, opens, is_low, has_step, is_far, stride_fits}
use Rattle.fleet_field.proofs.Transfer.{is_walled, made}
use Rattle.std.proofs.lemmas.Result.{IfOk-from_err}
use Rattle.fleet_field.proofs.field.Field.from.Goals as goal

pub new-columns-requires-clause-wide : goal.new-columns-requires-clause-wide
new-columns-requires-clause-wide g c = is_wide c.args.grid.now c.width.result c.args.goal c.width.ensures.value c.width.ensures.form c.requires

pub new-columns-requires-clause-slim : goal.new-columns-requires-clause-slim
new-columns-requires-clause-slim g c = is_slim c.args.grid.now c.width.result c.width.ensures.value c.width.ensures.form

pub place-start-requires-clause-few : goal.place-start-requires-clause-few
place-start-requires-clause-few g c = is_within c.args.grid.now c.args.goal c.width.ensures.form c.requires

pub place-start-requires-clause-small : goal.place-start-requires-clause-small
place-start-requires-clause-small g c =
    is_low c.args.grid.now c.new-columns.result.width c.args.goal (c.new-columns.ensures ∙ c.width.ensures.value) c.width.ensures.form c.requires c.padded-stride.result.0 c.padded-stride.result.1.now c.padded-stride.ensures.padded

pub flood-requires-clause-size : goal.flood-requires-clause-size
flood-requires-clause-size g c = c.padded-stride.ensures.padded.small

pub flood-requires-clause-step : goal.flood-requires-clause-step
flood-requires-clause-step g c = has_step c.args.grid.now c.padded-stride.result.0 c.padded-stride.result.1.now c.padded-stride.ensures.padded

pub flood-requires-clause-blank : goal.flood-requires-clause-blank
flood-requires-clause-blank g c = is_far c.args.grid.now c.padded-stride.result.0 c.padded-stride.result.1.now c.padded-stride.ensures.padded

pub flood-requires-clause-goal : goal.flood-requires-clause-goal
flood-requires-clause-goal g c =
    opens c.args.grid.now c.new-columns.result.width c.args.goal (c.new-columns.ensures ∙ c.width.ensures.value) c.width.ensures.form c.requires c.padded-stride.result.0 c.padded-stride.result.1.now c.padded-stride.ensures.padded
    c.place-start.result c.place-start.ensures

pub flood-requires-clause-walled : goal.flood-requires-clause-walled
flood-requires-clause-walled g c = is_walled c.args.grid.now c.padded-stride.result.0 c.padded-stride.result.1.now c.height-height.ensures.form c.padded-stride.ensures.padded

pub invariant_of-result : goal.invariant_of-result
invariant_of-result g c =
    (made c.args.grid.now c.height-height.result c.new-columns.result.width c.padded-stride.result.0 c.args.goal c.place-start.result c.padded-stride.result.1.now c.in_ok-dist.dist.items
    c.height-height.ensures.value (c.new-columns.ensures ∙ c.width.ensures.value) c.height-height.ensures.form c.padded-stride.ensures.padded c.requires c.in_ok-dist.ensures.walls c.place-start.ensures c.in_ok-dist.ensures.levels).0

pub returns : goal.returns
returns g c =
    (made c.args.grid.now c.height-height.result c.new-columns.result.width c.padded-stride.result.0 c.args.goal c.place-start.result c.padded-stride.result.1.now c.in_ok-dist.dist.items
    c.height-height.ensures.value (c.new-columns.ensures ∙ c.width.ensures.value) c.height-height.ensures.form c.padded-stride.ensures.padded c.requires c.in_ok-dist.ensures.walls c.place-start.ensures c.in_ok-dist.ensures.levels).1

pub overflow_cast-start : goal.overflow_cast-start
overflow_cast-start g c =
    let low = is_low c.args.grid.now c.new-columns.result.width c.args.goal (c.new-columns.ensures ∙ c.width.ensures.value) c.width.ensures.form c.requires c.padded-stride.result.0 c.padded-stride.result.1.now c.padded-stride.ensures.padded in
    omega (arith, low, c.place-start.ensures)

pub overflow_cast-stride : goal.overflow_cast-stride
overflow_cast-stride g c =
    let fits = stride_fits c.args.grid.now c.padded-stride.result.0 c.padded-stride.result.1.now c.padded-stride.ensures.padded in
    omega (arith, fits)

pub returns-in_err-dist : goal.returns-in_err-dist
returns-in_err-dist g c = IfOk-from_err c.from_residual.result _ c.from_residual.ensures.0
