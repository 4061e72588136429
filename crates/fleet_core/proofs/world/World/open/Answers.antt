use Rattle.std.proofs.lemmas.Result.{IfOk-from_err, err_from_is_err_and}
use Rattle.fleet_core.proofs.OpeningRefusals.{refused-err, refused-ok, refused-memory}
use Rattle.fleet_core.specs.Hooks.{laws_of}
use Rattle.fleet_core.proofs.world.World.open.Goals as goal

pub returns-in-Some-clause-refused : goal.returns-in-Some-clause-refused
returns-in-Some-clause-refused g c f named =
    refused-err c.args.grid c.args.starts.items c.args.clients c.args.limits (laws_of c.args.hooks) c.in-Some.fault f (rw c.as_slice.ensures.value at c.in-Some.ensures)

pub returns-in_err-make-clause-refused : goal.returns-in_err-make-clause-refused
returns-in_err-make-clause-refused g c f named =
    let p = err_from_is_err_and c.from_residual.result c.from_residual.ensures.1 in
    rw (p.1, p.2) (refused-memory c.args.grid c.args.starts.items c.args.clients c.args.limits (laws_of c.args.hooks) f named (rw c.as_slice.ensures.value at c.in_default.ensures))

pub returns-clause-refused : goal.returns-clause-refused
returns-clause-refused g c f named =
    refused-ok c.args.grid c.args.starts.items c.args.clients c.args.limits (laws_of c.args.hooks) c.in_ok-make.field-0 f (rw c.as_slice.ensures.value at c.in_default.ensures)

pub returns-in_err-make-clause-can : goal.returns-in_err-make-clause-can
returns-in_err-make-clause-can g c = IfOk-from_err c.from_residual.result _ c.from_residual.ensures.0

pub returns-in_err-make-clause-orderly : goal.returns-in_err-make-clause-orderly
returns-in_err-make-clause-orderly g c = IfOk-from_err c.from_residual.result _ c.from_residual.ensures.0

pub returns-in_err-make-clause-ok : goal.returns-in_err-make-clause-ok
returns-in_err-make-clause-ok g c = IfOk-from_err c.from_residual.result _ c.from_residual.ensures.0

pub make-requires : goal.make-requires
make-requires g c = rw c.as_slice.ensures.value at c.in_default.ensures

pub returns-clause-can : goal.returns-clause-can
returns-clause-can g c = rw c.as_slice.ensures.value at c.in_default.ensures

pub returns-clause-orderly : goal.returns-clause-orderly
returns-clause-orderly g c = c.in_ok-make.ensures.orderly

pub returns-clause-ok : goal.returns-clause-ok
returns-clause-ok g c = c.in_ok-make.ensures.ok
