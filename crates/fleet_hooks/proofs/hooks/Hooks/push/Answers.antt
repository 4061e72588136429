-- The arrivals where a list finds no room.
use Rattle.std.specs.Prelude.{Result, Ok, Err, OnErr}
use Rattle.fleet_hooks.proofs.hooks.Hooks.push.Goals as goal

on_err : {T E P : Type 0} (r : Result T E) → P → OnErr r P
on_err (Ok x) p = tt
on_err (Err e) p = p

pub returns-in_err-reserve-clause-same_arrivals : goal.returns-in_err-reserve-clause-same_arrivals
returns-in_err-reserve-clause-same_arrivals g c =
    on_err _ c.reserve.ensures.arrivals
