use Rattle.std.proofs.Common.{ℕ, ◌*◌, Option, ap, ◌∙◌, arith, length}
use Rattle.std.specs.List.{range_with_len}
use Rattle.std.proofs.lemmas.List.{length-map}
use Rattle.std.proofs.lemmas.List.FromFn.{length-range_with_len}
use Rattle.fleet_field.specs.Field.{Aim}
use Rattle.fleet_field.specs.Compass.{steps_down}
use Rattle.fleet_field.proofs.compass.Compass.cells.Goals as goal

pub returns : goal.returns
returns g c =
    let f = c.self.inside in
    let count = f.height * f.width in
    let down : ℕ → Option ℕ = λ cell. steps_down f.width f.ways.items f.goal count 0 cell in
    let long = length-map (range_with_len 0 count) down ∙ length-range_with_len 0 count in
    omega (arith, c.len.ensures, c.self.invariant.size, long, ap (λ (a : Aim). length a.away) c.self.view_is)
