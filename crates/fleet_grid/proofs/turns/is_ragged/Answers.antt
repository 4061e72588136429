use Rattle.std.proofs.Common.{◌*◌, ◌∙◌, arith}
use Rattle.std.proofs.lemmas.Bool.{ltb-true, lt-ltb}
use Rattle.fleet_grid.proofs.Forms.{few_cells}
use Rattle.fleet_grid.proofs.Same.{ragged_by}
use Rattle.fleet_grid.proofs.turns.is_ragged.Goals as goal

pub turns_of-requires : goal.turns_of-requires
turns_of-requires g c =
    let few = few_cells c.args.cells.now c.count-count.ensures.form in
    omega (arith, few, c.requires.ways.size)

pub returns : goal.returns
returns g c =
    let by = ragged_by c.args.cells.now c.args.ways.now c.from.result c.from-2.result c.requires.ways (c.from.ensures ∙ c.requires.floor) (c.from-2.ensures ∙ c.turns_of.ensures) in
    (λ e. by.0 (ltb-true (11 * c.from.result) (20 * c.from-2.result) e), λ r. lt-ltb (11 * c.from.result) (20 * c.from-2.result) (by.1 r))
