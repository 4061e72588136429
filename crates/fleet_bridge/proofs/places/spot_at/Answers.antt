use Rattle.std.proofs.Common.{◌≡◌, ℕ, ◌+◌, ◌-◌, ◌*◌, ◌/◌, ◌%◌, refl, sym, ap, subst, ◌∙◌, arith}
use Rattle.fleet_grid.specs.Floor.{IsFloor}
use Rattle.fleet_grid.specs.Padded.{place}
use Rattle.fleet_bridge.proofs.Steps.{spot_of, spot_fits}
use Rattle.fleet_bridge.proofs.places.spot_at.Goals as goal

pub returns-clause-spot : goal.returns-clause-spot
returns-clause-spot g c =
    let p = c.args.places.now in
    let x = spot_of p.grid.now p.stride p.list.now c.requires.laid_out.form c.requires.laid_out.padded p.width c.args.at c.requires.laid_out.wide c.requires.open in
    let row : c.args.at / p.stride - 1 ≡ x.0 / p.width = omega (arith, x.4) in
    let e : (c.args.at / p.stride - 1) * p.width + c.args.at % p.stride ≡ x.0 =
    ap (λ (r : ℕ). r * p.width + c.args.at % p.stride) row ∙ (ap (λ (k : ℕ). x.0 / p.width * p.width + k) x.5 ∙ x.6) in
    record {
      floor = subst (IsFloor p.grid.now) (sym e) x.1;
      at = x.2 ∙ ap (place p.grid.now.width p.stride) (sym e);
    }

pub nonzero_div-row : goal.nonzero_div-row
nonzero_div-row g c =
    let p = c.args.places.now in
    let x = spot_fits p.grid.now p.stride p.list.now c.requires.laid_out.form c.requires.laid_out.padded p.width c.args.at c.requires.laid_out.wide c.requires.open in
    omega (arith, x)

pub nonzero_rem-cell : goal.nonzero_rem-cell
nonzero_rem-cell g c =
    let p = c.args.places.now in
    let x = spot_fits p.grid.now p.stride p.list.now c.requires.laid_out.form c.requires.laid_out.padded p.width c.args.at c.requires.laid_out.wide c.requires.open in
    omega (arith, x)

pub overflow_sub-row : goal.overflow_sub-row
overflow_sub-row g c =
    let p = c.args.places.now in
    let x = spot_fits p.grid.now p.stride p.list.now c.requires.laid_out.form c.requires.laid_out.padded p.width c.args.at c.requires.laid_out.wide c.requires.open in
    omega (arith, x)

pub overflow_mul-cell : goal.overflow_mul-cell
overflow_mul-cell g c =
    let p = c.args.places.now in
    let x = spot_fits p.grid.now p.stride p.list.now c.requires.laid_out.form c.requires.laid_out.padded p.width c.args.at c.requires.laid_out.wide c.requires.open in
    omega (arith, x)

pub overflow_add-cell : goal.overflow_add-cell
overflow_add-cell g c =
    let p = c.args.places.now in
    let x = spot_fits p.grid.now p.stride p.list.now c.requires.laid_out.form c.requires.laid_out.padded p.width c.args.at c.requires.laid_out.wide c.requires.open in
    omega (arith, x)

pub overflow_cast-result : goal.overflow_cast-result
overflow_cast-result g c =
    let p = c.args.places.now in
    let x = spot_fits p.grid.now p.stride p.list.now c.requires.laid_out.form c.requires.laid_out.padded p.width c.args.at c.requires.laid_out.wide c.requires.open in
    omega (arith, x)

pub returns-clause-at : goal.returns-clause-at
returns-clause-at g c = refl
