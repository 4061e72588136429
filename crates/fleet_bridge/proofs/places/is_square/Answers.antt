use Rattle.std.proofs.Common.{◌≡◌, Bool, true, false, ◌&&◌, refl}
use Rattle.fleet_bridge.proofs.places.is_square.Goals as goal

both : (a b : Bool) → (a && b) ≡ true → (a ≡ true) × (b ≡ true)
both true b e = (refl, e)
both false b e = absurd (cc e)

pub returns : goal.returns
returns g c =
    let rows = both (g.is_floor.result && g.is_floor-2.result) (g.is_floor-3.result && g.is_floor-4.result) c in
    let upper = both g.is_floor.result g.is_floor-2.result rows.0 in
    let lower = both g.is_floor-3.result g.is_floor-4.result rows.1 in
    record {
      first = g.is_floor.ensures.floor upper.0;
      east = g.is_floor-2.ensures.floor upper.1;
      south = g.is_floor-3.ensures.floor lower.0;
      last = g.is_floor-4.ensures.floor lower.1;
    }
