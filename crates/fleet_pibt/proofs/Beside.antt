-- From what a robot sees to its candidates.
use Rattle.std.proofs.Common.{◌≡◌, ◌≢◌, ℕ, zero, suc, ◌+◌, inl, inr, Bool, true, false, IsTrue, ◌↔◌, cond, Option, Some, List, [], ◌∷◌, map, get_or, slice_get, arith, refl, sym, subst, ap, ◌∙◌}
use Rattle.fleet_grid.specs.Direction.{dir_number}
use Rattle.fleet_grid.specs.Floor.{Floor, IsNeighbourIn}
use Rattle.fleet_grid.specs.Ways.{IsWay}
use Rattle.fleet_grid.specs.declared.dir.Dir.{Dir}
use Rattle.fleet_hooks.specs.Law.{IsRank}
use Rattle.fleet_hooks.specs.declared.law.TieLaw.{TieLaw}
use Rattle.fleet_pibt.specs.Door.{IsOpen}
use Rattle.fleet_pibt.specs.declared.door.Door.{Door}
use Rattle.fleet_pibt.specs.inside.Around.{IsAround, IsRated, cell_in}
use Rattle.fleet_pibt.specs.inside.Candidate.{IsCandidate}
use Rattle.fleet_pibt.specs.inside.Setting.{Setting, cell_of, cost}
use Rattle.fleet_pibt.specs.declared.around.Around.{Around}

-- a mapped entry is that of the entry
pub mapped-at : {X Y : Type 0} (f : X → Y) (xs : List X) (i : ℕ) (y : Y) (d : X) → slice_get (map f xs) i ≡ Some y → f (get_or xs i d) ≡ y
mapped-at f [] i y d e = absurd (cc (e))
mapped-at f (x ∷ xs) zero y d e = cc (e)
mapped-at f (x ∷ xs) (suc i) y d e = mapped-at f xs i y d e

module _ (m : Floor) (door : Option Door) (own : ℕ) (dir : Dir) (around : Around) (cell : ℕ) (seen : IsAround m door own around) (is : cell ≡ cell_in around dir) where
  -- the cell in a direction is the neighbour there
  pub spot-covers : (w : ℕ) → IsNeighbourIn m dir own w → IsOpen door own w → cell ≡ w
  spot-covers w n opens = is ∙ (seen.beside dir).there w n opens

  -- where the own cell stands in there is no neighbour
  pub stay-covers : (stay : ℕ) → cell ≡ around.own → stay ≡ own → (w : ℕ) → IsNeighbourIn m dir own w → IsOpen door own w → stay ≡ w
  stay-covers stay same e w n opens = e ∙ sym seen.here ∙ sym same ∙ spot-covers w n opens

  pub spot-beside : cell ≢ around.own → IsNeighbourIn m dir own cell
  spot-beside ne =
      subst (λ (x : ℕ). IsNeighbourIn m dir own x) (sym is)
      ((seen.beside dir).beside (λ e. ne (is ∙ e ∙ sym seen.here)))

  pub spot-passes : cell ≢ around.own → IsOpen door own cell
  spot-passes ne =
      subst (λ (x : ℕ). IsOpen door own x) (sym is)
      ((seen.beside dir).passes (λ e. ne (is ∙ e ∙ sym seen.here)))

rated-cost : (b : Bool) (nearer : ℕ) (dir : Dir) (c w own : ℕ) → IsTrue b ↔ IsWay nearer dir → IsRated nearer dir w own → c ≡ cond b 0 2 → c + own ≡ w + 1
rated-cost true nearer dir c w own tells p e = let q = p.near (tells.0 refl) in omega (arith, q, e)
rated-cost false nearer dir c w own tells p e = let q = p.far (λ way. cc (tells.1 way)) in omega (arith, q, e)

pub candidate-from : (s : Setting) (robot : ℕ) (dir : Dir) (around : Around) (cell price rank rank' side : ℕ) (is_near : Bool) (law : TieLaw) → IsAround s.floor s.door (cell_of s robot) around → cell ≡ cell_in around dir →
    cell ≢ around.own → ((w : ℕ) → IsNeighbourIn s.floor dir (cell_of s robot) w → IsRated around.nearer.byte dir (cost s robot w) (cost s robot (cell_of s robot))) → IsTrue is_near ↔ IsWay around.nearer.byte dir → price ≡ cond is_near 0 2 →
    rank' ≡ rank + 1 → side ≡ dir_number dir → IsRank law dir rank → ((l : TieLaw) → slice_get s.laws robot ≡ Some l → law ≡ l) →
    IsCandidate s robot (record { cost = price; rank = rank'; side = side; cell = cell })
candidate-from s robot dir around cell price rank rank' side is_near law seen is ne rated tells low same place within tied =
    let step = spot-beside s.floor s.door (cell_of s robot) dir around cell seen is ne in
    record {
      cost_is = rated-cost is_near around.nearer.byte dir price (cost s robot cell) (cost s robot (cell_of s robot)) tells (rated cell step) low;
      kind = inr (record {
        dir = dir;
        step = step;
        passes = spot-passes s.floor s.door (cell_of s robot) dir around cell seen is ne;
        side = place;
        ranked = omega (arith, same);
        within = λ l e. (let it = subst (λ (x : TieLaw). IsRank x dir rank) (tied l e) within in (omega (arith, it.low, same), omega (arith, it.high, same)));
      });
    }

pub stay-from : (s : Setting) (robot : ℕ) (around : Around) → IsAround s.floor s.door (cell_of s robot) around → IsCandidate s robot (record { cost = 1; rank = 0; side = 0; cell = around.own })
stay-from s robot around seen = record {
  cost_is = (let e : cost s robot around.own ≡ cost s robot (cell_of s robot) = ap (cost s robot) seen.here in omega (arith, e));
  kind = inl (seen.here, refl);
}
