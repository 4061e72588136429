-- Neighbours differ by one in their distance to a goal, so that the ways that lead nearer tell what they cost.
use Rattle.std.proofs.Common.{◌≡◌, ℕ, ◌+◌, ◌<◌, ◌⊎◌, ◌↔◌, inl, inr, Option, Some, List, slice_get, IsSome, refl, sym, ap, subst, ◌∙◌, arith}
use Rattle.std.specs.Int.{bit_at}
use Rattle.std.proofs.lemmas.Nat.Bits.{bit_at-zero}
use Rattle.fleet_grid.specs.Direction.{dir_number}
use Rattle.fleet_grid.specs.Floor.{Floor, IsBeside, IsNeighbourIn}
use Rattle.fleet_grid.specs.Ways.{IsWay}
use Rattle.fleet_grid.specs.declared.dir.Dir.{Dir}
use Rattle.fleet_grid.specs.declared.dir.Dir.TheVariants.{North, East, South, West}
use Rattle.fleet_grid.proofs.Colours.{differ_by_one}
use Rattle.fleet_pibt.specs.inside.Around.{AreArounds, AreRated, IsRated}
use Rattle.fleet_pibt.specs.Goals.{AreGoals}
use Rattle.fleet_pibt.specs.inside.Setting.{Setting, robots, cell_of, adjacent, cost, IsScene}
use Rattle.fleet_pibt.specs.declared.around.Around.{Around}
use Rattle.fleet_pibt.proofs.Distances.{cost-own, cost-beside, closer-less, idle-own}
use Rattle.fleet_pibt.proofs.Reserve.{none_or_some}
use Rattle.fleet_pibt.proofs.Seen.{seen-below}

pub beside-same : (w a b c : ℕ) (dir : Dir) → IsBeside w dir a b → IsBeside w dir a c → b ≡ c
beside-same w a b c North p q = omega arith
beside-same w a b c East p q = omega (arith, p.0, q.0)
beside-same w a b c South p q = omega arith
beside-same w a b c West p q = omega (arith, p.0, q.0)

-- a cell has one neighbour in a direction
pub beside_once : (m : Floor) (dir : Dir) (a b c : ℕ) → IsNeighbourIn m dir a b → IsNeighbourIn m dir a c → b ≡ c
beside_once m dir a b c p q = beside-same m.width a b c dir p.beside q.beside

rated-by : (nearer : ℕ) (dir : Dir) (c own : ℕ) → (own ≡ c + 1) ⊎ (c ≡ own + 1) → IsWay nearer dir ↔ (c < own) → IsRated nearer dir c own
rated-by nearer dir c own (inl e) tells = record { near = λ way. sym e; far = λ no. absurd (no (tells.1 (omega (arith, e)))) }
rated-by nearer dir c own (inr e) tells = record { near = λ way. (let less = tells.0 way in absurd (omega (arith, less, e))); far = λ no. e }

no-way : (nearer : ℕ) (dir : Dir) → nearer ≡ 0 → IsWay nearer dir → ⊥
no-way nearer dir e way = let z : bit_at nearer (dir_number dir) ≡ 0 = ap (λ (n : ℕ). bit_at n (dir_number dir)) e ∙ bit_at-zero (dir_number dir) in cc (z, way)

module _ (s : Setting) (scene : IsScene s) (waits : List (Option ℕ)) (are : AreGoals s.floor s.from waits s.goals s.distance) (arounds : List Around) (seen : AreArounds s.floor s.door s.goals s.distance s.from arounds) where
  way-tells : (r : ℕ) (around : Around) (l : r < robots s) → slice_get arounds r ≡ Some around → (dir : Dir) (w : ℕ) → IsNeighbourIn s.floor dir (cell_of s r) w → IsWay around.nearer.byte dir ↔ (cost s r w < cost s r (cell_of s r))
  way-tells r around l e dir w n = elim (none_or_some (s.goals r)) [
    | inl none ↦ (let own = idle-own s scene waits are r l none in (λ way. absurd (no-way around.nearer.byte dir ((seen.asked r around e).idle none) way), λ less. absurd (omega (arith, less, own))))
    | inr some ↦ (
        let tells = (seen.asked r around e).tells (subst IsSome (sym some.1) refl) dir w n in
        let less = closer-less s scene waits are r l some.0 some.1 w (dir, n) in
        (λ way. less.0 (tells.0 way), λ c. tells.1 (less.1 c)))
  ]

  -- the ways that are seen tell the costs
  pub rated-from : AreRated s arounds
  rated-from r around e dir w n =
      let below = seen-below arounds r around e in
      let l : r < robots s = omega (arith, below, seen.same_length) in
      let there : adjacent s (cell_of s r) w = (dir, n) in
      rated-by around.nearer.byte dir (cost s r w) (cost s r (cell_of s r))
      (differ_by_one s.floor (cell_of s r) w _ _ _ scene.form there (cost-own s scene waits are r l) (cost-beside s scene waits are r l w there))
      (way-tells r around l e dir w n)
