-- Where a floor cell lies.
use Rattle.std.proofs.Common.{◌≡◌, ℕ, zero, suc, ◌*◌, ◌<◌, ◌≤◌, inl, inr, true, length, subst, arith}
use Rattle.std.proofs.lemmas.List.{get_or_past}
use Rattle.std.proofs.lemmas.Nat.{mul-le}
use Rattle.std.proofs.lemmas.Bool.{cases_lt, false≢true}
use Rattle.fleet_grid.specs.Floor.{Floor, HasForm, IsFloor, is_floor_letter}

-- a floor cell is a cell
pub floor_inside : (m : Floor) (c : ℕ) → IsFloor m c → c < length m.letters
floor_inside m c f = elim (cases_lt c (length m.letters)) [
  | inl less ↦ less
  | inr past ↦ absurd (false≢true (subst (λ (x : ℕ). is_floor_letter x ≡ true) (get_or_past m.letters c 0 past) f))
]

-- a map with a cell is not without columns
pub some_column : (m : Floor) (c : ℕ) → HasForm m → c < length m.letters → 0 < m.width
some_column m c form less = some m.width form.covered
  where
    some : (w : ℕ) → length m.letters ≡ m.height * w → 0 < w
    some zero e = absurd (omega (arith, less, e))
    some (suc w) e = omega arith

pub wide : (m : Floor) (c : ℕ) → HasForm m → IsFloor m c → 0 < m.width
wide m c form f = some_column m c form (floor_inside m c f)

pub few_cells : (m : Floor) → HasForm m → length m.letters ≤ 1048576
few_cells m form = let most : m.height * m.width ≤ 1024 * 1024 = mul-le m.height m.width 1024 1024 form.low form.slim in omega (arith, most, form.covered)
