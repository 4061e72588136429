-- The cells of a map have two colours, as the fields of a chess board: each step changes the colour.
use Rattle.std.proofs.Common.{◌≡◌, ℕ, ◌+◌, ◌%◌, ◌<◌, ◌≤◌, ◌⊎◌, inl, inr, List, [], ◌∷◌, length, ap, sym, ◌∙◌, arith}
use Rattle.fleet_grid.specs.declared.dir.Dir.{Dir}
use Rattle.fleet_grid.specs.declared.dir.Dir.TheVariants.{North, East, South, West}
use Rattle.fleet_grid.specs.Floor.{Floor, HasForm, IsBeside, IsNeighbour}
use Rattle.fleet_grid.specs.Padded.{place}
use Rattle.fleet_grid.specs.Walk.{Walks, IsDistance}
use Rattle.fleet_grid.proofs.Edges.{neighbour_back}
use Rattle.fleet_grid.proofs.Forms.{wide}
use Rattle.fleet_grid.proofs.Places.{east_on, south_on}
use Rattle.fleet_grid.proofs.Walks.{distance_across}

-- the sum of row and column, and one
colour : Floor → ℕ → ℕ
colour m c = place m.width 1 c

changes : (m : Floor) (dir : Dir) (a b : ℕ) → 0 < m.width → IsBeside m.width dir a b → (colour m a ≡ colour m b + 1) ⊎ (colour m b ≡ colour m a + 1)
unfolding colour
changes m North a b pos e = inl (south_on m.width 1 b a pos e)
changes m East a b pos e = inr (east_on m.width 1 a b pos e.0 e.1)
changes m South a b pos e = inr (south_on m.width 1 a b pos e)
changes m West a b pos e = inl (east_on m.width 1 b a pos e.0 e.1)

two_more : (n : ℕ) → (n + 2) % 2 ≡ n % 2
two_more n = omega arith

walk_parity : (m : Floor) (a b : ℕ) (cs : List ℕ) → HasForm m → Walks (IsNeighbour m) a cs b → (colour m a + length cs) % 2 ≡ colour m b % 2
walk_parity m a b [] form w = ap (λ (x : ℕ). x % 2) (omega arith ∙ ap (colour m) w)
walk_parity m a b (c ∷ cs) form w = elim (changes m w.0.0 a c (wide m a form w.0.1.from) w.0.1.beside) [
  | inl e ↦ ap (λ (x : ℕ). x % 2) (omega (arith, e)) ∙ (two_more (colour m c + length cs) ∙ walk_parity m c b cs form w.1)
  | inr e ↦ ap (λ (x : ℕ). x % 2) (omega (arith, e)) ∙ walk_parity m c b cs form w.1
]

distance_parity : (m : Floor) (a g d : ℕ) → HasForm m → IsDistance (IsNeighbour m) a g d → (colour m a + d) % 2 ≡ colour m g % 2
distance_parity m a g d form is = ap (λ (x : ℕ). (colour m a + x) % 2) (sym is.walk.2) ∙ walk_parity m a g is.walk.0 form is.walk.1

not_same : (x y : ℕ) (d e : ℕ) → (x + d) % 2 ≡ (y + e) % 2 → (x ≡ y + 1) ⊎ (y ≡ x + 1) → d ≤ e + 1 → e ≤ d + 1 → (d ≡ e + 1) ⊎ (e ≡ d + 1)
not_same x y d e same side low high = grind (arith, same, side, low, high)

pub differ_by_one : (m : Floor) (a b g d e : ℕ) → HasForm m → IsNeighbour m a b → IsDistance (IsNeighbour m) a g d → IsDistance (IsNeighbour m) b g e → (d ≡ e + 1) ⊎ (e ≡ d + 1)
differ_by_one m a b g d e form near from to =
    not_same (colour m a) (colour m b) d e (distance_parity m a g d form from ∙ sym (distance_parity m b g e form to))
    (changes m near.0 a b (wide m a form near.1.from) near.1.beside)
    (distance_across (IsNeighbour m) a b g d e near from to) (distance_across (IsNeighbour m) b a g e d (neighbour_back m a b near) to from)
