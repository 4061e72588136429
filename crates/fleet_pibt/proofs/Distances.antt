-- Distances of neighbouring cells, and how the costs that a plan goes by stand for distances.
use Rattle.std.proofs.Common.{◌≡◌, ◌≢◌, ℕ, suc, ◌<◌, ◌≤◌, inl, inr, Bool, true, false, Option, Some, None, MatchOption, ◌↔◌, List, [], ◌∷◌, length, sym, subst, refl, ap, ◌∙◌, arith, ◌==◌, unwrap_or}
use Rattle.std.proofs.lemmas.Bool.Decides.{eqb_tells}
use Rattle.fleet_grid.specs.Floor.{Floor, IsFloor, IsBeside, IsNeighbourIn, IsNeighbour}
use Rattle.fleet_grid.specs.Ways.{IsLess}
use Rattle.fleet_grid.specs.Walk.{Walks, AreJoined, AreApart, IsDistance}
use Rattle.fleet_grid.specs.declared.dir.Dir.{Dir}
use Rattle.fleet_grid.specs.declared.dir.Dir.TheVariants.{North, East, South, West}
use Rattle.fleet_grid.proofs.Forms.{wide}
use Rattle.fleet_pibt.specs.Goals.{aim, AreGoals}
use Rattle.fleet_pibt.specs.inside.Setting.{Setting, robots, cell_of, adjacent, cost, cost_with, IsScene}
use Rattle.fleet_pibt.proofs.Reserve.{none_or_some}

pub near-sym : (m : Floor) (a b : ℕ) (dir : Dir) → IsNeighbourIn m dir a b → IsNeighbour m b a
near-sym m a b North h = (South, record { from = h.to; to = h.from; beside = h.beside })
near-sym m a b East h = (West, record { from = h.to; to = h.from; beside = h.beside })
near-sym m a b South h = (North, record { from = h.to; to = h.from; beside = h.beside })
near-sym m a b West h = (East, record { from = h.to; to = h.from; beside = h.beside })

pub adjacent-back : (s : Setting) (a b : ℕ) → adjacent s a b → adjacent s b a
adjacent-back s a b h = near-sym s.floor a b h.0 h.1

module _ (Near : ℕ → ℕ → Type 0) where
  pub distance-unique : (a b d e : ℕ) → IsDistance Near a b d → IsDistance Near a b e → d ≡ e
  distance-unique a b d e p q =
      let x = p.least q.walk.0 q.walk.1 in
      let y = q.least p.walk.0 p.walk.1 in
      omega (arith, x, y, p.walk.2, q.walk.2)

  -- a neighbour is at most one step nearer
  pub distance-step : (a c b d e : ℕ) → Near a c → IsDistance Near a b d → IsDistance Near c b e → d ≤ suc e
  distance-step a c b d e n p q = let x = p.least (c ∷ q.walk.0) (n, q.walk.1) in omega (arith, x, q.walk.2)

  -- from a cell that is not there a neighbour is one step nearer
  pub distance-ahead : (a b d : ℕ) → IsDistance Near a b (suc d) → (c : ℕ) × Near a c × IsDistance Near c b d
  distance-ahead a b d p = go p.walk.0 p.walk.1 p.walk.2
    where
      go : (cs : List ℕ) → Walks Near a cs b → length cs ≡ suc d → (c : ℕ) × Near a c × IsDistance Near c b d
      go [] w e = absurd (omega arith)
      go (c ∷ cs) w e = (c, w.0, record { walk = (cs, w.1, omega arith); least = λ ds v. (let x = p.least (c ∷ ds) (w.0, v) in omega arith) })

  pub distance-none : (a b : ℕ) → IsDistance Near a b 0 → a ≡ b
  distance-none a b p = go p.walk.0 p.walk.1 p.walk.2
    where
      go : (cs : List ℕ) → Walks Near a cs b → length cs ≡ 0 → a ≡ b
      go [] w e = w
      go (c ∷ cs) w e = absurd (omega arith)

  pub distance-self : (a : ℕ) → IsDistance Near a a 0
  distance-self a = record { walk = ([], refl, refl); least = λ cs w. omega arith }

  pub distance-next : (a b : ℕ) → Near a b → a ≢ b → IsDistance Near a b 1
  distance-next a b n ne = record { walk = (b ∷ [], (n, refl), refl); least = go }
    where
      go : (cs : List ℕ) → Walks Near a cs b → 1 ≤ length cs
      go [] w = absurd (ne w)
      go (c ∷ cs) w = omega arith

pub beside-apart : (w a : ℕ) → 0 < w → (d : Dir) → IsBeside w d a a → ⊥
beside-apart w a l North p = omega arith
beside-apart w a l East p = omega arith
beside-apart w a l South p = omega arith
beside-apart w a l West p = omega arith

-- no cell is its own neighbour
pub adjacent-apart : (s : Setting) → IsScene s → (a b : ℕ) → adjacent s a b → a ≢ b
adjacent-apart s scene a b n e =
    beside-apart s.floor.width a (wide s.floor a scene.form n.1.from) n.0 (subst (λ (x : ℕ). IsBeside s.floor.width n.0 a x) (sym e) n.1.beside)

less-is : (a b : Option ℕ) (x y : ℕ) → a ≡ Some x → b ≡ Some y → IsLess a b ↔ (x < y)
less-is a b x y e f =
    let same : IsLess a b ≡ IsLess (Some x) (Some y) = ap (λ (o : Option ℕ). IsLess o b) e ∙ ap (λ (o : Option ℕ). IsLess (Some x) o) f in
    (λ c. subst (λ (T : Type 0). T) same c, λ c. subst (λ (T : Type 0). T) (sym same) c)

-- the cost of a cell is its distance to the aim, at a robot's own cell and next to it
module _ (s : Setting) (scene : IsScene s) (waits : List (Option ℕ)) (are : AreGoals s.floor s.from waits s.goals s.distance) (r : ℕ) (l : r < robots s) where
  cost-some : (g c d : ℕ) → s.goals r ≡ Some g → s.distance r c ≡ Some d → cost s r c ≡ d
  cost-some g c d is e =
      ap (λ (o : Option ℕ). cost_with o (s.distance r c) (c == cell_of s r)) is
      ∙ ap (λ (o : Option ℕ). cost_with (Some g) o (c == cell_of s r)) e

  measured-at : (g c : ℕ) → s.goals r ≡ Some g → IsFloor s.floor c → (o : Option ℕ) → s.distance r c ≡ o → MatchOption o (AreApart (adjacent s) c g) (IsDistance (adjacent s) c g)
  measured-at g c is floor o e = subst (λ (x : Option ℕ). MatchOption x (AreApart (adjacent s) c g) (IsDistance (adjacent s) c g)) e (are.measured r g c l is floor)

  cost-goal : (g c : ℕ) → s.goals r ≡ Some g → IsFloor s.floor c → AreJoined (adjacent s) c g → IsDistance (adjacent s) c (aim s.from s.goals r) (cost s r c)
  cost-goal g c is floor joined = elim (none_or_some (s.distance r c)) [
    | inl none ↦ (let no : AreApart (adjacent s) c g = measured-at g c is floor None none in absurd (no joined.steps joined.walk))
    | inr some ↦ (
        let there : IsDistance (adjacent s) c g some.0 = measured-at g c is floor (Some some.0) some.1 in
        let at : g ≡ aim s.from s.goals r = ap (λ (o : Option ℕ). unwrap_or o (cell_of s r)) (sym is) in
        subst (λ (x : ℕ). IsDistance (adjacent s) c (aim s.from s.goals r) x) (sym (cost-some g c some.0 is some.1)) (subst (λ (x : ℕ). IsDistance (adjacent s) c x some.0) at there))
  ]

  -- an idle robot aims at its own cell
  idle-aim : s.goals r ≡ None → cell_of s r ≡ aim s.from s.goals r
  idle-aim none = ap (λ (o : Option ℕ). unwrap_or o (cell_of s r)) (sym none)

  idle-cost : (c : ℕ) (b : Bool) → s.goals r ≡ None → (c == cell_of s r) ≡ b → cost s r c ≡ cost_with None (s.distance r c) b
  idle-cost c b none e = ap (λ (o : Option ℕ). cost_with o (s.distance r c) (c == cell_of s r)) none ∙ ap (cost_with None (s.distance r c)) e

  pub idle-own : s.goals r ≡ None → 0 ≡ cost s r (cell_of s r)
  idle-own none = sym (elim (eqb_tells (cell_of s r) (cell_of s r)) [ inl p ↦ idle-cost (cell_of s r) true none p.0 | inr p ↦ absurd (p.1 refl) ])

  pub cost-own : IsDistance (adjacent s) (cell_of s r) (aim s.from s.goals r) (cost s r (cell_of s r))
  cost-own = elim (none_or_some (s.goals r)) [
    | inr some ↦ cost-goal some.0 (cell_of s r) some.1 (scene.placed.on_floor r l) (are.reached r some.0 l some.1)
    | inl none ↦ (
        let e : 0 ≡ cost s r (cell_of s r) = idle-own none in
        subst (λ (x : ℕ). IsDistance (adjacent s) (cell_of s r) (aim s.from s.goals r) x) e (subst (λ (x : ℕ). IsDistance (adjacent s) (cell_of s r) x 0) (idle-aim none) (distance-self (adjacent s) (cell_of s r))))
  ]

  pub cost-beside : (c : ℕ) → adjacent s (cell_of s r) c → IsDistance (adjacent s) c (aim s.from s.goals r) (cost s r c)
  cost-beside c n = elim (none_or_some (s.goals r)) [
    | inr some ↦ (
        let own = are.reached r some.0 l some.1 in
        cost-goal some.0 c some.1 n.1.to (record { steps = cell_of s r ∷ own.steps; walk = (adjacent-back s _ _ n, own.walk) }))
    | inl none ↦ (
        let ne : c ≢ cell_of s r = λ (e : c ≡ cell_of s r). adjacent-apart s scene _ _ n (sym e) in
        let e : 1 ≡ cost s r c = sym (elim (eqb_tells c (cell_of s r)) [ inl p ↦ absurd (ne p.1) | inr p ↦ idle-cost c false none p.0 ]) in
        subst (λ (x : ℕ). IsDistance (adjacent s) c (aim s.from s.goals r) x) e (subst (λ (x : ℕ). IsDistance (adjacent s) c x 1) (idle-aim none) (distance-next (adjacent s) c (cell_of s r) (adjacent-back s _ _ n) ne)))
  ]

  -- a cell from which a walk leads to the goal has a distance, which it costs
  known-at : (g c : ℕ) → s.goals r ≡ Some g → IsFloor s.floor c → AreJoined (adjacent s) c g → (d : ℕ) × (s.distance r c ≡ Some d) × (cost s r c ≡ d)
  known-at g c is floor joined = elim (none_or_some (s.distance r c)) [
    | inl none ↦ (let no : AreApart (adjacent s) c g = measured-at g c is floor None none in absurd (no joined.steps joined.walk))
    | inr some ↦ (some.0, some.1, cost-some g c some.0 is some.1)
  ]

  -- a neighbour is nearer by the distances where it costs less
  pub closer-less : (g : ℕ) → s.goals r ≡ Some g → (w : ℕ) → adjacent s (cell_of s r) w → IsLess (s.distance r w) (s.distance r (cell_of s r)) ↔ (cost s r w < cost s r (cell_of s r))
  closer-less g is w n =
      let joined = are.reached r g l is in
      let own = known-at g (cell_of s r) is (scene.placed.on_floor r l) joined in
      let other = known-at g w is n.1.to (record { steps = cell_of s r ∷ joined.steps; walk = (adjacent-back s _ _ n, joined.walk) }) in
      let tells = less-is (s.distance r w) (s.distance r (cell_of s r)) other.0 own.0 other.1 own.1 in
      (λ c. (let less = tells.0 c in omega (arith, less, other.2, own.2)), λ less. tells.1 (omega (arith, less, other.2, own.2)))
