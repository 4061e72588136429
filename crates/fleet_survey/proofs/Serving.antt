-- The least capacity of a part, found cell by cell.
use Rattle.std.proofs.Common.{◌≡◌, ℕ, ◌+◌, ◌<◌, ◌≤◌, inl, inr, sym, subst, refl, ◌∙◌, arith}
use Rattle.std.specs.Prelude.{◌↔◌, slice_index}
use Rattle.std.proofs.lemmas.Bool.{cases_lt}
use Rattle.fleet_grid.specs.Floor.{Floor, IsFloor, IsNeighbour}
use Rattle.fleet_grid.specs.Walk.{AreJoined}
use Rattle.fleet_bridge.specs.Rooms.{AreRooms, IsCore}
use Rattle.fleet_bridge.specs.declared.rooms.Rooms.{Rooms}
use Rattle.fleet_bridge.proofs.Joins.{joined_inside}
use Rattle.fleet_survey.specs.Served.{AreAllServed, IsServedLimit, capacity_at}

-- the number is the least capacity of the cells below a number
pub AreServedBelow : Floor → (ℕ → ℕ) → ℕ → ℕ → Type 0
AreServedBelow m capacity k least = (n : ℕ) → n < 4294967296 → (n ≤ least) ↔ ((c : ℕ) → c < k → IsFloor m c → n ≤ capacity c)

pub served_none : (m : Floor) (capacity : ℕ → ℕ) → AreServedBelow m capacity 0 4294967295
unfolding AreServedBelow
served_none m capacity n small = (λ le c less. absurd (omega (arith, less)), λ all. omega (arith, small))

pub served_more : (m : Floor) (capacity : ℕ → ℕ) (k least next : ℕ) → AreServedBelow m capacity k least → ((n : ℕ) → (n ≤ next) ↔ ((n ≤ least) × (IsFloor m k → n ≤ capacity k))) → AreServedBelow m capacity (k + 1) next
unfolding AreServedBelow
served_more m capacity k least next before is n small = (
  λ le c less floor. elim (cases_lt c k) [
    | inl early ↦ (before n small).0 ((is n).0 le).0 c early floor
    | inr from ↦ (let e : k ≡ c = omega (arith, from, less) in subst (λ (x : ℕ). n ≤ capacity x) e (((is n).0 le).1 (subst (IsFloor m) (sym e) floor)))
  ],
  λ all. (is n).1 ((before n small).1 (λ c less floor. all c (omega (arith, less)) floor), λ floor. all k (omega arith) floor),
)

-- ---- what it says of the map

module _ {A : Type 0} (m : Floor) (rooms : Rooms A) (are : AreRooms m rooms) where
  core : ℕ → ℕ
  core c = slice_index rooms.core.items c

  -- joined cells are floor, and have one core
  one_part : (c x : ℕ) → IsFloor m c → AreJoined (IsNeighbour m) c x → IsFloor m x × (slice_index rooms.core.items c ≡ slice_index rooms.core.items x)
  one_part c x floor joined =
      joined_inside (IsNeighbour m) (λ y. IsFloor m y × (slice_index rooms.core.items c ≡ slice_index rooms.core.items y)) (λ a b near known. (near.1.to, known.1 ∙ are.one_core a b near)) c x joined (floor, refl)

  pub all_served : (k most : ℕ) → ((c : ℕ) → IsFloor m c → c < k) → AreServedBelow m (capacity_at rooms) k most → IsServedLimit m most
  unfolding AreServedBelow
  all_served k most bound known n small = (
    λ le c floor. (slice_index rooms.core.items c, are.part c floor, (are.counted c n floor).0 ((known n small).0 le c (bound c floor) floor)),
    λ all. (known n small).1 (λ c less floor.
        let (x, joined, is) = all c floor in
        let (there, same) = one_part c x floor joined in
        subst (λ (y : ℕ). n ≤ slice_index rooms.capacity.items y) (sym same) (are.greatest x n there is)),
  )
