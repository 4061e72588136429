-- The map `..` with a lone robot, which has no goal or cell 1 as its goal.
use Rattle.std.proofs.Common.{◌≡◌, ℕ, zero, suc, ◌<◌, ◌↔◌, cond, ◌==◌, Some, None, IsSome, List, [], ◌∷◌, slice_index, refl, subst, arith}
use Rattle.fleet_grid.specs.Floor.{Floor, floor_of, IsFloor, IsNeighbour}
use Rattle.fleet_grid.specs.Step.{IsPlacement}
use Rattle.fleet_grid.specs.Walk.{AreJoined, IsDistance}
use Rattle.fleet_grid.specs.declared.dir.Dir.TheVariants.{East}
use Rattle.fleet_grid.proofs.Forms.{floor_inside}
use Rattle.fleet_pibt.specs.Goals.{AreGoals}
use Rattle.fleet_pibt.specs.Order.{wait_of}
use Rattle.fleet_pibt.proofs.Distances.{distance-self, distance-next}

abbrev two : Floor
two = floor_of 1 2 (46 ∷ 46 ∷ [])

two-east : IsNeighbour two 0 1
two-east = (East, record { from = refl; to = refl; beside = (refl, λ e. cc (e)) })

two-joined : (a : ℕ) → a < 2 → AreJoined (IsNeighbour two) a 1
two-joined zero l = record { steps = 1 ∷ []; walk = (two-east, refl) }
two-joined (suc zero) l = record { steps = []; walk = refl }
two-joined (suc (suc a)) l = absurd (omega arith)

two-far : (c : ℕ) → c < 2 → IsDistance (IsNeighbour two) c 1 (cond (c == 1) 0 1)
two-far zero l = distance-next (IsNeighbour two) 0 1 two-east (λ e. cc (e))
two-far (suc zero) l = distance-self (IsNeighbour two) 1
two-far (suc (suc c)) l = absurd (omega arith)

two-reached : (a : ℕ) → a < 2 → (r g : ℕ) → r < 1 → Some 1 ≡ Some g → AreJoined (IsNeighbour two) (slice_index (a ∷ []) r) g
two-reached a l zero g m e = let same : 1 ≡ g = cc (e) in subst (λ (x : ℕ). AreJoined (IsNeighbour two) a x) same (two-joined a l)
two-reached a l (suc r) g m e = absurd (omega arith)

two-measured : (g c : ℕ) → Some 1 ≡ Some g → IsFloor two c → IsDistance (IsNeighbour two) c g (cond (c == 1) 0 1)
two-measured g c e floor = let same : 1 ≡ g = cc (e) in subst (λ (x : ℕ). IsDistance (IsNeighbour two) c x (cond (c == 1) 0 1)) same (two-far c (floor_inside two c floor))

two-waited : (w r : ℕ) → r < 1 → IsSome {T = ℕ} (Some 1) ↔ IsSome (wait_of (Some w ∷ []) r)
two-waited w zero l = (λ h. refl, λ h. refl)
two-waited w (suc r) l = absurd (omega arith)

pub two-goals : (m : Floor) (letters : List ℕ) → m ≡ floor_of 1 2 letters → letters ≡ 46 ∷ 46 ∷ [] → (a w : ℕ) → a < 2 →
    AreGoals m (a ∷ []) (Some w ∷ []) (λ r. Some 1) (λ r c. Some (cond (c == 1) 0 1))
two-goals m letters e is a w l =
    rw (e, is) (record {
      waited = two-waited w;
      reached = two-reached a l;
      measured = λ r g c k here floor. two-measured g c here floor;
    })

two-floor : (a : ℕ) → a < 2 → (r : ℕ) → r < 1 → IsFloor two (slice_index (a ∷ []) r)
two-floor zero l zero m = refl
two-floor (suc zero) l zero m = refl
two-floor (suc (suc a)) l zero m = absurd (omega arith)
two-floor a l (suc r) m = absurd (omega arith)

pub two-placed : (m : Floor) → m ≡ two → (a : ℕ) → a < 2 → IsPlacement m (a ∷ [])
two-placed m e a l = rw e (record { on_floor = two-floor a l; distinct = λ i j below short. absurd (omega arith) })

idle-waited : (r : ℕ) → r < 1 → IsSome {T = ℕ} None ↔ IsSome (wait_of (None ∷ []) r)
idle-waited zero l = (λ h. h, λ h. h)
idle-waited (suc r) l = absurd (omega arith)

pub no-goals : (m : Floor) (a : ℕ) → AreGoals m (a ∷ []) (None ∷ []) (λ r. None) (λ r c. None)
no-goals m a = record {
  waited = idle-waited;
  reached = λ r g l e. cc (e);
  measured = λ r g c l e floor. cc (e);
}
