-- A robot that goes to a roomy cell has a way ahead, and where an edge is open there is one.
use Rattle.std.proofs.Common.{◌≡◌, ◌≢◌, ℕ, zero, suc, ◌<◌, ◌≤◌, inl, inr, true, false, eqb, List, [], ◌∷◌, length, get_or, slice_index, sym, subst, refl, ◌∙◌, arith, rules}
use Rattle.std.specs.Prelude.{Contains}
use Rattle.std.specs.List.{list_any}
use Rattle.std.proofs.lemmas.Cmp.{nat_eq_equiv}
use Rattle.std.proofs.lemmas.Bool.{ne_eqb, cases_eq}
use Rattle.std.proofs.lemmas.List.{get_or_default}
use Rattle.std.proofs.lemmas.Map.Keys.{IsDistinct-from_apart}
use Rattle.std.proofs.lemmas.Map.Made.{length-le_from_is_member}
use Rattle.std.proofs.lemmas.Map.Views.{Contains-from_any, list_any-from_Contains}
use Rattle.fleet_grid.specs.Floor.{Floor, IsNeighbour}
use Rattle.fleet_grid.specs.Walk.{Walks, Besides, AreJoined, IsBridge, IsOnSide, HasSide, IsRoomy}
use Rattle.fleet_grid.proofs.Walks.{joined_back, joined_on, joined_by_edge, besides_back}
use Rattle.fleet_pibt.specs.Advancing.{IsOpenAhead, IsFullBeyond, HasWayAhead}
use Rattle.fleet_pibt.specs.Goals.{IsNearer}
use Rattle.fleet_pibt.proofs.Distances.{near-sym}

-- a walk to g that is shorter than each one from u never comes to u
keeps-off : (Near : ℕ → ℕ → Type 0) (u w g far : ℕ) → ((cs : List ℕ) → Walks Near u cs g → far ≤ length cs) → (cs : List ℕ) (x : ℕ) → Walks Near x cs g → length cs < far → Walks (Besides Near u w) x cs g
keeps-off Near u w g far least [] x p short = p
keeps-off Near u w g far least (c ∷ cs) x p short = (
  record {
    near = p.0;
    there = λ is to. (let far_off = least (c ∷ cs) (subst (λ (y : ℕ). Near y c) is p.0, p.1) in absurd (omega (arith, far_off, short)));
    back = λ is to. (let far_off = least cs (subst (λ (y : ℕ). Walks Near y cs g) to p.1) in absurd (omega (arith, far_off, short)));
  },
  keeps-off Near u w g far least cs c p.1 (omega (arith, short)),
)

-- so no edge of a cell is on the way from a nearer cell
nearer-joined : (m : Floor) (g v u w : ℕ) → IsNearer m g v u → AreJoined (Besides (IsNeighbour m) u w) v g
nearer-joined m g v u w n = record {
  steps = n.near_is.walk.0;
  walk = keeps-off (IsNeighbour m) u w g n.far n.far_is.least n.near_is.walk.0 v n.near_is.walk.1 (omega (arith, n.less, n.near_is.walk.2));
}

-- the goal lies beyond each edge to a nearer cell
pub goal-beyond : (m : Floor) (g w u : ℕ) → IsNearer m g w u → IsOnSide (IsNeighbour m) u w g
goal-beyond m g w u n = nearer-joined m g w u w n

pub besides-turn : (m : Floor) (u w x y : ℕ) → Besides (IsNeighbour m) u w x y → Besides (IsNeighbour m) u w y x
besides-turn m u w = besides_back (IsNeighbour m) (λ a b n. near-sym m a b n.0 n.1) u w

-- a nearer neighbour across a bridge is the only nearer one
pub only-nearer : (m : Floor) (g u w v : ℕ) → IsBridge (IsNeighbour m) u w → IsNearer m g w u → IsNeighbour m u v → IsNearer m g v u → v ≡ w
only-nearer m g u w v bridge closer n closer_v = elim (cases_eq v w) [
  | inl same ↦ same
  | inr ne ↦ (
      let step : Besides (IsNeighbour m) u w u v = record { near = n; there = λ a b. ne b; back = λ a b. ne (b ∙ a) } in
      let home = joined_back (Besides (IsNeighbour m) u w) (besides-turn m u w) w g (nearer-joined m g w u w closer) in
      absurd (bridge.alone (joined_by_edge (Besides (IsNeighbour m) u w) u v w step (joined_on (Besides (IsNeighbour m) u w) v g w (nearer-joined m g v u w closer_v) home))))
]

-- so one nearer neighbour that is not full beyond is a way ahead
pub one-way : (m : Floor) (from : List ℕ) (g cell w : ℕ) → IsNeighbour m cell w → IsNearer m g w cell → (IsFullBeyond m from cell w → ⊥) → HasWayAhead m from g cell
one-way m from g cell w n closer free v n_v closer_v beyond =
    let same : w ≡ v = only-nearer m g cell v w beyond.bridge closer_v n closer in
    free (subst (IsFullBeyond m from cell) (sym same) beyond)

-- the cell before a bridge is not beyond it
pub before-apart : (m : Floor) (u w : ℕ) → IsBridge (IsNeighbour m) u w → IsOnSide (IsNeighbour m) u w u → ⊥
before-apart m u w bridge side = bridge.alone (joined_back (Besides (IsNeighbour m) u w) (besides-turn m u w) w u side)

-- distinct cells, each of which is in a list, are no more than it is long
pub few-cells : (cells place : List ℕ) → ((i j d : ℕ) → i < j → j < length cells → eqb (get_or cells i d) (get_or cells j d) ≡ false) → ((i : ℕ) → i < length cells → Contains place (slice_index cells i)) → length cells ≤ length place
few-cells cells place apart each = length-le_from_is_member nat_eq_equiv cells place (IsDistinct-from_apart eqb cells apart) within
  where
    eqb_true : (x y : ℕ) → eqb x y ≡ true → x ≡ y
    eqb_true x y e = search (rules, e)

    within : (q : ℕ) → list_any (eqb q) cells ≡ true → list_any (eqb q) place ≡ true
    within q h =
        let at = Contains-from_any {eq = eqb} eqb_true q cells h in
        let same : slice_index cells at.0 ≡ q = get_or_default cells at.0 0 q at.1 ∙ at.2 in
        list_any-from_Contains nat_eq_equiv q place (subst (Contains place) same (each at.0 at.1))

module _ (Near : ℕ → ℕ → Type 0) (from : List ℕ) (e : ℕ) (known : e < length from) where
  abbrev own : ℕ
  own = slice_index from e

  -- robots that stand on each cell of a side, and one more, are more than it has cells
  pub too-many : (w : ℕ) → (IsOnSide Near own w own → ⊥) → ((c : ℕ) → IsOnSide Near own w c → (r : ℕ) × (r < length from) × (slice_index from r ≡ c)) → HasSide Near own w (length from) → ⊥
  too-many w alone full side = omega (arith, few, side.many)
    where
      off : (i : ℕ) → i < length side.cells → own ≢ slice_index side.cells i
      off i l is = alone (subst (IsOnSide Near own w) (sym is) (side.inside i l))

      apart : (i j d : ℕ) → i < j → j < length (own ∷ side.cells) → eqb (get_or (own ∷ side.cells) i d) (get_or (own ∷ side.cells) j d) ≡ false
      apart i zero d less inner = absurd (omega (arith, less))
      apart zero (suc j) d less inner =
          let l : j < length side.cells = omega (arith, inner) in
          ne_eqb own (get_or side.cells j d) (λ is. off j l (is ∙ get_or_default side.cells j d 0 l))
      apart (suc i) (suc j) d less inner =
          let l : j < length side.cells = omega (arith, inner) in
          let k : i < length side.cells = omega (arith, less, l) in
          ne_eqb (get_or side.cells i d) (get_or side.cells j d) (λ is. side.apart i j (omega (arith, less)) l
          (get_or_default side.cells i 0 d k ∙ (is ∙ get_or_default side.cells j d 0 l)))

      inside : (i : ℕ) → i < length (own ∷ side.cells) → Contains from (slice_index (own ∷ side.cells) i)
      inside zero l = (e, known, get_or_default from e own 0 known)
      inside (suc i) l =
          let robot = full (slice_index side.cells i) (side.inside i (omega (arith, l))) in
          (robot.0, robot.1, get_or_default from robot.0 (slice_index side.cells i) 0 robot.1 ∙ robot.2)

      few : length (own ∷ side.cells) ≤ length from
      few = few-cells (own ∷ side.cells) from apart inside

module _ (m : Floor) (from : List ℕ) (e g : ℕ) (known : e < length from) (roomy : IsRoomy (IsNeighbour m) (length from) g) where
  -- who goes to a cell that is roomy for all robots has a way ahead
  pub roomy-way : HasWayAhead m from g (slice_index from e)
  roomy-way w n closer beyond =
      let here : ℕ = slice_index from e in
      too-many (IsNeighbour m) from e known w (before-apart m here w beyond.bridge) beyond.full (roomy here w beyond.bridge (goal-beyond m g w here closer))

-- an open edge is a way
pub open-way : (m : Floor) (from : List ℕ) (goal cell : ℕ) → IsOpenAhead m from goal cell → HasWayAhead m from goal cell
open-way m from goal cell ahead w n closer beyond = elim (ahead w n closer) [
  | inl free ↦ (let robot = beyond.full w (record { steps = []; walk = refl }) in free robot.0 robot.1 robot.2)
  | inr sealed ↦ sealed beyond.bridge
]
