-- No step enters a side where a robot stands on each cell, so only a robot with a way ahead comes nearer.
use Rattle.std.proofs.Common.{◌≡◌, ◌≢◌, ◌↔◌, ℕ, zero, suc, ◌+◌, ◌<◌, inl, inr, eqb, false, List, [], length, map, get_or, slice_index, sym, subst, ap, ◌∙◌, arith, zero-add}
use Rattle.std.specs.Prelude.{Contains, Option, Some, None}
use Rattle.std.specs.List.{range_with_len}
use Rattle.std.proofs.lemmas.Bool.{ne_eqb, cases_eq, cases_lt}
use Rattle.std.proofs.lemmas.List.{get_or_default, length-map, get_or-map}
use Rattle.std.proofs.lemmas.List.FromFn.{length-range_with_len, get_or-range_with_len}
use Rattle.fleet_grid.specs.Floor.{Floor, IsNeighbour}
use Rattle.fleet_grid.specs.Step.{IsConflictFree}
use Rattle.fleet_grid.specs.Walk.{Besides, IsDistance, IsOnSide}
use Rattle.fleet_grid.proofs.Walks.{joined_on, joined_same, joined_by_edge}
use Rattle.fleet_hooks.specs.declared.law.TieLaw.{TieLaw}
use Rattle.fleet_pibt.specs.Advancing.{Advances, IsFullBeyond, HasWayAhead}
use Rattle.fleet_pibt.specs.Door.{IsPassage, KeepToPassages, IsFullWithDoor}
use Rattle.fleet_pibt.specs.Eldest.{IsEldest}
use Rattle.fleet_pibt.specs.Goals.{IsNearer}
use Rattle.fleet_pibt.specs.Stepped.{IsStepped}
use Rattle.fleet_pibt.specs.declared.door.Door.{Door}
use Rattle.fleet_pibt.proofs.Distances.{distance-unique}
use Rattle.fleet_pibt.proofs.Doors.{full-from}
use Rattle.fleet_pibt.proofs.Roomy.{few-cells, only-nearer}

at_made : (f : ℕ → ℕ) (n i d : ℕ) → i < n → get_or (map f (range_with_len 0 n)) i d ≡ f i
at_made f n i d l =
    get_or-map f (range_with_len 0 n) i 0 d (omega (arith, l, length-range_with_len 0 n))
    ∙ ap f (get_or-range_with_len 0 n i 0 l ∙ zero-add i)

length-made : (f : ℕ → ℕ) (n : ℕ) → length (map f (range_with_len 0 n)) ≡ n
length-made f n = length-map (range_with_len 0 n) f ∙ length-range_with_len 0 n

module _ (m : Floor) (door : Option Door) (from to : List ℕ) (step : IsConflictFree m from to) (passes : KeepToPassages m door from to)
    (e w : ℕ) (known : e < length from) (beyond : IsFullWithDoor m door from (slice_index from e) w) where
  abbrev own : ℕ
  own = slice_index from e

  abbrev Side : ℕ → Type 0
  Side = IsOnSide (IsPassage m door) own w

  -- no two robots go to one cell
  unique : (i j : ℕ) → i < length from → j < length from → slice_index to i ≡ slice_index to j → i ≡ j
  unique i j li lj is = elim (cases_eq i j) [
    | inl same ↦ same
    | inr ne ↦ elim (cases_lt i j) [
      | inl less ↦ absurd (step.no_vertex_conflict i j less lj is)
      | inr past ↦ absurd (step.no_vertex_conflict j i (let d : i ≢ j = ne in omega (arith, past, d)) li (sym is))
    ]
  ]

  -- a robot that stands on that side
  record Beyond : Type 0 where
    robot : ℕ
    small : robot < length from
    side : Side (slice_index from robot)

  off : (b : Beyond) → slice_index from b.robot ≡ own → ⊥
  off b is = beyond.apart (subst Side is b.side)

  not_e : (b : Beyond) → e ≡ b.robot → ⊥
  not_e b is = off b (ap (slice_index from) (sym is))

  standing : (c : ℕ) → Side c → Beyond
  standing c side = let r = beyond.full c side in record { robot = r.0; small = r.1; side = subst Side (sym r.2) side }

  standing-at : (c : ℕ) (side : Side c) → slice_index from (standing c side).robot ≡ c
  unfolding standing
  standing-at c side = (beyond.full c side).2

  module _ (enters : slice_index to e ≡ w) where
    swapless : (b : Beyond) → slice_index from b.robot ≡ w → slice_index to b.robot ≡ own → ⊥
    swapless b at back = elim (cases_lt e b.robot) [
      | inl less ↦ step.no_swapping_conflict e b.robot less b.small (enters ∙ sym at) back
      | inr past ↦ elim (cases_eq e b.robot) [
        | inl same ↦ not_e b same
        | inr ne ↦ step.no_swapping_conflict b.robot e (let d : e ≢ b.robot = ne in omega (arith, past, d)) known back (enters ∙ sym at)
      ]
    ]

    -- who stands on that side stays on it
    stays : (b : Beyond) → Side (slice_index to b.robot)
    stays b = elim (passes b.robot b.small) [
      | inl same ↦ subst Side (sym same) b.side
      | inr near ↦ (
          let edge : Besides (IsPassage m door) own w (slice_index from b.robot) (slice_index to b.robot) = record { near = near; there = λ is _. off b is; back = swapless b } in
          joined_on (Besides (IsPassage m door) own w) w (slice_index from b.robot) (slice_index to b.robot) b.side
          (joined_by_edge (Besides (IsPassage m door) own w) (slice_index from b.robot) (slice_index to b.robot) (slice_index to b.robot) edge (joined_same (Besides (IsPassage m door) own w) (slice_index to b.robot))))
    ]

    -- the robot whose cell the robot takes
    next : Beyond → Beyond
    next b = standing (slice_index to b.robot) (stays b)

    chain : ℕ → Beyond
    chain zero = standing w (joined_same (Besides (IsPassage m door) own w) w)
    chain (suc k) = next (chain k)

    abbrev cell : ℕ → ℕ
    cell k = slice_index from (chain k).robot

    first_cell : cell zero ≡ w
    unfolding chain standing
    first_cell = standing-at w (joined_same (Besides (IsPassage m door) own w) w)

    next_cell : (k : ℕ) → cell (suc k) ≡ slice_index to (chain k).robot
    unfolding chain standing next
    next_cell k = standing-at (slice_index to (chain k).robot) (stays (chain k))

    -- no robot comes twice
    fresh : (i j : ℕ) → i < j → cell i ≡ cell j → ⊥
    fresh i zero less is = absurd (omega (arith, less))
    fresh zero (suc j) less is =
        let both : slice_index to e ≡ slice_index to (chain j).robot = enters ∙ (sym first_cell ∙ (is ∙ next_cell j)) in
        not_e (chain j) (unique e (chain j).robot known (chain j).small both)
    fresh (suc i) (suc j) less is =
        let both : slice_index to (chain i).robot ≡ slice_index to (chain j).robot = sym (next_cell i) ∙ (is ∙ next_cell j) in
        fresh i j (omega (arith, less)) (ap (slice_index from) (unique (chain i).robot (chain j).robot (chain i).small (chain j).small both))

    abbrev many : ℕ
    many = length from + 1

    crowd : length (map cell (range_with_len 0 many)) < many
    crowd = (let few = few-cells (map cell (range_with_len 0 many)) from apart each in omega (arith, few))
      where
        apart : (i j d : ℕ) → i < j → j < length (map cell (range_with_len 0 many)) → eqb (get_or (map cell (range_with_len 0 many)) i d) (get_or (map cell (range_with_len 0 many)) j d) ≡ false
        apart i j d less l =
            let lj : j < many = omega (arith, l, length-made cell many) in
            let li : i < many = omega (arith, less, lj) in
            ne_eqb (get_or (map cell (range_with_len 0 many)) i d) (get_or (map cell (range_with_len 0 many)) j d)
            (λ is. fresh i j less (sym (at_made cell many i d li) ∙ (is ∙ at_made cell many j d lj)))

        each : (i : ℕ) → i < length (map cell (range_with_len 0 many)) → Contains from (slice_index (map cell (range_with_len 0 many)) i)
        each i l =
            let li : i < many = omega (arith, l, length-made cell many) in
            ((chain i).robot, (chain i).small, get_or_default from (chain i).robot (slice_index (map cell (range_with_len 0 many)) i) 0 (chain i).small ∙ sym (at_made cell many i 0 li))

    -- no more robots stand there than there are cells
    pub full-shut-with : ⊥
    full-shut-with = absurd (omega (arith, crowd, length-made cell many))

-- without a door
pub full-shut : (m : Floor) (from to : List ℕ) → IsConflictFree m from to → (e w : ℕ) → e < length from → IsFullBeyond m from (slice_index from e) w → slice_index to e ≢ w
full-shut m from to step e w known beyond enters =
    full-shut-with m None from to step (λ r l. elim (step.moves r l) [ inl same ↦ inl same | inr n ↦ inr (n, tt) ]) e w known (full-from m None from (slice_index from e) w beyond) enters

module _ (m : Floor) (from to : List ℕ) (step : IsConflictFree m from to) (e g : ℕ) (known : e < length from) where
  -- who comes nearer, or stands on its goal, has a way ahead
  pub advanced-way : Advances m g (slice_index from e) (slice_index to e) → HasWayAhead m from g (slice_index from e)
  advanced-way advances w n closer beyond = elim advances [
    | inl on ↦ (
        let there : IsNearer m g (slice_index to e) (slice_index from e) = record { near = on.0; far = suc on.0; near_is = on.2; far_is = on.1; less = omega arith } in
        elim (step.moves e known) [
          | inl same ↦ (
              let twice = distance-unique (IsNeighbour m) (slice_index from e) g (suc on.0) on.0 on.1 (subst (λ c. IsDistance (IsNeighbour m) c g on.0) same on.2) in
              absurd (omega (arith, twice)))
          | inr near ↦ full-shut m from to step e w known beyond (only-nearer m g (slice_index from e) w (slice_index to e) beyond.bridge closer near there)
        ])
    | inr home ↦ (let none = closer.far_is.least [] home.0 in absurd (omega (arith, none, closer.less)))
  ]

pub eldest-exact : (m : Floor) (waits : List (Option ℕ)) (goals : ℕ → Option ℕ) (laws : List TieLaw) (from to : List ℕ) → length waits ≡ length from → IsStepped m waits goals laws from to →
    (e g : ℕ) → IsEldest waits e → goals e ≡ Some g → Advances m g (slice_index from e) (slice_index to e) ↔ HasWayAhead m from g (slice_index from e)
eldest-exact m waits goals laws from to same stepped e g eldest is = (
  advanced-way m from to stepped.conflict_free e g (omega (arith, eldest.known, same)),
  stepped.advances e g eldest is,
)
