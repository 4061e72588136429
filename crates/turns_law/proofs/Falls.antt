-- What a robot that has the turn still needs falls with each tick.
use Rattle.std.proofs.Common.{◌≡◌, ◌≢◌, ℕ, zero, suc, ◌+◌, ◌-◌, ◌*◌, ◌<◌, ◌≤◌, ◌⊎◌, inl, inr, Option, Some, None, Bool, true, List, [], ◌∷◌, length, slice_index, sym, subst, refl, ap, ◌∙◌, arith, ◌==◌}
use Rattle.std.specs.Prelude.{MatchOption, max, min, slice_set, if◌then◌else◌}
use Rattle.std.proofs.Math.Nat.{mul-le-mul_right, add-mul}
use Rattle.std.proofs.lemmas.Bool.{cases_eq, cases_order, eq-eqb}
use Rattle.fleet_grid.specs.Floor.{Floor, IsFloor, IsNeighbour}
use Rattle.fleet_grid.specs.Walk.{Walks, AreJoined, AreApart, IsBridge, IsOnSide, IsDistance}
use Rattle.fleet_grid.specs.Step.{IsPlacement}
use Rattle.fleet_grid.proofs.Walks.{joined_by_edge, joined_on}
use Rattle.fleet_hooks.specs.declared.law.TieLaw.{TieLaw}
use Rattle.fleet_bridge.specs.Rooms.{IsRoom}
use Rattle.fleet_bridge.proofs.Serving.{core_roomy, room_served}
use Rattle.fleet_pibt.specs.Advancing.{Advances}
use Rattle.fleet_pibt.specs.Door.{HasWayWithDoor, IsOpen, IsPassage, KeepToPassages}
use Rattle.fleet_pibt.specs.Eldest.{IsEldest}
use Rattle.fleet_pibt.specs.Goals.{IsNearer}
use Rattle.fleet_pibt.specs.declared.door.Door.{Door}
use Rattle.fleet_pibt.proofs.Distances.{distance-unique, distance-none}
use Rattle.fleet_pibt.proofs.Doors.{way-same}
use Rattle.fleet_pibt.proofs.Roomy.{roomy-way}
use Rattle.fleet_planner.specs.Lending.{IsInside, IsNearestInside, IsLentTo, IsShut, IsNothing, IsServedFor, goal_at}
use Rattle.fleet_planner.specs.declared.lending.Lending.{Lending}
use Rattle.turns_law.specs.Turns.{Turns, AreTurns}
use Rattle.turns_law.specs.Turn.{IsTurn, goal_in_turn}
use Rattle.turns_law.specs.ToGo.{HasRoom, AreLimits, IsToGo, own, others, inmates}
use Rattle.turns_law.proofs.Measured.{joined_least}
use Rattle.turns_law.proofs.Crossing.{turned, out_mouth, beside_in}
use Rattle.turns_law.proofs.RoomWays.{HasNext, next_of, way_out, way_to, way_within, way_in}
use Rattle.turns_law.proofs.RoomFacts.{floor_joined, bridge_is, told, in_or_not, in_goal, core_out_of, one_core, beyond_mouth}
use Rattle.turns_law.proofs.Inmates.{inside_or_not, nearest_or_none, nearest_once, still_none, no_more, fewer, some_inmate, fewer_than_all, shut_out}

none_or_some : (o : Option ℕ) → (o ≡ None) ⊎ ((x : ℕ) × (o ≡ Some x))
none_or_some None = inl refl
none_or_some (Some x) = inr (x, refl)

-- where a robot has to go, a neighbour is nearer
next_or_there : (m : Floor) (cell g far : ℕ) → IsDistance (IsNeighbour m) cell g far → (cell ≡ g → ⊥) → HasNext m cell g
next_or_there m cell g zero is off = absurd (off (distance-none (IsNeighbour m) cell g is))
next_or_there m cell g (suc far) is off = next_of m cell g far is

-- one tick of a robot e that has the turn and goes to a served goal g
module _ (m : Floor) (t : Turns) (are : AreTurns m t) (laws : List TieLaw) (goals waits : List (Option ℕ)) (from to : List ℕ) (lending : Lending) (turn : IsTurn m t laws goals waits from to lending)
    (placed : IsPlacement m from) (many : length from ≡ t.robots) (waiting : length waits ≡ t.robots)
    (e g : ℕ) (known : e < length from) (is : goal_at goals e ≡ Some g) (eldest : IsEldest turn.lent.own e)
    (reached : AreJoined (IsNeighbour m) (slice_index from e) g) (served : t.robots ≤ slice_index t.capacity (slice_index t.core g)) where
  abbrev here : ℕ
  here = slice_index from e

  abbrev there : ℕ
  there = slice_index to e

  floor_at : (r : ℕ) → r < length from → IsFloor m (slice_index from r)
  floor_at r l = placed.on_floor r l

  floor_g : IsFloor m g
  floor_g = floor_joined m here g (floor_at e known) reached

  lent_to : IsLentTo t.core t.door t.mouth t.away from e g lending
  lent_to = turn.lent.served e g eldest is (subst (λ (n : ℕ). n ≤ slice_index t.capacity (slice_index t.core g)) (sym waiting) served)

  -- where nothing is lent the eldest goes first
  plain_ranks : lending.lender ≡ None → IsEldest turn.ranks e
  plain_ranks none =
      let same : turn.ranks ≡ turn.lent.own = subst (λ (o : Option ℕ). MatchOption o (turn.ranks ≡ turn.lent.own) (λ x. turn.ranks ≡ slice_set turn.lent.own x (Some 18446744073709551615))) none turn.lent.written in
      subst (λ (rs : List (Option ℕ)). IsEldest rs e) (sym same) eldest

  plain_goal : lending.lender ≡ None → goal_in_turn t.core from lending.lender (goal_at goals) e ≡ Some g
  plain_goal none = ap (λ (o : Option ℕ). goal_in_turn t.core from o (goal_at goals) e) none ∙ is

  plain : lending.lender ≡ None → HasWayWithDoor m lending.door from g here → Advances m g here there
  plain none way = turn.stepped.advances e g (plain_ranks none) (plain_goal none) way

  -- its goal is in no room
  way_outside : slice_index t.door g ≡ slice_index t.core g → Advances m g here there
  way_outside no_room =
      let nothing = lent_to.outside no_room in
      let roomy = core_roomy m (slice_index t.core) (slice_index t.door) (slice_index t.mouth) (slice_index t.size) (slice_index t.capacity) are.rooms g (length from) floor_g (subst (λ (n : ℕ). n ≤ slice_index t.capacity (slice_index t.core g)) (sym many) served) no_room in
      plain nothing.0 (subst (λ (dr : Option Door). HasWayWithDoor m dr from g here) (sym nothing.1) ((way-same m from g here).1 (roomy-way m from e g known roomy)))

  -- its goal is in a room
  module _ (has : HasRoom t g) where
    abbrev d : ℕ
    d = slice_index t.door g

    abbrev mo : ℕ
    mo = slice_index t.mouth d

    abbrev In : ℕ → Type 0
    In c = IsOnSide (IsNeighbour m) mo d c

    abbrev bridge : IsBridge (IsNeighbour m) mo d
    bridge = bridge_is m t are g floor_g has

    room_is : IsRoom (IsNeighbour m) (length from) mo d
    room_is = room_served m (slice_index t.core) (slice_index t.door) (slice_index t.mouth) (slice_index t.size) (slice_index t.capacity) are.rooms g (length from) floor_g (subst (λ (n : ℕ). n ≤ slice_index t.capacity (slice_index t.core g)) (sym many) served) has

    inside_in : (r : ℕ) → IsInside t.door from d e r → In (slice_index from r)
    inside_in r it = (told m t are g floor_g has (slice_index from r) (floor_at r it.known)).0 it.inside

    in_inside : (r : ℕ) → r < length from → r ≢ e → In (slice_index from r) → IsInside t.door from d e r
    in_inside r l other side = record { known = l; other = other; inside = (told m t are g floor_g has (slice_index from r) (floor_at r l)).1 side }

    -- through the shut door nobody comes in
    shut_keeps : lending.door ≡ Some (record { from = mo; to = d }) → (r : ℕ) → r < length from → slice_index t.door (slice_index to r) ≡ d → r ≢ e → slice_index t.door (slice_index from r) ≡ d
    shut_keeps shut r l at other =
        let side = (told m t are g floor_g has (slice_index to r) (turn.stepped.conflict_free.on_floor r l)).0 at in
        let keeps = subst (λ (dr : Option Door). KeepToPassages m dr from to) shut turn.stepped.passes in
        (told m t are g floor_g has (slice_index from r) (floor_at r l)).1 (shut_out m mo d bridge from to keeps r l side)

    -- nobody else is there
    module _ (nobody : (r : ℕ) → IsInside t.door from d e r → ⊥) where
      none_lent : lending.lender ≡ None
      none_lent = elim (none_or_some lending.lender) [
        | inl none ↦ none
        | inr some ↦ (
            let it : IsNearestInside t.door t.away from d e some.0 = subst (λ (o : Option ℕ). MatchOption o ((r : ℕ) → IsInside t.door from d e r → ⊥) (λ x. IsNearestInside t.door t.away from d e x)) some.1 (lent_to.lender has) in
            absurd (nobody some.0 it.is))
      ]

      lone : (r : ℕ) → r < length from → r ≢ e → In (slice_index from r) → ⊥
      lone r l other side = nobody r (in_inside r l other side)

      ahead : (far : ℕ) → IsDistance (IsNeighbour m) here g far → (here ≡ g → ⊥) → HasNext m here g
      ahead far far_is off = next_or_there m here g far far_is off

      abbrev Shut : Option Door
      Shut = Some (record { from = mo; to = d })

      -- it comes nearer, and is still alone there
      alone : (far : ℕ) → IsDistance (IsNeighbour m) here g far → (here ≡ g → ⊥) → Advances m g here there × ((r : ℕ) → IsInside t.door to d e r → ⊥)
      alone far far_is off = elim (cases_eq here mo) [
        | inl at ↦ (
            let opened : lending.door ≡ None = lent_to.free has none_lent at in
            let way = way_in m from e mo d known room_is g lone at (in_goal m t are g floor_g has) (λ w near. in_or_not m t are g floor_g has w near.1.to) (ahead far far_is off) in (
              plain none_lent (subst (λ (dr : Option Door). HasWayWithDoor m dr from g here) (sym opened) way),
              still_none t.door from to d e turn.stepped.conflict_free.same_length (λ r l to_in other. through at r l to_in other) nobody,
            ))
        | inr away_from ↦ (
            let shut : lending.door ≡ Shut = lent_to.shut_before has none_lent away_from in
            let way : HasWayWithDoor m Shut from g here = elim (in_or_not m t are g floor_g has here (floor_at e known)) [
              | inl inside ↦ way_within m from e mo d known room_is g lone inside (in_goal m t are g floor_g has) (ahead far far_is off)
              | inr out ↦ way_to m from e mo d known room_is g out away_from (in_goal m t are g floor_g has) (ahead far far_is off)
            ] in (
              plain none_lent (subst (λ (dr : Option Door). HasWayWithDoor m dr from g here) (sym shut) way),
              still_none t.door from to d e turn.stepped.conflict_free.same_length (shut_keeps shut) nobody,
            ))
      ]
        where
          order : (a b : ℕ) → a ≢ b → (a < b) ⊎ (b < a)
          order a b ne = elim (cases_order a b) [ inl same ↦ absurd (ne same) | inr it ↦ it ]

          two : (r : ℕ) → r < length from → r ≢ e → slice_index from r ≡ here → ⊥
          two r l other same = elim (order r e other) [ inl less ↦ placed.distinct r e less known same | inr less ↦ placed.distinct e r less l (sym same) ]

          apart : (r : ℕ) → r < length from → r ≢ e → slice_index from r ≡ here → ⊥
          apart r l other same = elim (cases_eq r e) [ inl p ↦ other p | inr p ↦ two r l p same ]

          -- while e stands at the mouth, nobody else comes through the door
          through : here ≡ mo → (r : ℕ) → r < length from → slice_index t.door (slice_index to r) ≡ d → r ≢ e → slice_index t.door (slice_index from r) ≡ d
          through at r l to_in other =
              let side = (told m t are g floor_g has (slice_index to r) (turn.stepped.conflict_free.on_floor r l)).0 to_in in
              elim (turn.stepped.conflict_free.moves r l) [
                | inl same ↦ (told m t are g floor_g has (slice_index from r) (floor_at r l)).1 (subst In same side)
                | inr near ↦ elim (beside_in m mo d bridge (slice_index to r) (slice_index from r) side (turned m (slice_index from r) (slice_index to r) near)) [
                  | inl met ↦ absurd (apart r l other (met.1 ∙ sym at))
                  | inr in_from ↦ (told m t are g floor_g has (slice_index from r) (floor_at r l)).1 in_from
                ]
              ]

    -- others are there: the nearest to the mouth goes first
    module _ (x : ℕ) (nearest : IsNearestInside t.door t.away from d e x) where
      lender_is : lending.lender ≡ Some x
      lender_is = elim (none_or_some lending.lender) [
        | inl none ↦ (
            let nobody : (r : ℕ) → IsInside t.door from d e r → ⊥ = subst (λ (o : Option ℕ). MatchOption o ((r : ℕ) → IsInside t.door from d e r → ⊥) (λ y. IsNearestInside t.door t.away from d e y)) none (lent_to.lender has) in
            absurd (nobody x nearest.is))
        | inr some ↦ (
            let it : IsNearestInside t.door t.away from d e some.0 = subst (λ (o : Option ℕ). MatchOption o ((r : ℕ) → IsInside t.door from d e r → ⊥) (λ y. IsNearestInside t.door t.away from d e y)) some.1 (lent_to.lender has) in
            some.1 ∙ ap Some (nearest_once t.door from d e t.away some.0 x it nearest))
      ]

      lender_shuts : lending.door ≡ Some (record { from = mo; to = d })
      lender_shuts = lent_to.shut has x lender_is

      abbrev at_x : ℕ
      at_x = slice_index from x

      abbrev k : ℕ
      k = slice_index t.core at_x

      known_x : x < length from
      known_x = nearest.is.known

      in_x : In at_x
      in_x = inside_in x nearest.is

      goal_x : goal_in_turn t.core from lending.lender (goal_at goals) x ≡ Some k
      goal_x = ap (λ (o : Option ℕ). goal_in_turn t.core from o (goal_at goals) x) lender_is ∙ ap (λ (b : Bool). if b then Some k else goal_at goals x) (eq-eqb x x refl)

      away_x : IsDistance (IsNeighbour m) at_x k (slice_index t.away at_x)
      away_x = are.away.measured at_x (floor_at x known_x)

      core_off : In k → ⊥
      core_off = core_out_of m t are g floor_g has at_x in_x

      advance_x : Advances m k at_x (slice_index to x)
      advance_x =
          let next = next_or_there m at_x k (slice_index t.away at_x) away_x (λ same. core_off (subst In same in_x)) in
          let way = way_out m from x mo d known_x room_is k in_x core_off next in
          turn.stepped.advances x k (turn.first x lender_is) goal_x (subst (λ (dr : Option Door). HasWayWithDoor m dr from k at_x) (sym lender_shuts) way)

      -- and comes nearer to the core, if it is still there
      nearer_x : In (slice_index to x) → slice_index t.away (slice_index to x) + 1 ≡ slice_index t.away at_x
      nearer_x in_to = elim advance_x [
        | inl step ↦ (
            let floor_to = turn.stepped.conflict_free.on_floor x known_x in
            let same : slice_index t.core (slice_index to x) ≡ k = one_core m t are g floor_g has (slice_index to x) in_to ∙ sym (one_core m t are g floor_g has at_x in_x) in
            let there_is : IsDistance (IsNeighbour m) (slice_index to x) k (slice_index t.away (slice_index to x)) = subst (λ (c : ℕ). IsDistance (IsNeighbour m) (slice_index to x) c (slice_index t.away (slice_index to x))) same (are.away.measured (slice_index to x) floor_to) in
            let old = distance-unique (IsNeighbour m) at_x k (slice_index t.away at_x) (suc step.0) away_x step.1 in
            let new = distance-unique (IsNeighbour m) (slice_index to x) k (slice_index t.away (slice_index to x)) step.0 there_is step.2 in
            omega (arith, old, new))
        | inr stood ↦ absurd (core_off (subst In stood.0 in_x))
      ]

      others_no_more : inmates t.door to d e ≤ inmates t.door from d e
      others_no_more = no_more t.door from to d e turn.stepped.conflict_free.same_length (shut_keeps lender_shuts)

      others_fewer : (IsInside t.door to d e x → ⊥) → inmates t.door to d e < inmates t.door from d e
      others_fewer gone = fewer t.door from to d e turn.stepped.conflict_free.same_length (shut_keeps lender_shuts) x nearest.is gone

      -- how far the lender is from the mouth
      some_way : slice_index t.away mo < slice_index t.away at_x
      some_way = beyond_mouth m t are g floor_g has at_x (floor_at x known_x) in_x

      to_in : (r : ℕ) → IsInside t.door to d e r → In (slice_index to r)
      to_in r it = (told m t are g floor_g has (slice_index to r) (turn.stepped.conflict_free.on_floor r (let l = it.known in omega (arith, l, turn.stepped.conflict_free.same_length)))).0 it.inside

      to_far : (r : ℕ) → IsInside t.door to d e r → slice_index t.away mo < slice_index t.away (slice_index to r)
      to_far r it = beyond_mouth m t are g floor_g has (slice_index to r) (turn.stepped.conflict_free.on_floor r (let l = it.known in omega (arith, l, turn.stepped.conflict_free.same_length))) (to_in r it)

      to_room : (r : ℕ) → IsInside t.door to d e r → HasRoom t (slice_index to r)
      to_room r it same = has (sym it.inside ∙ (same ∙ one_core m t are g floor_g has (slice_index to r) (to_in r it)))

  -- ---- what is still needed

  joined_there : AreJoined (IsNeighbour m) there g
  joined_there = elim (turn.stepped.conflict_free.moves e known) [
    | inl same ↦ subst (λ (c : ℕ). AreJoined (IsNeighbour m) c g) (sym same) reached
    | inr near ↦ joined_by_edge (IsNeighbour m) there here g (turned m here there near) reached
  ]

  floor_there : IsFloor m there
  floor_there = turn.stepped.conflict_free.on_floor e known

  -- who stands on its goal and has the turn arrives
  arrives : lending.lender ≡ None → here ≡ g → there ≡ g
  arrives none at = elim (plain none (record {
    passage = λ w _ closer. absurd (no_nearer w closer);
    free = λ w _ closer _. no_nearer w closer;
  })) [
    | inl step ↦ (let none_left = step.1.least [] at in absurd (omega (arith, none_left)))
    | inr stood ↦ stood.1 ∙ at
  ]
    where
      no_nearer : (w : ℕ) → IsNearer m g w here → ⊥
      no_nearer w closer = let none_left = closer.far_is.least [] at in let less = closer.less in omega (arith, none_left, less)

  module _ (reach : ℕ) (depth : ℕ → ℕ) (limit : ℕ) (limits : AreLimits m t reach depth limit) (off : there ≡ g → ⊥) where
    pub record HasFallen (before : ℕ) : Type 0 where
      pub ticks : ℕ
      pub is_to_go : IsToGo m t reach depth to e g ticks
      pub less : ticks + 1 ≤ before

    -- one step on its own way
    own_step : (far : ℕ) → IsDistance (IsNeighbour m) here g far → Advances m g here there → (HasRoom t g → (r : ℕ) → IsInside t.door to (slice_index t.door g) e r → ⊥) → HasFallen (max 1 far)
    own_step far far_is (inl step) nobody =
        let once = distance-unique (IsNeighbour m) here g far (suc step.0) far_is step.1 in
        let some : (step.0 ≡ 0) → ⊥ = λ zero_left. off (distance-none (IsNeighbour m) there g (subst (λ (n : ℕ). IsDistance (IsNeighbour m) there g n) zero_left step.2)) in
        record { ticks = max 1 step.0; is_to_go = own step.0 nobody step.2 refl; less = omega (arith, once, some) }
    own_step far far_is (inr stood) nobody = absurd (off (stood.1 ∙ stood.0))

    own_falls : (far : ℕ) → (HasRoom t g → (r : ℕ) → IsInside t.door from (slice_index t.door g) e r → ⊥) → IsDistance (IsNeighbour m) here g far → HasFallen (max 1 far)
    own_falls far nobody far_is = elim (cases_eq (slice_index t.door g) (slice_index t.core g)) [
      | inl no_room ↦ own_step far far_is (way_outside no_room) (λ has r it. has no_room)
      | inr has ↦ elim (cases_eq here g) [
        | inl at ↦ absurd (off (arrives (none_lent has (nobody has)) at))
        | inr away_from ↦ (let it = alone has (nobody has) far far_is away_from in own_step far far_is it.0 (λ _. it.1))
      ]
    ]

    fewer_walks : (o o' D : ℕ) → o' < o → 0 < o' → (o' - 1) * D + D ≤ (o - 1) * D
    fewer_walks o o' D less some = let h : (o' - 1 + 1) * D ≤ (o - 1) * D = mul-le-mul_right D (omega (arith, less, some)) in omega (arith, h, add-mul (o' - 1) 1 D)

    no_more_walks : (o o' D : ℕ) → o' ≤ o → (o' - 1) * D ≤ (o - 1) * D
    no_more_walks o o' D less = mul-le-mul_right D (omega (arith, less))

    others_fall : (has : HasRoom t g) (x near : ℕ) (nearest : IsNearestInside t.door t.away from (slice_index t.door g) e x) → slice_index t.away (slice_index t.mouth (slice_index t.door g)) + near ≡ slice_index t.away (slice_index from x) →
        HasFallen (reach + (inmates t.door from (slice_index t.door g) e - 1) * depth (slice_index t.door g) + near)
    others_fall has x near nearest far = elim (nearest_or_none t.door to (slice_index t.door g) e t.away) [
      | inl none ↦ (
          let it = joined_least m there g floor_there (λ apart. apart joined_there.steps joined_there.walk) in
          let short = limits.within there g it.0 it.1 in
          let positive = limits.positive in
          let some = some_way has x nearest in
          record { ticks = max 1 it.0; is_to_go = own it.0 (λ _. none) it.1 refl; less = omega (arith, short, positive, some, far) })
      | inr next ↦ (
          let y = next.0 in
          let beyond = to_far has x nearest y next.1.is in
          let near' : ℕ = slice_index t.away (slice_index to y) - slice_index t.away (slice_index t.mouth (slice_index t.door g)) in
          let split : slice_index t.away (slice_index t.mouth (slice_index t.door g)) + near' ≡ slice_index t.away (slice_index to y) = omega (arith, beyond) in
          record {
            ticks = reach + (inmates t.door to (slice_index t.door g) e - 1) * depth (slice_index t.door g) + near';
            is_to_go = others y near' has next.1 split refl;
            less = elim (inside_or_not t.door to (slice_index t.door g) e x (let l = known_x has x nearest in omega (arith, l, turn.stepped.conflict_free.same_length))) [
              | inl still ↦ (
                  let step = nearer_x has x nearest (to_in has x nearest x still) in
                  let first : slice_index t.away (slice_index to y) ≤ slice_index t.away (slice_index to x) = elim (next.1.nearest x still.known still) [ inl a ↦ omega (arith, a) | inr a ↦ (let b = a.0 in omega (arith, b)) ] in
                  let walks = no_more_walks (inmates t.door from (slice_index t.door g) e) (inmates t.door to (slice_index t.door g) e) (depth (slice_index t.door g)) (others_no_more has x nearest) in
                  omega (arith, step, first, walks, split, far))
              | inr gone ↦ (
                  let walks = fewer_walks (inmates t.door from (slice_index t.door g) e) (inmates t.door to (slice_index t.door g) e) (depth (slice_index t.door g)) (others_fewer has x nearest gone) (some_inmate t.door to (slice_index t.door g) e y next.1.is) in
                  let deep = deep_at y next.1.is in
                  let some = some_way has x nearest in
                  omega (arith, walks, deep, some, split, far))
            ];
          })
    ]
      where
        deep_at : (r : ℕ) (it : IsInside t.door to (slice_index t.door g) e r) → slice_index t.away (slice_index to r) ≤ slice_index t.away (slice_index t.mouth (slice_index t.door g)) + depth (slice_index t.door g)
        deep_at r it = subst (λ (c : ℕ). slice_index t.away (slice_index to r) ≤ slice_index t.away (slice_index t.mouth c) + depth c) it.inside
            (limits.deep (slice_index to r) (turn.stepped.conflict_free.on_floor r (let l = it.known in omega (arith, l, turn.stepped.conflict_free.same_length))) (to_room has x nearest r it))

    -- what is needed falls, whoever goes first
    pub falls : (ticks : ℕ) → IsToGo m t reach depth from e g ticks → HasFallen ticks
    falls ticks (own far nobody far_is same) = subst HasFallen (sym same) (own_falls far nobody far_is)
    falls ticks (others x near has nearest far same) = subst HasFallen (sym same) (others_fall has x near nearest far)
