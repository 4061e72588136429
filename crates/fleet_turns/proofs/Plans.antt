-- What a plan of turns gives a step, and what it gets from it.
use Rattle.std.proofs.Common.{◌≡◌, ◌↔◌, ℕ, ◌<◌, ◌⊎◌, inl, inr, List, Option, Some, None, IsSome, MatchOption, length, slice_index, refl, sym, subst, ap, ◌∙◌, arith, ◌==◌}
use Rattle.std.specs.Prelude.{slice_set, if◌then◌else◌}
use Rattle.std.proofs.lemmas.Bool.{cases_eq, cases_lt, false≢true}
use Rattle.std.proofs.lemmas.List.{length-set, get_or-set_same, get_or-set_other}
use Rattle.fleet_grid.specs.Floor.{Floor, IsFloor, IsNeighbour}
use Rattle.fleet_grid.specs.Distance.{distance}
use Rattle.fleet_grid.specs.Step.{IsPlacement}
use Rattle.fleet_grid.specs.Walk.{AreJoined, AreApart, IsDistance}
use Rattle.fleet_grid.proofs.Shortest.{distance_is, no_distance}
use Rattle.fleet_grid.proofs.Walks.{same_along}
use Rattle.fleet_hooks.specs.declared.law.TieLaw.{TieLaw}
use Rattle.fleet_pibt.specs.Door.{IsSteppedWithDoor}
use Rattle.fleet_pibt.specs.Eldest.{IsEldest}
use Rattle.fleet_pibt.specs.Goals.{AreGoals}
use Rattle.fleet_pibt.specs.Order.{wait_of}
use Rattle.fleet_pibt.specs.declared.door.Door.{Door}
use Rattle.fleet_planner.specs.Courses.{Courses, AreOn, goals_of, way_to}
use Rattle.fleet_planner.specs.Lending.{IsRank, IsLent, goal_at}
use Rattle.fleet_planner.specs.declared.lending.Lending.{Lending}
use Rattle.turns_law.specs.Turns.{Turns, AreAway, AreTurns}
use Rattle.fleet_turns.specs.Planning.{TurnPlanner, IsReadyAt}
use Rattle.turns_law.specs.Turn.{goal_in_turn, IsTurn}
use Rattle.fleet_turns.specs.inside.Lent.{goal_lent, way_lent, AreLent}
use Rattle.fleet_turns.proofs.ToCores.{goal_lender, goal_other}

none_or_some : (o : Option ℕ) → (o ≡ None) ⊎ ((x : ℕ) × (o ≡ Some x))
none_or_some None = inl refl
none_or_some (Some x) = inr (x, refl)

same_value : (v w : ℕ) → Some v ≡ Some w → v ≡ w
same_value v w e = cc

-- a core is its own core
pub core_own : (m : Floor) (t : Turns) → AreTurns m t → (c : ℕ) → IsFloor m c → slice_index t.core (slice_index t.core c) ≡ slice_index t.core c
core_own m t are c floor =
    let j = are.rooms.part c floor in
    sym (same_along (IsNeighbour m) (slice_index t.core) are.away.same c (slice_index t.core c) j.steps j.walk)

way_measured : (m : Floor) (g c : ℕ) → IsFloor m c → MatchOption (distance m c g) (AreApart (IsNeighbour m) c g) (IsDistance (IsNeighbour m) c g)
way_measured m g c floor = go (distance m c g) refl
  where
    go : (o : Option ℕ) → distance m c g ≡ o → MatchOption o (AreApart (IsNeighbour m) c g) (IsDistance (IsNeighbour m) c g)
    go None e = no_distance m c g floor e
    go (Some d) e = distance_is m c g d e

-- a rank is there exactly where a wait is
rank_has : (core capacity : List ℕ) (n : ℕ) (goal_ wait rank : Option ℕ) → IsRank core capacity n goal_ wait rank → IsSome rank ↔ IsSome wait
rank_has core capacity n goal_ None rank is = (λ s. absurd (false≢true (subst IsSome (is.idle refl) s)), λ s. absurd (false≢true s))
rank_has core capacity n None (Some w) rank is = (λ _. refl, λ _. subst IsSome (sym (is.aimless w refl refl)) refl)
rank_has core capacity n (Some g) (Some w) rank is = (
  λ _. refl,
  λ _. elim (cases_lt (slice_index capacity (slice_index core g)) n) [
    | inl less ↦ subst IsSome (sym (is.unserved g w refl refl (λ more. omega (arith, less, more)))) refl
    | inr more ↦ subst IsSome (sym (is.served g w refl refl more)) refl
  ],
)

module _ (core door mouth capacity away cells : List ℕ) (goals waits ranks : List (Option ℕ)) (lending : Lending) (lent : IsLent core door mouth capacity away cells goals waits ranks lending) where
  ranks_none : lending.lender ≡ None → ranks ≡ lent.own
  ranks_none none = subst (λ (o : Option ℕ). MatchOption o (ranks ≡ lent.own) (λ x. ranks ≡ slice_set lent.own x (Some 18446744073709551615))) none lent.written

  ranks_some : (x : ℕ) → lending.lender ≡ Some x → ranks ≡ slice_set lent.own x (Some 18446744073709551615)
  ranks_some x some = subst (λ (o : Option ℕ). MatchOption o (ranks ≡ lent.own) (λ x. ranks ≡ slice_set lent.own x (Some 18446744073709551615))) some lent.written

  pub ranks_length : length ranks ≡ length waits
  ranks_length = elim (none_or_some lending.lender) [
    | inl none ↦ ap (λ (rs : List (Option ℕ)). length rs) (ranks_none none) ∙ lent.ranked.same_length
    | inr some ↦ ap (λ (rs : List (Option ℕ)). length rs) (ranks_some some.0 some.1) ∙ (length-set lent.own some.0 (Some 18446744073709551615) ∙ lent.ranked.same_length)
  ]

  rank_lender : (x : ℕ) → x < length waits → lending.lender ≡ Some x → wait_of ranks x ≡ Some 18446744073709551615
  rank_lender x l some = ap (λ (rs : List (Option ℕ)). wait_of rs x) (ranks_some x some) ∙ get_or-set_same lent.own x (Some 18446744073709551615) None (let same = lent.ranked.same_length in omega (arith, l, same))

  rank_other : (r : ℕ) → (lending.lender ≡ Some r → ⊥) → wait_of ranks r ≡ wait_of lent.own r
  rank_other r ne = elim (none_or_some lending.lender) [
    | inl none ↦ ap (λ (rs : List (Option ℕ)). wait_of rs r) (ranks_none none)
    | inr some ↦ ap (λ (rs : List (Option ℕ)). wait_of rs r) (ranks_some some.0 some.1)
        ∙ get_or-set_other lent.own some.0 r (Some 18446744073709551615) None (λ same. ne (some.1 ∙ ap Some (sym same)))
  ]

module _ (m : Floor) (t : Turns) (are : AreTurns m t) (cells : List ℕ) (goals waits ranks : List (Option ℕ)) (lending : Lending)
    (lent : IsLent t.core t.door t.mouth t.capacity t.away cells goals waits ranks lending) (courses : Courses) (core : ℕ)
    (asked : goals ≡ goals_of courses) (placed : IsPlacement m cells) (many : length waits ≡ length cells)
    (to_core : (x : ℕ) → lending.lender ≡ Some x → core ≡ slice_index t.core (slice_index cells x)) where
  is_lender : (r : ℕ) → (lending.lender ≡ Some r) ⊎ (lending.lender ≡ Some r → ⊥)
  is_lender r = elim (none_or_some lending.lender) [
    | inl none ↦ inr (λ some. let both : None ≡ Some r = sym none ∙ some in cc)
    | inr some ↦ elim (cases_eq some.0 r) [ inl same ↦ inl (some.1 ∙ ap Some same) | inr other ↦ inr (λ is. other (same_value some.0 r (sym some.1 ∙ is))) ]
  ]

  goal_plain : (r : ℕ) → (lending.lender ≡ Some r → ⊥) → goal_lent lending.lender core courses r ≡ goal_at goals r
  goal_plain r ne = goal_other lending.lender core r courses ne ∙ ap (λ (gs : List (Option ℕ)). goal_at gs r) (sym asked)

  -- the lender's goal is its own core
  pub own_core : (x : ℕ) → x < length cells → lending.lender ≡ Some x → slice_index t.core core ≡ core
  own_core x l is =
      let at = to_core x is in
      ap (slice_index t.core) at ∙ (core_own m t are (slice_index cells x) (placed.on_floor x l) ∙ sym at)

  pub lent_goals : ((r : ℕ) → r < length cells → IsReadyAt m (slice_index cells r) (goal_at goals r) (wait_of waits r)) →
      AreGoals m cells ranks (goal_lent lending.lender core courses) (way_lent lending.lender core courses m)
  lent_goals each = record {
    waited = λ r l. elim (is_lender r) [
      | inl is ↦ (
        λ _. subst IsSome (sym (rank_lender t.core t.door t.mouth t.capacity t.away cells goals waits ranks lending lent r (omega (arith, l, many)) is)) refl,
        λ _. subst IsSome (sym (goal_lender lending.lender core r courses is)) refl,
      )
      | inr ne ↦ (
          let rank = rank_other t.core t.door t.mouth t.capacity t.away cells goals waits ranks lending lent r ne in
          let has = rank_has t.core t.capacity (length waits) (goal_at goals r) (wait_of waits r) (wait_of lent.own r) (lent.ranked.each r (omega (arith, l, many))) in (
            λ s. subst IsSome (sym rank) (has.1 ((each r l).waited.0 (subst IsSome (goal_plain r ne) s))),
            λ s. subst IsSome (sym (goal_plain r ne)) ((each r l).waited.1 (has.0 (subst IsSome rank s))),
          ))
    ];
    reached = λ r g l is. elim (is_lender r) [
      | inl lender ↦ (
          let same : g ≡ slice_index t.core (slice_index cells r) = same_value g core (sym is ∙ goal_lender lending.lender core r courses lender) ∙ to_core r lender in
          subst (λ (c : ℕ). AreJoined (IsNeighbour m) (slice_index cells r) c) (sym same) (are.rooms.part (slice_index cells r) (placed.on_floor r l)))
      | inr ne ↦ (each r l).reached g (sym (goal_plain r ne) ∙ is)
    ];
    measured = λ r g c l is floor. subst (λ (o : Option ℕ). MatchOption (way_to m o c) (AreApart (IsNeighbour m) c g) (IsDistance (IsNeighbour m) c g)) (sym is) (way_measured m g c floor);
  }

  pub same_goals : goal_lent lending.lender core courses ≡ goal_in_turn t.core cells lending.lender (goal_at goals)
  same_goals = go lending.lender to_core
    where
      go : (o : Option ℕ) → ((x : ℕ) → o ≡ Some x → core ≡ slice_index t.core (slice_index cells x)) → goal_lent o core courses ≡ goal_in_turn t.core cells o (goal_at goals)
      go None h = ap goal_at (sym asked)
      go (Some x) h =
          let f : List (Option ℕ) → ℕ → Option ℕ = λ gs r. if r == x then Some core else goal_at gs r in
          let k : ℕ → ℕ → Option ℕ = λ at r. if r == x then Some at else goal_at goals r in
          ap f (sym asked) ∙ ap k (h x refl)

  -- the same of values that are equal to these
  pub step_goals : (lender : Option ℕ) (aims : Courses) (order : List (Option ℕ)) → lender ≡ lending.lender → aims ≡ courses → order ≡ ranks →
      ((r : ℕ) → r < length cells → IsReadyAt m (slice_index cells r) (goal_at goals r) (wait_of waits r)) →
      AreGoals m cells order (goal_lent lender core aims) (way_lent lender core aims m)
  step_goals lender aims order same_lender same_aims same_order each =
      subst (λ (l : Option ℕ). AreGoals m cells order (goal_lent l core aims) (way_lent l core aims m)) (sym same_lender)
      (subst (λ (a : Courses). AreGoals m cells order (goal_lent lending.lender core a) (way_lent lending.lender core a m)) (sym same_aims)
      (subst (λ (rs : List (Option ℕ)). AreGoals m cells rs (goal_lent lending.lender core courses) (way_lent lending.lender core courses m)) (sym same_order) (lent_goals each)))

  pub step_shows : (cores aways : List ℕ) (lender : Option ℕ) (aims : Courses) → cores ≡ t.core → aways ≡ t.away → lender ≡ lending.lender → aims ≡ courses → AreOn m courses →
      ((x : ℕ) → lending.lender ≡ Some x → x < length cells) → AreLent m cores aways lender core aims
  step_shows cores aways lender aims same_core same_away same_lender same_aims on known = record {
    on = subst (AreOn m) (sym same_aims) on;
    away_is = subst (λ (x : List ℕ). AreAway m x aways) (sym same_core) (subst (AreAway m t.core) (sym same_away) are.away);
    own = λ x is. (
        let is_ : lending.lender ≡ Some x = sym same_lender ∙ is in
        subst (λ (l : List ℕ). slice_index l core ≡ core) (sym same_core) (own_core x (known x is_) is_));
  }

  pub turn_stepped : (laws : List TieLaw) (door : Option Door) (to : List ℕ) (lender : Option ℕ) (aims : Courses) (order : List (Option ℕ)) → lender ≡ lending.lender → aims ≡ courses → order ≡ ranks →
      IsSteppedWithDoor m door order (goal_lent lender core aims) laws cells to → IsSteppedWithDoor m door ranks (goal_in_turn t.core cells lending.lender (goal_at goals)) laws cells to
  turn_stepped laws door to lender aims order same_lender same_aims same_order stepped =
      subst (λ (gs : ℕ → Option ℕ). IsSteppedWithDoor m door ranks gs laws cells to) same_goals
      (subst (λ (a : Courses). IsSteppedWithDoor m door ranks (goal_lent lending.lender core a) laws cells to) same_aims
      (subst (λ (l : Option ℕ). IsSteppedWithDoor m door ranks (goal_lent l core aims) laws cells to) same_lender
      (subst (λ (rs : List (Option ℕ)). IsSteppedWithDoor m door rs (goal_lent lender core aims) laws cells to) same_order stepped)))

  -- so a tick of turns is made
  pub turn_made : {laws : List TieLaw} {door : Option Door} {to : List ℕ} {lender : Option ℕ} {aims : Courses} {order : List (Option ℕ)} → lender ≡ lending.lender → aims ≡ courses → order ≡ ranks → door ≡ lending.door →
      ((x : ℕ) → lending.lender ≡ Some x → IsEldest ranks x) →
      IsSteppedWithDoor m door order (goal_lent lender core aims) laws cells to → IsTurn m t laws goals waits cells to lending
  turn_made {laws} {door} {to} {lender} {aims} {order} same_lender same_aims same_order same_door first stepped = record {
    ranks = ranks;
    lent = lent;
    first = first;
    stepped = subst (λ (d : Option Door). IsSteppedWithDoor m d ranks (goal_in_turn t.core cells lending.lender (goal_at goals)) laws cells to) same_door
        (turn_stepped laws door to lender aims order same_lender same_aims same_order stepped);
  }

-- lists that are read through slices
pub lent_over : (core core' door door' mouth mouth' capacity capacity' away away' cells : List ℕ) (goals goals' waits ranks : List (Option ℕ)) (lending : Lending) →
    core ≡ core' → door ≡ door' → mouth ≡ mouth' → capacity ≡ capacity' → away ≡ away' → goals ≡ goals' →
    IsLent core door mouth capacity away cells goals waits ranks lending → IsLent core' door' mouth' capacity' away' cells goals' waits ranks lending
lent_over core core' door door' mouth mouth' capacity capacity' away away' cells goals goals' waits ranks lending a b c d e f lent =
    subst (λ (x : List ℕ). IsLent x door' mouth' capacity' away' cells goals' waits ranks lending) a
    (subst (λ (x : List ℕ). IsLent core x mouth' capacity' away' cells goals' waits ranks lending) b
    (subst (λ (x : List ℕ). IsLent core door x capacity' away' cells goals' waits ranks lending) c
    (subst (λ (x : List ℕ). IsLent core door mouth x away' cells goals' waits ranks lending) d
    (subst (λ (x : List ℕ). IsLent core door mouth capacity x cells goals' waits ranks lending) e
    (subst (λ (x : List (Option ℕ)). IsLent core door mouth capacity away cells x waits ranks lending) f lent)))))

-- a turn of a planner that is equal to this one
pub turn_over : (m : Floor) (p q : TurnPlanner) (waits : List (Option ℕ)) (cells : List ℕ) (lending : Lending) {laws : List TieLaw} {to : List ℕ} → p ≡ q →
    IsTurn m p.turns laws (goals_of p.courses) waits cells to lending → IsTurn m q.turns laws (goals_of q.courses) waits cells to lending
turn_over m p q waits cells lending {laws} {to} same turn = subst (λ (x : TurnPlanner). IsTurn m x.turns laws (goals_of x.courses) waits cells to lending) same turn

-- who goes first is one of the robots
pub eldest_known : (waits ranks : List (Option ℕ)) (x : ℕ) → length ranks ≡ length waits → IsEldest ranks x → x < length waits
eldest_known waits ranks x same eldest = let l = eldest.known in omega (arith, l, same)
