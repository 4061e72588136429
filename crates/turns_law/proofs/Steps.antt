-- A served errand that is on time stays on time, until its robot arrives.
use Rattle.std.proofs.Common.{◌≡◌, ◌≢◌, ℕ, zero, suc, ◌+◌, ◌-◌, ◌*◌, ◌<◌, ◌≤◌, ◌⊎◌, inl, inr, Option, Some, None, Bool, true, false, List, length, slice_index, sym, subst, refl, ap, ◌∙◌, arith, ◌==◌}
use Rattle.std.specs.Prelude.{max, min, IsSome, if◌then◌else◌, nat_lt}
use Rattle.std.proofs.Math.Nat.{mul-le-mul_right, add-mul}
use Rattle.std.proofs.lemmas.Bool.{cases_eq, cases_lt, cases_Bool, eqb-true, eq-eqb, ne_eqb, false≢true}
use Rattle.fleet_grid.specs.Floor.{Floor, IsFloor, IsNeighbour}
use Rattle.fleet_grid.specs.Walk.{IsDistance}
use Rattle.fleet_hooks.specs.declared.law.TieLaw.{TieLaw}
use Rattle.fleet_pibt.specs.Eldest.{IsEldestOf}
use Rattle.fleet_pibt.specs.Order.{wait_of}
use Rattle.fleet_pibt.proofs.Distances.{distance-unique}
use Rattle.fleet_planner.specs.Lending.{IsInside, IsNearestInside, goal_at}
use Rattle.fleet_bound.specs.Waiting.{Moment, IsWithin, IsAdvance, count_before}
use Rattle.fleet_bound.specs.Waiting as waiting
use Rattle.fleet_bound.proofs.EldestWait.{none_or_some, eldest-exists}
use Rattle.fleet_bound.proofs.WaitSteps.{same_value, one_walk, count_before-less, tick-left, none_or_more, pause-left}
use Rattle.turns_law.specs.Turns.{Turns, AreTurns}
use Rattle.turns_law.specs.ToGo.{HasRoom, AreLimits, IsToGo, own, others, inmates}
use Rattle.turns_law.specs.Fleet.{Fleet, IsFleet, IsTick, IsPause, served_wait, served_before, IsOnTime, KeepsTurns, Follows, begins, ticked, paused}
use Rattle.turns_law.proofs.Measured.{joined_least}
use Rattle.turns_law.proofs.RoomFacts.{floor_joined, told, one_core, beyond_mouth}
use Rattle.turns_law.proofs.Inmates.{nearest_or_none, nearest_once, some_inmate}
use Rattle.turns_law.proofs.Falls.{falls, HasFallen}
use Rattle.turns_law.proofs.Holding.{room_holds}
use Rattle.turns_law.proofs.Served.{HasServed, served_some, served_from, unserved_none, idle_none, eldest_ranked, eldest_once}

module _ (m : Floor) (t : Turns) (are : AreTurns m t) (reach : ℕ) (depth : ℕ → ℕ) (turn : ℕ) (limits : AreLimits m t reach depth turn) where
  -- ---- what a robot with the turn needs

  pub to_go_positive : (cells : List ℕ) (e g ticks : ℕ) → IsToGo m t reach depth cells e g ticks → 0 < ticks
  to_go_positive cells e g ticks (own far nobody far_is same) = omega (arith, same)
  to_go_positive cells e g ticks (others x near has nearest far same) = (let positive = limits.positive in omega (arith, same, positive))

  to_go_once : (cells : List ℕ) (e g a b : ℕ) → IsToGo m t reach depth cells e g a → IsToGo m t reach depth cells e g b → a ≡ b
  to_go_once cells e g a b (own far nobody far_is same) (own far' nobody' far_is' same') = (let once = distance-unique (IsNeighbour m) (slice_index cells e) g far far' far_is far_is' in omega (arith, once, same, same'))
  to_go_once cells e g a b (own far nobody far_is same) (others x near has nearest split same') = absurd (nobody has x nearest.is)
  to_go_once cells e g a b (others x near has nearest split same') (own far nobody far_is same) = absurd (nobody has x nearest.is)
  to_go_once cells e g a b (others x near has nearest split same) (others x' near' has' nearest' split' same') = (
      let one = ap (λ (r : ℕ). slice_index t.away (slice_index cells r)) (nearest_once t.door cells (slice_index t.door g) e t.away x x' nearest nearest') in
      omega (arith, one, split, split', same, same'))

  -- a robot of the fleet that has a served goal
  module _ (f : Fleet) (fleet : IsFleet m t.robots f) (e g : ℕ) (known : e < t.robots) (is : goal_at f.goals e ≡ Some g) where
    floor_g : IsFloor m g
    floor_g = floor_joined m (slice_index f.cells e) g (fleet.placed.on_floor e (let l = fleet.robots in omega (arith, known, l))) (fleet.reached e g known is)

    pub to_go_within : (ticks : ℕ) → IsToGo m t reach depth f.cells e g ticks → ticks ≤ turn
    to_go_within ticks (own far nobody far_is same) = (
        let short = limits.within (slice_index f.cells e) g far far_is in
        let least = limits.least in
        let positive = limits.positive in
        omega (arith, short, least, positive, same))
    to_go_within ticks (others x near has nearest split same) = (
        let floor_x = fleet.placed.on_floor x nearest.is.known in
        let deep : slice_index t.away (slice_index f.cells x) ≤ slice_index t.away (slice_index t.mouth (slice_index t.door g)) + depth (slice_index t.door g) =
        subst (λ (c : ℕ). slice_index t.away (slice_index f.cells x) ≤ slice_index t.away (slice_index t.mouth c) + depth c) nearest.is.inside (limits.deep (slice_index f.cells x) floor_x (room_of x has nearest.is)) in
        let some = some_inmate t.door f.cells (slice_index t.door g) e x nearest.is in
        let few = room_holds m t are f.cells fleet.placed e g (let l = fleet.robots in omega (arith, known, l)) floor_g has in
        let all = limits.rooms g floor_g has in
        walks (inmates t.door f.cells (slice_index t.door g) e) (min (t.robots - 1) (slice_index t.size (slice_index t.door g))) (depth (slice_index t.door g)) near ticks
        some (let l = fleet.robots in omega (arith, few.0, few.1, l)) (omega (arith, deep, split)) same all)
      where
        walks : (o most D near ticks : ℕ) → 0 < o → o ≤ most → near ≤ D → ticks ≡ reach + (o - 1) * D + near → reach + most * D ≤ turn → ticks ≤ turn
        walks o most D near ticks some few short is_ all =
            let h : (o - 1 + 1) * D ≤ most * D = mul-le-mul_right D (omega (arith, some, few)) in
            omega (arith, h, add-mul (o - 1) 1 D, short, is_, all)

        room_of : (x : ℕ) → HasRoom t g → IsInside t.door f.cells (slice_index t.door g) e x → HasRoom t (slice_index f.cells x)
        room_of x has it same = has (sym it.inside ∙ (same ∙ one_core m t are g floor_g has (slice_index f.cells x) ((told m t are g floor_g has (slice_index f.cells x) (fleet.placed.on_floor x it.known)).0 it.inside)))

    pub to_go_some : (ticks : ℕ) × IsToGo m t reach depth f.cells e g ticks
    to_go_some = elim (nearest_or_none t.door f.cells (slice_index t.door g) e t.away) [
      | inl none ↦ plain (λ _. none)
      | inr found ↦ elim (cases_eq (slice_index t.door g) (slice_index t.core g)) [
        | inl no_room ↦ plain (λ has. absurd (has no_room))
        | inr has ↦ (
            let floor_x = fleet.placed.on_floor found.0 found.1.is.known in
            let side = (told m t are g floor_g has (slice_index f.cells found.0) floor_x).0 found.1.is.inside in
            let beyond = beyond_mouth m t are g floor_g has (slice_index f.cells found.0) floor_x side in
            let near : ℕ = slice_index t.away (slice_index f.cells found.0) - slice_index t.away (slice_index t.mouth (slice_index t.door g)) in
            (reach + (inmates t.door f.cells (slice_index t.door g) e - 1) * depth (slice_index t.door g) + near, others found.0 near has found.1 (omega (arith, beyond)) refl))
      ]
    ]
      where
        plain : (HasRoom t g → (r : ℕ) → IsInside t.door f.cells (slice_index t.door g) e r → ⊥) → (ticks : ℕ) × IsToGo m t reach depth f.cells e g ticks
        plain nobody =
            let j = fleet.reached e g known is in
            let it = joined_least m (slice_index f.cells e) g (fleet.placed.on_floor e (let l = fleet.robots in omega (arith, known, l))) (λ apart. apart j.steps j.walk) in
            (max 1 it.0, own it.0 nobody it.1 refl)

  -- ---- moments

  abbrev moment : Fleet → (ℕ → ℕ) → Moment
  moment f away = record { wait = served_wait t f; away = away }

  served_of : (f : Fleet) (r w : ℕ) → served_wait t f r ≡ Some w → HasServed t (goal_at f.goals r) (wait_of f.waits r) w
  served_of f r w s = served_some t (goal_at f.goals r) (wait_of f.waits r) w s

  turn_positive : 0 < turn
  turn_positive = (let least = limits.least in let positive = limits.positive in omega (arith, least, positive))

  -- at every moment there is room for the whole of a wait that begins now
  room_for : (f : Fleet) → IsFleet m t.robots f → (r w : ℕ) → r < t.robots → served_wait t f r ≡ Some w → (e g ticks : ℕ) → IsEldestOf (served_wait t f) t.robots e → goal_at f.goals e ≡ Some g →
      IsToGo m t reach depth f.cells e g ticks → ticks + served_before t f r w * turn ≤ t.robots * turn
  room_for f fleet r w known s e g ticks eldest is go =
      let within = to_go_within f fleet e g eldest.known is ticks go in
      let walk = one_walk (served_before t f r w) t.robots turn (count_before-less t.robots (moment f (λ _. 0)) w r known s) in
      omega (arith, within, walk)

  pub fresh_on_time : (f : Fleet) → IsFleet m t.robots f → (r w : ℕ) → r < t.robots → served_wait t f r ≡ Some w → IsOnTime m t reach depth turn f r 0
  fresh_on_time f fleet r w known s = record {
    age = w;
    waits = s;
    counted = omega arith;
    left = λ e g ticks eldest is go. (let l = room_for f fleet r w known s e g ticks eldest is go in omega (arith, l));
  }

  -- the part of a wait that was counted is below the bound
  pub on_time_bound : (f : Fleet) → IsFleet m t.robots f → (r part : ℕ) → r < t.robots → IsOnTime m t reach depth turn f r part → part < t.robots * turn
  on_time_bound f fleet r part known on =
      let found = eldest-exists (moment f (λ _. 0)) t.robots r on.age known on.waits in
      let mine = served_of f found.0 found.1.age found.1.waits in
      let go = to_go_some f fleet found.0 mine.cell found.1.known mine.goal_is in
      let some = to_go_positive f.cells found.0 mine.cell go.0 go.1 in
      let l = on.left found.0 mine.cell go.0 found.1 mine.goal_is go.1 in
      omega (arith, l, some)

  -- ---- a tick

  module _ (laws : List TieLaw) (f f' : Fleet) (fleet : IsFleet m t.robots f) (fleet' : IsFleet m t.robots f') (tick : IsTick m t laws f f') where
    in_cells : (q : ℕ) → q < t.robots → q < length f.cells
    in_cells q l = let many = fleet.robots in omega (arith, l, many)

    arrives_at : Option ℕ → ℕ → Bool
    arrives_at None cell = false
    arrives_at (Some g) cell = cell == g

    arrives : ℕ → Bool
    arrives q = arrives_at (goal_at f.goals q) (slice_index f'.cells q)

    -- what a robot waits that had a served goal before
    only_if : Option ℕ → Option ℕ → Option ℕ
    only_if None o = None
    only_if (Some _) o = o

    mid : ℕ → Option ℕ
    mid q = only_if (served_wait t f q) (served_wait t f' q)

    arrived : (q g : ℕ) → goal_at f.goals q ≡ Some g → arrives q ≡ true → slice_index f'.cells q ≡ g
    unfolding arrives arrives_at
    arrived q g is yes_ = eqb-true (slice_index f'.cells q) g (sym (ap (λ (o : Option ℕ). arrives_at o (slice_index f'.cells q)) is) ∙ yes_)

    not_arrived : (q g : ℕ) → goal_at f.goals q ≡ Some g → arrives q ≡ false → slice_index f'.cells q ≢ g
    unfolding arrives arrives_at
    not_arrived q g is no_ at =
        let yes_ : arrives_at (Some g) (slice_index f'.cells q) ≡ true = eq-eqb (slice_index f'.cells q) g at in
        let both : false ≡ true = sym no_ ∙ (ap (λ (o : Option ℕ). arrives_at o (slice_index f'.cells q)) is ∙ yes_) in
        cc

    stays_away : (q g : ℕ) → goal_at f.goals q ≡ Some g → slice_index f'.cells q ≢ g → arrives q ≡ false
    unfolding arrives arrives_at
    stays_away q g is off = ap (λ (o : Option ℕ). arrives_at o (slice_index f'.cells q)) is ∙ ne_eqb (slice_index f'.cells q) g off

    mid_some : (q w : ℕ) → served_wait t f q ≡ Some w → mid q ≡ served_wait t f' q
    unfolding mid only_if
    mid_some q w s = ap (λ (o : Option ℕ). only_if o (served_wait t f' q)) s

    mid_none : (q : ℕ) → served_wait t f q ≡ None → mid q ≡ None
    unfolding mid only_if
    mid_none q s = ap (λ (o : Option ℕ). only_if o (served_wait t f' q)) s

    -- who does not arrive waits on
    waits_on : (q w : ℕ) → q < t.robots → served_wait t f q ≡ Some w → arrives q ≡ false → served_wait t f' q ≡ Some (w + 1)
    waits_on q w l s away =
        let mine = served_of f q w s in
        let after = tick.goes_on q mine.cell w (in_cells q l) mine.goal_is mine.wait_is (not_arrived q mine.cell mine.goal_is away) in
        served_from t (goal_at f'.goals q) (wait_of f'.waits q) mine.cell after.0 mine.served ∙ after.1

    begins_anew : (q w v : ℕ) → q < t.robots → served_wait t f q ≡ Some w → arrives q ≡ true → served_wait t f' q ≡ Some v → v ≡ 0
    begins_anew q w v l s here s' =
        let mine = served_of f q w s in
        tick.anew q mine.cell v (in_cells q l) mine.goal_is (arrived q mine.cell mine.goal_is here) (served_of f' q v s').wait_is

    -- who gets a served goal begins to wait
    fresh : (q v : ℕ) → q < t.robots → served_wait t f q ≡ None → served_wait t f' q ≡ Some v → v ≡ 0
    fresh q v l none s' =
        let theirs = served_of f' q v s' in
        elim (none_or_some (goal_at f.goals q)) [
          | inl idle ↦ (let gone : goal_at f'.goals q ≡ None = tick.idle q (in_cells q l) idle in absurd (let both : None ≡ Some theirs.cell = sym gone ∙ theirs.goal_is in cc))
          | inr some ↦ elim (cases_eq (slice_index f'.cells q) some.0) [
            | inl at ↦ tick.anew q some.0 v (in_cells q l) some.1 at theirs.wait_is
            | inr off ↦ (
                let wait = waiting_since q some.0 l some.1 in
                let after = tick.goes_on q some.0 wait.0 (in_cells q l) some.1 wait.1 off in
                let same : theirs.cell ≡ some.0 = same_value theirs.cell some.0 (sym theirs.goal_is ∙ after.0) in
                let served = served_from t (goal_at f.goals q) (wait_of f.waits q) some.0 some.1 (subst (λ (c : ℕ). t.robots ≤ slice_index t.capacity (slice_index t.core c)) same theirs.served) in
                absurd (let both : None ≡ Some wait.0 = sym none ∙ (served ∙ wait.1) in cc))
          ]
        ]
      where
        some_wait : (o : Option ℕ) → IsSome o → (w : ℕ) × (o ≡ Some w)
        some_wait None never = absurd (false≢true never)
        some_wait (Some w) _ = (w, refl)

        waiting_since : (q g : ℕ) → q < t.robots → goal_at f.goals q ≡ Some g → (w : ℕ) × (wait_of f.waits q ≡ Some w)
        waiting_since q g l is = some_wait (wait_of f.waits q) ((fleet.waited q l).0 (subst IsSome (sym is) refl))

    -- the tick, as an advance and a pause of moments
    module _ (a : ℕ) (b : ℕ → ℕ) (b_within : (q : ℕ) → b q ≤ turn)
        (nearer : (e : ℕ) → IsEldestOf (served_wait t f) t.robots e → arrives e ≡ false → (0 < b e) × (b e + 1 ≡ a)) where
      middle : Moment
      middle = record { wait = mid; away = b }

      is_advance : IsAdvance t.robots (moment f (λ _. a)) middle arrives
      unfolding middle
      is_advance = record {
        idle = λ q l none. mid_none q none;
        waits_on = λ q w l s away. mid_some q w s ∙ waits_on q w l s away;
        anew = λ q w v l s here s'. begins_anew q w v l s here (sym (mid_some q w s) ∙ s');
        nearer = nearer;
      }

      is_pause : waiting.IsPause t.robots middle (moment f' b)
      unfolding middle mid only_if
      is_pause = record {
        kept = λ q w l s. (kept q w (served_wait t f q) s, refl);
        fresh = λ q v l none s'. fresh' q v l none s';
      }
        where
          kept : (q w : ℕ) (o : Option ℕ) → only_if o (served_wait t f' q) ≡ Some w → served_wait t f' q ≡ Some w
          kept q w None s = absurd (let p : None ≡ Some w = s in cc)
          kept q w (Some _) s = s

          fresh' : (q v : ℕ) → q < t.robots → mid q ≡ None → served_wait t f' q ≡ Some v → v ≡ 0
          fresh' q v l none s' = elim (none_or_some (served_wait t f q)) [
            | inl before ↦ fresh q v l before s'
            | inr some ↦ absurd (let both : None ≡ Some v = sym none ∙ (mid_some q some.0 some.1 ∙ s') in cc)
          ]

      within_middle : IsWithin t.robots turn middle
      unfolding middle
      within_middle = record { positive = turn_positive; near = λ q w l s. b_within q }

      step_left : (r w part : ℕ) → r < t.robots → served_wait t f r ≡ Some w → arrives r ≡ false →
          ((e : ℕ) → IsEldestOf (served_wait t f) t.robots e → part + max 1 a + served_before t f r w * turn ≤ t.robots * turn) →
          (e' : ℕ) → IsEldestOf (served_wait t f') t.robots e' → part + 1 + max 1 (b e') + served_before t f' r (w + 1) * turn ≤ t.robots * turn
      unfolding middle
      step_left r w part l s away left e' eldest' =
          pause-left t.robots turn middle (moment f' b) is_pause r (w + 1) l (mid_some r w s ∙ waits_on r w l s away) (omega arith) (part + 1)
          (tick-left t.robots turn (moment f (λ _. a)) middle arrives is_advance r w l s away part within_middle left) e' eldest'

    -- what is left of the bound, by the tick's first robot with a served goal
    module _ (r part age : ℕ) (known : r < t.robots) (waits : served_wait t f r ≡ Some age) (on_way : arrives r ≡ false)
        (left : (e g ticks : ℕ) → IsEldestOf (served_wait t f) t.robots e → goal_at f.goals e ≡ Some g → IsToGo m t reach depth f.cells e g ticks → part + ticks + served_before t f r age * turn ≤ t.robots * turn)
        (e : ℕ) (eldest : IsEldestOf (served_wait t f) t.robots e) where
      IsLeft : Type 0
      IsLeft = (e' g' ticks' : ℕ) → IsEldestOf (served_wait t f') t.robots e' → goal_at f'.goals e' ≡ Some g' → IsToGo m t reach depth f'.cells e' g' ticks' →
          part + 1 + ticks' + served_before t f' r (age + 1) * turn ≤ t.robots * turn

      same_eldest : (q : ℕ) → IsEldestOf (served_wait t f) t.robots q → q ≡ e
      same_eldest q it = eldest_once (served_wait t f) t.robots q e it eldest

      -- it arrives
      left_arrived : (g ticks : ℕ) → goal_at f.goals e ≡ Some g → IsToGo m t reach depth f.cells e g ticks → arrives e ≡ true → IsLeft
      unfolding IsLeft
      left_arrived g ticks is go here e' g' ticks' eldest' is' go' =
          let some = to_go_positive f.cells e g ticks go in
          let before = left e g ticks eldest is go in
          let after = step_left 1 (λ _. turn) (λ q. omega arith)
          (λ q it away. absurd (let both : false ≡ true = sym away ∙ (ap arrives (same_eldest q it) ∙ here) in cc))
          r age part known waits on_way (λ _ _. omega (arith, before, some)) e' eldest' in
          let within = to_go_within f' fleet' e' g' eldest'.known is' ticks' go' in
          let positive = turn_positive in
          omega (arith, after, within, positive)

      -- it does not, and needs less
      module _ (g ticks fewer : ℕ) (is : goal_at f.goals e ≡ Some g) (go : IsToGo m t reach depth f.cells e g ticks) (away : arrives e ≡ false)
          (then_ : IsToGo m t reach depth f'.cells e g fewer) (less : fewer + 1 ≤ ticks) (keeps : goal_at f'.goals e ≡ Some g) where
        ahead : ℕ → ℕ
        ahead q = if q == e then fewer else turn

        at_e : ahead e ≡ fewer
        unfolding ahead
        at_e = ap (λ (b : Bool). if b then fewer else turn) (eq-eqb e e refl)

        at_other : (q : ℕ) → q ≢ e → ahead q ≡ turn
        unfolding ahead
        at_other q ne = ap (λ (b : Bool). if b then fewer else turn) (ne_eqb q e ne)

        ahead_within : (q : ℕ) → ahead q ≤ turn
        ahead_within q = elim (cases_eq q e) [
          | inl same ↦ (let at = ap ahead same ∙ at_e in let l = to_go_within f fleet e g eldest.known is ticks go in omega (arith, at, l, less))
          | inr other ↦ (let at = at_other q other in omega (arith, at))
        ]

        ahead_nearer : (q : ℕ) → IsEldestOf (served_wait t f) t.robots q → arrives q ≡ false → (0 < ahead q) × (ahead q + 1 ≡ fewer + 1)
        ahead_nearer q it _ =
            let at = ap ahead (same_eldest q it) ∙ at_e in
            let some = to_go_positive f'.cells e g fewer then_ in
            (omega (arith, at, some), ap (λ (k : ℕ). k + 1) at)

        left_away : IsLeft
        unfolding IsLeft
        left_away e' g' ticks' eldest' is' go' =
            let before = left e g ticks eldest is go in
            let after = step_left (fewer + 1) ahead ahead_within ahead_nearer r age part known waits on_way (λ _ _. omega (arith, before, less)) e' eldest' in
            elim (cases_eq e' e) [
              | inl same ↦ (
                  let goal_same : g' ≡ g = same_value g' g (sym is' ∙ (ap (goal_at f'.goals) same ∙ keeps)) in
                  let go_e : IsToGo m t reach depth f'.cells e g ticks' = subst (λ (c : ℕ). IsToGo m t reach depth f'.cells e c ticks') goal_same (subst (λ (q : ℕ). IsToGo m t reach depth f'.cells q g' ticks') same go') in
                  let once = to_go_once f'.cells e g ticks' fewer go_e then_ in
                  let at = ap ahead same ∙ at_e in
                  omega (arith, after, once, at))
              | inr other ↦ (
                  let at = at_other e' other in
                  let within = to_go_within f' fleet' e' g' eldest'.known is' ticks' go' in
                  omega (arith, after, at, within))
            ]

      left_after : IsLeft
      left_after =
          let mine = served_of f e eldest.age eldest.waits in
          let go = to_go_some f fleet e mine.cell eldest.known mine.goal_is in
          elim (cases_Bool (arrives e)) [
            | inl here ↦ left_arrived mine.cell go.0 mine.goal_is go.1 here
            | inr away ↦ (
                let off = not_arrived e mine.cell mine.goal_is away in
                let fallen = falls m t are laws f.goals f.waits f.cells f'.cells tick.lending tick.turn fleet.placed fleet.robots fleet.waiting e mine.cell (in_cells e eldest.known) mine.goal_is
                (eldest_ranked t f tick.turn.lent.own e fleet.waiting tick.turn.lent.ranked fleet.early eldest) (fleet.reached e mine.cell eldest.known mine.goal_is) mine.served
                reach depth turn limits off go.0 go.1 in
                let keeps = tick.goes_on e mine.cell eldest.age (in_cells e eldest.known) mine.goal_is mine.wait_is off in
                left_away mine.cell go.0 fallen.ticks mine.goal_is go.1 away fallen.is_to_go fallen.less keeps.0)
          ]

    -- the waits that were counted go on
    pub tick_on_time : (r part gr : ℕ) → r < t.robots → goal_at f.goals r ≡ Some gr → slice_index f'.cells r ≢ gr → IsOnTime m t reach depth turn f r part → IsOnTime m t reach depth turn f' r (part + 1)
    unfolding IsLeft
    tick_on_time r part gr known is off on =
        let on_way = stays_away r gr is off in
        let found = eldest-exists (moment f (λ _. 0)) t.robots r on.age known on.waits in
        record {
          age = on.age + 1;
          waits = waits_on r on.age known on.waits on_way;
          counted = (let l = on.counted in omega (arith, l));
          left = left_after r part on.age known on.waits on_way on.left found.0 found.1;
        }

  -- ---- a pause

  module _ (f f' : Fleet) (fleet : IsFleet m t.robots f) (fleet' : IsFleet m t.robots f') (pause : IsPause t.robots f f') where
    kept_wait : (q w : ℕ) → q < t.robots → served_wait t f q ≡ Some w → served_wait t f' q ≡ Some w
    kept_wait q w l s =
        let mine = served_of f q w s in
        let after = pause.kept q mine.cell l mine.goal_is in
        served_from t (goal_at f'.goals q) (wait_of f'.waits q) mine.cell after.0 mine.served ∙ (after.1 ∙ mine.wait_is)

    paused_fresh : (q v : ℕ) → q < t.robots → served_wait t f q ≡ None → served_wait t f' q ≡ Some v → v ≡ 0
    paused_fresh q v l none s' =
        let theirs = served_of f' q v s' in
        elim (none_or_some (goal_at f.goals q)) [
          | inl idle ↦ pause.fresh q v l idle theirs.wait_is
          | inr some ↦ (
              let after = pause.kept q some.0 l some.1 in
              let same : theirs.cell ≡ some.0 = same_value theirs.cell some.0 (sym theirs.goal_is ∙ after.0) in
              let served = served_from t (goal_at f.goals q) (wait_of f.waits q) some.0 some.1 (subst (λ (c : ℕ). t.robots ≤ slice_index t.capacity (slice_index t.core c)) same theirs.served) in
              absurd (let both : None ≡ Some v = sym none ∙ (served ∙ (sym after.1 ∙ theirs.wait_is)) in cc))
        ]

    moments_pause : (b : ℕ → ℕ) → waiting.IsPause t.robots (moment f b) (moment f' b)
    moments_pause b = record {
      kept = λ q w l s. (kept_wait q w l s, refl);
      fresh = λ q v l none s'. paused_fresh q v l none s';
    }

    module _ (r part age : ℕ) (known : r < t.robots) (waits : served_wait t f r ≡ Some age) (long : 0 < age)
        (left : (e g ticks : ℕ) → IsEldestOf (served_wait t f) t.robots e → goal_at f.goals e ≡ Some g → IsToGo m t reach depth f.cells e g ticks → part + ticks + served_before t f r age * turn ≤ t.robots * turn)
        (e g ticks : ℕ) (eldest : IsEldestOf (served_wait t f) t.robots e) (is : goal_at f.goals e ≡ Some g) (go : IsToGo m t reach depth f.cells e g ticks) where
      needs : ℕ → ℕ
      needs q = if q == e then ticks else turn

      needs_e : needs e ≡ ticks
      unfolding needs
      needs_e = ap (λ (b : Bool). if b then ticks else turn) (eq-eqb e e refl)

      needs_other : (q : ℕ) → q ≢ e → needs q ≡ turn
      unfolding needs
      needs_other q ne = ap (λ (b : Bool). if b then ticks else turn) (ne_eqb q e ne)

      room_e : (q : ℕ) → IsEldestOf (served_wait t f) t.robots q → part + max 1 (needs q) + served_before t f r age * turn ≤ t.robots * turn
      room_e q it =
          let at = ap needs (eldest_once (served_wait t f) t.robots q e it eldest) ∙ needs_e in
          let some = to_go_positive f.cells e g ticks go in
          let before = left e g ticks eldest is go in
          omega (arith, at, some, before)

      paused_left : (e' g' ticks' : ℕ) → IsEldestOf (served_wait t f') t.robots e' → goal_at f'.goals e' ≡ Some g' → IsToGo m t reach depth f'.cells e' g' ticks' →
          part + ticks' + served_before t f' r age * turn ≤ t.robots * turn
      paused_left e' g' ticks' eldest' is' go' =
          let after = pause-left t.robots turn (moment f needs) (moment f' needs) (moments_pause needs) r age known waits long part room_e e' eldest' in
          elim (cases_eq e' e) [
            | inl same ↦ (
                let keeps = (pause.kept e g eldest.known is).0 in
                let goal_same : g' ≡ g = same_value g' g (sym is' ∙ (ap (goal_at f'.goals) same ∙ keeps)) in
                let go_e : IsToGo m t reach depth f'.cells e g ticks' = subst (λ (c : ℕ). IsToGo m t reach depth f'.cells e c ticks') goal_same (subst (λ (q : ℕ). IsToGo m t reach depth f'.cells q g' ticks') same go') in
                let once = to_go_once f.cells e g ticks' ticks (subst (λ (cs : List ℕ). IsToGo m t reach depth cs e g ticks') pause.stays go_e) go in
                let at = ap needs same ∙ needs_e in
                omega (arith, after, once, at))
            | inr other ↦ (
                let at = needs_other e' other in
                let within = to_go_within f' fleet' e' g' eldest'.known is' ticks' go' in
                omega (arith, after, at, within))
          ]

    pub pause_on_time : (r part : ℕ) → r < t.robots → IsOnTime m t reach depth turn f r part → IsOnTime m t reach depth turn f' r part
    pause_on_time r part known on = record {
      age = on.age;
      waits = kept_wait r on.age known on.waits;
      counted = on.counted;
      left = λ e' g' ticks' eldest' is' go'. elim (none_or_more on.age) [
        | inl none ↦ (
            let small = on.counted in
            let l = room_for f' fleet' r on.age known (kept_wait r on.age known on.waits) e' g' ticks' eldest' is' go' in
            omega (arith, none, small, l))
        | inr long ↦ (
            let found = eldest-exists (moment f (λ _. 0)) t.robots r on.age known on.waits in
            let mine = served_of f found.0 found.1.age found.1.waits in
            let go = to_go_some f fleet found.0 mine.cell found.1.known mine.goal_is in
            paused_left r part on.age known on.waits long on.left found.0 mine.cell go.0 found.1 mine.goal_is go.1 e' g' ticks' eldest' is' go')
      ];
    }

  -- ---- runs of ticks

  -- while the robot does not arrive, so many ticks of its wait are within the bound
  pub follows_on_time : (laws : List TieLaw) (r : ℕ) (from now : Fleet) (ticks : ℕ) → r < t.robots → Follows m t laws r from now ticks → IsFleet m t.robots now × IsOnTime m t reach depth turn now r ticks
  follows_on_time laws r from now ticks known (begins w fleet served) = (fleet, fresh_on_time from fleet r w known served)
  follows_on_time laws r from now ticks known (ticked {f = f} {ticks = was} _ _ g before tick fleet is off more) =
      let it = follows_on_time laws r from f was known before in
      (fleet, subst (λ (k : ℕ). IsOnTime m t reach depth turn now r k) (sym more) (tick_on_time laws f now it.0 fleet tick r was g known is off it.1))
  follows_on_time laws r from now ticks known (paused {f = f} _ before pause fleet) =
      let it = follows_on_time laws r from f ticks known before in
      (fleet, pause_on_time f now it.0 fleet pause r ticks known it.1)

  pub follows_bound : (laws : List TieLaw) (r : ℕ) (from now : Fleet) (ticks : ℕ) → r < t.robots → Follows m t laws r from now ticks → ticks < t.robots * turn
  follows_bound laws r from now ticks known run = let it = follows_on_time laws r from now ticks known run in on_time_bound now it.0 r ticks known it.1

  -- ---- all robots

  pub keeps_tick : (laws : List TieLaw) (f f' : Fleet) → IsFleet m t.robots f → IsFleet m t.robots f' → IsTick m t laws f f' → KeepsTurns m t reach depth turn f → KeepsTurns m t reach depth turn f'
  keeps_tick laws f f' fleet fleet' tick keeps r w known served' = elim (none_or_some (served_wait t f r)) [
    | inl none ↦ begun (fresh laws f f' fleet fleet' tick r w known none served')
    | inr some ↦ elim (cases_Bool (arrives laws f f' fleet fleet' tick r)) [
      | inl here ↦ begun (begins_anew laws f f' fleet fleet' tick r some.0 w known some.1 here served')
      | inr away ↦ (
          let mine = served_of f r some.0 some.1 in
          let on = tick_on_time laws f f' fleet fleet' tick r some.0 mine.cell known mine.goal_is (not_arrived laws f f' fleet fleet' tick r mine.cell mine.goal_is away) (keeps r some.0 known some.1) in
          let same : w ≡ some.0 + 1 = same_value w (some.0 + 1) (sym served' ∙ waits_on laws f f' fleet fleet' tick r some.0 known some.1 away) in
          subst (λ (k : ℕ). IsOnTime m t reach depth turn f' r k) (sym same) on)
    ]
  ]
    where
      begun : w ≡ 0 → IsOnTime m t reach depth turn f' r w
      begun none = subst (λ (k : ℕ). IsOnTime m t reach depth turn f' r k) (sym none) (fresh_on_time f' fleet' r w known served')

  pub keeps_pause : (f f' : Fleet) → IsFleet m t.robots f → IsFleet m t.robots f' → IsPause t.robots f f' → KeepsTurns m t reach depth turn f → KeepsTurns m t reach depth turn f'
  keeps_pause f f' fleet fleet' pause keeps r w known served' = elim (none_or_some (served_wait t f r)) [
    | inl none ↦ subst (λ (k : ℕ). IsOnTime m t reach depth turn f' r k) (sym (paused_fresh f f' fleet fleet' pause r w known none served')) (fresh_on_time f' fleet' r w known served')
    | inr some ↦ (
        let same : w ≡ some.0 = same_value w some.0 (sym served' ∙ kept_wait f f' fleet fleet' pause r some.0 known some.1) in
        subst (λ (k : ℕ). IsOnTime m t reach depth turn f' r k) (sym same) (pause_on_time f f' fleet fleet' pause r some.0 known (keeps r some.0 known some.1)))
  ]

  pub keeps_begun : (f : Fleet) → IsFleet m t.robots f → ((r w : ℕ) → r < t.robots → served_wait t f r ≡ Some w → w ≡ 0) → KeepsTurns m t reach depth turn f
  keeps_begun f fleet none r w known served = subst (λ (k : ℕ). IsOnTime m t reach depth turn f r k) (sym (none r w known served)) (fresh_on_time f fleet r w known served)

  pub keeps_below : (f : Fleet) → IsFleet m t.robots f → KeepsTurns m t reach depth turn f → (r w : ℕ) → r < t.robots → served_wait t f r ≡ Some w → w < t.robots * turn
  keeps_below f fleet keeps r w known served = on_time_bound f fleet r w known (keeps r w known served)

  -- ---- what a robot with the turn needs, from tick to tick

  pub some_to_go : (f : Fleet) → IsFleet m t.robots f → (e g : ℕ) → e < t.robots → goal_at f.goals e ≡ Some g → (ticks : ℕ) × IsToGo m t reach depth f.cells e g ticks × (0 < ticks) × (ticks ≤ turn)
  some_to_go f fleet e g known is =
      let it = to_go_some f fleet e g known is in
      (it.0, it.1, to_go_positive f.cells e g it.0 it.1, to_go_within f fleet e g known is it.0 it.1)

  pub nearer_to_go : (laws : List TieLaw) (old new : Fleet) → IsFleet m t.robots old → (tick : IsTick m t laws old new) → (e g ticks : ℕ) → IsEldestOf (served_wait t old) t.robots e → goal_at old.goals e ≡ Some g →
      slice_index new.cells e ≢ g → IsToGo m t reach depth old.cells e g ticks → (fewer : ℕ) × IsToGo m t reach depth new.cells e g fewer × (fewer < ticks)
  nearer_to_go laws old new fleet tick e g ticks eldest is off go =
      let mine = served_of old e eldest.age eldest.waits in
      let same : mine.cell ≡ g = same_value mine.cell g (sym mine.goal_is ∙ is) in
      let fallen = falls m t are laws old.goals old.waits old.cells new.cells tick.lending tick.turn fleet.placed fleet.robots fleet.waiting e g (let l = eldest.known in let many = fleet.robots in omega (arith, l, many)) is
      (eldest_ranked t old tick.turn.lent.own e fleet.waiting tick.turn.lent.ranked fleet.early eldest) (fleet.reached e g eldest.known is)
      (subst (λ (c : ℕ). t.robots ≤ slice_index t.capacity (slice_index t.core c)) same mine.served) reach depth turn limits off ticks go in
      let less = fallen.less in
      (fallen.ticks, fallen.is_to_go, omega (arith, less))
