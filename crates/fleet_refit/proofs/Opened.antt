-- The opening of a site in order is in order, on the map where its robots move.
use Rattle.std.proofs.Common.{◌≡◌, ◌≢◌, ◌∙◌, ◌+◌, ◌<◌, ℕ, List, Some, true, false, ap, arith, inl, inr, refl, subst, sym, length, get_or}
use Rattle.std.specs.Prelude.{All, IsTrue, map, slice_get, slice_index, slice_index_or}
use Rattle.std.proofs.lemmas.Bool.{cases_eq, cases_lt}
use Rattle.std.proofs.lemmas.List.{get_or-map, length-map}
use Rattle.std.proofs.lemmas.Option.{slice_get-get_or}
use Rattle.fleet_grid.specs.Floor.{Floor, IsFloor, is_floor_letter}
use Rattle.fleet_grid.specs.Step.{IsPlacement}
use Rattle.fleet_queue.specs.declared.errand.Errand.{Errand}
use Rattle.fleet_history.specs.declared.history.RobotState.{RobotState}
use Rattle.fleet_history.specs.History.{unknown_client}
use Rattle.fleet_history.specs.Legal.{AreNamesInOrder, IsInOrder, IsRobotInOrder, owed_at}
use Rattle.fleet_history.proofs.Legal.{unknown_robot}
use Rattle.fleet_refit.specs.declared.change.Change.{Change}
use Rattle.fleet_refit.specs.declared.change.Dropped.{Dropped}
use Rattle.fleet_refit.specs.declared.refit.Refit.{Refit}
use Rattle.fleet_refit.specs.declared.seat.Seat.{Seat}
use Rattle.fleet_refit.specs.declared.seat.Standing.{Standing}
use Rattle.fleet_refit.specs.declared.seat.Standing.TheVariants as standing
use Rattle.fleet_refit.specs.InOrder.{IsSiteInOrder, errands_of, open_of}
use Rattle.fleet_refit.specs.Map.{plan_map}
use Rattle.fleet_refit.specs.Opening.{moving_numbers, moving_robots, opening_of}
use Rattle.fleet_refit.specs.Refit.{IsReached, IsRefit}
use Rattle.fleet_refit.specs.Settled.{AreSettled, Reaches, SettlesAs}
use Rattle.fleet_refit.specs.Site.{SiteView, is_gone, is_held, is_moving}
use Rattle.fleet_refit.proofs.Chained.{reached-safe}
use Rattle.fleet_refit.proofs.Movers.{Origin, movers-few, movers-numbers, movers-owe, origin, origins, robot-errands, seat-errands, walled-elsewhere}
use Rattle.fleet_refit.proofs.Ordered.{client-less}
use Rattle.fleet_refit.proofs.Places.{same-at}
use Rattle.fleet_refit.proofs.Refitted.{same-map}
use Rattle.fleet_refit.proofs.Shorter.{sifted-all}
use Rattle.fleet_refit.proofs.Steps.{steps-at, steps-settled}

-- ---- how robots take part

not-both : (k : Standing) → is_held k ≡ true → is_moving k ≡ true → ⊥
not-both standing.Moving held moves = cc
not-both standing.Held held moves = cc
not-both standing.Gone held moves = cc

moves-here : (k : Standing) → is_moving k ≡ true → is_gone k ≡ false
moves-here standing.Moving e = refl
moves-here standing.Held e = refl
moves-here standing.Gone e = cc

held-here : (k : Standing) → is_held k ≡ true → is_gone k ≡ false
held-here standing.Moving e = refl
held-here standing.Held e = refl
held-here standing.Gone e = cc

-- ---- what a robot that moves can reach

-- robots that move have only errands that they can reach
abbrev pub AllReach : {A : Type 0} → Floor → List (Seat A) → Type 0
AllReach {A} m seats = (r : ℕ) (x : Seat A) → slice_get seats r ≡ Some x → is_moving x.standing ≡ true → All (Reaches m x.robot.cell) x.robot.errands

settle-reach : {A : Type 0} (m : Floor) (robot : ℕ) (kind : Standing) (x y : Seat A) (out : List Dropped) → x.standing ≡ kind → SettlesAs m robot kind x y out → is_moving y.standing ≡ true →
    All (Reaches m y.robot.cell) y.robot.errands
settle-reach m robot standing.Moving x y out kind (same, cuts) moves =
    subst (λ c. All (Reaches m c) y.robot.errands) (sym (ap (λ z. z.cell) cuts.rest)) (sifted-all cuts.sifted)
settle-reach m robot standing.Held x y out kind (same, none) moves = absurd (let z : true ≡ false = sym moves ∙ ap (λ w. is_moving w.standing) same ∙ ap is_moving kind in cc)
settle-reach m robot standing.Gone x y out kind (same, none) moves = absurd (let z : true ≡ false = sym moves ∙ ap (λ w. is_moving w.standing) same ∙ ap is_moving kind in cc)

settled-reach : {A : Type 0} (m : Floor) (xs ys : List (Seat A)) (out : List Dropped) → AreSettled m xs ys out → AllReach m ys
settled-reach m xs ys out are r y at moves =
    let (x, was, lost, is) = steps-at 0 xs ys out (steps-settled m xs ys out are) r y at in
    settle-reach m (0 + r) x.standing x y lost refl is moves

pub reached-reach : {A : Type 0} (s t : SiteView A) (changes : List Change) (out : List Dropped) → IsReached s changes t out → AllReach (plan_map t) t.seats
reached-reach {A} s t changes out on =
    subst (λ m. AllReach m t.seats) (same-map s t changes out on.changed on.seats on.last on.is on.settled)
    (subst (λ (u : SiteView A). AllReach (plan_map on.changed) u.seats) (sym on.is) (settled-reach (plan_map on.changed) on.changed.seats on.seats on.last on.settled))

-- ---- the opening

module _ {A : Type 0} (s : SiteView A) (is : IsSiteInOrder s) (reach : AllReach (plan_map s) s.seats) where
  -- a robot that moves stands on floor, and on no robot that is held
  floor-there : (z : RobotState A) → Origin s.seats z → IsFloor (plan_map s) z.cell
  floor-there z from =
      let x = from.seat in
      let here = moves-here x.standing from.moves in
      let floor : IsFloor s.map x.robot.cell = is.standing.on_floor from.number x from.at here in
      let apart : (r : ℕ) (y : Seat A) → slice_get s.seats r ≡ Some y → is_held y.standing ≡ true → y.robot.cell ≢ x.robot.cell =
      λ r y at held same.
      let number : r ≡ from.number = is.standing.apart r from.number y x at from.at (held-here y.standing held) here same in
      let one : y ≡ x = same-at s.seats from.number y x (subst (λ k. slice_get s.seats k ≡ Some y) number at) from.at in
      not-both x.standing (sym (ap (λ (w : Seat A). is_held w.standing) one) ∙ held) from.moves
      in
      subst (λ (w : RobotState A). IsFloor (plan_map s) w.cell) from.robot
      (subst (λ l. IsTrue (is_floor_letter l)) (sym (walled-elsewhere s.map.letters s.seats x.robot.cell apart)) floor)

  robot-in_order : (z : RobotState A) → Origin s.seats z → IsRobotInOrder (plan_map s) (opening_of s) z
  robot-in_order z from =
      let x = from.seat.robot in
      let known = is.robots from.number from.seat from.at in
      let all = reach from.number from.seat from.at from.moves in
      let there : IsRobotInOrder (plan_map s) (opening_of s) x = record {
        arrival_law = known.arrival_law;
        farewell_law = known.farewell_law;
        waits = known.waits;
        not_longer = known.not_longer;
        room = known.room;
        known = known.known;
        numbered = known.numbered;
        on_floor = λ k d l. (all k d l).floor;
        reachable = λ k d l. (all k d l).joined;
      } in
      subst (λ (w : RobotState A). IsRobotInOrder (plan_map s) (opening_of s) w) from.robot there

  there : (k : ℕ) → k < length (moving_robots s.seats) → slice_get (moving_robots s.seats) k ≡ Some (get_or (moving_robots s.seats) k unknown_robot)
  there k l = slice_get-get_or (moving_robots s.seats) k unknown_robot l

  cell-there : (k : ℕ) → k < length (moving_robots s.seats) → slice_index (map (λ (x : RobotState A). x.cell) (moving_robots s.seats)) k ≡ (get_or (moving_robots s.seats) k unknown_robot).cell
  cell-there k l = get_or-map (λ (x : RobotState A). x.cell) (moving_robots s.seats) k unknown_robot 0 l

  placed : IsPlacement (plan_map s) (map (λ (x : RobotState A). x.cell) (moving_robots s.seats))
  placed =
      let many = length-map (moving_robots s.seats) (λ (x : RobotState A). x.cell) in
      record {
        on_floor = λ k l.
            let inside : k < length (moving_robots s.seats) = omega (arith, l, many) in
            let z = get_or (moving_robots s.seats) k unknown_robot in
            subst (IsFloor (plan_map s)) (sym (cell-there k inside)) (floor-there z (origin s.seats k z (there k inside)));
        distinct = λ i j less l same.
            let two : j < length (moving_robots s.seats) = omega (arith, l, many) in
            let one : i < length (moving_robots s.seats) = omega (arith, two, less) in
            let z = get_or (moving_robots s.seats) i unknown_robot in
            let w = get_or (moving_robots s.seats) j unknown_robot in
            let from = origins s.seats i j z w less (there i one) (there j two) in
            let x = from.one.seat in
            let y = from.two.seat in
            let cell : x.robot.cell ≡ y.robot.cell =
            ap (λ (v : RobotState A). v.cell) from.one.robot ∙ sym (cell-there i one) ∙ same ∙ cell-there j two ∙ sym (ap (λ (v : RobotState A). v.cell) from.two.robot) in
            let number = is.standing.apart from.one.number from.two.number x y from.one.at from.two.at (moves-here x.standing from.one.moves) (moves-here y.standing from.two.moves) cell in
            omega (arith, number, from.order);
      }

  -- an errand of a robot of the opening is one of its seat
  errand-there : (z : RobotState A) (from : Origin s.seats z) (i : ℕ) (e : Errand) → slice_get z.errands i ≡ Some e → slice_get (errands_of s from.number) i ≡ Some e
  errand-there z from i e at =
      subst (λ l. slice_get l i ≡ Some e) (sym (seat-errands s.seats from.number from.seat from.at))
      (subst (λ (w : RobotState A). slice_get w.errands i ≡ Some e) (sym from.robot) at)

  never-two : (k l i j : ℕ) (x y : Errand) (z w : RobotState A) → k < l → slice_get (moving_robots s.seats) k ≡ Some z → slice_get (moving_robots s.seats) l ≡ Some w → slice_get z.errands i ≡ Some x →
      slice_get w.errands j ≡ Some y → x.client ≡ y.client → x.number ≡ y.number → ⊥
  never-two k l i j x y z w less one two at other client number =
      let from = origins s.seats k l z w less one two in
      let same = is.names.apart from.one.number from.two.number i j x y (errand-there z from.one i x at) (errand-there w from.two j y other) client number in
      omega (arith, same, from.order)

  names : AreNamesInOrder (opening_of s)
  names = record {
    apart = λ k l i j x y at other client number.
        let (z, one, first) = robot-errands (opening_of s) k i x at in
        let (w, two, second) = robot-errands (opening_of s) l j y other in
        elim (cases_eq k l) [
          | inl same ↦ same
          | inr differ ↦ absurd (elim (cases_lt k l) [
            | inl less ↦ never-two k l i j x y z w less one two first second client number
            | inr more ↦ never-two l k j i y x w z (omega (arith, more, differ)) two one second first (sym client) (sym number)
          ])
        ];
    rising = λ k i j x y less at other client.
        let (z, one, first) = robot-errands (opening_of s) k i x at in
        let (w, two, second) = robot-errands (opening_of s) k j y other in
        let same : w ≡ z = same-at (moving_robots s.seats) k w z two one in
        let from = origin s.seats k z one in
        is.names.rising from.number i j x y less (errand-there z from i x first) (errand-there z from j y (subst (λ (v : RobotState A). slice_get v.errands j ≡ Some y) same second)) client;
  }

  pub opened : 0 < length (moving_numbers s.seats) → IsInOrder (plan_map s) (opening_of s)
  opened someone = record {
    some_robots = omega (arith, someone, movers-numbers 0 s.seats);
    few_robots = omega (arith, movers-few s.seats, is.few_robots);
    some_clients = is.some_clients;
    few_clients = is.few_clients;
    queue = is.queue;
    life = is.life;
    placed = placed;
    robots = λ k d l. let z = get_or (moving_robots s.seats) k d in robot-in_order z (origin s.seats k z (slice_get-get_or (moving_robots s.seats) k d l));
    clients = λ c l. client-less s.life (open_of s c) (owed_at (opening_of s) c) (slice_index_or s.clients c unknown_client) (movers-owe s.seats c) (is.clients c l);
    names = names;
  }

-- ---- a refit

pub refit-opened : {A : Type 0} (s : SiteView A) (changes : List Change) (r : Refit A) → IsRefit s changes r → IsSiteInOrder s → IsInOrder r.grid r.opening
refit-opened {A} s changes r refit is =
    let t = r.site in
    let after : IsSiteInOrder t = (reached-safe s t changes r.dropped.items refit.reached).in_order is in
    let next = opened t after (reached-reach s t changes r.dropped.items refit.reached) (subst (λ l. 0 < length l) refit.numbers refit.someone) in
    subst (λ m. IsInOrder m r.opening) (sym refit.grid) (subst (λ o. IsInOrder (plan_map t) o) (sym refit.opening) next)
