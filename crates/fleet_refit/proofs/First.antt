-- The site of an opening in order is in order.
use Rattle.std.proofs.Common.{◌≡◌, ◌∙◌, ℕ, zero, suc, List, [], ◌∷◌, Some, ap, arith, inl, inr, refl, subst, sym, get_or}
use Rattle.std.specs.Prelude.{map, slice_get, slice_index, slice_index_or}
use Rattle.std.proofs.lemmas.Bool.{cases_eq, cases_lt}
use Rattle.std.proofs.lemmas.List.{get_or-map, length-map}
use Rattle.std.proofs.lemmas.Option.{get_or_from_slice_get, slice_get_within}
use Rattle.fleet_grid.specs.Floor.{Floor, IsFloor}
use Rattle.fleet_history.specs.declared.history.ClientState.{ClientState}
use Rattle.fleet_history.specs.declared.history.Opening.{Opening}
use Rattle.fleet_history.specs.declared.history.RobotState.{RobotState}
use Rattle.fleet_history.specs.History.{unknown_client}
use Rattle.fleet_history.specs.Legal.{AreNamesInOrder, IsClientInOrder, IsInOrder, owed_at}
use Rattle.fleet_history.proofs.Legal.{unknown_robot}
use Rattle.fleet_refit.specs.declared.seat.Seat.{Seat}
use Rattle.fleet_refit.specs.InOrder.{AreStanding, IsKnown, IsSiteInOrder}
use Rattle.fleet_refit.specs.Site.{first_site, moving}

-- the opening with other robots
abbrev with_robots : {A : Type 0} → Opening A → List (RobotState A) → Opening A
with_robots o robots = record { tick = o.tick; queue = o.queue; life = o.life; clients = o.clients; robots = robots }

same-robots : {A : Type 0} (robots : List (RobotState A)) → robots ≡ map (λ (x : Seat A). x.robot) (map moving robots)
same-robots [] = refl
same-robots (z ∷ robots) = ap (λ l. z ∷ l) (same-robots robots)

-- a seat of the site has a robot of the opening
seat-robot : {A : Type 0} (robots : List (RobotState A)) (r : ℕ) (x : Seat A) → slice_get (map moving robots) r ≡ Some x → slice_get robots r ≡ Some x.robot
seat-robot [] r x at = cc
seat-robot {A} (z ∷ robots) zero x at = let same : moving z ≡ x = cc in ap (λ (y : Seat A). Some y.robot) same
seat-robot (z ∷ robots) (suc r) x at = seat-robot robots r x at

-- its cell is the robot's in the placement
pub cell-placed : {A : Type 0} (robots : List (RobotState A)) (r : ℕ) (z : RobotState A) → slice_get robots r ≡ Some z → slice_index (map (λ (y : RobotState A). y.cell) robots) r ≡ z.cell
cell-placed {A} robots r z at =
    get_or-map (λ (y : RobotState A). y.cell) robots r unknown_robot 0 (slice_get_within robots r z at) ∙ ap (λ (y : RobotState A). y.cell) (get_or_from_slice_get robots r z unknown_robot at)

module _ {A : Type 0} (m : Floor) (o : Opening A) (is : IsInOrder m o) where
  first-standing : AreStanding m (map moving o.robots)
  first-standing =
      let many = length-map o.robots (λ (y : RobotState A). y.cell) in
      record {
        on_floor = λ r x at here.
            let robot = seat-robot o.robots r x at in
            subst (IsFloor m) (cell-placed o.robots r x.robot robot) (is.placed.on_floor r (omega (arith, slice_get_within o.robots r x.robot robot, many)));
        apart = λ r q x y at there one two same.
            let first = seat-robot o.robots r x at in
            let second = seat-robot o.robots q y there in
            let cell : slice_index (map (λ (y : RobotState A). y.cell) o.robots) r ≡ slice_index (map (λ (y : RobotState A). y.cell) o.robots) q =
            cell-placed o.robots r x.robot first ∙ same ∙ sym (cell-placed o.robots q y.robot second) in
            elim (cases_eq r q) [
              | inl e ↦ e
              | inr differ ↦ absurd (elim (cases_lt r q) [
                | inl less ↦ is.placed.distinct r q less (omega (arith, slice_get_within o.robots q y.robot second, many)) cell
                | inr more ↦ is.placed.distinct q r (omega (arith, more, differ)) (omega (arith, slice_get_within o.robots r x.robot first, many)) (sym cell)
              ])
            ];
      }

  pub first-in_order : IsSiteInOrder (first_site m o)
  first-in_order = record {
    few_robots = omega (arith, is.few_robots, length-map o.robots (moving {A = A}));
    some_clients = is.some_clients;
    few_clients = is.few_clients;
    queue = is.queue;
    life = is.life;
    standing = first-standing;
    robots = λ r x at.
        let robot = seat-robot o.robots r x at in
        let inside = slice_get_within o.robots r x.robot robot in
        let read : get_or o.robots r unknown_robot ≡ x.robot = get_or_from_slice_get o.robots r x.robot unknown_robot robot in
        let known = is.robots r unknown_robot inside in
        subst (λ (z : RobotState A). IsKnown o.tick o.queue o.clients z) read (record {
          arrival_law = known.arrival_law;
          farewell_law = known.farewell_law;
          waits = known.waits;
          not_longer = known.not_longer;
          room = known.room;
          known = known.known;
          numbered = known.numbered;
        });
    clients = λ c inside.
        subst (λ (l : List (RobotState A)). IsClientInOrder o.life (owed_at (with_robots o l) c) (slice_index_or o.clients c unknown_client)) (same-robots o.robots) (is.clients c inside);
    names = subst (λ (l : List (RobotState A)). AreNamesInOrder (with_robots o l)) (same-robots o.robots) is.names;
  }

-- the site of copies of an opening's clients and robots
pub first-copied : {A : Type 0} (m : Floor) (o : Opening A) (clients : List ClientState) (seats : List (Seat A)) → clients ≡ o.clients → seats ≡ map moving o.robots → IsInOrder m o →
    IsSiteInOrder (record { map = m; tick = o.tick; queue = o.queue; life = o.life; clients = clients; seats = seats })
first-copied {A} m o clients seats known robots is =
    subst (λ (l : List ClientState). IsSiteInOrder (record { map = m; tick = o.tick; queue = o.queue; life = o.life; clients = l; seats = seats })) (sym known)
    (subst (λ (l : List (Seat A)). IsSiteInOrder (record { map = m; tick = o.tick; queue = o.queue; life = o.life; clients = o.clients; seats = l })) (sym robots) (first-in_order m o is))
