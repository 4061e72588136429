-- The bound by the eldest robot, its walk and a distance on the map.
use Rattle.std.proofs.Common.{arith, ◌≡◌, ℕ, List, Option, Bool, false, ap, length, subst, sym}
use Rattle.std.specs.Prelude.{Some, None, IsTrue, slice_index, slice_index_or}
use Rattle.fleet_grid.specs.Floor.{IsNeighbour}
use Rattle.fleet_grid.specs.Walk.{IsDistance}
use Rattle.fleet_state.proofs.Parts.{cell-count, wait-count, queue-count, robots-few}
use Rattle.fleet_reopen.specs.Room.{HaveRoom}
use Rattle.fleet_reopen.proofs.Rooms.{state-full, state-keeps, wait-small, goal-floor}
use Rattle.fleet_reopen.proofs.bound.keeps_bound.Goals as goal

pub bounds-place-robot : goal.bounds-place-robot
bounds-place-robot g c =
    let k = c.requires.is.1 in
    omega (arith, c.requires.eldest.known, wait-count k, cell-count k, ap length c.place.ensures.cells)

pub walk_of-requires : goal.walk_of-requires
walk_of-requires g c = goal-floor c.requires.is.1 c.args.robot c.args.goal c.requires.eldest c.requires.goal

pub apart-requires : goal.apart-requires
apart-requires g c = goal-floor c.requires.is.1 c.args.robot c.args.goal c.requires.eldest c.requires.goal

pub have_room-requires-clause-few : goal.have_room-requires-clause-few
have_room-requires-clause-few g c =
    let k = c.requires.is.1 in
    omega (arith, ap length c.waits.ensures.waits, wait-count k, queue-count k, robots-few k)

pub have_room-requires-clause-small : goal.have_room-requires-clause-small
have_room-requires-clause-small g c = λ r w is.
    wait-small c.requires.is.1 r w 4611686018427387904 c.requires.is.2 (subst (λ (ws : List (Option ℕ)). slice_index_or ws r None ≡ Some w) c.waits.ensures.waits is)

pub returns-clause-yes : goal.returns-clause-yes
returns-clause-yes g c = λ t h k.
    state-keeps k c.args.robot c.args.goal c.in_ok-far.far c.in_ok-reach.reach c.requires.eldest c.requires.goal
    (subst (λ (cells : List ℕ). (d : ℕ) → IsDistance (IsNeighbour c.args.grid.now) (slice_index cells c.args.robot) c.args.goal d → d ≡ c.in_ok-far.far) c.place.ensures.cells c.in_ok-far.ensures)
    c.in_ok-reach.ensures.within (subst (λ (ws : List (Option ℕ)). HaveRoom ws c.in_ok-far.far c.in_ok-reach.reach) c.waits.ensures.waits (c.have_room.ensures.0 t))

pub returns-clause-no : goal.returns-clause-no
returns-clause-no g c = λ f h k.
    state-full k c.args.robot c.args.goal c.in_ok-far.far c.in_ok-reach.reach c.requires.eldest c.requires.goal
    (subst (λ (cells : List ℕ). (d : ℕ) → IsDistance (IsNeighbour c.args.grid.now) (slice_index cells c.args.robot) c.args.goal d → d ≡ c.in_ok-far.far) c.place.ensures.cells c.in_ok-far.ensures)
    c.in_ok-reach.ensures.wide c.in_ok-reach.ensures.within
    (λ room. not_both c.have_room.result (c.have_room.ensures.1 (subst (λ (ws : List (Option ℕ)). HaveRoom ws c.in_ok-far.far c.in_ok-reach.reach) (sym c.waits.ensures.waits) room)) f)
  where
    not_both : (b : Bool) → IsTrue b → b ≡ false → ⊥
    not_both b t f = cc
