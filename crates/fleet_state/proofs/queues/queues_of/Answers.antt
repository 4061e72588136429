use Rattle.fleet_history.specs.declared.history.RobotState.{RobotState}
use Rattle.std.proofs.Common.{arith, ◌≡◌, ◌∙◌, ℕ, get_or, ◌++◌, ◌∷◌, [], ◌<◌, List, length, map, slice_index, sym, ap}
use Rattle.std.specs.List.{range_with_len}
use Rattle.std.proofs.lemmas.List.{get_or-map}
use Rattle.fleet_queue.specs.declared.errand.Errand.{Errand}
use Rattle.fleet_state.specs.Opened.{errands_in, queue_in}
use Rattle.fleet_state.proofs.Ranges.{map-range_more}
use Rattle.fleet_state.proofs.queues.queues_of.Goals as goal

-- the errands of the robot that the loop has come to
here : {A : Type 0} (xs : List (RobotState A)) (r : ℕ) (x : RobotState A) → r < length xs → (get_or xs r x).errands ≡ errands_in xs r
here xs r x l = sym (get_or-map (λ y. y.errands) xs r x [] l)

pub loop-r-preserved : goal.loop-r-preserved
loop-r-preserved g c =
    let f = queue_in c.args.rooms.now c.args.states.now in
    let e = here c.args.states.now c.loop-r.r c.index-states-r.result c.loop-r-test.true in
    rw (c.in_ok-push.ensures.items, c.loop-r.invariant, map-range_more f c.loop-r.r, c.in_ok-queue_of.ensures, c.as_slice.ensures)
    (ap (λ (u : List Errand). map f (range_with_len 0 c.loop-r.r) ++ record { items = u; capacity = slice_index c.args.rooms.now c.loop-r.r } ∷ []) e)

pub queue_of-requires : goal.queue_of-requires
queue_of-requires g c =
    omega (arith, ap length (c.as_slice.ensures ∙ here c.args.states.now c.loop-r.r c.index-states-r.result c.loop-r-test.true), c.requires.each c.loop-r.r c.loop-r-test.true)

pub returns : goal.returns
returns g c =
    let last : c.loop-r.r ≡ length c.args.states.now = omega (arith, c.loop-r.auto.r-end) in
    c.loop-r.invariant ∙ ap (λ n. map (queue_in c.args.rooms.now c.args.states.now) (range_with_len 0 n)) last
