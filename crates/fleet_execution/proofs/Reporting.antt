-- Reports, as the state keeps them.
use Rattle.std.proofs.Common.{◌≡◌, ◌≢◌, ℕ, ◌-◌, ◌%◌, ◌<◌, inl, inr, length, get_or, set, sym, ◌∙◌, ap, subst, arith, length-set, get_or-set_same, get_or-set_other}
use Rattle.std.proofs.lemmas.Bool.{cases_lt}
use Rattle.execution_law.specs.Run.{Moves}
use Rattle.fleet_execution.specs.declared.robot.Robot.{Robot}
use Rattle.fleet_execution.specs.declared.state.State.{State}
use Rattle.fleet_execution.specs.Course.{Course, put}
use Rattle.fleet_execution.specs.Queue.{Line}
use Rattle.fleet_execution.specs.Executes.{IsKept, IsIn, Wakes, Executes}
use Rattle.fleet_execution.specs.State.{desk_of, nobody, IsSized}
use Rattle.fleet_execution.specs.Given.{IsReported}
use Rattle.fleet_execution.proofs.Reported.{returned_last, some_open, kept_report, reported}
use Rattle.fleet_execution.proofs.Arrived.{reports}
use Rattle.fleet_execution.proofs.Beginnings.{move_is}

abbrev robot_there : Robot → ℕ → Robot
robot_there y t = record y { cell = y.bound; reached = t }

-- what is kept after the robot has arrived
abbrev pub arrive_state : {A : Type 0} → State A → ℕ → Robot → State A
arrive_state s r k = record s {
  robots = set s.robots r (record k { cell = k.bound; reached = k.returned });
  unreached = set s.unreached (k.returned % s.ahead) (get_or s.unreached (k.returned % s.ahead) 0 - 1);
}

pub sized_arrive : {A : Type 0} (s : State A) (r : ℕ) (k : Robot) → IsSized s → IsSized (arrive_state s r k)
sized_arrive s r k z = record {
  some = z.some;
  robots = length-set s.robots r _ ∙ z.robots;
  window = z.window;
  unreached = length-set s.unreached _ _ ∙ z.unreached;
  ready = z.ready;
  marks = z.marks;
  small = z.small;
}

module _ {A : Type 0} (s : State A) (o : Course) (x : Executes (desk_of s) o) (sized : IsSized s) (r : ℕ) (k : Robot) (inside : r < s.count) (is : (desk_of s).robot r ≡ k) (under_way : k.reached ≢ k.returned) where
  r_in : r < o.run.plan.robots
  r_in = omega (arith, inside, x.robots)

  returned_is : o.returned r ≡ k.returned
  returned_is = sym (x.tracked r r_in).returned ∙ ap (λ (y : Robot). y.returned) is

  waits : o.run.reached r < k.returned
  waits = elim (cases_lt (o.run.reached r) k.returned) [
    | inl less ↦ less
    | inr more ↦ absurd (under_way (omega (arith, more, (x.tracked r r_in).reached, ap (λ (y : Robot). y.reached) is, returned_is, x.course.low r r_in)))
  ]

  module _ (q : Line) (more : (y : ℕ) → IsIn s.ready.items y → IsIn q.items y) (mine : IsIn q.items r) (wakes : Wakes (desk_of s) o.run (put o.run.reached r k.returned) q.items r k.returned) where
    pub some_left : 0 < get_or s.unreached (k.returned % s.ahead) 0
    some_left = some_open (desk_of s) o x r k.returned r_in returned_is waits q.items more mine wakes

    place_in : k.returned % s.ahead < length s.unreached
    place_in = omega (arith, sized.unreached, sized.some)

    begun_is : o.run.begun r ≡ k.returned
    begun_is = sym (returned_last (desk_of s) o x r r_in (omega (arith, waits, returned_is))) ∙ returned_is

    moves : Moves o.run.plan r k.returned
    moves = subst (λ (t : ℕ). Moves o.run.plan r t) begun_is (x.course.lawful.moves r r_in (omega (arith, begun_is, waits)))

    kept_is : IsKept s.ahead o.run.plan.steps k.returned
    kept_is = kept_report (desk_of s) o x r k.returned r_in returned_is waits q.items more mine wakes

    pub reported_is : IsReported o (record { robot = r; from = k.cell; to = k.bound; tick = k.returned }) (desk_of (arrive_state (record s { ready = q }) r k))
    reported_is =
        let m = move_is (desk_of s) o x r k.returned r_in kept_is moves (λ u later less u_moves. omega (arith, later, x.course.one r u r_in u_moves (omega (arith, less, begun_is)))) waits in
        let bound : k.bound ≡ o.run.plan.cell k.returned r = sym (ap (λ (y : Robot). y.bound) is) ∙ ((x.tracked r r_in).bound ∙ ap (λ (t : ℕ). o.run.plan.cell t r) returned_is) in
        let now = record k { cell = k.bound; reached = k.returned } in
        let own : get_or (set s.robots r (record k { cell = k.bound; reached = k.returned })) r nobody ≡ record ((desk_of s).robot r) { reached = k.returned; cell = ((desk_of s).robot r).bound } =
        get_or-set_same s.robots r (record k { cell = k.bound; reached = k.returned }) nobody (omega (arith, inside, sized.robots)) ∙ ap (λ (y : Robot). robot_there y k.returned) (sym is) in (
          record { inside = m.inside; moves = m.moves; from = sym (ap (λ (y : Robot). y.cell) is) ∙ m.from; to = bound },
          returned_is,
          (
            put o.run.reached r k.returned,
            reports (desk_of s) o x r k.returned r_in begun_is waits q.items more mine wakes,
            reported (desk_of s) o x r k.returned r_in returned_is waits q.items more mine wakes
                (λ y. get_or (set s.unreached (k.returned % s.ahead) (get_or s.unreached (k.returned % s.ahead) 0 - 1)) y 0)
                (get_or-set_same s.unreached (k.returned % s.ahead) (get_or s.unreached (k.returned % s.ahead) 0 - 1) 0 place_in)
                (λ y other. get_or-set_other s.unreached (k.returned % s.ahead) y (get_or s.unreached (k.returned % s.ahead) 0 - 1) 0 other)
                (λ y. get_or (set s.robots r (record k { cell = k.bound; reached = k.returned })) y nobody) own
                (λ y other. get_or-set_other s.robots r y (record k { cell = k.bound; reached = k.returned }) nobody other),
          ),
        )
