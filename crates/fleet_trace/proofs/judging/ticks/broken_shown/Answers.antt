use Rattle.std.proofs.Common.{◌∙◌, List, map, ap, sym, refl, inl, inr}
use Rattle.fleet_history.specs.declared.history.Arrival.{Arrival}
use Rattle.fleet_history.specs.declared.history.Bye.{Bye}
use Rattle.fleet_history.specs.Legal.{due_of}
use Rattle.fleet_trace.proofs.ErrandNames.{impossible}
use Rattle.fleet_trace.proofs.EntryByEntry.{stamps_fine, arrivals_tested, farewells_tested}
use Rattle.fleet_trace.proofs.judging.ticks.broken_shown.Goals as goal
use Rattle.fleet_trace.proofs.judging.ticks.broken_shown.Goals.{then-not-are_stamps-via-then-not-are_stamps, then-not-are_stamps-via-else-not-are_stamps+then-not-are_last_stamps}

pub returns-then-not-are_same_dues : goal.returns-then-not-are_same_dues
returns-then-not-are_same_dues g c = λ m h is same.
    inl (refl, λ shows. impossible (sym c.if-not-are_same_dues.true ∙ c.are_same_dues.ensures.1 (shows ∙ sym (ap (λ (xs : List Arrival). map due_of xs) c.deref.ensures.value ∙ c.in_ok-landings.ensures.arrived m h is))))

pub returns-then-not-are_same_robots : goal.returns-then-not-are_same_robots
returns-then-not-are_same_robots g c = λ m h is same.
    let due = c.are_same_dues.ensures.0 c.if-not-are_same_dues.false ∙ ap (λ (xs : List Arrival). map due_of xs) c.deref.ensures.value ∙ c.in_ok-landings.ensures.arrived m h is in
    let left = ap (λ (xs : List Bye). map (λ b. b.robot) xs) c.deref-2.ensures.value ∙ c.in_ok-landings.ensures.leaving c.args.arrived.now c.args.farewells.now m h is due in
    inr (inl (refl, due, λ shows. impossible (sym c.if-not-are_same_robots.true ∙ c.are_same_robots.ensures.1 (shows ∙ sym left))))

pub returns-then-not-are_stamps : goal.returns-then-not-are_stamps
returns-then-not-are_stamps g c = λ m h is same.
    let due = c.are_same_dues.ensures.0 c.if-not-are_same_dues.false ∙ ap (λ (xs : List Arrival). map due_of xs) c.deref.ensures.value ∙ c.in_ok-landings.ensures.arrived m h is in
    let leaving = c.are_same_robots.ensures.0 c.if-not-are_same_robots.false ∙ ap (λ (xs : List Bye). map (λ b. b.robot) xs) c.deref-2.ensures.value ∙ c.in_ok-landings.ensures.leaving c.args.arrived.now c.args.farewells.now m h is due in
    inr (inr (
      refl,
      due,
      leaving,
      λ fine. elim c.then-not-are_stamps.branch [
        | then-not-are_stamps-via-then-not-are_stamps w ↦ impossible (sym w.if-not-are_stamps.true ∙ c.are_stamps.ensures.1 (arrivals_tested h c.args.robots.now same c.args.arrived.now c.args.farewells.now fine))
        | then-not-are_stamps-via-else-not-are_stamps+then-not-are_last_stamps w ↦
            impossible (sym w.if-not-are_last_stamps.true ∙ w.are_last_stamps.ensures.1 (farewells_tested h c.args.robots.now same c.args.arrived.now c.args.farewells.now fine))
      ],
    ))

pub returns : goal.returns
returns g c = λ m h is same.
    let due = c.are_same_dues.ensures.0 c.if-not-are_same_dues.false ∙ ap (λ (xs : List Arrival). map due_of xs) c.deref.ensures.value ∙ c.in_ok-landings.ensures.arrived m h is in (
      due,
      c.are_same_robots.ensures.0 c.if-not-are_same_robots.false ∙ ap (λ (xs : List Bye). map (λ b. b.robot) xs) c.deref-2.ensures.value ∙ c.in_ok-landings.ensures.leaving c.args.arrived.now c.args.farewells.now m h is due,
      stamps_fine h c.args.robots.now same c.args.arrived.now c.args.farewells.now (c.are_stamps.ensures.0 c.if-not-are_stamps.false) (c.are_last_stamps.ensures.0 c.if-not-are_last_stamps.false),
    )
