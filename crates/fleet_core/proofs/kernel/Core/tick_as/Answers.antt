use Rattle.std.proofs.Common.{◌≡◌, ◌∙◌, ◌+◌, ◌<◌, List, ℕ, false, length, map, ap, sym, refl, subst}
use Rattle.std.proofs.lemmas.List.{length-map}
use Rattle.std.proofs.lemmas.Result.{err_from_is_err_and}
use Rattle.fleet_planner.specs.Courses.{goals_of}
use Rattle.fleet_hooks.specs.declared.law.TieLaw.{TieLaw}
use Rattle.fleet_history.specs.declared.history.Entry.TheVariants as entry
use Rattle.fleet_history.specs.History.{history_of, clock, after}
use Rattle.fleet_history.specs.Legal.{IsTickAfter}
use Rattle.mover.specs.Moving.{HasTurns}
use Rattle.fleet_state.specs.Follows.{MayTick}
use Rattle.fleet_state.specs.State.{IsStateOf}
use Rattle.fleet_state.proofs.Parts.{cell-count, queue-count}
use Rattle.fleet_core.specs.Core.{HasEntries}
use Rattle.fleet_core.specs.inside.Mailboxes.{AreDelivered}
use Rattle.fleet_core.specs.Hooks.{AreFarewells, spare_laws, without_all}
use Rattle.fleet_core.specs.inside.Ready.{IsStep, IsReady}
use Rattle.fleet_core.specs.inside.Stamped.{AreClosures, AreStamped, HaveStamps, MayStamp, laws_as, spare_as}
use Rattle.fleet_core.proofs.EntriesKept.{deliver-known, deliver-on_map, deliver-room, deliver-small, kept-tick, may-follow, planned-so, ticks-so}
use Rattle.fleet_core.proofs.FaultCases.{done, tick-chapter_full-clock_spent, tick-clock_spent-chapter_full, tick-no_memory-chapter_full, tick-no_memory-clock_spent}
use Rattle.fleet_core.proofs.OwnLaws.{closures-as, have-stamps, least-added, not-grown}
use Rattle.fleet_core.proofs.Refusals.{kept-refused, not_same}
use Rattle.fleet_core.proofs.TickFacts.{step-stamps, stamped-fits, stamped-left, stamped-shows}
use Rattle.fleet_core.proofs.kernel.Core.tick_as.Goals as goal
use Rattle.fleet_core.proofs.kernel.Core.tick_as.Goals.{After-stamp_as-report, After-add}

pub ready-requires-clause-may : goal.ready-requires-clause-may
ready-requires-clause-may g c = record { history = history_of c.self.inside.chapter; is = c.self.invariant.is; aimed = c.self.invariant.aimed }

pub ready-requires-clause-turns : goal.ready-requires-clause-turns
ready-requires-clause-turns g c = subst (λ n. HasTurns c.self.inside.grid n c.self.inside.planner.turns) (sym (queue-count c.self.invariant.is)) c.self.invariant.turns

pub ready-requires-clause-tied : goal.ready-requires-clause-tied
ready-requires-clause-tied g c =
    sym (length-map c.args.ties.now (λ h. h.law)) ∙ ap length c.requires.ties ∙ ap (λ w. length w.ties) (sym c.self.view_is) ∙ c.self.invariant.tied.count ∙ sym (queue-count c.self.invariant.is)

pub stamp_as-report-requires : goal.stamp_as-report-requires
stamp_as-report-requires g c =
    let h = history_of c.self.inside.chapter in
    let least = c.args.least in
    let laws = map (λ h. h.law) c.args.arrivals.now in
    let spare = spare_laws c.args.farewells.now.items in
    let k = closures-as h least laws spare (subst (λ w. least ≡ false → AreClosures w.history laws spare) (sym c.self.view_is) c.requires.closures) in
    let same = sym c.as_slice-robots.ensures in
    record {
      may = subst (λ xs. MayStamp (length (laws_as least xs laws)) (length (spare_as least xs spare)) (spare_as least xs spare) c.in_ok-step.step.to.items c.in_ok-step.step.arrived.items c.in_ok-step.step.leaving.items) same
          (step-stamps c.self.invariant.is c.in_ok-step.ensures.step k.farewells (length (laws_as least h.opening.robots laws)) (length (spare_as least h.opening.robots spare)) k.arrivals.count k.farewells.count);
      orderly = subst HaveStamps same (have-stamps c.self.inside.grid h c.self.invariant.is.legal);
    }

-- the step is planned by what is kept
step_is : (g : _) (c : After-stamp_as-report g) →
    IsStep c.self.inside.grid c.self.inside.planner.turns c.self.inside.ties.items c.self.inside.state (goals_of c.self.inside.planner.planner.aims) c.stamp_as-report.new.self.to.items c.in_ok-step.step.arrived.items c.in_ok-step.step.leaving.items
step_is g c =
    let laws : map (λ h. h.law) c.args.ties.now ≡ c.self.inside.ties.items = c.requires.ties ∙ ap (λ w. w.ties) (sym c.self.view_is) in
    subst (λ (to : List ℕ). IsStep c.self.inside.grid c.self.inside.planner.turns c.self.inside.ties.items c.self.inside.state (goals_of c.self.inside.planner.planner.aims) to c.in_ok-step.step.arrived.items c.in_ok-step.step.leaving.items) (sym {A = List ℕ} c.stamp_as-report.ensures.to)
    (subst (λ (ties : List TieLaw). IsStep c.self.inside.grid c.self.inside.planner.turns ties c.self.inside.state (goals_of c.self.inside.planner.planner.aims) c.in_ok-step.step.to.items c.in_ok-step.step.arrived.items c.in_ok-step.step.leaving.items) laws c.in_ok-step.ensures.step)

closures_are : (g : _) (c : After-stamp_as-report g) →
    AreClosures (history_of c.self.inside.chapter) (laws_as c.args.least (history_of c.self.inside.chapter).opening.robots (map (λ h. h.law) c.args.arrivals.now))
    (spare_as c.args.least (history_of c.self.inside.chapter).opening.robots (spare_laws c.args.farewells.now.items))
closures_are g c =
    let laws = map (λ h. h.law) c.args.arrivals.now in
    let spare = spare_laws c.args.farewells.now.items in
    closures-as (history_of c.self.inside.chapter) c.args.least laws spare (subst (λ w. c.args.least ≡ false → AreClosures w.history laws spare) (sym c.self.view_is) c.requires.closures)

stamped_is : (g : _) (c : After-stamp_as-report g) →
    AreStamped (laws_as c.args.least (history_of c.self.inside.chapter).opening.robots (map (λ h. h.law) c.args.arrivals.now))
    (spare_as c.args.least (history_of c.self.inside.chapter).opening.robots (spare_laws c.args.farewells.now.items))
    c.in_ok-step.step.arrived.items c.stamp_as-report.new.self.arrived.items c.in_ok-step.step.leaving.items c.stamp_as-report.new.self.leaving.items
stamped_is g c = rw c.as_slice-robots.ensures at c.stamp_as-report.ensures.stamped

-- the tick fits, whatever its stamps are
fits_is : (g : _) (c : After-stamp_as-report g) → IsTickAfter c.self.inside.grid (history_of c.self.inside.chapter) c.stamp_as-report.new.self.to.items c.stamp_as-report.new.self.arrived.items c.stamp_as-report.new.self.leaving.items
fits_is g c =
    let k = closures_are g c in
    stamped-fits c.self.invariant.is (step_is g c) k.farewells (stamped_is g c) k.arrivals

pub deliver-requires : goal.deliver-requires
deliver-requires g c =
    let k = c.self.invariant in
    let p = (goal.at.deliver-requires g c).After-stamp_as-report in
    let step = step_is g p in
    let shows = stamped-shows k.is step (closures_are g p).farewells (stamped_is g p) in
    let to = c.stamp_as-report.new.self.to.items in
    let come = c.stamp_as-report.new.self.arrived.items in
    rw (c.deref.ensures.value, c.deref-2.ensures.value)
    record {
      known = deliver-known k to come shows;
      on_map = deliver-on_map k to come shows (step.conflict_free.same_length ∙ cell-count k.is);
      small = deliver-small k to come shows;
      room = deliver-room k to come shows;
    }

pub enter_tick-requires : goal.enter_tick-requires
enter_tick-requires g c =
    let fits = fits_is g (goal.at.enter_tick-requires g c).After-stamp_as-report in
    subst (MayTick c.self.inside.state) (sym {A = List ℕ} c.deref-3.ensures.value)
    (record {
      arrived = c.stamp_as-report.new.self.arrived.items;
      farewells = c.stamp_as-report.new.self.leaving.items;
      may = may-follow c.self.invariant (entry.Tick c.stamp_as-report.new.self.to.items c.stamp_as-report.new.self.arrived.items c.stamp_as-report.new.self.leaving.items) fits;
    })

pub add-requires : goal.add-requires
add-requires g c = c.in_ok-step.ensures.ready.room

next_is : (g : _) (c : After-add g) → IsTickAfter c.self.inside.grid (history_of c.self.inside.chapter) c.stamp_as-report.new.self.to.items c.stamp_as-report.new.self.arrived.items c.stamp_as-report.new.self.leaving.items →
    IsStateOf c.self.inside.grid (after (history_of c.self.inside.chapter) (entry.Tick c.stamp_as-report.new.self.to.items c.stamp_as-report.new.self.arrived.items c.stamp_as-report.new.self.leaving.items)) c.enter_tick.new.self
next_is g c fits =
    let h = history_of c.self.inside.chapter in
    let come = c.stamp_as-report.new.self.arrived.items in
    let gone = c.stamp_as-report.new.self.leaving.items in
    subst (λ (to : List ℕ). IsStateOf c.self.inside.grid (after h (entry.Tick to come gone)) c.enter_tick.new.self) c.deref-3.ensures.value
    (c.enter_tick.ensures.follows come gone c.self.inside.grid h c.self.invariant.is (subst (λ (to : List ℕ). IsTickAfter c.self.inside.grid h to come gone) (sym {A = List ℕ} c.deref-3.ensures.value) fits))

told_is : (g : _) (c : After-add g) → AreDelivered c.stamp_as-report.new.self.arrived.items c.stamp_as-report.new.self.to.items (c.clock-tick.result + 1) c.self.inside.mailboxes c.deliver.new.self
told_is g c =
    rw (c.deref.ensures.value, c.deref-2.ensures.value) at c.deliver.ensures

pub invariant_of-self-2 : goal.invariant_of-self-2
invariant_of-self-2 g c =
    let k = c.self.invariant in
    let h = history_of c.self.inside.chapter in
    let a = (goal.at.invariant_of-self-2 g c).After-add in
    let p = (goal.at.invariant_of-self-2 g c).After-stamp_as-report in
    let fits = fits_is g p in
    let few : length h.entries < c.self.inside.limits.chapter = subst HasEntries (sym c.self.view_is) (c.if-is_full.ensures.room refl) in
    let early : clock h < c.self.inside.limits.clock = subst (λ w. clock w.history < w.limits.clock) (sym c.self.view_is) (c.if-is_spent.ensures.early refl) in
    let ready = subst (λ (to : List ℕ). IsReady c.self.inside.state to c.ready.new.planner c.ready.new.entries) (sym {A = List ℕ} c.stamp_as-report.ensures.to) c.in_ok-step.ensures.ready in
    let tick = ap (λ n. n + 1) (c.clock-tick.ensures.of c.self.inside.grid h k.is) in
    rw (c.add.ensures, c.ready.ensures.items, c.tick_entry.ensures)
    (kept-tick k fits (planned-so k (step_is g p)) (c.clock-tick.result + 1) tick (told_is g a) few early (next_is g a fits) c.enter_tick.ensures.rooms ready.goals c.ready.ensures.same)

pub returns-clause-answer : goal.returns-clause-answer
returns-clause-answer g c =
    let k = c.self.invariant in
    let a = (goal.at.returns-clause-answer g c).After-add in
    let p = (goal.at.returns-clause-answer g c).After-stamp_as-report in
    let early = c.if-is_spent.ensures.early refl in
    let room = c.if-is_full.ensures.room refl in
    let tick = ap (λ n. n + 1) (c.clock-tick.ensures.of c.self.inside.grid (history_of c.self.inside.chapter) k.is) in
    record {
      clock_spent = (done, λ q. absurd (not_same early q));
      chapter_full = (done, λ p. absurd (not_same room p.1));
      early = early;
      entries = room;
      ok = rw (← c.self.view_is, c.add.ensures, c.ready.ensures.items, c.tick_entry.ensures)
          (ticks-so k (fits_is g p) (planned-so k (step_is g p)) (c.clock-tick.result + 1) tick (told_is g a) c.ready.ensures.same c.stamp_as-report.ensures.report);
      err = tt;
    }

pub returns-clause-farewells : goal.returns-clause-farewells
returns-clause-farewells g c =
    let p = (goal.at.returns-clause-farewells g c).After-stamp_as-report in
    let gone = map (λ b. b.robot) c.in_ok-step.step.leaving.items in
    let spare = spare_laws c.args.farewells.now.items in
    let robots = (history_of c.self.inside.chapter).opening.robots in
    rw (c.add.ensures, c.ready.ensures.items, c.tick_entry.ensures)
    (λ e. stamped-left c.self.invariant.is (step_is g p) (closures_are g p).farewells (stamped_is g p) (spare_laws c.stamp_as-report.new.farewells.items)
    (c.stamp_as-report.ensures.spent e ∙ ap (λ b. without_all gone (spare_as b robots spare)) (sym e)))

pub returns-clause-lowest : goal.returns-clause-lowest
returns-clause-lowest g c =
    let h = history_of c.self.inside.chapter in
    let tick = entry.Tick c.stamp_as-report.new.self.to.items c.stamp_as-report.new.self.arrived.items c.stamp_as-report.new.self.leaving.items in
    rw (← c.self.view_is, c.add.ensures, c.ready.ensures.items, c.tick_entry.ensures)
    (λ yes e same. least-added h tick e (rw c.as_slice-robots.ensures at (c.stamp_as-report.ensures.lowest yes)) same)

-- refused

pub returns-then-is_spent : goal.returns-then-is_spent
returns-then-is_spent g c =
    let spent = c.if-is_spent.ensures.spent refl in
    record {
      answer = record {
        clock_spent = (λ e. spent, λ q. refl);
        chapter_full = (tick-clock_spent-chapter_full, λ p. absurd (not_same p.0 spent));
        early = tt;
        entries = tt;
        ok = tt;
        err = refl;
      };
      farewells = λ e. (c.requires.closures e).farewells;
      lowest = λ yes e same. absurd (not-grown c.args.self.now.history e same);
    }

pub returns-then-is_full : goal.returns-then-is_full
returns-then-is_full g c =
    let early = c.if-is_spent.ensures.early refl in
    let full = c.if-is_full.ensures.full refl in
    record {
      answer = record {
        clock_spent = (tick-chapter_full-clock_spent, λ q. absurd (not_same early q));
        chapter_full = (λ e. (early, full), λ p. refl);
        early = tt;
        entries = tt;
        ok = tt;
        err = refl;
      };
      farewells = λ e. (c.requires.closures e).farewells;
      lowest = λ yes e same. absurd (not-grown c.args.self.now.history e same);
    }

pub invariant_of-self : goal.invariant_of-self
invariant_of-self g c = rw c.ready.ensures.items (kept-refused c.self.invariant c.in_err-step.ensures.refused c.ready.ensures.same)

pub returns-in_err-step : goal.returns-in_err-step
returns-in_err-step g c =
    let p = err_from_is_err_and c.from_residual.result c.from_residual.ensures.1 in
    let early = c.if-is_spent.ensures.early refl in
    let room = c.if-is_full.ensures.room refl in
    rw (p.1, p.2)
    record {
      answer = record {
        clock_spent = (tick-no_memory-clock_spent, λ q. absurd (not_same early q));
        chapter_full = (tick-no_memory-chapter_full, λ full. absurd (not_same room full.1));
        early = tt;
        entries = tt;
        ok = tt;
        err = rw (c.ready.ensures.items, c.ready.ensures.same.turns) c.self.view_is;
      };
      farewells = λ e. rw c.ready.ensures.items (subst (λ w. AreFarewells w.history (spare_laws c.args.farewells.now.items)) (sym c.self.view_is) (c.requires.closures e).farewells);
      lowest = λ yes e. rw c.ready.ensures.items (λ same. absurd (not-grown c.args.self.now.history e (ap (λ w. w.history) (sym c.self.view_is) ∙ same)));
    }
