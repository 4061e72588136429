-- A core keeps what it keeps after each entry, whatever the call that enters it knows besides.
use Rattle.std.proofs.Common.{◌≡◌, ◌∙◌, ℕ, ◌+◌, ◌^◌, ◌<◌, ◌≤◌, List, Option, map, length, ap, refl, arith}
use Rattle.std.specs.Prelude.{slice_index, count_by, All, ◌==◌}
use Rattle.fleet_grid.specs.Floor.{Floor}
use Rattle.fleet_planner.specs.Courses.{goals_of}
use Rattle.fleet_hooks.specs.declared.law.TieLaw.{TieLaw}
use Rattle.fleet_book.specs.declared.limits.Limits.{Limits}
use Rattle.fleet_book.specs.declared.notice.Notice.TheVariants as notice
use Rattle.fleet_book.specs.declared.order.Order.{Order}
use Rattle.fleet_book.specs.declared.verdict.Verdict.{Verdict}
use Rattle.fleet_history.specs.declared.history.Arrival.{Arrival}
use Rattle.fleet_history.specs.declared.history.Bye.{Bye}
use Rattle.fleet_history.specs.declared.history.Entry.{Entry}
use Rattle.fleet_history.specs.declared.history.Entry.TheVariants as entry
use Rattle.fleet_history.specs.History.{History, after, robots, clients, clock, owed, taken_count}
use Rattle.fleet_history.specs.Legal.{Fits, IsTickAfter, due_of, due}
use Rattle.fleet_history.specs.Verdicts.{IsVerdict}
use Rattle.fleet_history.proofs.Ticks.{each_tick-shut, each_tick-take, each_tick-tick}
use Rattle.turns_law.specs.Turns.{Turns}
use Rattle.mover.specs.Moving.{Mover, IsPlannedAs}
use Rattle.fleet_bound.proofs.Roomy.{roomy-tick}
use Rattle.fleet_state.specs.Follows.{MayFollow}
use Rattle.fleet_state.specs.State.{State, IsStateOf}
use Rattle.fleet_state.proofs.Parts.{cells-of, waits-of}
use Rattle.fleet_core.specs.declared.faults.TickReport.{TickReport}
use Rattle.fleet_planner.specs.Aimed.{begun, begun_goals, goals_ticked}
use Rattle.fleet_core.specs.Core.{World, Takes, Ticks, Shuts}
use Rattle.fleet_core.specs.inside.Kept.{IsKept}
use Rattle.fleet_core.specs.inside.Mailboxes.{Mailboxes, box_at, with_notice, AreDelivered}
use Rattle.fleet_core.specs.Pending.{Pending}
use Rattle.fleet_core.specs.inside.Ready.{IsStep, IsOnSame}
use Rattle.fleet_planner.proofs.GoalsKept.{aimed-shut, aimed-take, aimed-tick}
use Rattle.fleet_core.proofs.CoreKept.{noticed-of, noticed-small, room-kept, boxes-shut, boxes-take, boxes-tick, delivered-shut, taken-boxes, ticked-boxes, within-shut, within-take, within-tick}
use Rattle.fleet_core.proofs.Manners.{turns-as, ties-as, plain-tick}
use Rattle.fleet_core.proofs.TickFacts.{arrived-clients, arrived-few, arrived-owed, arrived-robots}

-- what contracts see of a core that keeps these
abbrev pub world_of : {A : Type 0} → Floor → Limits → List TieLaw → Option Turns → ℕ → History A → Mailboxes → World A
world_of m limits ties turns n h x = record { floor = m; limits = limits; ties = ties; turns = turns; number = n; history = h; mailboxes = x.boxes }

first-of : (a b l : ℕ) → a + b + 2 ≤ l → a < l
first-of a b l most = omega arith

next-small : (n k : ℕ) → n ≡ k → k + 512 < 2 ^ 60 → n + 1 < 2 ^ 64
next-small n k same small = omega arith

module _ {A : Type 0} {m : Floor} {limits : Limits} {ties : List TieLaw} {n : ℕ} {h : History A} {s : State A} {p : Mover} {x : Mailboxes} (k : IsKept m limits ties n h s p x) where
  -- an entry that fits may follow
  pub may-follow : (e : Entry A) → Fits m h e → MayFollow s e
  may-follow e fits = record {
    floor = m;
    history = h;
    is = k.is;
    fits = fits;
    early = omega (arith, k.within.clock, k.within.valid.clock.1);
    few = omega (arith, k.within.entries, k.within.valid.chapter.1);
  }

  -- ---- takes

  module _ (c : ℕ) (known : c < clients h) where
    pub box-known : c < length x.boxes
    box-known = omega (arith, k.boxed.count)

    pub notice-small : slice_index x.noticed c + 1 < 2 ^ 64
    notice-small = next-small (slice_index x.noticed c) _ (noticed-of k.boxed c known) (noticed-small k.within m k.is.legal c known)

    pub notice-room : length (box_at x.boxes c).notices + owed h c + 2 ≤ (box_at x.boxes c).limit → length (box_at x.boxes c).notices < (box_at x.boxes c).limit
    notice-room = first-of (length (box_at x.boxes c).notices) (owed h c) (box_at x.boxes c).limit

    module _ (order : Order) (v : Verdict) (is : IsVerdict m h c order v) (number : ℕ) (taken : number ≡ taken_count (after {A = A} h (entry.Take c order v)) c) where
      pub takes-so : {q : Mover} → IsOnSame m p q → Takes (world_of m limits ties p.turns n h x) c order v (world_of m limits ties q.turns n (after h (entry.Take c order v)) (with_notice x c (notice.Verdict (slice_index x.noticed c + 1) number v)))
      takes-so same = record {
        verdict = is;
        world = ap (λ (turns : Option Turns). world_of m limits ties turns n (after h (entry.Take c order v)) (with_notice x c (notice.Verdict (slice_index x.noticed c + 1) number v))) same.turns
            ∙ ap (λ (boxes : List Pending). record { floor = m; limits = limits; ties = ties; turns = p.turns; number = n; history = after h (entry.Take c order v); mailboxes = boxes })
            (taken-boxes k.is.legal k.boxed c order v known is (slice_index x.noticed c + 1) number refl taken);
      }

      pub kept-take : {t : State A} {q : Mover} → length h.entries < limits.chapter → IsStateOf m (after h (entry.Take c order v)) t → t.rooms ≡ s.rooms →
          goals_of q.planner.aims ≡ begun_goals (begun s.queues order v) (goals_of p.planner.aims) → IsOnSame m p q → length (box_at x.boxes c).notices + owed h c + 2 ≤ (box_at x.boxes c).limit →
          IsKept m limits ties n (after h (entry.Take c order v)) t q (with_notice x c (notice.Verdict (slice_index x.noticed c + 1) number v))
      kept-take {q = q} few next rooms goals same room = record {
        is = next;
        room = room-kept k.is next refl rooms k.room;
        within = within-take k.within c order v few;
        boxed = boxes-take k.is.legal k.boxed c order v known is (slice_index x.noticed c + 1) number refl taken room;
        aimed = aimed-take k.is k.aimed c order v is goals same.on same.size same.bridge same.keeps;
        turns = turns-as m (robots h) p.turns q.turns same.turns k.turns;
        tied = ties-as same.turns (record { count = k.tied.count; planned = each_tick-take (IsPlannedAs p.turns m ties) h c order v k.tied.planned });
        bounded = k.bounded;
      }

  -- ---- ticks

  -- what is told of arrivals finds its clients, its cells and its room
  module _ (to : List ℕ) (come : List Arrival) (shows : map due_of come ≡ due h to) where
    pub deliver-known : All (λ a. a.client < length x.boxes) come
    deliver-known = rw k.boxed.count (arrived-clients m h k.is.legal to come shows)

    pub deliver-on_map : length to ≡ robots h → All (λ a. a.robot < length to) come
    deliver-on_map count = rw count (arrived-robots m h k.is.legal to come shows)

    pub deliver-small : (c : ℕ) → c < length x.boxes → slice_index x.noticed c + length come < 2 ^ 60
    deliver-small c l =
        let known : c < clients h = omega (arith, k.boxed.count) in
        omega (arith, arrived-few m h k.is.legal to come shows, noticed-of k.boxed c known, noticed-small k.within m k.is.legal c known)

    pub deliver-room : (c : ℕ) → c < length x.boxes → length (box_at x.boxes c).notices + count_by (λ a. a.client == c) come ≤ (box_at x.boxes c).limit
    deliver-room c l =
        omega (arith, k.boxed.room c (omega (arith, k.boxed.count)), arrived-owed m h k.is.legal to come shows c)

  -- the step by what is kept is one by the history
  pub planned-so : {to : List ℕ} {come : List Arrival} {gone : List Bye} → IsStep m p.turns ties s (goals_of p.planner.aims) to come gone → IsPlannedAs p.turns m ties h to
  planned-so step = rw (waits-of k.is, k.aimed.aimed, cells-of k.is) at step.planned

  module _ {to : List ℕ} {come : List Arrival} {gone : List Bye} (fits : IsTickAfter m h to come gone) (planned : IsPlannedAs p.turns m ties h to) (tick : ℕ) (at : tick ≡ clock h + 1) {y : Mailboxes} (told : AreDelivered come to tick x y) where
    pub ticks-so : {report : TickReport} {q : Mover} → IsOnSame m p q → report ≡ record { tick = tick; arrived = length come; farewells = length gone } →
        Ticks (world_of m limits ties p.turns n h x) report (world_of m limits ties q.turns n (after h (entry.Tick to come gone)) y)
    ticks-so same reported = record {
      to = to;
      arrived = come;
      farewells = gone;
      fits = fits;
      planned = planned;
      advancing = λ none. roomy-tick m ties h to k.is.legal (plain-tick m ties h to p.turns none planned);
      world = ap (λ (turns : Option Turns). world_of m limits ties turns n (after h (entry.Tick to come gone)) y) same.turns
          ∙ ap (λ (boxes : List Pending). record { floor = m; limits = limits; ties = ties; turns = p.turns; number = n; history = after h (entry.Tick to come gone); mailboxes = boxes })
          (ticked-boxes k.is.legal k.boxed to come gone tick at told);
      tick = ap (λ (r : TickReport). r.tick) reported ∙ at;
      arrived_count = ap (λ (r : TickReport). r.arrived) reported;
      farewell_count = ap (λ (r : TickReport). r.farewells) reported;
    }

    pub kept-tick : {t : State A} {q : Mover} → length h.entries < limits.chapter → clock h < limits.clock → IsStateOf m (after h (entry.Tick to come gone)) t → t.rooms ≡ s.rooms →
        goals_of q.planner.aims ≡ goals_ticked s.queues to → IsOnSame m p q → IsKept m limits ties n (after h (entry.Tick to come gone)) t q y
    kept-tick {q = q} few early next rooms goals same = record {
      is = next;
      room = room-kept k.is next refl rooms k.room;
      within = within-tick k.within to come gone few early;
      boxed = boxes-tick k.is.legal k.boxed to come gone tick at told fits.shows;
      aimed = aimed-tick k.is k.aimed to come gone fits.shows goals same.on same.size same.bridge same.keeps;
      turns = turns-as m (robots h) p.turns q.turns same.turns k.turns;
      tied = ties-as same.turns (record { count = k.tied.count; planned = each_tick-tick (IsPlannedAs p.turns m ties) h to come gone k.tied.planned planned });
      bounded = k.bounded;
    }

  -- ---- shuts

  pub shuts-so : (robot : ℕ) (farewell : Option ℕ) → Fits {A = A} m h (entry.Shut robot farewell) → Shuts (world_of m limits ties p.turns n h x) robot farewell (world_of m limits ties p.turns n (after h (entry.Shut robot farewell)) x)
  shuts-so robot farewell fits = record {
    fits = fits;
    world = rw (delivered-shut h robot farewell x.boxes) refl;
  }

  pub kept-shut : {t : State A} (robot : ℕ) (farewell : Option ℕ) → length h.entries < limits.chapter → IsStateOf m (after h (entry.Shut robot farewell)) t → t.rooms ≡ s.rooms →
      IsKept m limits ties n (after h (entry.Shut robot farewell)) t p x
  kept-shut robot farewell few next rooms = record {
    is = next;
    room = room-kept k.is next refl rooms k.room;
    within = within-shut k.within robot farewell few;
    boxed = boxes-shut k.is.legal k.boxed robot farewell;
    aimed = aimed-shut k.is k.aimed robot farewell;
    turns = k.turns;
    tied = record { count = k.tied.count; planned = each_tick-shut (IsPlannedAs p.turns m ties) h robot farewell k.tied.planned };
    bounded = k.bounded;
  }
