-- Vehicles follow a course, step by step.
use Rattle.std.proofs.Common.{◌≡◌, ◌≢◌, ℕ, ◌+◌, ◌<◌, ◌≤◌, ◌⊎◌, inl, inr, Bool, true, false, List, [], ◌∷◌, ◌++◌, length, map, set, refl, sym, ◌∙◌, ap, subst, append_assoc, append-nil, arith, Option, Some, None, IfSome}
use Rattle.std.specs.List.{AllByRecursion, filter}
use Rattle.execution_law.specs.Run.{Plan, Run}
use Rattle.fleet_execution.specs.declared.motion.Move.{Move}
use Rattle.fleet_execution.specs.Course.{Course, put, with_step}
use Rattle.fleet_execution.specs.Executes.{Executes}
use Rattle.fleet_execution.specs.Given.{Gives}
use Rattle.fleet_execution.specs.Kept.{Kept, desk}
use Rattle.live_vehicles.specs.declared.place.Place.{Place}
use Rattle.live_vehicles.specs.declared.stand.Arrived.{Arrived}
use Rattle.live_vehicles.specs.declared.stand.Stand.{Stand}
use Rattle.live_vehicles.specs.declared.vehicles.Vehicles.{Vehicles}
use Rattle.live_vehicles.specs.Begun.{Begun, HasBegun, HasReturned, Returned}
use Rattle.live_vehicles.specs.Begun.Begun.{none, next}
use Rattle.live_vehicles.specs.Follows.{AreOn, Follows, HasReached, HasTaken, IsAwaited, IsOn, Tracks, with_reached}
use Rattle.live_vehicles.specs.Opened.{HasMoved}
use Rattle.live_vehicles.specs.Places.{is_late, is_there, place_of, stand_of}
use Rattle.live_vehicles.specs.Text.{move_line, moves_text}
use Rattle.live_vehicles.proofs.Following.{awaited_on, awaited_step, new_late, new_there, now_there, returned_others, returned_own, still_late, tracks_begun}
use Rattle.live_vehicles.proofs.Lists.{each_after, each_kept, each_made, each_on}

-- ---- a beginning

-- a move has begun, with these robots in all
begun_by : (v w : Vehicles) (o : Course) (m : Move) (run : Run) → run.plan ≡ o.run.plan → ((r : ℕ) → run.reached r ≡ o.run.reached r) → m.robot < o.run.plan.robots → Follows v o
    → Executes (desk w.run) (record { run = run; returned = put o.returned m.robot m.tick }) → w.places.items ≡ set v.places.items m.robot (record (place_of v.places.items m.robot) { begun = m.tick })
    → w.waits.items ≡ v.waits.items → Follows w (record { run = run; returned = put o.returned m.robot m.tick })
begun_by v w o m run plan reached inside x executes places waits = record {
  tracks = subst (λ (ps : List Place). Tracks w.run ps (record { run = run; returned = put o.returned m.robot m.tick })) (sym places)
      (tracks_begun o run (put o.returned m.robot m.tick) plan reached v.run w.run v.places.items m.robot m.tick inside x.tracks executes (returned_own o m.robot m.tick) (returned_others o m.robot m.tick));
  awaited = subst (AllByRecursion (IsAwaited (record { run = run; returned = put o.returned m.robot m.tick }))) (sym waits) (each_on (IsAwaited o) (IsAwaited (record { run = run; returned = put o.returned m.robot m.tick })) (awaited_on o run (put o.returned m.robot m.tick) plan reached) v.waits.items x.awaited);
}

pub has_returned : (v w : Vehicles) (o : Course) (m : Move) → Follows v o → Gives o m (desk w.run) → w.places.items ≡ set v.places.items m.robot (record (place_of v.places.items m.robot) { begun = m.tick }) → w.waits.items ≡ v.waits.items → HasReturned o m w
has_returned v w o m x gives places waits = elim gives.2 [
  | inl begins ↦ record {
    course = _;
    returned = (gives.0, gives.1, inl (begins.0, begins.1, begins.2, refl));
    follows = begun_by v w o m (record o.run { begun = begins.0 }) refl (λ r. refl) gives.0.inside x begins.3 places waits;
  }
  | inr passes ↦ record {
    course = _;
    returned = (gives.0, gives.1, inr (passes.0, refl));
    follows = begun_by v w o m o.run refl (λ r. refl) gives.0.inside x passes.1 places waits;
  }
]

pub text_more : (first : ℕ) (ms : List Move) (m : Move) → moves_text first (ms ++ m ∷ []) ≡ moves_text first ms ++ move_line first m
text_more first [] m = append-nil (move_line first m)
text_more first (n ∷ ms) m = ap (λ (x : List ℕ). move_line first n ++ x) (text_more first ms m) ∙ sym (append_assoc (move_line first n) (moves_text first ms) (move_line first m))

pub text_after : (first : ℕ) (before now : List ℕ) (ms : List Move) (m : Move) → now ≡ before ++ moves_text first ms → now ++ move_line first m ≡ before ++ moves_text first (ms ++ m ∷ [])
text_after first before now ms m is = rw (is, text_more first ms m, append_assoc) refl

-- moves have begun so far
pub record BegunYet (o : Course) (before after : List ℕ) (first : ℕ) (v : Vehicles) : Type 0 where
  pub moves : List Move
  pub course : Course
  pub begun : Begun o moves course
  pub follows : Follows v course
  pub written : after ≡ before ++ moves_text first moves

pub begun_first : (v : Vehicles) (o : Course) (before : List ℕ) (first : ℕ) → Follows v o → BegunYet o before before first v
begun_first v o before first x = record { moves = []; course = o; begun = none; follows = x; written = sym (append-nil before) }

pub begun_next : (v w : Vehicles) (o : Course) (before now after : List ℕ) (first : ℕ) (m : Move) → ((q : Course) → Follows v q → HasReturned q m w) → after ≡ now ++ move_line first m → BegunYet o before now first v → BegunYet o before after first w
begun_next v w o before now after first m returned written yet =
    let one = returned yet.course yet.follows in
    record {
      moves = yet.moves ++ m ∷ [];
      course = one.course;
      begun = next yet.moves m yet.course one.course yet.begun one.returned;
      follows = one.follows;
      written = written ∙ text_after first before now yet.moves m yet.written;
    }

-- ---- a turn

pub follows_step : (v w : Vehicles) (o : Course) (to : List ℕ) (arrived : List Arrived) (step : ℕ) → Follows v o → Tracks w.run w.places.items (with_step o to) → step ≡ o.run.plan.steps + 1
    → w.waits.items ≡ v.waits.items ++ filter (is_late w.places.items) (map (stand_of w.places.items step) arrived) → Follows w (with_step o to)
follows_step v w o to arrived step x tracks is waits = record {
  tracks = tracks;
  awaited = subst (AllByRecursion (IsAwaited (with_step o to))) (sym waits)
      (each_after (IsAwaited (with_step o to)) v.waits.items (filter (is_late w.places.items) (map (stand_of w.places.items step) arrived))
      (each_on (IsAwaited o) (IsAwaited (with_step o to)) (awaited_step o to) v.waits.items x.awaited)
      (each_kept (is_late w.places.items) (λ (s : Stand). (a : Arrived) × (s ≡ stand_of w.places.items step a)) (IsAwaited (with_step o to))
      (λ s late made. subst (IsAwaited (with_step o to)) (sym made.1) (new_late w.run w.places.items (with_step o to) tracks step is made.0 (subst (λ (u : Stand). is_late w.places.items u ≡ true) made.1 late)))
      (map (stand_of w.places.items step) arrived) (each_made (stand_of w.places.items step) arrived)));
}

pub on_step : (new : Kept) (news : List Place) (o : Course) (to : List ℕ) (arrived : List Arrived) (step : ℕ) (before after : List Stand) → Tracks new news (with_step o to) → step ≡ o.run.plan.steps + 1
    → after ≡ before ++ filter (is_there news) (map (stand_of news step) arrived) → AreOn (with_step o to) before after
on_step new news o to arrived step before after tracks is due = record {
  more = filter (is_there news) (map (stand_of news step) arrived);
  added = due;
  each = each_kept (is_there news) (λ (s : Stand). (a : Arrived) × (s ≡ stand_of news step a)) (IsOn (with_step o to))
      (λ s there made. subst (IsOn (with_step o to)) (sym made.1) (new_there new news (with_step o to) tracks step is made.0 (subst (λ (u : Stand). is_there news u ≡ true) made.1 there)))
      (map (stand_of news step) arrived) (each_made (stand_of news step) arrived);
}

-- ---- a report

pub has_reached : (v w : Vehicles) (o : Course) (robot step : ℕ) (before after : List Stand) → Follows v o → HasTaken o robot step w.run w.places.items → after ≡ before ++ filter (is_there w.places.items) v.waits.items
    → w.waits.items ≡ filter (is_late w.places.items) v.waits.items → HasReached o robot before after w
has_reached v w o robot step before after x taken due waits = record {
  reached = taken.reached;
  reports = taken.reports;
  follows = record {
    tracks = taken.tracks;
    awaited = subst (AllByRecursion (IsAwaited (with_reached o taken.reached))) (sym waits)
        (each_kept (is_late w.places.items) (IsAwaited o) (IsAwaited (with_reached o taken.reached)) (λ s late y. still_late v.run w.run v.places.items w.places.items o x.tracks robot step taken s y late) v.waits.items x.awaited);
  };
  on = record {
    more = filter (is_there w.places.items) v.waits.items;
    added = due;
    each = each_kept (is_there w.places.items) (IsAwaited o) (IsOn (with_reached o taken.reached)) (λ s there y. now_there v.run w.run v.places.items w.places.items o x.tracks robot step taken s y there) v.waits.items x.awaited;
  };
}

-- ---- vehicles that are found again

returned_plan : (o : Course) (m : Move) (p : Course) → Returned o m p → p.run.plan ≡ o.run.plan
returned_plan o m p returned = elim returned.2 [
  | inl begins ↦ ap (λ (q : Course). q.run.plan) begins.3
  | inr passes ↦ ap (λ (q : Course). q.run.plan) passes.1
]

pub moved_first : (v : Vehicles) (o : Course) → Follows v o → HasMoved o v
moved_first v o x = record { course = o; plan = refl; follows = x }

pub moved_begun : (o : Course) (v w : Vehicles) (m : Move) → ((q : Course) → Follows v q → HasReturned q m w) → HasMoved o v → HasMoved o w
moved_begun o v w m returned moved =
    let one = returned moved.course moved.follows in
    record { course = one.course; plan = returned_plan moved.course m one.course one.returned ∙ moved.plan; follows = one.follows }

-- a report, which may be refused
pub moved_reported : (is : Bool) (o : Course) (v w : Vehicles) (robot : ℕ) (before after : List Stand) → (is ≡ true → (q : Course) → Follows v q → HasReached q robot before after w) → (is ≡ false → w ≡ v) → HasMoved o v → HasMoved o w
moved_reported true o v w robot before after reached same moved =
    let one = reached refl moved.course moved.follows in
    record { course = with_reached moved.course one.reached; plan = moved.plan; follows = one.follows }
moved_reported false o v w robot before after reached same moved = subst (HasMoved o) (sym (same refl)) moved

-- no move may begin, and nothing changed but what is kept
pub moved_none : (o : Course) (v w : Vehicles) → ((q : Course) → Follows v q → Follows w q) → HasMoved o v → HasMoved o w
moved_none o v w kept moved = record { course = moved.course; plan = moved.plan; follows = kept moved.course moved.follows }

-- vehicles that are found
pub moved_on : (o p : Course) (v w : Vehicles) → Follows v o → ((q : Course) → Follows v q → HasMoved q w) → o ≡ p → HasMoved p w
moved_on o p v w x moved same = subst (λ (q : Course). HasMoved q w) same (moved o x)

pub found_at : (found : Option Vehicles) (P : Vehicles → Type 0) (v : Vehicles) → found ≡ Some v → IfSome found P → P v
found_at found P v is all = subst (λ (f : Option Vehicles). IfSome f P) is all
