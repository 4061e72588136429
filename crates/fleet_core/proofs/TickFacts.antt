-- What a tick shows is known of its robots and clients.
use Rattle.std.proofs.Common.{◌≡◌, ℕ, zero, suc, ◌+◌, ◌<◌, ◌≤◌, List, [], ◌∷◌, length, map, drop, eqb, Bool, true, false, ◌&&◌, sym, refl, ap, ◌∙◌, subst, arith, inl, inr, Option, Some, None, length-append, get_or}
use Rattle.std.specs.Prelude.{slice_index, slice_index_or, is_some, ◌==◌, count_by, All}
use Rattle.std.specs.List.{flat_map, range_with_len}
use Rattle.std.proofs.lemmas.List.{length-map}
use Rattle.std.proofs.lemmas.List.Elements.{All-nil, All-append}
use Rattle.std.proofs.lemmas.Bool.{cases_Bool, cond_both}
use Rattle.std.proofs.Math.Bool.{or-false}
use Rattle.fleet_grid.specs.Floor.{Floor}
use Rattle.fleet_queue.specs.declared.errand.Errand.{Errand}
use Rattle.fleet_hooks.specs.declared.law.StampLaw.{StampLaw}
use Rattle.fleet_hooks.specs.declared.law.TieLaw.{TieLaw}
use Rattle.fleet_history.specs.declared.history.Arrival.{Arrival}
use Rattle.fleet_history.specs.declared.history.Bye.{Bye}
use Rattle.fleet_history.specs.declared.history.Entry.{Entry}
use Rattle.fleet_history.specs.declared.history.Entry.TheVariants as entry
use Rattle.fleet_history.specs.History.{History, after, robots, clients, unfinished, front, owed, is_shut}
use Rattle.fleet_history.specs.inside.Landing.{landed}
use Rattle.fleet_history.specs.Legal.{IsLegal, Due, IsTickAfter, due_of, due_at, due, leaving, is_leaving, is_done, is_none_left, robot_if}
use Rattle.fleet_history.proofs.After.{shut-after}
use Rattle.fleet_history.proofs.Arrivals.{unfinished-after_tick}
use Rattle.fleet_history.proofs.Legal.{All-single, All-from_map, head_all, legal-known_unfinished, legal-opening}
use Rattle.fleet_history.proofs.Owed.{owed-after_tick}
use Rattle.turns_law.specs.Turns.{Turns}
use Rattle.fleet_state.specs.State.{State, IsStateOf}
use Rattle.fleet_state.proofs.Parts.{cell-count, cells-of}
use Rattle.fleet_core.specs.Hooks.{AreArrivals, AreFarewells, DoRise, without_all}
use Rattle.fleet_core.specs.inside.Ready.{IsStep}
use Rattle.fleet_core.specs.inside.Stamped.{MayStamp, AreStamped}
use Rattle.fleet_core.proofs.Farewells.{leavers-are, leavers-rise, leavers-spent, length-without}
use Rattle.fleet_core.proofs.ClosuresKept.{leaver-has, farewells-left, stamps-are, last_stamps-are}

due_at-le : (to : List ℕ) (r : ℕ) (o : Option Errand) → length (due_at to r o) ≤ 1
due_at-le to r None = omega arith
due_at-le to r (Some f) = elim (cases_Bool (eqb f.cell (slice_index to r))) [ inl e ↦ rw e (omega arith) | inr e ↦ rw e (omega arith) ]

robot_if-le : (b : Bool) (r : ℕ) → length (robot_if b r) ≤ 1
robot_if-le true r = omega arith
robot_if-le false r = omega arith

leavers-le : (p : ℕ → Bool) (a n : ℕ) → length (flat_map (λ r. robot_if (p r) r) (range_with_len a n)) ≤ n
leavers-le p a zero = omega arith
leavers-le p a (suc n) = omega (arith, length-append (robot_if (p a) a) (flat_map (λ r. robot_if (p r) r) (range_with_len (a + 1) n)), robot_if-le (p a) a, leavers-le p (a + 1) n)

due_range-le : (to : List ℕ) (g : ℕ → Option Errand) (a n : ℕ) → length (flat_map (λ r. due_at to r (g r)) (range_with_len a n)) ≤ n
due_range-le to g a zero = omega arith
due_range-le to g a (suc n) = omega (arith, length-append (due_at to a (g a)) (flat_map (λ r. due_at to r (g r)) (range_with_len (a + 1) n)), due_at-le to a (g a), due_range-le to g (a + 1) n)

due_all_at : (P : Due → Type 0) (to : List ℕ) (r : ℕ) (o : Option Errand) → ((f : Errand) → o ≡ Some f → P (record { robot = r; client = f.client; number = f.number })) → All P (due_at to r o)
due_all_at P to r None each = All-nil P
due_all_at P to r (Some f) each =
    cond_both (eqb f.cell (slice_index to r)) (record { robot = r; client = f.client; number = f.number } ∷ []) [] (All P)
    (λ e. All-single P (record { robot = r; client = f.client; number = f.number }) (each f refl)) (λ e. All-nil P)

due_all : (P : Due → Type 0) (to : List ℕ) (g : ℕ → Option Errand) (a n : ℕ) →
    ((r : ℕ) (f : Errand) → r < a + n → g r ≡ Some f → P (record { robot = r; client = f.client; number = f.number })) →
    All P (flat_map (λ r. due_at to r (g r)) (range_with_len a n))
due_all P to g a zero each = All-nil P
due_all P to g a (suc n) each =
    All-append P (due_at to a (g a)) (flat_map (λ r. due_at to r (g r)) (range_with_len (a + 1) n))
    (due_all_at P to a (g a) (λ f e. each a f (omega arith) e))
    (due_all P to g (a + 1) n (λ r f l e. each r f (omega arith) e))

done_drop : (b : Bool) (u : List Errand) (n : ℕ) → (b && is_none_left u) ≡ true → (b && is_none_left (drop n u)) ≡ true
done_drop b [] zero e = e
done_drop b [] (suc n) e = e
done_drop true (x ∷ xs) n e = cc
done_drop false (x ∷ xs) n e = cc

module _ {A : Type 0} (m : Floor) (h : History A) (legal : IsLegal m h) (to : List ℕ) (arrived : List Arrival) (shows : map due_of arrived ≡ due h to) where
  pub arrived-clients : All (λ a. a.client < clients h) arrived
  arrived-clients =
      All-from_map (λ (d : Due). d.client < clients h) due_of arrived
      (rw shows (due_all (λ (d : Due). d.client < clients h) to (front h) 0 (robots h) (λ r f l e. head_all (λ (e : Errand). e.client < clients h) (unfinished h r) f (legal-known_unfinished m h r legal) e)))

  pub arrived-robots : All (λ a. a.robot < robots h) arrived
  arrived-robots =
      All-from_map (λ (d : Due). d.robot < robots h) due_of arrived
      (rw shows (due_all (λ (d : Due). d.robot < robots h) to (front h) 0 (robots h) (λ r f l e. omega arith)))

  pub arrived-few : length arrived ≤ 512
  arrived-few = omega (arith, length-map arrived due_of, ap length shows, due_range-le to (front h) 0 (robots h), (legal-opening m h legal).few_robots)

  -- what a tick shows of a client is owed
  pub arrived-owed : (c : ℕ) → count_by (λ a. a.client == c) arrived ≤ owed h c
  arrived-owed c = omega (arith, owed-after_tick h c to arrived [] shows)

  module _ (others byes : List Bye) (leaves : map (λ b. b.robot) byes ≡ leaving h (after h (entry.Tick to arrived others))) where
    abbrev leaves_so : ℕ → Bool
    leaves_so = is_leaving h (after h (entry.Tick to arrived others))

    pub leaving-few : length byes ≤ 512
    leaving-few = omega (arith, length-map byes (λ (b : Bye). b.robot), ap length leaves, leavers-le leaves_so 0 (robots h), (legal-opening m h legal).few_robots)

    pub leaving-rise : DoRise (map (λ b. b.robot) byes)
    leaving-rise = subst DoRise (sym leaves) (leavers-rise leaves_so (robots h))

    leaving-are : All (λ (b : Bye). (b.robot < robots h) × (leaves_so b.robot ≡ true)) byes
    leaving-are = All-from_map (λ (r : ℕ). (r < robots h) × (leaves_so r ≡ true)) (λ (b : Bye). b.robot) byes (rw leaves (leavers-are leaves_so (robots h)))

    pub leaving-robots : All (λ (b : Bye). b.robot < robots h) byes
    leaving-robots i d l = (leaving-are i d l).0

    module _ (spare : List (Option StampLaw)) (k : AreFarewells h spare) where
      pub leaving-has : All (λ (b : Bye). is_some (slice_index_or spare b.robot None) ≡ true) byes
      leaving-has i d l = let x = leaving-are i d l in leaver-has h spare k (after h (entry.Tick to arrived others)) (get_or byes i d).robot x.0 x.1

      -- who is done stays so
      done-stays : (r : ℕ) → is_done h r ≡ true → r < robots h → is_done (after h (entry.Tick to arrived others)) r ≡ true
      done-stays r was l =
          let e : Entry A = entry.Tick to arrived others in
          let left = unfinished-after_tick h to arrived others r l shows in
          let shut : is_shut (after h e) r ≡ is_shut h r = shut-after h r e ∙ or-false (is_shut h r) in
          rw (left, shut) (done_drop (is_shut h r) (unfinished h r) (length (landed to r (front h r))) was)

      -- the farewells that are left after the tick
      pub farewells-tick : (spare' : List (Option StampLaw)) → spare' ≡ without_all (map (λ b. b.robot) byes) spare → length spare' ≡ length spare → AreFarewells (after h (entry.Tick to arrived others)) spare'
      farewells-tick spare' spent count =
          farewells-left h spare k (after h (entry.Tick to arrived others)) spare' refl (λ r. refl) count done-stays
          (λ r l. ap (λ xs. slice_index_or xs r None) (spent ∙ ap (λ rs. without_all rs spare) leaves) ∙ leavers-spent leaves_so spare (robots h) (omega (arith, k.count)) r l)

      -- so the closures may be called
      pub may-stamp : (hooks closures : ℕ) → hooks ≡ robots h → closures ≡ robots h → length to ≡ robots h → MayStamp hooks closures spare to arrived byes
      may-stamp hooks closures hooked closed count = record {
        hooked = count ∙ sym hooked;
        closed = count ∙ sym closed;
        arriving = rw hooked arrived-robots;
        leaving = rw closed leaving-robots;
        rising = leaving-rise;
        unspent = leaving-has;
        few_arriving = omega (arith, arrived-few);
        few_leaving = omega (arith, leaving-few);
      }

-- the closures may be called in a step
pub step-stamps : {A : Type 0} {m : Floor} {h : History A} {s : State A} {turns : Option Turns} {ties : List TieLaw} {goals : List (Option ℕ)} {to : List ℕ} {come : List Arrival} {gone : List Bye} {spare : List (Option StampLaw)} →
    IsStateOf m h s → IsStep m turns ties s goals to come gone → AreFarewells h spare → (hooks closures : ℕ) → hooks ≡ robots h → closures ≡ robots h → MayStamp hooks closures spare to come gone
step-stamps {m = m} {h = h} {to = to} {come = come} {gone = gone} {spare = spare} k step left hooks closures hooked closed =
    let shows = step.arrived m h k in
    may-stamp m h k.legal to come shows [] gone (step.leaving come [] m h k shows) spare left hooks closures hooked closed (step.conflict_free.same_length ∙ cell-count k)

-- a step with stamps in the closures' laws
module _ {A : Type 0} {m : Floor} {h : History A} {s : State A} {turns : Option Turns} {ties : List TieLaw} {goals : List (Option ℕ)} {to : List ℕ} {come stamped : List Arrival} {gone last : List Bye} {laws : List StampLaw} {spare : List (Option StampLaw)} (k : IsStateOf m h s) (step : IsStep m turns ties s goals to come gone) (left : AreFarewells h spare) (are : AreStamped laws spare come stamped gone last) where
  pub stamped-shows : map due_of stamped ≡ due h to
  stamped-shows = are.shows ∙ step.arrived m h k

  pub stamped-fits : AreArrivals h laws → IsTickAfter m h to stamped last
  stamped-fits arrivals = record {
    step = rw (← cells-of k) step.conflict_free;
    shows = stamped-shows;
    stamps = stamps-are h laws arrivals stamped (arrived-robots m h k.legal to stamped stamped-shows) are.stamps;
    leaves = are.robots ∙ step.leaving stamped last m h k stamped-shows;
    last_stamps = last_stamps-are h spare left last are.last_stamps;
  }

  pub stamped-left : (spare' : List (Option StampLaw)) → spare' ≡ without_all (map (λ b. b.robot) gone) spare → AreFarewells (after h (entry.Tick to stamped last)) spare'
  stamped-left spare' spent =
      farewells-tick m h k.legal to stamped stamped-shows last gone (step.leaving stamped last m h k stamped-shows) spare left spare' spent (ap length spent ∙ length-without (map (λ (b : Bye). b.robot) gone) spare)
