-- What holds of a world that goes on from an opening.
use Rattle.std.proofs.Common.{arith, ◌≡◌, ℕ, ◌+◌, ◌<◌, ◌≤◌, List, length, map, get_or, Some, sym, ap, subst, ◌∙◌, add-zero}
use Rattle.std.specs.Prelude.{max}
use Rattle.std.proofs.lemmas.List.{length-map, get_or-map}
use Rattle.fleet_grid.specs.Floor.{Floor}
use Rattle.fleet_book.specs.declared.limits.Limits.{Limits}
use Rattle.fleet_hooks.specs.declared.law.StampLaw.{StampLaw}
use Rattle.fleet_history.specs.declared.history.ClientState.{ClientState}
use Rattle.fleet_history.specs.declared.history.Opening.{Opening}
use Rattle.fleet_history.specs.declared.history.RobotState.{RobotState}
use Rattle.fleet_history.specs.History.{History, start, robots, clients, owed, unknown_client}
use Rattle.fleet_history.specs.Notices.{noticed_count}
use Rattle.fleet_history.proofs.Ticks.{each_tick-start}
use Rattle.mover.specs.Moving.{Mover, IsPlannedAs}
use Rattle.fleet_core.proofs.Manners.{no-turns}
use Rattle.fleet_state.specs.State.{State}
use Rattle.fleet_state.proofs.Parts.{length-by, item-by, listed}
use Rattle.fleet_core.specs.Hooks.{HookLaws, law_at, AreArrivals, AreFarewells}
use Rattle.fleet_core.specs.Pending.{Pending, no_pending}
use Rattle.fleet_core.specs.Resuming.{CanResume, AreLawsAt, empty_box}
use Rattle.fleet_core.specs.inside.Kept.{IsKept, AreBoxes}
use Rattle.fleet_core.specs.inside.Mailboxes.{Mailboxes, box_at}
use Rattle.fleet_core.specs.inside.Resumed.{AreResumed}
use Rattle.fleet_core.proofs.OpeningFacts.{farewells-unspent}

within_max : (a b : ℕ) → 0 + b ≤ max a b
within_max a b = omega arith

none_le : (n : ℕ) → 0 ≤ n
none_le n = omega arith

boxes-resumed : {A : Type 0} {m : Floor} {o : Opening A} {limits : Limits} {s : State A} {p : Mover} {x : Mailboxes} → AreResumed m o limits s p x → AreBoxes (start o) x
boxes-resumed {A = A} {o = o} {limits = limits} {x = x} r =
    let h : History A = start o in
    let at : (c : ℕ) → c < clients h → box_at x.boxes c ≡ empty_box h limits.mailbox c =
    (λ c l. ap (λ (bs : List Pending). box_at bs c) r.boxes ∙ item-by (empty_box h limits.mailbox) (clients h) c no_pending l) in
    record {
      count = ap length r.boxes ∙ length-by (empty_box h limits.mailbox) (clients h);
      room = λ c l. subst (λ (b : Pending). length b.notices + owed h c ≤ b.limit) (sym (at c l)) (within_max limits.mailbox (owed h c));
      told = λ c l. subst (λ (b : Pending). length b.notices ≤ noticed_count h c) (sym (at c l)) (none_le (noticed_count h c));
      noticed = r.noticed ∙ listed 0 (clients h) (noticed_count h) (map (λ (k : ClientState). k.noticed) o.clients) (length-map o.clients (λ (k : ClientState). k.noticed))
          (λ c l. get_or-map (λ (k : ClientState). k.noticed) o.clients c unknown_client 0 l ∙ sym (add-zero (get_or o.clients c unknown_client).noticed));
    }

pub kept-resumed : {A : Type 0} (m : Floor) (number : ℕ) (o : Opening A) (limits : Limits) (laws : HookLaws) (s : State A) (p : Mover) (x : Mailboxes) →
    CanResume m number o limits laws → AreResumed m o limits s p x → IsKept m limits laws.ties number (start o) s p x
kept-resumed m number o limits laws s p x can r = record {
  is = r.is;
  room = r.room;
  within = record {
    valid = can.valid;
    entries = none_le limits.chapter;
    clock = subst (λ (n : ℕ). n ≤ limits.clock) (sym (add-zero o.tick)) can.within.clock;
    numbered = can.within.numbered;
    chapters = can.within.taken;
  };
  boxed = boxes-resumed r;
  aimed = r.aimed;
  turns = no-turns m (robots (start o)) p.turns r.plain;
  tied = record { count = can.hooks.ties; planned = each_tick-start (IsPlannedAs p.turns m laws.ties) o };
  bounded = can.bounded;
}

-- ---- the closures

pub arrivals-resumed : {A : Type 0} (o : Opening A) (laws : HookLaws) → AreLawsAt o laws → AreArrivals (start o) laws.arrivals
arrivals-resumed {A = A} o laws are = record {
  count = ap length are.arrivals ∙ length-map o.robots (λ (x : RobotState A). x.arrival_law);
  each = λ r l. ap (λ (xs : List StampLaw). law_at xs r) are.arrivals;
}

pub farewells-resumed : {A : Type 0} (o : Opening A) (laws : HookLaws) → AreLawsAt o laws → AreFarewells (start o) (map Some laws.farewells)
farewells-resumed {A = A} o laws are =
    farewells-unspent (start o) laws.farewells (ap length are.farewells ∙ length-map o.robots (λ (x : RobotState A). x.farewell_law))
    (λ r l. ap (λ (xs : List StampLaw). law_at xs r) are.farewells)
