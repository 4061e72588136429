-- A new planner: its rooms and distances passed their checks, and its tables are of the map's size.
use Rattle.std.proofs.Common.{◌≡◌, ℕ, List, Option, None, length, ap, subst, ◌∙◌}
use Rattle.std.specs.Prelude.{IfSome}
use Rattle.std.proofs.lemmas.List.{length-replicate}
use Rattle.fleet_bridge.specs.Rooms.{AreRooms}
use Rattle.fleet_pibt.specs.Size.{Size}
use Rattle.turns_law.specs.Turns.{AreAway}
use Rattle.fleet_turns.proofs.planner.TurnPlanner.open.Goals as goal

size : (s : Size) (count cells robots : ℕ) → s ≡ record { cells = count; robots = robots } → count ≡ cells → s ≡ record { cells = cells; robots = robots }
size s count cells robots is same = subst (λ (k : ℕ). s ≡ record { cells = k; robots = robots }) same is

pub returns : goal.returns
returns g c =
    let m = c.args.grid.now in
    record {
      planner = record {
        turns = record {
          rooms = subst (λ (found : Option _). IfSome found (AreRooms m)) c.in-Some.is c.in_ok-rooms.ensures;
          away = subst (λ (core : List ℕ). AreAway m core c.in-Some-2.away.items) c.deref.ensures.value
              (subst (λ (found : Option _). IfSome found (λ away. AreAway m c.deref.result.now away.items)) c.in-Some-2.is c.in_ok-away.ensures);
        };
        many = c.in_ok-ranks.ensures.len;
        asked = ap (λ (goals : List (Option ℕ)). length goals) c.in_ok-courses.ensures.none ∙ length-replicate c.args.robots None;
        on = c.in_ok-courses.ensures.on m;
        made = size c.in_ok-stepper.stepper c.cell_count-2.result (length m.letters) c.args.robots c.in_ok-stepper.ensures c.cell_count-2.ensures.value;
      };
      none = c.in_ok-courses.ensures.none;
    }
