-- An errand that is dropped.
use Rattle.std.proofs.Common.{◌≡◌, ◌∙◌, ◌<◌, ℕ, List, Some, ap, refl, subst, sym, length, get_or}
use Rattle.std.specs.Prelude.{slice_set}
use Rattle.std.specs.List.{position}
use Rattle.std.proofs.lemmas.List.Quantifiers.{position-Some}
use Rattle.fleet_history.specs.declared.history.RobotState.{RobotState}
use Rattle.fleet_refit.specs.declared.change.Dropped.{Dropped}
use Rattle.fleet_refit.specs.declared.seat.Seat.{Seat}
use Rattle.fleet_refit.specs.Changed.{Cancels, Cuts, IsCut, IsOther}
use Rattle.fleet_refit.specs.Fault.{has}
use Rattle.fleet_refit.specs.Site.{SiteView, seat_of, with_seats}
use Rattle.fleet_refit.proofs.Replaced.{replaced}

pub cancelled : {A : Type 0} (s t : SiteView A) (client number robot : ℕ) (old : Seat A) (new : RobotState A) (dropped : List Dropped) → s ≡ t → position (has client number) s.seats ≡ Some robot →
    old ≡ get_or s.seats robot old → Cuts (IsOther client number) robot old.robot new dropped → Cancels t client number (with_seats s (slice_set s.seats robot (seat_of old.standing new))) dropped
cancelled {A} s t client number robot old new dropped same found at cuts =
    let (inside, _, _) = position-Some (has client number) s.seats robot old found in
    record {
      robot = robot;
      first = subst (λ (u : SiteView A). position (has client number) u.seats ≡ Some robot) same found;
      cut = replaced (IsCut (IsOther client number) robot dropped) s t robot old (seat_of old.standing new) same (subst (λ (u : SiteView A). robot < length u.seats) same inside) at (refl, cuts);
    }
