-- Changes one after another keep a site in order, and lose no errand unlisted.
use Rattle.std.proofs.Common.{◌++◌, List, subst, sym}
use Rattle.fleet_grid.specs.Floor.{Floor}
use Rattle.fleet_refit.specs.declared.change.Change.{Change}
use Rattle.fleet_refit.specs.declared.change.Dropped.{Dropped}
use Rattle.fleet_refit.specs.declared.seat.Seat.{Seat}
use Rattle.fleet_refit.specs.Account.{AreAccounted}
use Rattle.fleet_refit.specs.Changed.{AreMade, none, made}
use Rattle.fleet_refit.specs.InOrder.{IsSiteInOrder}
use Rattle.fleet_refit.specs.Map.{plan_map}
use Rattle.fleet_refit.specs.Refit.{IsReached}
use Rattle.fleet_refit.specs.Settled.{AreSettled}
use Rattle.fleet_refit.specs.Site.{SiteView, with_seats}
use Rattle.fleet_refit.proofs.Losing.{LosesThere, settle-there}
use Rattle.fleet_refit.proofs.OneChange.{goes-change}
use Rattle.fleet_refit.proofs.Ordered.{accounted-both, accounted-none, follows-there, in_order-there}
use Rattle.fleet_refit.proofs.Steps.{Steps, steps-settled, steps-weaker}

-- each errand is still there or listed, and a site in order stays so
pub record IsSafe {A : Type 0} (s t : SiteView A) (out : List Dropped) : Type 0 where
  pub accounted : AreAccounted s t out
  pub in_order : IsSiteInOrder s → IsSiteInOrder t

safe-both : {A : Type 0} (s t u : SiteView A) (first second : List Dropped) → IsSafe s t first → IsSafe t u second → IsSafe s u (first ++ second)
safe-both s t u first second a b = record {
  accounted = accounted-both s t u first second a.accounted b.accounted;
  in_order = λ is. b.in_order (a.in_order is);
}

pub made-safe : {A : Type 0} (s t : SiteView A) (changes : List Change) (out : List Dropped) → AreMade s changes t out → IsSafe s t out
made-safe _ _ _ _ (none {s}) = record { accounted = accounted-none s; in_order = λ is. is }
made-safe _ _ _ _ (made {s} {t} {u} {cs} {before} c dropped are can is) =
    let goes = goes-change t u c dropped can is in
    safe-both s t u before dropped (made-safe s t cs before are) (record { accounted = goes.0.accounted; in_order = goes.1 })

pub settled-safe : {A : Type 0} (m : Floor) (s : SiteView A) (ys : List (Seat A)) (out : List Dropped) → AreSettled m s.seats ys out → IsSafe s (with_seats s ys) out
settled-safe {A} m s ys out are =
    let steps : Steps LosesThere 0 s.seats ys out = steps-weaker (λ n x y lost is. settle-there m n x y lost is) 0 s.seats ys out (steps-settled m s.seats ys out are) in
    record { accounted = (follows-there s ys out steps).accounted; in_order = in_order-there s ys out steps }

pub reached-safe : {A : Type 0} (s t : SiteView A) (changes : List Change) (out : List Dropped) → IsReached s changes t out → IsSafe s t out
reached-safe {A} s t changes out on =
    subst (λ l. IsSafe s t l) (sym on.listed)
    (subst (λ (u : SiteView A). IsSafe s u (on.first ++ on.last)) (sym on.is)
    (safe-both s on.changed (with_seats on.changed on.seats) on.first on.last (made-safe s on.changed changes on.first on.made)
    (settled-safe (plan_map on.changed) on.changed on.seats on.last on.settled)))
