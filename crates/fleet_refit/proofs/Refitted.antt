-- What changes come to.
use Rattle.std.proofs.Common.{◌≡◌, ◌∙◌, ◌++◌, ◌∷◌, ℕ, List, [], ap, refl, subst, sym}
use Rattle.std.specs.Prelude.{if◌then◌else◌, slice_set}
use Rattle.fleet_grid.specs.Floor.{Floor, floor_of}
use Rattle.fleet_refit.specs.declared.change.Change.{Change}
use Rattle.fleet_refit.specs.declared.change.Dropped.{Dropped}
use Rattle.fleet_refit.specs.declared.refit.RefitFault.{RefitFault}
use Rattle.fleet_refit.specs.declared.refit.RefitFault.TheVariants as fault
use Rattle.fleet_refit.specs.declared.seat.Seat.{Seat}
use Rattle.fleet_refit.specs.Changed.{AreMade}
use Rattle.fleet_refit.specs.declared.refit.Refit.{Refit}
use Rattle.fleet_refit.specs.declared.seat.Standing.{Standing}
use Rattle.fleet_refit.specs.declared.seat.Standing.TheVariants as standing
use Rattle.fleet_refit.specs.Map.{plan_map, walled}
use Rattle.fleet_refit.specs.Opening.{moving_numbers, opening_of}
use Rattle.fleet_refit.specs.Refit.{AreRefused, IsHanded, IsReached, IsRefit, IsUnopened}
use Rattle.fleet_refit.specs.Settled.{AreSettled, IsSettled, SettlesAs, none, more}
use Rattle.fleet_refit.specs.Site.{SiteView, is_held, with_seats}
use Rattle.fleet_refit.proofs.Seats.{walled-more}

pub unopened : {A : Type 0} (s t : SiteView A) (changes : List Change) (dropped : List Dropped) (why : RefitFault) → IsReached s changes t dropped → IsUnopened t.seats why → AreRefused s changes why
unopened s t changes dropped (fault.Change place why) on nobody = absurd nobody
unopened s t changes dropped fault.NoRobot on nobody = (t, dropped, on, nobody)
unopened s t changes dropped fault.NoMemory on nobody = nobody

abbrev pub reached : {A : Type 0} (s site t : SiteView A) (changes : List Change) (grid : Floor) (seats : List (Seat A)) (d0 d1 d2 gone last : List Dropped) → AreMade s changes site gone → d0 ≡ [] → d1 ≡ d0 ++ gone →
    grid ≡ plan_map site → AreSettled grid site.seats seats last → t ≡ with_seats site seats → d2 ≡ d1 ++ last → IsReached s changes t d2
reached {A} s site t changes grid seats d0 d1 d2 gone last are nothing first on settled is second = record {
  changed = site;
  seats = seats;
  first = gone;
  last = last;
  made = are;
  settled = subst (λ (m : Floor). AreSettled m site.seats seats last) on settled;
  is = is;
  listed = second ∙ ap (λ l. l ++ last) (first ∙ ap (λ l. l ++ gone) nothing);
}

-- ---- the map of a settled site

same-kind : {A : Type 0} (m : Floor) (robot : ℕ) (kind : Standing) (x y : Seat A) (out : List Dropped) → SettlesAs m robot kind x y out → (y.standing ≡ x.standing) × (y.robot.cell ≡ x.robot.cell)
same-kind m robot standing.Moving x y out (same, cuts) = (same, ap (λ r. r.cell) cuts.rest)
same-kind m robot standing.Held x y out (same, empty) = (ap (λ s. s.standing) same, ap (λ s. s.robot.cell) same)
same-kind m robot standing.Gone x y out (same, empty) = (ap (λ s. s.standing) same, ap (λ s. s.robot.cell) same)

pub settled-walls : {A : Type 0} (m : Floor) (letters : List ℕ) (xs ys : List (Seat A)) (out : List Dropped) → AreSettled m xs ys out → walled letters ys ≡ walled letters xs
settled-walls m letters _ _ _ none = refl
settled-walls m letters _ _ _ (more {xs} {ys} {before} x y out are is) =
    let (kind, cell) = same-kind m _ x.standing x y out is in
    walled-more letters ys y ∙ ap (λ h. if is_held h then slice_set (walled letters ys) y.robot.cell 64 else walled letters ys) kind
    ∙ ap (λ c. if is_held x.standing then slice_set (walled letters ys) c 64 else walled letters ys) cell
    ∙ ap (λ l. if is_held x.standing then slice_set l x.robot.cell 64 else l) (settled-walls m letters xs ys before are)
    ∙ sym (walled-more letters xs x)

pub same-map : {A : Type 0} (s t : SiteView A) (changes : List Change) (out : List Dropped) (site : SiteView A) (seats : List (Seat A)) (last : List Dropped) → t ≡ with_seats site seats →
    AreSettled (plan_map site) site.seats seats last → plan_map site ≡ plan_map t
same-map s t changes out site seats last is settled =
    ap (λ l. floor_of site.map.height site.map.width l) (sym (settled-walls (plan_map site) site.map.letters site.seats seats last settled)) ∙ ap plan_map (sym is)

pub refitted : {A : Type 0} (s t : SiteView A) (changes : List Change) (m : Floor) (out : List Dropped) (r : Refit A) → IsReached s changes t out → m ≡ plan_map t → IsHanded t m out r → IsRefit s changes r
refitted {A} s t changes m out r are on handed = record {
  reached = subst (λ (u : SiteView A). IsReached s changes u r.dropped.items) (sym handed.site) (subst (λ l. IsReached s changes t l) (sym handed.dropped) are);
  grid = handed.grid ∙ on ∙ ap plan_map (sym handed.site);
  opening = handed.opening ∙ ap opening_of (sym handed.site);
  numbers = handed.numbers ∙ ap (λ (u : SiteView A). moving_numbers u.seats) (sym handed.site);
  someone = handed.someone;
}
