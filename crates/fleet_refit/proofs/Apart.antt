-- A site that is taken apart and put together again.
use Rattle.std.proofs.Common.{◌≡◌, ◌∙◌, ◌+◌, ◌<◌, ◌≤◌, ℕ, suc, List, [], ◌∷◌, ◌++◌, ap, ap₂, arith, refl, sym, take, length, get_or}
use Rattle.std.specs.Prelude.{Some, map, slice_get}
use Rattle.std.proofs.lemmas.Option.{get_or_from_slice_get}
use Rattle.std.proofs.lemmas.List.{length-take-le, take_all}
use Rattle.fleet_grid.specs.Floor.{Floor}
use Rattle.fleet_history.specs.declared.history.ClientState.{ClientState}
use Rattle.fleet_history.specs.declared.history.Opening.{Opening}
use Rattle.fleet_history.specs.declared.history.RobotState.{RobotState}
use Rattle.fleet_refit.specs.declared.seat.Seat.{Seat}
use Rattle.fleet_refit.specs.declared.seat.Standing.{Standing}
use Rattle.fleet_refit.specs.Everyone.{IsTakenApart, seats_of, site_of, standings_of}
use Rattle.fleet_refit.specs.InOrder.{everyone}
use Rattle.fleet_refit.specs.Site.{SiteView, seat_of}
use Rattle.fleet_refit.proofs.Seats.{grown}

seats-longer : {A : Type 0} (xs : List Standing) (zs : List (RobotState A)) (x : Standing) (z : RobotState A) → length xs ≡ length zs →
    seats_of (xs ++ x ∷ []) (zs ++ z ∷ []) ≡ seats_of xs zs ++ seat_of x z ∷ []
seats-longer [] [] x z same = refl
seats-longer [] (w ∷ zs) x z same = absurd (omega (arith, same))
seats-longer (y ∷ xs) [] x z same = absurd (omega (arith, same))
seats-longer (y ∷ xs) (w ∷ zs) x z same = ap (λ l. seat_of y w ∷ l) (seats-longer xs zs x z (omega (arith, same)))

-- one robot more
pub seats-more : {A : Type 0} (seats : List (Seat A)) (xs : List Standing) (zs : List (RobotState A)) (i : ℕ) (x : Standing) (z : RobotState A) → seats ≡ seats_of (take i xs) (take i zs) →
    length xs ≡ length zs → i < length zs → slice_get xs i ≡ Some x → z ≡ get_or zs i z → seats ++ seat_of x z ∷ [] ≡ seats_of (take (i + 1) xs) (take (i + 1) zs)
seats-more seats xs zs i x z is same inside first second =
    ap (λ l. l ++ seat_of x z ∷ []) is
    ∙ sym (seats-longer (take i xs) (take i zs) x z (length-take-le i xs (omega (arith, same, inside)) ∙ sym (length-take-le i zs (omega (arith, inside)))))
    ∙ ap₂ seats_of (sym (grown xs i x (omega (arith, same, inside)) (sym (get_or_from_slice_get xs i x x first)))) (sym (grown zs i z inside second))

pub seats-all : {A : Type 0} (xs : List Standing) (zs : List (RobotState A)) (i : ℕ) → length xs ≡ length zs → length zs ≤ i → seats_of (take i xs) (take i zs) ≡ seats_of xs zs
seats-all xs zs i same all = ap₂ seats_of (take_all i xs (omega (arith, same, all))) (take_all i zs all)

pub seats-length : {A : Type 0} (xs : List Standing) (zs : List (RobotState A)) → length xs ≡ length zs → length (seats_of xs zs) ≡ length zs
seats-length [] [] same = refl
seats-length [] (z ∷ zs) same = absurd (omega (arith, same))
seats-length (x ∷ xs) [] same = absurd (omega (arith, same))
seats-length (x ∷ xs) (z ∷ zs) same = ap suc (seats-length xs zs (omega (arith, same)))

seats-again : {A : Type 0} (seats : List (Seat A)) → seats_of (standings_of seats) (map (λ (x : Seat A). x.robot) seats) ≡ seats
seats-again [] = refl
seats-again (x ∷ seats) = ap (λ l. x ∷ l) (seats-again seats)

-- what a site was taken apart into gives that site
apart-again : {A : Type 0} (s : SiteView A) (m : Floor) (o : Opening A) (ways : List Standing) → IsTakenApart s m o ways → site_of m o ways ≡ s
apart-again s m o ways is =
    sym (ap (λ n. site_of n (everyone s) (standings_of s.seats)) is.map ∙ ap (λ p. site_of m p (standings_of s.seats)) is.opening ∙ ap (λ l. site_of m o l) is.standings)
    ∙ ap (λ l. record { map = s.map; tick = s.tick; queue = s.queue; life = s.life; clients = s.clients; seats = l }) (seats-again s.seats)

-- the same of copies
pub apart-copied : {A : Type 0} (s : SiteView A) (m : Floor) (o : Opening A) (ways : List Standing) (clients : List ClientState) (seats : List (Seat A)) → clients ≡ o.clients → seats ≡ seats_of ways o.robots →
    IsTakenApart s m o ways → record { map = m; tick = o.tick; queue = o.queue; life = o.life; clients = clients; seats = seats } ≡ s
apart-copied s m o ways clients seats first second is =
    ap (λ l. record { map = m; tick = o.tick; queue = o.queue; life = o.life; clients = l; seats = seats }) first
    ∙ ap (λ l. record { map = m; tick = o.tick; queue = o.queue; life = o.life; clients = o.clients; seats = l }) second
    ∙ apart-again s m o ways is
