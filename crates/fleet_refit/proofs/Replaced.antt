-- A robot that becomes another.
use Rattle.std.proofs.Common.{◌≡◌, ◌<◌, ℕ, List, Some, refl, subst, sym, length, get_or, slice_get}
use Rattle.std.specs.Prelude.{slice_set}
use Rattle.std.proofs.lemmas.Option.{slice_get_read}
use Rattle.fleet_refit.specs.declared.seat.Seat.{Seat}
use Rattle.fleet_refit.specs.Changed.{Replaces}
use Rattle.fleet_refit.specs.Site.{SiteView, with_seats}

pub replaced : {A : Type 0} (Becomes : Seat A → Seat A → Type 0) (s t : SiteView A) (robot : ℕ) (old new : Seat A) → s ≡ t → robot < length t.seats → old ≡ get_or s.seats robot old →
    Becomes old new → Replaces Becomes t robot (with_seats s (slice_set s.seats robot new))
replaced {A} Becomes s t robot old new same inside read becomes =
    let within : robot < length s.seats = subst (λ (u : SiteView A). robot < length u.seats) (sym same) inside in
    let made : Replaces Becomes s robot (with_seats s (slice_set s.seats robot new)) = record {
      old = old;
      new = new;
      was = slice_get_read s.seats (length s.seats) robot old refl within read;
      becomes = becomes;
      is = refl;
    } in
    subst (λ (u : SiteView A). Replaces Becomes u robot (with_seats s (slice_set s.seats robot new))) same made
