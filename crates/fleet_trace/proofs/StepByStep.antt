-- A legal history is gone through entry by entry.
use Rattle.std.proofs.Common.{◌≡◌, ℕ, zero, suc, ◌+◌, ◌^◌, ◌<◌, List, [], ◌∷◌, ◌++◌, length, get_or, take, drop, refl, sym, ap, subst, ◌∙◌, arith}
use Rattle.std.proofs.lemmas.List.{take_more, length-take}
use Rattle.std.proofs.lemmas.List.Sums.{count_by-le-length}
use Rattle.fleet_grid.specs.Floor.{Floor}
use Rattle.fleet_history.specs.declared.history.Entry.{Entry}
use Rattle.fleet_history.specs.declared.history.Entry.TheVariants.{Take, Tick, Shut}
use Rattle.fleet_history.specs.History.{History, with_entries, is_tick}
use Rattle.fleet_history.specs.Legal.{IsLegal, Fits}
use Rattle.fleet_history.proofs.Legal.{fits-at}
use Rattle.fleet_state.specs.State.{State, IsStateOf, HasFullRooms}
use Rattle.fleet_state.specs.Follows.{Follows, MayFollow, IsPlaced}
use Rattle.fleet_state.proofs.Judged.{has-place}
use Rattle.fleet_state.proofs.Parts.{queue-count, queue-limit}
use Rattle.fleet_trace.specs.Chapters.{IsEarly}
use Rattle.fleet_trace.proofs.EntryByEntry.{upto}

split_at : {X : Type 0} (xs : List X) (i : ℕ) (d : X) → i < length xs → xs ≡ take i xs ++ get_or xs i d ∷ drop (suc i) xs
split_at [] i d less = absurd (omega (arith, less))
split_at (x ∷ xs) zero d less = refl
split_at (x ∷ xs) (suc i) d less = ap (λ (ys : List _). x ∷ ys) (split_at xs i d (omega (arith, less)))

is_placed : {A : Type 0} {m : Floor} {h : History A} {s : State A} → IsStateOf m h s → HasFullRooms s → (e : Entry A) → Fits m h e → IsPlaced s.queues e
is_placed k full (Take client order v) fits = has-place k client order v fits.1 full
is_placed k full (Tick to arrived farewells) fits = tt
is_placed k full (Shut robot farewell) fits = tt

-- the queues' memory is that of the state before
pub room-kept : {A : Type 0} {m : Floor} {h g : History A} {s t : State A} → IsStateOf m h s → IsStateOf m g t → g.opening ≡ h.opening → t.rooms ≡ s.rooms → HasFullRooms s → HasFullRooms t
room-kept k n same rooms enough r l =
    rw rooms (omega (arith, enough r (omega (arith, l, queue-count k, queue-count n, ap (λ o. length o.robots) same)), queue-limit k, queue-limit n, ap (λ o. o.queue) same))

module _ {A : Type 0} (m : Floor) (h : History A) (legal : IsLegal m h) (i : ℕ) (e : Entry A) (s : State A) (k : IsStateOf m (upto m h i) s) (less : i < length h.entries) (is : get_or h.entries i e ≡ e) where
  pub fits-here : Fits m (upto m h i) e
  fits-here = fits-at m h (take i h.entries) (drop (suc i) h.entries) e legal (split_at h.entries i e less ∙ ap (λ (x : Entry A). take i h.entries ++ x ∷ drop (suc i) h.entries) is)

  pub may-enter : IsEarly h → MayFollow s e
  may-enter early = record {
    floor = m;
    history = upto m h i;
    is = k;
    fits = fits-here;
    early = omega (arith, early, count_by-le-length is_tick (take i h.entries), length-take i h.entries);
    few = omega (arith, early, length-take i h.entries);
  }

  pub placed-here : HasFullRooms s → IsPlaced s.queues e
  placed-here full = is_placed k full e fits-here

  pub entered-here : (t : State A) → Follows s e t → IsStateOf m (upto m h (i + 1)) t
  entered-here t follows =
      let more : take i h.entries ++ e ∷ [] ≡ take (i + 1) h.entries = sym (take_more h.entries i e less ∙ ap (λ (x : Entry A). take i h.entries ++ x ∷ []) is) in
      subst (λ (es : List (Entry A)). IsStateOf m (with_entries h es) t) more (follows m (upto m h i) k fits-here)
