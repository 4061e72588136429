-- One robot more is settled.
use Rattle.std.proofs.Common.{◌≡◌, ◌∙◌, ◌+◌, ◌<◌, ◌≤◌, ℕ, List, [], ◌∷◌, ◌++◌, ap, arith, refl, subst, sym, take, drop, length, get_or}
use Rattle.std.specs.Prelude.{slice_set}
use Rattle.std.proofs.lemmas.List.{append_assoc, append-nil, take_all, take_more_set, drop_more, drop-set-lt, length-set, length-take-le}
use Rattle.fleet_grid.specs.Floor.{Floor}
use Rattle.fleet_refit.specs.declared.change.Dropped.{Dropped}
use Rattle.fleet_refit.specs.declared.seat.Seat.{Seat}
use Rattle.fleet_refit.specs.Settled.{AreSettled, IsSettled, more, none}
use Rattle.fleet_refit.proofs.Seats.{grown}

-- where the loop is: the first i robots are settled, and the others are as they were
pub record IsSoFar {A : Type 0} (m : Floor) (i : ℕ) (old now : List (Seat A)) (before dropped : List Dropped) : Type 0 where
  pub settled : (gone : List Dropped) × AreSettled m (take i old) (take i now) gone × (dropped ≡ before ++ gone)
  pub left : drop i now ≡ drop i old
  pub same : length now ≡ length old

pub begun : {A : Type 0} (m : Floor) (seats : List (Seat A)) (before : List Dropped) → IsSoFar m 0 seats seats before before
begun m seats before = record { settled = ([], none, sym (append-nil before)); left = refl; same = refl }

pub all-settled : {A : Type 0} (m : Floor) (i : ℕ) (old now : List (Seat A)) (before dropped : List Dropped) → IsSoFar m i old now before dropped → length old ≤ i →
    (gone : List Dropped) × AreSettled m old now gone × (dropped ≡ before ++ gone)
all-settled m i old now before dropped so all =
    subst (λ l. (gone : List Dropped) × AreSettled m l now gone × (dropped ≡ before ++ gone)) (take_all i old all)
    (subst (λ l. (gone : List Dropped) × AreSettled m (take i old) l gone × (dropped ≡ before ++ gone)) (take_all i now (subst (λ n. n ≤ i) (sym so.same) all)) so.settled)

head-of : {X : Type 0} → X → List X → X
head-of d [] = d
head-of d (x ∷ xs) = x

tail-of : {X : Type 0} → List X → List X
tail-of [] = []
tail-of (x ∷ xs) = xs

pub one-settled : {A : Type 0} (m : Floor) (i : ℕ) (old now : List (Seat A)) (before dropped last : List Dropped) (x y : Seat A) → IsSoFar m i old now before dropped → i < length now → x ≡ get_or now i x →
    IsSettled m i x y last → IsSoFar m (i + 1) old (slice_set now i y) before (dropped ++ last)
unfolding head-of tail-of
one-settled {A} m i old now before dropped last x y so inside at is =
    let (gone, settled, listed) = so.settled in
    let inside-old : i < length old = subst (λ n. i < n) so.same inside in
    let both : (get_or now i x ∷ drop (i + 1) now) ≡ (get_or old i x ∷ drop (i + 1) old) = sym (drop_more now i x inside) ∙ so.left ∙ drop_more old i x inside-old in
    let at-old : x ≡ get_or old i x = at ∙ ap (head-of x) both in
    let taken : take (i + 1) old ≡ take i old ++ x ∷ [] = grown old i x inside-old at-old in
    let count : length (take i old) ≡ i = length-take-le i old (omega (arith, inside-old)) in
    let one : AreSettled m (take i old ++ x ∷ []) (take i now ++ y ∷ []) (gone ++ last) = more x y last settled (subst (λ n. IsSettled m n x y last) (sym count) is) in
    record {
      settled = (
        gone ++ last,
        subst (λ l. AreSettled m l (take (i + 1) (slice_set now i y)) (gone ++ last)) (sym taken) (subst (λ l. AreSettled m (take i old ++ x ∷ []) l (gone ++ last)) (sym (take_more_set now i y inside)) one),
        ap (λ l. l ++ last) listed ∙ append_assoc before gone last,
      );
      left = drop-set-lt (i + 1) now i y (omega arith) ∙ ap tail-of both;
      same = length-set now i y ∙ so.same;
    }
