-- A tick shows at most one arrival and one farewell a robot; and lists that are written place by place.
use Rattle.std.proofs.Common.{◌≡◌, ℕ, zero, suc, ◌+◌, ◌<◌, ◌≤◌, List, [], ◌∷◌, ◌++◌, length, map, take, drop, get_or, set, eqb, Bool, true, false, sym, refl, ap, ◌∙◌, arith, inl, inr, Option, Some, None, length-append, ◌-◌}
use Rattle.std.specs.Prelude.{slice_index, slice_get}
use Rattle.std.proofs.Math.Numerals.{add-one}
use Rattle.std.specs.List.{flat_map, range_with_len}
use Rattle.std.proofs.lemmas.List.{length-map}
use Rattle.std.proofs.lemmas.Bool.{cases_Bool}
use Rattle.fleet_grid.specs.Floor.{Floor}
use Rattle.fleet_queue.specs.declared.errand.Errand.{Errand}
use Rattle.fleet_history.specs.declared.history.Arrival.{Arrival}
use Rattle.fleet_history.specs.declared.history.Bye.{Bye}
use Rattle.fleet_history.specs.declared.history.Entry.TheVariants as entry
use Rattle.fleet_history.specs.History.{History, after, robots, front}
use Rattle.fleet_history.specs.Legal.{IsTickAfter, due_of, due_at, due, leaving, is_leaving, robot_if}

few : {X : Type 0} (f : ℕ → List X) → ((r : ℕ) → length (f r) ≤ 1) → (a n : ℕ) → length (flat_map f (range_with_len a n)) ≤ n
few f one a zero = omega arith
few f one a (suc n) = omega (arith, length-append (f a) (flat_map f (range_with_len (a + 1) n)), one a, few f one (a + 1) n)

due_one : (to : List ℕ) (r : ℕ) (o : Option Errand) → length (due_at to r o) ≤ 1
due_one to r None = omega arith
due_one to r (Some f) = elim (cases_Bool (eqb f.cell (slice_index to r))) [ inl e ↦ rw e (omega arith) | inr e ↦ rw e (omega arith) ]

robot_one : (b : Bool) (r : ℕ) → length (robot_if b r) ≤ 1
robot_one true r = omega arith
robot_one false r = omega arith

module _ {A : Type 0} (m : Floor) (h : History A) (to : List ℕ) (arrived : List Arrival) (farewells : List Bye) (is : IsTickAfter m h to arrived farewells) where
  pub arrived-few : length arrived ≤ robots h
  arrived-few =
      let due_few = few (λ r. due_at to r (front h r)) (λ r. due_one to r (front h r)) 0 (robots h) in
      let as_many : length arrived ≡ length (due h to) = sym (length-map arrived due_of) ∙ ap length is.shows in
      omega (arith, due_few, as_many)

  pub farewells-few : length farewells ≤ robots h
  farewells-few =
      let g = after h (entry.Tick to arrived farewells) in
      let leaving_few = few (λ r. robot_if (is_leaving h g r) r) (λ r. robot_one (is_leaving h g r) r) 0 (robots h) in
      let as_many : length farewells ≡ length (leaving h g) = sym (length-map farewells (λ b. b.robot)) ∙ ap length is.leaves in
      omega (arith, leaving_few, as_many)

-- the next place is written
write-at : {X Y : Type 0} (f : X → Y) (xs : List X) (ys : List Y) (i : ℕ) (d : X) → i < length xs → length xs ≤ length ys
    → set (map f (take i xs) ++ drop i ys) i (f (get_or xs i d)) ≡ map f (take (suc i) xs) ++ drop (suc i) ys
write-at f [] ys i d l m = absurd (omega arith)
write-at f (z ∷ xs) [] i d l m = absurd (omega arith)
write-at f (z ∷ xs) (y ∷ ys) zero d l m = refl
write-at f (z ∷ xs) (y ∷ ys) (suc i) d l m = ap (λ t. f z ∷ t) (write-at f xs ys i d (omega arith) (omega arith))

pub write-next : {X Y : Type 0} (f : X → Y) (xs : List X) (ys now : List Y) (i : ℕ) (d : X) → i < length xs → length xs ≤ length ys → now ≡ map f (take i xs) ++ drop i ys
    → set now i (f (get_or xs i d)) ≡ map f (take (i + 1) xs) ++ drop (i + 1) ys
write-next f xs ys now i d l m is = rw (is, add-one i) (write-at f xs ys i d l m)

-- the last item of a list
last-is : {X : Type 0} (xs : List X) (x : X) → slice_get (xs ++ x ∷ []) (length xs) ≡ Some x
last-is [] x = refl
last-is (y ∷ ys) x = last-is ys x

pub last-entry : {X : Type 0} (entries before : List X) (e : X) → entries ≡ before ++ e ∷ [] → slice_get entries (length entries - 1) ≡ Some e
last-entry entries before e is =
    let n : length (before ++ e ∷ []) - 1 ≡ length before = omega (arith, length-append before (e ∷ [])) in
    rw (is, n) (last-is before e)
