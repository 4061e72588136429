-- What holds of every item, as a loop goes on; and bounds on what is owed.
use Rattle.std.proofs.Common.{◌≡◌, ℕ, zero, suc, ◌+◌, ◌*◌, ◌<◌, ◌≤◌, inl, inr, List, [], ◌∷◌, ◌++◌, length, get_or, take, map, slice_index, refl, sym, ap, subst, ◌∙◌, arith, Bool, true, false}
use Rattle.std.specs.Prelude.{All, count_by, ◌==◌}
use Rattle.std.proofs.lemmas.Bool.{cases_eq}
use Rattle.std.proofs.lemmas.List.{get_or_default, get_or_past, length-map, map_more, take_all}
use Rattle.std.proofs.lemmas.List.Sums.{sum_by-le, count_by-le-length}
use Rattle.fleet_grid.specs.Floor.{Floor}
use Rattle.fleet_history.specs.declared.history.RobotState.{RobotState}
use Rattle.fleet_history.specs.declared.history.Opening.{Opening}
use Rattle.fleet_history.specs.Legal.{IsRobotInOrder}
use Rattle.fleet_trace.specs.inside.Opened.{owed_in}
use Rattle.fleet_trace.proofs.ErrandNames.{impossible}

module _ {X : Type 0} (P : X → Type 0) where
  pub all_more : (xs : List X) (i : ℕ) (x : X) → i < length xs → get_or xs i x ≡ x → P x → ((k : ℕ) (d : X) → k < i → P (get_or xs k d)) → (k : ℕ) (d : X) → k < i + 1 → P (get_or xs k d)
  all_more xs i x within is here before k d less = elim (cases_eq k i) [
    | inl same ↦ subst P (sym (ap (λ (j : ℕ). get_or xs j d) same ∙ get_or_default xs i d x within ∙ is)) here
    | inr other ↦ before k d (omega (arith, less, other))
  ]

  -- a test of one item, of which its default is known, together with what holds of those before it
  module _ (xs : List X) (i : ℕ) (d : X) (b : Bool) (tests : (b ≡ true → P (get_or xs i d)) × (P (get_or xs i d) → b ≡ true)) where
    pub all_on : i < length xs → b ≡ true → ((k : ℕ) (e : X) → k < i → P (get_or xs k e)) → (k : ℕ) (e : X) → k < i + 1 → P (get_or xs k e)
    all_on within fine before = all_more xs i (get_or xs i d) within (get_or_default xs i (get_or xs i d) d within) (tests.0 fine) before

    pub all_fails : i < length xs → b ≡ false → (false ≡ true → All P xs) × (All P xs → false ≡ true)
    all_fails within bad = (λ never. absurd (impossible never), λ all. sym bad ∙ tests.1 (all i d within))

  pub all_done : (xs : List X) (i : ℕ) → length xs ≤ i → ((k : ℕ) (e : X) → k < i → P (get_or xs k e)) → (true ≡ true → All P xs) × (All P xs → true ≡ true)
  all_done xs i past before = (λ _ k e less. before k e (omega (arith, less, past)), λ _. refl)

-- what each item gives, as the list of it grows
pub map_push : {X Y : Type 0} (f : X → Y) (xs : List X) (i : ℕ) (x : X) (y : Y) (ys zs : List Y) → i < length xs → x ≡ get_or xs i x → y ≡ f x → ys ≡ map f (take i xs) → zs ≡ ys ++ y ∷ [] → zs ≡ map f (take (i + 1) xs)
map_push f xs i x y ys zs within is gives before more =
    more ∙ ap (λ (l : List _). l ++ y ∷ []) before ∙ ap (λ (z : _). map f (take i xs) ++ z ∷ []) (gives ∙ ap f is) ∙ sym (map_more f xs i x within)

pub map_done : {X Y : Type 0} (f : X → Y) (xs : List X) (i : ℕ) (ys : List Y) → length xs ≤ i → ys ≡ map f (take i xs) → ys ≡ map f xs
map_done f xs i ys past is = is ∙ ap (λ (l : List _). map f l) (take_all i xs past)

pub get_or-map_past : {X Y : Type 0} (f : X → Y) (xs : List X) (i : ℕ) (e : Y) → length xs ≤ i → get_or (map f xs) i e ≡ e
get_or-map_past f xs i e past = get_or_past (map f xs) i e (omega (arith, length-map xs f, past))

pub cell_at : {A : Type 0} (robots : List (RobotState A)) (i : ℕ) (d : RobotState A) → i < length robots → slice_index (map (λ x. x.cell) robots) i ≡ (get_or robots i d).cell
cell_at [] i d less = absurd (omega (arith, less))
cell_at (x ∷ robots) zero d less = refl
cell_at (x ∷ robots) (suc i) d less = cell_at robots i d (omega (arith, less))

pub length-cells : {A : Type 0} (robots : List (RobotState A)) → length (map (λ x. x.cell) robots) ≡ length robots
length-cells [] = refl
length-cells (x ∷ robots) = ap suc (length-cells robots)

-- no client is owed more than all queues hold
pub owed-small : {A : Type 0} (m : Floor) (o : Opening A) (c : ℕ) → length o.robots ≤ 512 → o.queue ≤ 65536 → All (IsRobotInOrder m o) o.robots → owed_in o.robots c ≤ 2199023255552
owed-small m o c few queue fine =
    let each : All (λ x. count_by (λ e. e.client == c) x.errands ≤ 65536) o.robots = λ k d less. (let x = get_or o.robots k d in omega (arith, count_by-le-length (λ e. e.client == c) x.errands, (fine k d less).room, queue)) in
    let all : owed_in o.robots c ≤ length o.robots * 65536 = sum_by-le (λ x. count_by (λ e. e.client == c) x.errands) 65536 o.robots each in
    omega (arith, all, few)

-- lists of one length with the same items
pub same-items : {X : Type 0} (xs ys : List X) (n : ℕ) → length xs ≡ length ys → length xs ≤ n → ((k : ℕ) (d : X) → k < n → get_or xs k d ≡ get_or ys k d) → xs ≡ ys
same-items xs ys n count past each = by xs ys count (λ k d less. each k d (omega (arith, less, past))) where
  by : {X : Type 0} (xs ys : List X) → length xs ≡ length ys → ((k : ℕ) (d : X) → k < length xs → get_or xs k d ≡ get_or ys k d) → xs ≡ ys
  by [] [] count each = refl
  by [] (y ∷ ys) count each = absurd (omega (arith, count))
  by (x ∷ xs) [] count each = absurd (omega (arith, count))
  by (x ∷ xs) (y ∷ ys) count each =
      let head : x ≡ y = each 0 x (omega arith) in
      let rest : xs ≡ ys = by xs ys (omega (arith, count)) (λ k d less. each (suc k) d (omega (arith, less))) in
      rw (head, rest) refl
