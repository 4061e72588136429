-- Turns that are made ready, and what they make of the robots' goals.
use Rattle.std.proofs.Common.{◌≡◌, ℕ, zero, suc, ◌+◌, ◌<◌, ◌≤◌, ◌⊎◌, inl, inr, List, [], ◌∷◌, ◌++◌, length, map, set, get_or, drop, Option, Some, None, refl, sym, ap, subst, ◌∙◌, arith, rules, slice_index_or}
use Rattle.std.specs.Prelude.{slice_get}
use Rattle.std.proofs.lemmas.List.{length-set, length-map, map-set, drop_more, drop_all}
use Rattle.fleet_grid.specs.Floor.{Floor}
use Rattle.fleet_field.specs.Growing.{Growth, IsGrown}
use Rattle.fleet_planner.specs.Courses.{own_goal, first_of, merged}
use Rattle.fleet_planner.specs.Turned.{turned, AreFloorTurns, AreKnownTurns}
use Rattle.fleet_planner.specs.declared.turns.GoalChange.{GoalChange}
use Rattle.fleet_planner.specs.inside.Started.{IsStart, AreStarts, shared_part, shared_parts, placed}
use Rattle.fleet_planner.proofs.Merged.{merged-set}

none_some : {X : Type 0} (x : X) → None ≡ Some x → ⊥
none_some x e = search (rules, e)

some_same : {X : Type 0} (x y : X) → Some x ≡ Some y → x ≡ y
some_same x y e = search (rules, e)

-- one turn more

pub starts-push : (m : Floor) (ts : List GoalChange) (fs : List (Option Growth)) (t : GoalChange) (f : Option Growth) → AreStarts m ts fs → IsStart m t.goal f → AreStarts m (ts ++ t ∷ []) (fs ++ f ∷ [])
starts-push m [] [] t f are is = (is, tt)
starts-push m [] (g ∷ fs) t f are is = absurd are
starts-push m (u ∷ ts) [] t f are is = absurd are
starts-push m (u ∷ ts) (g ∷ fs) t f are is = (are.0, starts-push m ts fs t f are.1 is)

pub parts-push : (m : Floor) (ts : List GoalChange) (fs : List (Option Growth)) (t : GoalChange) (f : Option Growth) → AreStarts m ts fs → shared_parts (ts ++ t ∷ []) (fs ++ f ∷ []) ≡ shared_parts ts fs ++ shared_part t f ∷ []
parts-push m [] [] t f are = refl
parts-push m [] (g ∷ fs) t f are = absurd are
parts-push m (u ∷ ts) [] t f are = absurd are
parts-push m (u ∷ ts) (g ∷ fs) t f are = ap (λ (rest : List GoalChange). shared_part u g ∷ rest) (parts-push m ts fs t f are.1)

pub starts-length : (m : Floor) (ts : List GoalChange) (fs : List (Option Growth)) → AreStarts m ts fs → length fs ≡ length ts
starts-length m [] [] are = refl
starts-length m [] (g ∷ fs) are = absurd are
starts-length m (u ∷ ts) [] are = absurd are
starts-length m (u ∷ ts) (g ∷ fs) are = ap suc (starts-length m ts fs are.1)

pub parts-length : (m : Floor) (ts : List GoalChange) (fs : List (Option Growth)) → AreStarts m ts fs → length (shared_parts ts fs) ≡ length ts
parts-length m [] [] are = refl
parts-length m [] (g ∷ fs) are = absurd are
parts-length m (u ∷ ts) [] are = absurd are
parts-length m (u ∷ ts) (g ∷ fs) are = ap suc (parts-length m ts fs are.1)

-- a shared part is for the turn's robot, and leads to no other goal

record IsPartOf (ts : List GoalChange) (i : ℕ) (s : GoalChange) : Type 0 where
  turn : GoalChange
  at : slice_get ts i ≡ Some turn
  robot : s.robot ≡ turn.robot
  goal : (cell : ℕ) → s.goal ≡ Some cell → turn.goal ≡ Some cell

part-robot : (t : GoalChange) (f : Option Growth) → (shared_part t f).robot ≡ t.robot
part-robot t None = refl
part-robot t (Some f) = refl

part-goal : (t : GoalChange) (f : Option Growth) (cell : ℕ) → (shared_part t f).goal ≡ Some cell → t.goal ≡ Some cell
part-goal t None cell e = e
part-goal t (Some f) cell e = absurd (none_some cell e)

part-at : (m : Floor) (ts : List GoalChange) (fs : List (Option Growth)) → AreStarts m ts fs → (i : ℕ) (s : GoalChange) → slice_get (shared_parts ts fs) i ≡ Some s → IsPartOf ts i s
part-at m [] [] are i s e = absurd (none_some s e)
part-at m [] (g ∷ fs) are i s e = absurd are
part-at m (u ∷ ts) [] are i s e = absurd are
part-at m (u ∷ ts) (g ∷ fs) are zero s e =
    let same = some_same (shared_part u g) s e in
    record {
      turn = u;
      at = refl;
      robot = sym (ap (λ (x : GoalChange). x.robot) same) ∙ part-robot u g;
      goal = λ cell goes. part-goal u g cell (ap (λ (x : GoalChange). x.goal) same ∙ goes);
    }
part-at m (u ∷ ts) (g ∷ fs) are (suc i) s e =
    let p = part-at m ts fs are.1 i s e in
    record { turn = p.turn; at = p.at; robot = p.robot; goal = p.goal }

pub parts-known : (m : Floor) (ts : List GoalChange) (fs : List (Option Growth)) (robots : ℕ) → AreStarts m ts fs → AreKnownTurns robots ts → AreKnownTurns robots (shared_parts ts fs)
parts-known m ts fs robots are known i s e =
    let p = part-at m ts fs are i s e in
    subst (λ (x : ℕ). x < robots) (sym p.robot) (known i p.turn p.at)

pub parts-floor : (m : Floor) (ts : List GoalChange) (fs : List (Option Growth)) → AreStarts m ts fs → AreFloorTurns m ts → AreFloorTurns m (shared_parts ts fs)
parts-floor m ts fs are floor i s cell e goes =
    let p = part-at m ts fs are i s e in
    floor i p.turn cell p.at (p.goal cell goes)

-- the goals

start-goal : (m : Floor) (t : GoalChange) (f : Option Growth) → IsStart m t.goal f → first_of (own_goal f) (shared_part t f).goal ≡ t.goal
start-goal m t None is = refl
start-goal m t (Some f) is = sym is.1

pub turned-merged : (m : Floor) (ts : List GoalChange) (fs own : List (Option Growth)) (ss : List (Option ℕ)) → AreStarts m ts fs → length own ≡ length ss
    → merged (map own_goal (placed ts fs own)) (turned (shared_parts ts fs) ss) ≡ turned ts (merged (map own_goal own) ss)
unfolding turned
turned-merged m [] [] own ss are e = refl
turned-merged m [] (f ∷ fs) own ss are e = absurd are
turned-merged m (t ∷ ts) [] own ss are e = absurd are
turned-merged m (t ∷ ts) (f ∷ fs) own ss are e =
    let s = shared_part t f in
    let own' = set own t.robot f in
    let ss' = set ss s.robot s.goal in
    let long : length own' ≡ length ss' = length-set own t.robot f ∙ (e ∙ sym (length-set ss s.robot s.goal)) in
    let many : length (map own_goal own) ≡ length ss = length-map own own_goal ∙ e in
    let here : merged (map own_goal own') ss' ≡ set (merged (map own_goal own) ss) t.robot t.goal =
    ap (λ (xs : List (Option ℕ)). merged xs ss') (map-set own_goal own t.robot f)
    ∙ (ap (λ (r : ℕ). merged (set (map own_goal own) t.robot (own_goal f)) (set ss r s.goal)) (part-robot t f)
    ∙ (merged-set (map own_goal own) ss t.robot (own_goal f) s.goal many
    ∙ ap (λ (o : Option ℕ). set (merged (map own_goal own) ss) t.robot o) (start-goal m t f are.0))) in
    turned-merged m ts fs own' ss' are.1 long ∙ ap (λ (gs : List (Option ℕ)). turned ts gs) here

-- the fields

set-cases : {X : Type 0} (xs : List X) (i : ℕ) (x : X) (r : ℕ) (d : X) → (get_or (set xs i x) r d ≡ x) ⊎ (get_or (set xs i x) r d ≡ get_or xs r d)
set-cases [] i x r d = inr refl
set-cases (y ∷ xs) zero x zero d = inl refl
set-cases (y ∷ xs) zero x (suc r) d = inr refl
set-cases (y ∷ xs) (suc i) x zero d = inr refl
set-cases (y ∷ xs) (suc i) x (suc r) d = set-cases xs i x r d

start-grown : (m : Floor) (aimed : Option ℕ) (o : Option Growth) (f : Growth) → IsStart m aimed o → o ≡ Some f → IsGrown m f
start-grown m aimed None f is e = absurd (none_some f e)
start-grown m aimed (Some g) f is e = subst (IsGrown m) (some_same g f e) is.0

pub placed-grown : (m : Floor) (ts : List GoalChange) (fs own : List (Option Growth)) → AreStarts m ts fs → ((r : ℕ) (f : Growth) → slice_index_or own r None ≡ Some f → IsGrown m f)
    → (r : ℕ) (f : Growth) → slice_index_or (placed ts fs own) r None ≡ Some f → IsGrown m f
placed-grown m [] [] own are grown = grown
placed-grown m [] (g ∷ fs) own are grown = absurd are
placed-grown m (t ∷ ts) [] own are grown = absurd are
placed-grown m (t ∷ ts) (g ∷ fs) own are grown =
    placed-grown m ts fs (set own t.robot g) are.1 (λ r f e. elim (set-cases own t.robot g r None) [
      | inl new ↦ start-grown m t.goal g f are.0 (sym new ∙ e)
      | inr old ↦ grown r f (sym old ∙ e)
    ])

pub placed-length : {X : Type 0} (ts : List GoalChange) (fs own : List X) → length (placed ts fs own) ≡ length own
placed-length [] fs own = refl
placed-length (t ∷ ts) [] own = refl
placed-length (t ∷ ts) (f ∷ fs) own = placed-length ts fs (set own t.robot f) ∙ length-set own t.robot f

pub placed-map : {X Y : Type 0} (g : X → Y) (ts : List GoalChange) (fs own : List X) → map g (placed ts fs own) ≡ placed ts (map g fs) (map g own)
placed-map g [] fs own = refl
placed-map g (t ∷ ts) [] own = refl
placed-map g (t ∷ ts) (f ∷ fs) own = placed-map g ts fs (set own t.robot f) ∙ ap (placed ts (map g fs)) (map-set g own t.robot f)

-- the first n turns have their fields
pub record ArePlacing {X : Type 0} (turns : List GoalChange) (fresh own : List X) (n : ℕ) (fresh_now own_now : List X) : Type 0 where
  pub known : length own_now ≡ length own
  pub count : length fresh_now ≡ length fresh
  pub places : placed (drop n turns) (drop n fresh_now) own_now ≡ placed turns fresh own

drop-set : {X : Type 0} (xs : List X) (n : ℕ) (x : X) → drop (suc n) (set xs n x) ≡ drop (suc n) xs
drop-set [] n x = refl
drop-set (y ∷ xs) zero x = refl
drop-set (y ∷ xs) (suc n) x = drop-set xs n x

pub placing-more : {X : Type 0} (turns : List GoalChange) (fresh own : List X) (n : ℕ) (fresh_now own_now : List X) (t : GoalChange) (f x : X) → n < length turns → length fresh ≡ length turns → t ≡ get_or turns n t → f ≡ get_or fresh_now n f
    → ArePlacing turns fresh own n fresh_now own_now → ArePlacing turns fresh own (n + 1) (set fresh_now n x) (set own_now t.robot f)
placing-more {X = X} turns fresh own n fresh_now own_now t f x less same is_turn is_field s =
    let count = s.count in
    let next : suc n ≡ n + 1 = omega arith in
    let one : drop n turns ≡ t ∷ drop (n + 1) turns = drop_more turns n t less ∙ ap (λ (y : GoalChange). y ∷ drop (n + 1) turns) (sym is_turn) in
    let two : drop n fresh_now ≡ f ∷ drop (n + 1) fresh_now = drop_more fresh_now n f (omega (arith, less, same, count)) ∙ ap (λ (y : X). y ∷ drop (n + 1) fresh_now) (sym is_field) in
    let rest : drop (n + 1) (set fresh_now n x) ≡ drop (n + 1) fresh_now = subst (λ (k : ℕ). drop k (set fresh_now n x) ≡ drop k fresh_now) next (drop-set fresh_now n x) in
    record {
      known = length-set own_now t.robot f ∙ s.known;
      count = length-set fresh_now n x ∙ count;
      places = ap (λ (fs : List X). placed (drop (n + 1) turns) fs (set own_now t.robot f)) rest
          ∙ (sym (ap (λ (ts : List GoalChange). placed ts (drop n fresh_now) own_now) one ∙ ap (λ (fs : List X). placed (t ∷ drop (n + 1) turns) fs own_now) two) ∙ s.places);
    }

pub placing-all : {X : Type 0} (turns : List GoalChange) (fresh own : List X) (n : ℕ) (fresh_now own_now : List X) → length turns ≤ n → ArePlacing turns fresh own n fresh_now own_now → own_now ≡ placed turns fresh own
placing-all turns fresh own n fresh_now own_now all s = sym (ap (λ (ts : List GoalChange). placed ts (drop n fresh_now) own_now) (drop_all n turns all)) ∙ s.places
