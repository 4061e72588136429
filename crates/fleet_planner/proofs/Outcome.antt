-- What a fleet aims at after its turns, made or refused.
use Rattle.std.proofs.Common.{◌≡◌, ℕ, suc, ◌+◌, ◌<◌, inl, inr, List, [], ◌∷◌, ◌++◌, length, map, take, drop, set, get_or, Option, Some, None, refl, sym, ap, subst, ◌∙◌, arith}
use Rattle.std.proofs.Math.Seq.{take-append_seam}
use Rattle.std.proofs.lemmas.Bool.{cases_eq}
use Rattle.std.proofs.lemmas.List.{length-set, get_or-set_same, get_or-set_other}
use Rattle.fleet_grid.specs.Floor.{Floor, IsFloor}
use Rattle.fleet_field.specs.Field.{Aim}
use Rattle.fleet_field.specs.declared.store.Held.{Held}
use Rattle.fleet_field.specs.Store.{Serves}
use Rattle.fleet_planner.specs.declared.turns.GoalChange.{GoalChange}
use Rattle.fleet_planner.specs.Aims.{goals_of, AreOn, AreFloor}
use Rattle.fleet_planner.specs.Keys.{fields_of, holders, AreCounted, AreOwn, AreKept}
use Rattle.fleet_planner.specs.Turned.{turned, AreFloorTurns, AreKnownTurns}
use Rattle.fleet_planner.specs.inside.Turns.{dealt, AreShownOn}
use Rattle.fleet_planner.proofs.Counts.{showing, swapped}
use Rattle.fleet_planner.proofs.Fields.{length-goals, floor_on, on_serves, serves_kept}
use Rattle.fleet_planner.proofs.Holding.{fields_shown}
use Rattle.fleet_planner.proofs.Turned.{goals_dealt, fields_kept}

pub length-dealt : (turns : List GoalChange) (fresh keys : List (Option ℕ)) → length (dealt turns fresh keys) ≡ length keys
unfolding dealt
length-dealt [] fresh keys = refl
length-dealt (t ∷ turns) [] keys = refl
length-dealt (t ∷ turns) (key ∷ fresh) keys = length-dealt turns fresh (set keys t.robot key) ∙ length-set keys t.robot key

-- what a slice of a whole list writes back is the slice
pub written : (slice old : List (Option ℕ)) (len : ℕ) → length slice ≡ len → take len (slice ++ drop (length slice) old) ≡ slice
written slice old len long = ap (λ (n : ℕ). take n (slice ++ drop (length slice) old)) (sym long) ∙ take-append_seam slice (drop (length slice) old)

-- keys that were swapped through a slice of the fresh ones are counted as before
pub counted_dealt : (store : List (Option (Held Aim))) (keys fresh slice now slice_now : List (Option ℕ)) (len : ℕ) → slice ≡ fresh → length slice ≡ len → length slice_now ≡ length slice → ((k : ℕ) → holders now k + holders slice_now k ≡ holders keys k + holders slice k)
    → AreCounted store keys fresh → AreCounted store now (take len (slice_now ++ drop (length slice_now) fresh))
counted_dealt store keys fresh slice now slice_now len is long count same c =
    subst (AreCounted store now) (sym (written slice_now fresh len (count ∙ long))) (swapped store keys slice now slice_now same (subst (AreCounted store keys) (sym is) c))

-- goals stay floor

floor_once : (m : Floor) (goals : List (Option ℕ)) (robot : ℕ) (aimed : Option ℕ) → robot < length goals → AreFloor m goals → ((cell : ℕ) → aimed ≡ Some cell → IsFloor m cell) → AreFloor m (set goals robot aimed)
floor_once m goals robot aimed below floor here r cell e = elim (cases_eq r robot) [
  | inl same ↦ here cell (sym (get_or-set_same goals robot aimed None below) ∙ (ap (λ (x : ℕ). get_or (set goals robot aimed) x None) (sym same) ∙ e))
  | inr ne ↦ floor r cell (sym (get_or-set_other goals robot r aimed None ne) ∙ e)
]

floor_turned : (m : Floor) (turns : List GoalChange) (goals : List (Option ℕ)) → AreKnownTurns (length goals) turns → AreFloorTurns m turns → AreFloor m goals → AreFloor m (turned turns goals)
unfolding turned
floor_turned m [] goals known floor before = before
floor_turned m (t ∷ turns) goals known floor before =
    floor_turned m turns (set goals t.robot t.goal) (λ i u e. subst (λ (n : ℕ). u.robot < n) (sym (length-set goals t.robot t.goal)) (known (suc i) u e)) (λ i u cell e f. floor (suc i) u cell e f)
    (floor_once m goals t.robot t.goal (known 0 t refl) before (λ cell e. floor 0 t cell refl e))

-- the goals' fields were held, and something was given back then
module _ (m : Floor) (turns : List GoalChange) (old mid new : List (Option (Held Aim))) (keys : List (Option ℕ)) (own : AreOwn old keys) (shown_on : AreShownOn old mid) (kept : AreKept mid new) where
  fields_held : fields_of mid keys ≡ fields_of old keys
  fields_held = fields_shown old mid keys (showing old keys [] own.counted) shown_on

  -- the robots that kept their keys aim at what they aimed at
  pub fields_refused : AreCounted new keys [] → fields_of new keys ≡ fields_of old keys
  fields_refused c = fields_kept mid new keys c kept ∙ fields_held

  module _ (fresh now : List (Option ℕ)) (is : now ≡ dealt turns fresh keys) (goals : goals_of (fields_of mid fresh) ≡ map (λ t. t.goal) turns) (c : AreCounted new now []) where
    pub own_turned : AreOwn new now
    own_turned = record {
      few = (let a = ap (λ (ks : List (Option ℕ)). length ks) is in let b = length-dealt turns fresh keys in let few = own.few in omega (arith, a, b, few));
      counted = c;
    }

    pub goals_turned : goals_of (fields_of new now) ≡ turned turns (goals_of (fields_of old keys))
    goals_turned = ap goals_of (fields_kept mid new now c kept ∙ ap (fields_of mid) is) ∙ (goals_dealt mid turns fresh keys goals ∙ ap (λ (fields : List (Option Aim)). turned turns (goals_of fields)) fields_held)

    pub on_turned : Serves m mid → AreKnownTurns (length keys) turns → AreFloorTurns m turns → AreOn m (fields_of old keys) → AreOn m (fields_of new now)
    on_turned serves known floor on =
        on_serves m new now (serves_kept m mid new kept serves) (subst (AreFloor m) (sym goals_turned)
        (floor_turned m turns (goals_of (fields_of old keys)) (subst (λ (n : ℕ). AreKnownTurns n turns) (sym (length-goals old keys)) known) floor (floor_on m (fields_of old keys) on)))
