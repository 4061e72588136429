-- What a whole field knows, from step to step.
use Rattle.std.proofs.Common.{◌≡◌, ◌≢◌, ℕ, zero, suc, ◌+◌, ◌%◌, ◌<◌, inr, List, [], ◌∷◌, ◌++◌, length, set, get_or, slice_index, replicate, take, refl, sym, ap, subst, ◌∙◌, arith}
use Rattle.std.specs.List.{Contains}
use Rattle.std.proofs.lemmas.List.Elements.{Contains-push}
use Rattle.fleet_grid.specs.declared.dir.Dir.{Dir}
use Rattle.fleet_grid.specs.Floor.{Floor, IsFloor, cell_across}
use Rattle.fleet_grid.proofs.Edges.{beside_across}
use Rattle.fleet_grid.proofs.Forms.{floor_inside, wide}
use Rattle.fleet_grid.specs.Ways.{IsWay, AreOpen}
use Rattle.std.proofs.lemmas.List.{get_or_past}
use Rattle.fleet_field.specs.declared.target.Target.{Target}
use Rattle.fleet_field.specs.declared.growing.GrowingField.{GrowingField}
use Rattle.fleet_field.specs.Growing.{Serves, search_of}
use Rattle.fleet_field.specs.inside.Left.{Search, IsSpread}
use Rattle.fleet_field.specs.inside.Known.{IsWithin, IsAt, IsKnown, label}
use Rattle.fleet_field.proofs.Searches.{next_known, swept, skipped, taken, lifted, all_left}

-- nothing is known yet, and the goal waits
pub begun : (m : Floor) (t : Target) (aimed : ℕ) (labels now next later : List ℕ) → length labels ≡ length m.letters → ((v : ℕ) → slice_index labels v ≡ 0) → IsFloor m aimed
    → now ≡ [] → next ≡ aimed ∷ [] → later ≡ [] → IsKnown m t aimed 0 (record { labels = labels; now = now; next = next; later = later })
begun m t aimed labels now next later size none f free one empty = record {
  size = size;
  right = λ v come. absurd (come (none v));
  before = λ v j less within. absurd (omega (arith, less));
  start = inr (subst (λ (xs : List ℕ). Contains xs aimed) (sym one) (0, omega arith, refl));
  onward = λ u v n lu lv. absurd (lu (none u));
  now_right = λ v c. absurd (nobody v (subst (λ (xs : List ℕ). Contains xs v) free c));
  next_right = λ v c. only v (subst (λ (xs : List ℕ). Contains xs v) one c);
  later_right = λ v c. absurd (nobody v (subst (λ (xs : List ℕ). Contains xs v) empty c));
}
  where
    nobody : (v : ℕ) → Contains [] v → ⊥
    nobody v c = omega (arith, c.1)

    goal_within : IsWithin m t aimed aimed 0
    goal_within = record { walk = []; leads = refl; short = omega arith }

    is_goal : (v k : ℕ) → k < length (aimed ∷ []) → get_or (aimed ∷ []) k v ≡ v → v ≡ aimed
    is_goal v zero l e = sym e
    is_goal v (suc k) l e = absurd (omega (arith, l))

    only : (v : ℕ) → Contains (aimed ∷ []) v → IsFloor m v × IsWithin m t aimed v 0
    only v c = (let e = is_goal v c.0 c.1 c.2 in (subst (IsFloor m) (sym e) f, subst (λ (x : ℕ). IsWithin m t aimed x 0) (sym e) goal_within))

pub turned_mark : (mark k : ℕ) → mark ≡ label k → 1 + mark % 2 ≡ label (k + 1)
turned_mark mark k e = omega (arith, e)

replicate_zero : (n v : ℕ) → slice_index (replicate n 0) v ≡ 0
replicate_zero zero v = get_or_past [] v 0 (omega arith)
replicate_zero (suc n) zero = refl
replicate_zero (suc n) (suc v) = replicate_zero n v

-- all labels are 0 at first
pub labels_zero : (old new : List ℕ) (n k : ℕ) → old ≡ [] → new ≡ take n old ++ replicate k 0 → (v : ℕ) → slice_index new v ≡ 0
labels_zero old new n k none made v = ap (λ (xs : List ℕ). slice_index xs v) (made ∙ ap (λ (xs : List ℕ). take n xs ++ replicate k 0) none) ∙ cut n
  where
    cut : (i : ℕ) → slice_index (take i [] ++ replicate k 0) v ≡ 0
    cut zero = replicate_zero k v
    cut (suc i) = replicate_zero k v

module _ {A : Type 0} (m : Floor) (f g : GrowingField A) (s : Serves m f) where
  pub target_wide : 0 < f.target.width
  target_wide = let w = wide m f.goal s.form s.goal in let e = s.width in omega (arith, w, e)

  -- a field with this goal and target that knows what is known here
  pub serves_by : g.goal ≡ f.goal → g.target ≡ f.target → (k : ℕ) → g.mark ≡ label k → (w : Search) → IsKnown m f.target f.goal k w → search_of g ≡ w → Serves m g
  serves_by goal target k mark w known e = record {
    form = s.form;
    goal = subst (IsFloor m) (sym goal) s.goal;
    width = ap (λ (t : Target). t.width) target ∙ s.width;
    steps = k;
    mark = mark;
    known = rw (goal, target, e) known;
  }

  pub onward_serves : f.now.items ≡ [] → f.next.items ≡ [] → g.goal ≡ f.goal → g.target ≡ f.target → g.mark ≡ 1 + f.mark % 2
      → search_of g ≡ record { labels = f.labels.items; now = f.now.items; next = f.later.items; later = f.next.items } → Serves m g
  onward_serves none empty goal target mark e =
      serves_by goal target (s.steps + 1) (mark ∙ turned_mark f.mark s.steps s.mark) (record { labels = f.labels.items; now = f.now.items; next = f.later.items; later = f.next.items })
      (next_known m f.target f.goal target_wide s.width s.steps (search_of f) s.known none empty) e

  pub later_inside : (v : ℕ) → Contains f.later.items v → v < length f.labels.items
  later_inside v c = let i = floor_inside m v (s.known.later_right v c).0 in let e = s.known.size in omega (arith, i, e)

  pub swept_serves : (rest : List ℕ) → ((v : ℕ) → Contains f.later.items v → slice_index f.labels.items v ≡ 0 → Contains rest v) → ((v : ℕ) → Contains rest v → Contains f.later.items v)
      → g.goal ≡ f.goal → g.target ≡ f.target → g.mark ≡ f.mark → search_of g ≡ record { labels = f.labels.items; now = f.now.items; next = f.next.items; later = rest } → Serves m g
  swept_serves rest kept only goal target mark e =
      serves_by goal target s.steps (mark ∙ s.mark) (record { labels = f.labels.items; now = f.now.items; next = f.next.items; later = rest })
      (swept m f.target f.goal target_wide s.width s.steps (search_of f) s.known rest kept only) e

  -- a cell that waits
  module _ (rest : List ℕ) (cell : ℕ) (popped : f.next.items ≡ rest ++ cell ∷ []) where
    pub waiting_floor : IsFloor m cell
    waiting_floor = (s.known.next_right cell (subst (λ (xs : List ℕ). Contains xs cell) (sym popped) (Contains-push rest cell))).0

    pub waiting_inside : cell < length f.labels.items
    waiting_inside = let i = floor_inside m cell waiting_floor in let e = s.known.size in omega (arith, i, e)

    pub skipped_serves : slice_index f.labels.items cell ≢ 0 → g.goal ≡ f.goal → g.target ≡ f.target → g.mark ≡ f.mark
        → search_of g ≡ record { labels = f.labels.items; now = f.now.items; next = rest; later = f.later.items } → Serves m g
    skipped_serves come goal target mark e =
        serves_by goal target s.steps (mark ∙ s.mark) (record { labels = f.labels.items; now = f.now.items; next = rest; later = f.later.items })
        (skipped m f.target f.goal target_wide s.width s.steps (search_of f) s.known rest cell popped come) e

    pub taken_serves : slice_index f.labels.items cell ≡ 0 → g.goal ≡ f.goal → g.target ≡ f.target → g.mark ≡ f.mark
        → search_of g ≡ record { labels = set f.labels.items cell f.mark; now = f.now.items ++ cell ∷ []; next = rest; later = f.later.items } → Serves m g
    taken_serves unseen goal target mark e =
        serves_by goal target s.steps (mark ∙ s.mark) (record { labels = set f.labels.items cell (label s.steps); now = f.now.items ++ cell ∷ []; next = rest; later = f.later.items })
        (taken m f.target f.goal target_wide s.width s.steps (search_of f) s.known rest cell popped unseen waiting_inside)
        (e ∙ ap (λ (x : ℕ). record { labels = set f.labels.items cell x; now = f.now.items ++ cell ∷ []; next = rest; later = f.later.items }) s.mark)

  -- a cell that is still to be left
  module _ (rest : List ℕ) (cell : ℕ) (popped : f.now.items ≡ rest ++ cell ∷ []) where
    pub last_right : IsFloor m cell × IsAt m f.target f.goal cell s.steps
    last_right = s.known.now_right cell (subst (λ (xs : List ℕ). Contains xs cell) (sym popped) (Contains-push rest cell))

    pub last_inside : cell < length f.labels.items
    last_inside = let i = floor_inside m cell last_right.0 in let e = s.known.size in omega (arith, i, e)

    pub spread_inside : (ways : ℕ) → AreOpen m cell ways → (dir : Dir) → IsWay ways dir → cell_across f.target.width cell dir < length f.labels.items
    spread_inside ways ways_open dir way =
        let o = (ways_open dir).0 way in
        let i = floor_inside m o.0 o.1.to in
        let e : o.0 ≡ cell_across f.target.width cell dir = beside_across m.width dir cell o.0 o.1.beside ∙ ap (λ (x : ℕ). cell_across x cell dir) (sym s.width) in
        let size = s.known.size in
        omega (arith, i, e, size)

    pub spread_serves : (ways : ℕ) (before : Search) → AreOpen m cell ways → before ≡ record { labels = f.labels.items; now = rest; next = f.next.items; later = f.later.items }
        → IsSpread f.target ways f.mark cell before (search_of g) → g.goal ≡ f.goal → g.target ≡ f.target → g.mark ≡ f.mark → Serves m g
    spread_serves ways before ways_open b left goal target mark =
        serves_by goal target s.steps (mark ∙ s.mark) (search_of g)
        (all_left m f.target f.goal target_wide s.width s.steps cell ways f.mark (record { labels = f.labels.items; now = rest; next = f.next.items; later = f.later.items }) (search_of g) s.mark
        (subst (λ (x : Search). IsSpread f.target ways f.mark cell x (search_of g)) b left) last_right.1 ways_open
        (lifted m f.target f.goal target_wide s.width s.steps (search_of f) s.known rest cell popped)) refl
