-- What a visit does to labels, and from visits to the whole search.
use Rattle.std.proofs.Common.{◌≡◌, ◌≢◌, ℕ, ◌+◌, ◌-◌, ◌%◌, ◌<◌, ◌≤◌, inl, inr, List, [], ◌∷◌, ◌++◌, length, set, slice_index, refl, sym, ap, subst, ◌∙◌, arith}
use Rattle.std.proofs.lemmas.Bool.{cases_eq}
use Rattle.std.proofs.lemmas.List.{get_or-set_same, get_or-set_other, length-set}
use Rattle.std.proofs.lemmas.List.Elements.{Contains-get_or}
use Rattle.fleet_grid.specs.Padded.{IsOpen}
use Rattle.fleet_field.specs.inside.Search.{IsBeside, IsLink, IsWalled, IsVisit, Search, Keeps, Extends, SameWalls}
use Rattle.fleet_field.specs.inside.Labels.{label, IsClosed, IsLabel, AreLabels, IsReady, IsVisited, IsAround, Leaves, Spreads, Runs, IsSearched}
use Rattle.fleet_field.proofs.Spread.{begins, ends, extends_on, extends_same, kept, keeps_same, keeps_set, was_open, was_link, still_done, visited, around_extends, around_reached}
use Rattle.fleet_field.proofs.Whole.{first_walls, first_start, first_search, first_count, only_goal, walls_on, only_on, start_on, finished}

some_label : (level : ℕ) → label level ≢ 0
some_label level e = omega (arith, e)

-- an open place next to an open one has the label 0 exactly where it is not reached
module _ (stride at place : ℕ) (dist labels : List ℕ) (are : AreLabels stride dist labels) (here : IsOpen dist at) (inside : place < length dist) (side : IsBeside stride place at) where
  is_far : slice_index labels place ≡ 0 → slice_index dist place ≡ 4294967295
  is_far none = elim (are.each place inside) [
    | inl far ↦ far.0
    | inr (inl near) ↦ absurd (some_label (slice_index dist place) (sym near.1 ∙ none))
    | inr (inr shut) ↦ absurd (omega (arith, shut.0, none))
  ]

  not_far : slice_index labels place ≢ 0 → slice_index dist place ≢ 4294967295
  not_far some far = elim (are.each place inside) [
    | inl it ↦ some it.1
    | inr (inl near) ↦ omega (arith, near.0, far)
    | inr (inr shut) ↦ shut.1 at (record { from = (inside, λ w. omega (arith, w, far)); to = here; side = side })
  ]

-- what is closed stays closed, and other labels stay
still_label : (stride level v l : ℕ) (dist new : List ℕ) → level < 4294967294 → Keeps dist new level → slice_index new v ≡ slice_index dist v → IsLabel stride dist v l → IsLabel stride new v l
still_label stride level v l dist new small keeps same (inl far) = inl (same ∙ far.0, far.1)
still_label stride level v l dist new small keeps same (inr (inl near)) = inr (inl (omega (arith, same, near.0), near.1 ∙ ap label (sym same)))
still_label stride level v l dist new small keeps same (inr (inr shut)) = inr (inr (shut.0, λ u link. shut.1 u (was_link dist new stride level v u small keeps link)))

labels_set : (stride level place mark : ℕ) (dist labels : List ℕ) → level < 4294967294 → mark ≡ label level → AreLabels stride dist labels → place < length dist → slice_index dist place ≡ 4294967295
    → AreLabels stride (set dist place level) (set labels place mark)
labels_set stride level place mark dist labels small is are inside far = record {
  len = length-set labels place mark ∙ (are.len ∙ sym (length-set dist place level));
  each = λ v below. elim (cases_eq v place) [
    | inl e ↦ subst (λ (u : ℕ). IsLabel stride (set dist place level) u (slice_index (set labels place mark) u)) (sym e)
        (inr (inl (
          subst (λ (d : ℕ). d < 4294967294) (sym (get_or-set_same dist place level 0 inside)) small,
          get_or-set_same labels place mark 0 (omega (arith, inside, are.len)) ∙ (is ∙ ap label (sym (get_or-set_same dist place level 0 inside))),
        )))
    | inr ne ↦ subst (IsLabel stride (set dist place level) v) (sym (get_or-set_other labels place v mark 0 ne))
        (still_label stride level v (slice_index labels v) dist (set dist place level) small (keeps_set dist place level inside far) (get_or-set_other dist place v level 0 ne) (are.each v (omega (arith, below, length-set dist place level))))
  ];
}

-- a visit of labels is a visit of distances
visit_by : (stride level at place mark : ℕ) (dist labels front news next : List ℕ) → level < 4294967294 → mark ≡ label level → AreLabels stride dist labels → IsOpen dist at → place < length dist → IsBeside stride place at
    → IsVisited labels front place mark news next → (new : List ℕ) × IsVisit dist front place level new next × AreLabels stride new news
visit_by stride level at place mark dist labels front news next small is are here inside side (inl old) =
    (dist, inl (not_far stride at place dist labels are here inside side old.0, refl, old.2), subst (AreLabels stride dist) (sym old.1) are)
visit_by stride level at place mark dist labels front news next small is are here inside side (inr fresh) =
    let far = is_far stride at place dist labels are here inside side fresh.0 in
    (set dist place level, inr (far, refl, fresh.2), subst (AreLabels stride (set dist place level)) (sym fresh.1) (labels_set stride level place mark dist labels small is are inside far))

visit_keeps : (place level : ℕ) (dist front new next : List ℕ) → place < length dist → IsVisit dist front place level new next → Keeps dist new level
visit_keeps place level dist front new next inside (inl old) = subst (λ (xs : List ℕ). Keeps dist xs level) (sym old.1) (keeps_same dist level)
visit_keeps place level dist front new next inside (inr fresh) = subst (λ (xs : List ℕ). Keeps dist xs level) (sym fresh.1) (keeps_set dist place level inside fresh.0)

-- the place `at` of the level is open, and stays so
module _ (stride level at mark : ℕ) (dist labels from : List ℕ) (small : level + 1 < 4294967294) (is : mark ≡ label (level + 1)) (here : slice_index dist at ≡ level) (s : Search dist stride level (level + 1) from) (are : AreLabels stride dist labels)
    (step : 0 < stride) (above : stride ≤ at) (below : at + stride < length dist) where
  open_at : (new : List ℕ) → length new ≡ length dist → slice_index new at ≡ level → IsOpen new at
  open_at new len e = (omega (arith, len, below), λ w. omega (arith, e, w, small))

  on : (new news : List ℕ) (place : ℕ) (front later next : List ℕ) → length new ≡ length dist → slice_index new at ≡ level → AreLabels stride new news → place < length dist → IsBeside stride place at → IsVisited news front place mark later next
      → (new' : List ℕ) × IsVisit new front place (level + 1) new' next × AreLabels stride new' later × (length new' ≡ length dist) × (slice_index new' at ≡ level)
  on new news place front later next len e l inside side v =
      let it = visit_by stride (level + 1) at place mark new news front later next small is l (open_at new len e) (omega (arith, inside, len)) side v in
      let keeps = visit_keeps place (level + 1) new front it.0 next (omega (arith, inside, len)) it.1 in
      (it.0, it.1, it.2, keeps.len ∙ len, kept new it.0 (level + 1) at keeps (λ w. omega (arith, w, e, small)) ∙ e)

  pub around_by : (l1 f1 l2 f2 l3 f3 l4 f4 : List ℕ) → IsVisited labels from (at - stride) mark l1 f1 → IsVisited l1 f1 (at + 1) mark l2 f2 → IsVisited l2 f2 (at + stride) mark l3 f3 → IsVisited l3 f3 (at - 1) mark l4 f4
      → (new : List ℕ) × Extends stride level dist from new f4 × AreLabels stride new l4 × ((v : ℕ) → IsLink new stride at v → slice_index new v ≤ level + 1)
  around_by l1 f1 l2 f2 l3 f3 l4 f4 v1 v2 v3 v4 =
      let a = on dist labels (at - stride) from l1 f1 refl here are (omega (arith, below)) (inr (inl (omega (arith, above)))) v1 in
      let b = on a.0 l1 (at + 1) f1 l2 f2 a.3 a.4 a.2 (omega (arith, below, step)) (inr (inr refl)) v2 in
      let c = on b.0 l2 (at + stride) f2 l3 f3 b.3 b.4 b.2 below (inl (inl refl)) v3 in
      let d = on c.0 l3 (at - 1) f3 l4 f4 c.3 c.4 c.2 (omega (arith, below)) (inl (inr (omega (arith, above, step)))) v4 in (
        d.0,
        around_extends stride level at dist from a.0 f1 b.0 f2 c.0 f3 d.0 f4 small step above below a.3 (b.3 ∙ sym a.3) (c.3 ∙ sym b.3) a.1 b.1 c.1 d.1 s here,
        d.2,
        around_reached stride level at dist from a.0 f1 b.0 f2 c.0 f3 d.0 f4 small step above below a.3 (b.3 ∙ sym a.3) (c.3 ∙ sym b.3) a.1 b.1 c.1 d.1 s here,
      )

-- one more place of the front was left
pub leaves_on : (stride level n mark : ℕ) (old now dist next labels next' news : List ℕ) → level + 1 < 4294967294 → mark ≡ label (level + 1) → n < length now → Search old stride level level now → Leaves stride level old now n dist next labels
    → IsAround labels next stride (slice_index now n) mark news next' → (new : List ℕ) × Leaves stride level old now (n + 1) new next' news
leaves_on stride level n mark old now dist next labels next' news small is below s l around =
    let here = s.is_level (slice_index now n) (Contains-get_or now n 0 below) in
    let at : slice_index dist (slice_index now n) ≡ level = kept old dist (level + 1) (slice_index now n) l.extends.keeps (λ w. omega (arith, here.1, w, small)) ∙ here.1 in
    let g = around level dist small is at l.extends.search l.labels in (
      g.0,
      record {
        extends = extends_on stride level old [] dist next g.0 next' small l.extends g.1;
        labels = g.2;
        done = λ k under v link. elim (cases_eq k n) [
          | inl e ↦ g.3 v (subst (λ (j : ℕ). IsLink g.0 stride (slice_index now j) v) e link)
          | inr ne ↦ still_done stride level (slice_index now k) v dist next g.0 next' small g.1 (l.done k (grind (arith, under, ne))) link
        ];
      },
    )

pub leaves_none : (stride level : ℕ) (old now labels : List ℕ) → level + 1 < 4294967294 → Search old stride level level now → AreLabels stride old labels → Leaves stride level old now 0 old [] labels
leaves_none stride level old now labels small s are = record { extends = begins stride level old now small s; labels = are; done = λ k below v link. absurd (omega (arith, below)) }

pub spreads : (stride level : ℕ) (old now new next news : List ℕ) → level + 1 < 4294967294 → Search old stride level level now → Leaves stride level old now (length now) new next news → Spreads stride level old new next news
spreads stride level old now new next news small s l = record {
  search = ends stride level old now new next small s l.extends l.done;
  keeps = l.extends.keeps;
  count = (let c = l.extends.count in omega (arith, c));
  labels = l.labels;
}

-- before the search
module _ (blank : List ℕ) (stride goal : ℕ) (unseen : List ℕ) (r : IsReady blank stride goal unseen) where
  walls : SameWalls blank (set blank goal 0)
  walls = first_walls blank stride goal r.walled r.far r.start

  pub first_runs : Runs blank stride goal 0 ([] ++ goal ∷ []) (set unseen goal 1)
  first_runs = record {
    dist = set blank goal 0;
    search = first_search blank stride goal r.walled r.far r.start;
    walls = walls;
    start = first_start blank stride goal r.walled r.far r.start;
    only = only_goal blank stride goal r.walled r.far r.start;
    count = first_count blank stride goal r.walled r.far r.start;
    labelled = labels_set stride 0 goal 1 blank unseen (omega arith) refl r.unseen r.start.0 (r.far goal r.start);
  }

-- a level more
pub runs_on : (blank : List ℕ) (stride goal level : ℕ) (now labels next news : List ℕ) → length blank < 1073741824 → 0 < length now → (r : Runs blank stride goal level now labels) → (new : List ℕ) → Spreads stride level r.dist new next news → Runs blank stride goal (level + 1) next news
runs_on blank stride goal level now labels next news size some r new s =
    let few = r.count in
    let n = s.count in
    let small : level + 1 < 4294967294 = omega (arith, few, size) in
    record {
      dist = new;
      search = s.search;
      walls = walls_on blank r.dist new (level + 1) small r.walls s.keeps;
      start = start_on r.dist new goal (level + 1) r.start s.keeps;
      only = only_on r.dist new goal level small r.only s.keeps;
      count = omega (arith, few, some, n);
      labelled = s.labels;
    }

pub runs_small : (blank : List ℕ) (stride goal level : ℕ) (now labels : List ℕ) → length blank < 1073741824 → Runs blank stride goal level now labels → level + 1 < 4294967294
runs_small blank stride goal level now labels size r = let few = r.count in omega (arith, few, size)

-- each place of the front has four in the list
pub runs_inside : (blank : List ℕ) (stride goal level : ℕ) (now labels : List ℕ) → length blank < 1073741824 → Runs blank stride goal level now labels → (k : ℕ) → k < length now → (stride ≤ slice_index now k) × (slice_index now k + stride < length labels)
runs_inside blank stride goal level now labels size r k below =
    let few = r.count in
    let here = r.search.is_level (slice_index now k) (Contains-get_or now k 0 below) in
    let i = r.search.walled (slice_index now k) (here.0, λ w. omega (arith, here.1, w, few, size)) in
    (i.0, omega (arith, i.1, r.labelled.len))

-- where no front is left, the labels are those of the distances
pub searched : (blank : List ℕ) (stride goal level : ℕ) (labels : List ℕ) → Runs blank stride goal level [] labels → IsSearched blank stride goal labels
searched blank stride goal level labels r = record {
  dist = r.dist;
  levels = finished r.dist stride goal level r.search r.start r.only (let few = r.count in omega (arith, few, r.walls.len));
  walls = r.walls;
  labelled = r.labelled;
}

pub no_items : (xs : List ℕ) → length xs ≡ 0 → xs ≡ []
no_items [] e = refl
no_items (x ∷ xs) e = absurd (omega (arith, e))
