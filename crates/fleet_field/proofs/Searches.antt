-- The search goes on: what it knows stays so.
use Rattle.std.proofs.Common.{◌≡◌, ◌≢◌, ℕ, zero, suc, ◌+◌, ◌*◌, ◌<◌, ◌≤◌, ◌⊎◌, inl, inr, List, [], ◌∷◌, ◌++◌, length, set, get_or, slice_index, refl, sym, ap, subst, ◌∙◌, arith}
use Rattle.std.specs.List.{Contains}
use Rattle.std.proofs.lemmas.Bool.{cases_eq, cases_lt}
use Rattle.std.proofs.lemmas.List.{get_or-set_same, get_or-set_other, length-set}
use Rattle.std.proofs.lemmas.List.Elements.{Contains-append_left, Contains-push, Contains-push_cases}
use Rattle.std.proofs.lemmas.List.Sums.{sum_by-set}
use Rattle.fleet_grid.specs.declared.dir.Dir.{Dir}
use Rattle.fleet_grid.specs.declared.dir.Dir.TheVariants.{North, East, South, West}
use Rattle.fleet_grid.specs.Floor.{Floor, IsFloor, IsBeside, IsNeighbour, IsNeighbourIn, cell_across}
use Rattle.fleet_grid.specs.Walk.{Walks}
use Rattle.fleet_grid.specs.Ways.{IsWay, AreOpen}
use Rattle.fleet_grid.proofs.Edges.{neighbour_back, beside_across}
use Rattle.fleet_grid.proofs.Forms.{floor_inside}
use Rattle.fleet_field.specs.declared.target.Target.{Target}
use Rattle.fleet_field.specs.inside.Estimate.{estimate, IsToward}
use Rattle.fleet_field.specs.inside.Left.{Search, IsNew, IsLeft, IsSpread}
use Rattle.fleet_field.specs.inside.Known.{IsWithin, IsAt, IsLeaving, IsKnown, label, is_zero, zero_count}
use Rattle.fleet_field.proofs.Estimates.{estimate_toward, estimate_away, neighbour_step}

pub long : (c : ℕ) (cs : List ℕ) → length (c ∷ cs) ≡ length cs + 1
long c cs = grind arith

pub none_waits : (xs : List ℕ) (v : ℕ) → xs ≡ [] → Contains xs v → ⊥
none_waits xs v e h = let n : length xs ≡ 0 = ap (λ (ys : List ℕ). length ys) e in omega (arith, h.1, n)

-- the first of a list, or one after it
first_or : (x : Dir) (xs : List Dir) (y : Dir) → Contains (x ∷ xs) y → (x ≡ y) ⊎ Contains xs y
first_or x xs y c = go c.0 c.1 c.2
  where
    go : (i : ℕ) → i < length (x ∷ xs) → get_or (x ∷ xs) i y ≡ y → (x ≡ y) ⊎ Contains xs y
    go zero l e = inl e
    go (suc i) l e = inr (i, omega (arith, l), e)

every : (d : Dir) → Contains (South ∷ West ∷ North ∷ East ∷ []) d
every South = (0, omega arith, refl)
every West = (1, omega arith, refl)
every North = (2, omega arith, refl)
every East = (3, omega arith, refl)

-- one label more
new_here : (labels : List ℕ) (c k : ℕ) → c < length labels → slice_index (set labels c (label k)) c ≡ label k
new_here labels c k inside = get_or-set_same labels c (label k) 0 inside

new_other : (labels : List ℕ) (c k v : ℕ) → v ≢ c → slice_index (set labels c (label k)) v ≡ slice_index labels v
new_other labels c k v ne = get_or-set_other labels c v (label k) 0 ne

new_stays : (labels : List ℕ) (c k : ℕ) → slice_index labels c ≡ 0 → (v : ℕ) → slice_index labels v ≢ 0 → slice_index (set labels c (label k)) v ≢ 0
new_stays labels c k unseen v come e = come (sym (new_other labels c k v (λ q. come (ap (slice_index labels) q ∙ unseen))) ∙ e)

new_not : (labels : List ℕ) (c k : ℕ) → c < length labels → (v : ℕ) → slice_index (set labels c (label k)) v ≡ 0 → v ≢ c
new_not labels c k inside v e q = (let l = new_here labels c k inside in let z : slice_index (set labels c (label k)) c ≡ 0 = ap (slice_index (set labels c (label k))) (sym q) ∙ e in omega (arith, l, z))

module _ (m : Floor) (t : Target) (aimed : ℕ) (pos : 0 < t.width) (same : t.width ≡ m.width) where
  -- each walk has exactly this many steps away
  pub away_of : (v : ℕ) (walk : List ℕ) → Walks (IsNeighbour m) v walk aimed → (a : ℕ) × (length walk + estimate t v ≡ estimate t aimed + 2 * a)
  away_of v [] w = (0, (let e : estimate t v ≡ estimate t aimed = ap (estimate t) w in omega (arith, e)))
  away_of v (c ∷ cs) w =
      let rest = away_of c cs w.1 in
      let e = long c cs in
      let r = rest.1 in
      elim (neighbour_step m t v c pos same w.0) [
        | inl near ↦ (rest.0 + 1, omega (arith, r, near, e))
        | inr far ↦ (rest.0, omega (arith, r, far, e))
      ]

  pub within_toward : (u v k : ℕ) → IsNeighbour m u v → IsWithin m t aimed u k → estimate t v + 1 ≡ estimate t u → IsWithin m t aimed v k
  within_toward u v k n w near = record {
    walk = u ∷ w.walk;
    leads = (neighbour_back m u v n, w.leads);
    short = (let e = long u w.walk in let s = w.short in omega (arith, e, s, near));
  }

  pub within_away : (u v k : ℕ) → IsNeighbour m u v → IsWithin m t aimed u k → estimate t v ≡ estimate t u + 1 → IsWithin m t aimed v (k + 1)
  within_away u v k n w far = record {
    walk = u ∷ w.walk;
    leads = (neighbour_back m u v n, w.leads);
    short = (let e = long u w.walk in let s = w.short in omega (arith, e, s, far));
  }

  pub within_more : (v j k : ℕ) → j ≤ k → IsWithin m t aimed v j → IsWithin m t aimed v k
  within_more v j k le w = record { walk = w.walk; leads = w.leads; short = (let s = w.short in omega (arith, s, le)) }

  module _ (k : ℕ) (s : Search) where
    -- a cell that has no label and no more steps away has exactly these
    exact : (cell : ℕ) (dirs : List Dir) → IsLeaving m t aimed k s cell dirs → (v : ℕ) → IsWithin m t aimed v k → slice_index s.labels v ≡ 0 → IsAt m t aimed v k
    exact cell dirs known v within e = record {
      within = within;
      least = λ walk leads. (
          let a = away_of v walk leads in
          let p = a.1 in
          elim (cases_lt a.0 k) [
            | inl less ↦ absurd (known.before v a.0 less (record { walk = walk; leads = leads; short = omega (arith, p) }) e)
            | inr more ↦ omega (arith, p, more)
          ]);
    }

    -- no direction is left to go
    pub whole : (cell : ℕ) → IsLeaving m t aimed k s cell [] → IsKnown m t aimed k s
    whole cell known = record {
      size = known.size;
      right = known.right;
      before = known.before;
      start = known.start;
      onward = λ u v n lu lv. elim (known.onward u v n lu lv) [
        | inl a ↦ inl a
        | inr r ↦ elim r [ inl b ↦ inr (inl b) | inr q ↦ elim q [ inl d ↦ inr (inr (inl d)) | inr p ↦ absurd (omega (arith, p.2.1)) ] ]
      ];
      now_right = known.now_right;
      next_right = known.next_right;
      later_right = known.later_right;
    }

    module _ (known : IsKnown m t aimed k s) where
      -- for a cell with a label and a neighbour without
      beyond : (u v : ℕ) → IsNeighbour m u v → slice_index s.labels u ≢ 0 → slice_index s.labels v ≡ 0
          → Contains s.now u ⊎ (Contains s.next v ⊎ (IsAt m t aimed u k × (estimate t v ≡ estimate t u + 1) × Contains s.later v))
      beyond u v n lu lv = elim (known.onward u v n lu lv) [
        | inl a ↦ inl a
        | inr r ↦ elim r [ inl b ↦ inr (inl b) | inr q ↦ elim q [ inl d ↦ inr (inr d) | inr p ↦ absurd (omega (arith, p.2.1)) ] ]
      ]

      -- where none waits, it has come to all cells with this many steps away or fewer
      pub complete : s.now ≡ [] → s.next ≡ [] → (v : ℕ) (walk : List ℕ) → Walks (IsNeighbour m) v walk aimed → length walk + estimate t v ≤ estimate t aimed + 2 * k → slice_index s.labels v ≢ 0
      complete none empty v [] leads short e = elim known.start [
        | inl l ↦ l (ap (slice_index s.labels) (sym leads) ∙ e)
        | inr c ↦ none_waits s.next aimed empty c
      ]
      complete none empty v (c ∷ cs) leads short e =
          let n = long c cs in
          let back = neighbour_back m v c leads.0 in
          elim (neighbour_step m t v c pos same leads.0) [
            | inl near ↦ (
                let a = away_of c cs leads.1 in
                let p = a.1 in
                let less : a.0 < k = omega (arith, p, near, n, short) in
                let come = known.before c a.0 less (record { walk = cs; leads = leads.1; short = omega (arith, p) }) in
                elim (beyond c v back come e) [
                  | inl h ↦ none_waits s.now c none h
                  | inr r ↦ elim r [
                    | inl h ↦ none_waits s.next v empty h
                    | inr q ↦ (let l = q.0.least cs leads.1 in omega (arith, l, p, less))
                  ]
                ])
            | inr far ↦ (
                let come = complete none empty c cs leads.1 (omega (arith, far, n, short)) in
                elim (beyond c v back come e) [
                  | inl h ↦ none_waits s.now c none h
                  | inr r ↦ elim r [
                    | inl h ↦ none_waits s.next v empty h
                    | inr q ↦ (let f = q.1 in omega (arith, f, far))
                  ]
                ])
          ]

      -- and the next to which it comes are those that wait for later
      pub next_known : s.now ≡ [] → s.next ≡ [] → IsKnown m t aimed (k + 1) (record s { next = s.later; later = s.next })
      next_known none empty = record {
        size = known.size;
        right = λ v come. (let r = known.right v come in let l = r.1 in (r.0, omega (arith, l), r.2, r.3));
        before = λ v j less within. complete none empty v within.walk within.leads (let h = within.short in omega (arith, h, less));
        start = elim known.start [ inl l ↦ inl l | inr c ↦ absurd (none_waits s.next aimed empty c) ];
        onward = λ u v n lu lv. elim (beyond u v n lu lv) [
          | inl c ↦ absurd (none_waits s.now u none c)
          | inr r ↦ elim r [ inl c ↦ absurd (none_waits s.next v empty c) | inr p ↦ inr (inl p.2) ]
        ];
        now_right = λ v c. absurd (none_waits s.now v none c);
        next_right = known.later_right;
        later_right = λ v c. absurd (none_waits s.next v empty c);
      }

      -- what is known does not rest on cells with labels that wait
      pub swept : (rest : List ℕ) → ((v : ℕ) → Contains s.later v → slice_index s.labels v ≡ 0 → Contains rest v) → ((v : ℕ) → Contains rest v → Contains s.later v) → IsKnown m t aimed k (record s { later = rest })
      swept rest kept only = record {
        size = known.size;
        right = known.right;
        before = known.before;
        start = known.start;
        onward = λ u v n lu lv. elim (beyond u v n lu lv) [
          | inl a ↦ inl a
          | inr r ↦ elim r [ inl c ↦ inr (inl c) | inr d ↦ inr (inr (inl (d.0, d.1, kept v d.2 lv))) ]
        ];
        now_right = known.now_right;
        next_right = known.next_right;
        later_right = λ v c. known.later_right v (only v c);
      }

      -- where nothing waits at all, no walk leads from a cell without a label to the goal
      pub all_come : s.now ≡ [] → s.next ≡ [] → s.later ≡ [] → (v : ℕ) (walk : List ℕ) → Walks (IsNeighbour m) v walk aimed → slice_index s.labels v ≢ 0
      all_come none empty over v [] leads e = elim known.start [
        | inl l ↦ l (ap (slice_index s.labels) (sym leads) ∙ e)
        | inr c ↦ none_waits s.next aimed empty c
      ]
      all_come none empty over v (c ∷ cs) leads e =
          elim (beyond c v (neighbour_back m v c leads.0) (all_come none empty over c cs leads.1) e) [
            | inl h ↦ none_waits s.now c none h
            | inr r ↦ elim r [ inl h ↦ none_waits s.next v empty h | inr q ↦ none_waits s.later v over q.2 ]
          ]

      -- the last cell that waits is taken
      module _ (rest : List ℕ) (cell : ℕ) (popped : s.next ≡ rest ++ cell ∷ []) where
        cases_next : (v : ℕ) → Contains s.next v → Contains rest v ⊎ (cell ≡ v)
        cases_next v c = Contains-push_cases rest cell v (subst (λ (xs : List ℕ). Contains xs v) popped c)

        was_next : (v : ℕ) → Contains rest v → Contains s.next v
        was_next v c = subst (λ (xs : List ℕ). Contains xs v) (sym popped) (Contains-append_left rest (cell ∷ []) v c)

        waited : Contains s.next cell
        waited = subst (λ (xs : List ℕ). Contains xs cell) (sym popped) (Contains-push rest cell)

        -- it has a label
        pub skipped : slice_index s.labels cell ≢ 0 → IsKnown m t aimed k (record s { next = rest })
        skipped come = record {
          size = known.size;
          right = known.right;
          before = known.before;
          start = elim known.start [
            | inl l ↦ inl l
            | inr c ↦ elim (cases_next aimed c) [ inl r ↦ inr r | inr q ↦ inl (subst (λ (x : ℕ). slice_index s.labels x ≢ 0) q come) ]
          ];
          onward = λ u v n lu lv. elim (beyond u v n lu lv) [
            | inl a ↦ inl a
            | inr r ↦ elim r [
              | inl c ↦ elim (cases_next v c) [ inl b ↦ inr (inl b) | inr q ↦ absurd (come (ap (slice_index s.labels) q ∙ lv)) ]
              | inr d ↦ inr (inr (inl d))
            ]
          ];
          now_right = known.now_right;
          next_right = λ v c. known.next_right v (was_next v c);
          later_right = known.later_right;
        }

        -- it has none
        pub taken : slice_index s.labels cell ≡ 0 → cell < length s.labels
            → IsKnown m t aimed k (record s { labels = set s.labels cell (label k); now = s.now ++ cell ∷ []; next = rest })
        taken unseen inside =
            let at = exact 0 [] known cell (known.next_right cell waited).1 unseen in
            record {
              size = length-set s.labels cell (label k) ∙ known.size;
              right = λ v come. elim (cases_eq v cell) [
                | inl q ↦ (k, omega arith, subst (λ (x : ℕ). IsAt m t aimed x k) (sym q) at, ap (slice_index (set s.labels cell (label k))) q ∙ new_here s.labels cell k inside)
                | inr ne ↦ (let r = known.right v (λ e. come (new_other s.labels cell k v ne ∙ e)) in (r.0, r.1, r.2, new_other s.labels cell k v ne ∙ r.3))
              ];
              before = λ v j less within. new_stays s.labels cell k unseen v (known.before v j less within);
              start = elim known.start [
                | inl l ↦ inl (new_stays s.labels cell k unseen aimed l)
                | inr c ↦ elim (cases_next aimed c) [ inl r ↦ inr r | inr q ↦ inl (λ e. new_not s.labels cell k inside aimed e (sym q)) ]
              ];
              onward = λ u v n lu lv. elim (cases_eq u cell) [
                | inl q ↦ inl (subst (Contains (s.now ++ cell ∷ [])) (sym q) (Contains-push s.now cell))
                | inr ne ↦ elim (beyond u v n (λ e. lu (new_other s.labels cell k u ne ∙ e)) (sym (new_other s.labels cell k v (new_not s.labels cell k inside v lv)) ∙ lv)) [
                  | inl a ↦ inl (Contains-append_left s.now (cell ∷ []) u a)
                  | inr r ↦ elim r [
                    | inl c ↦ elim (cases_next v c) [ inl b ↦ inr (inl b) | inr q ↦ absurd (new_not s.labels cell k inside v lv (sym q)) ]
                    | inr d ↦ inr (inr (inl d))
                  ]
                ]
              ];
              now_right = λ v c. elim (Contains-push_cases s.now cell v c) [
                | inl a ↦ known.now_right v a
                | inr q ↦ (subst (IsFloor m) q (known.next_right cell waited).0, subst (λ (x : ℕ). IsAt m t aimed x k) q at)
              ];
              next_right = λ v c. known.next_right v (was_next v c);
              later_right = known.later_right;
            }

      -- the last cell that has a label is taken, and left in no direction yet
      pub lifted : (rest : List ℕ) (cell : ℕ) → s.now ≡ rest ++ cell ∷ [] → IsLeaving m t aimed k (record s { now = rest }) cell (South ∷ West ∷ North ∷ East ∷ [])
      lifted rest cell popped = record {
        size = known.size;
        right = known.right;
        before = known.before;
        start = known.start;
        onward = λ u v n lu lv. elim (beyond u v n lu lv) [
          | inl c ↦ elim (Contains-push_cases rest cell u (subst (λ (xs : List ℕ). Contains xs u) popped c)) [
            | inl a ↦ inl a
            | inr q ↦ inr (inr (inr (sym q, n.0, every n.0, subst (λ (x : ℕ). IsNeighbourIn m n.0 x v) (sym q) n.1)))
          ]
          | inr r ↦ elim r [ inl b ↦ inr (inl b) | inr d ↦ inr (inr (inl d)) ]
        ];
        now_right = λ v c. known.now_right v (subst (λ (xs : List ℕ). Contains xs v) (sym popped) (Contains-append_left rest (cell ∷ []) v c));
        next_right = known.next_right;
        later_right = known.later_right;
      }

    -- the cell is left in one direction more
    module _ (cell ways : ℕ) (dir : Dir) (dirs : List Dir) (known : IsLeaving m t aimed k s cell (dir ∷ dirs)) (at : IsAt m t aimed cell k) (ways_open : AreOpen m cell ways) where
      -- the neighbour in this direction
      lead : IsWay ways dir → IsNeighbourIn m dir cell (cell_across t.width cell dir)
      lead way =
          let o = (ways_open dir).0 way in
          subst (IsNeighbourIn m dir cell) (beside_across m.width dir cell o.0 o.1.beside ∙ ap (λ (x : ℕ). cell_across x cell dir) (sym same)) o.1

      side : (way : IsWay ways dir) → IsBeside t.width dir cell (cell_across t.width cell dir)
      side way = subst (λ (x : ℕ). IsBeside x dir cell (cell_across t.width cell dir)) (sym same) (lead way).beside

      -- what is still to come is this direction, or one after it
      to_come : (u v : ℕ) → slice_index s.labels v ≡ 0 → (u ≡ cell) × (d : Dir) × Contains (dir ∷ dirs) d × IsNeighbourIn m d cell v
          → (IsNew t ways cell dir s.labels × (v ≡ cell_across t.width cell dir)) ⊎ ((u ≡ cell) × (d : Dir) × Contains dirs d × IsNeighbourIn m d cell v)
      to_come u v lv p = elim (first_or dir dirs p.1 p.2) [
        | inr c ↦ inr (p.0, p.1, c, p.3)
        | inl e ↦ (
            let n : IsNeighbourIn m dir cell v = subst (λ (d : Dir). IsNeighbourIn m d cell v) (sym e) p.3 in
            let across : v ≡ cell_across t.width cell dir = beside_across m.width dir cell v n.beside ∙ ap (λ (x : ℕ). cell_across x cell dir) (sym same) in
            inl (record { way = (ways_open dir).1 (v, n); unseen = ap (slice_index s.labels) (sym across) ∙ lv }, across))
      ]

      -- nothing is new there
      pub none_left : (IsNew t ways cell dir s.labels → ⊥) → IsLeaving m t aimed k s cell dirs
      none_left none = record {
        size = known.size;
        right = known.right;
        before = known.before;
        start = known.start;
        onward = λ u v n lu lv. elim (known.onward u v n lu lv) [
          | inl a ↦ inl a
          | inr r ↦ elim r [
            | inl b ↦ inr (inl b)
            | inr q ↦ elim q [
              | inl d ↦ inr (inr (inl d))
              | inr p ↦ elim (to_come u v lv p) [ inl new ↦ absurd (none new.0) | inr p2 ↦ inr (inr (inr p2)) ]
            ]
          ]
        ];
        now_right = known.now_right;
        next_right = known.next_right;
        later_right = known.later_right;
      }

      -- the cell there is toward the target, and gets its label
      pub toward_left : (new : IsNew t ways cell dir s.labels) → IsToward t cell dir
          → IsLeaving m t aimed k (record s { labels = set s.labels (cell_across t.width cell dir) (label k); now = s.now ++ cell_across t.width cell dir ∷ [] }) cell dirs
      toward_left new near =
          let there : ℕ = cell_across t.width cell dir in
          let n = lead new.way in
          let inside : there < length s.labels = (let i = floor_inside m there n.to in let e = known.size in omega (arith, i, e)) in
          let is = exact cell (dir ∷ dirs) known there (within_toward cell there k (dir, n) at.within (estimate_toward t dir cell there pos (side new.way) near)) new.unseen in
          record {
            size = length-set s.labels there (label k) ∙ known.size;
            right = λ v come. elim (cases_eq v there) [
              | inl q ↦ (k, omega arith, subst (λ (x : ℕ). IsAt m t aimed x k) (sym q) is, ap (slice_index (set s.labels there (label k))) q ∙ new_here s.labels there k inside)
              | inr ne ↦ (let r = known.right v (λ e. come (new_other s.labels there k v ne ∙ e)) in (r.0, r.1, r.2, new_other s.labels there k v ne ∙ r.3))
            ];
            before = λ v j less within. new_stays s.labels there k new.unseen v (known.before v j less within);
            start = elim known.start [ inl l ↦ inl (new_stays s.labels there k new.unseen aimed l) | inr c ↦ inr c ];
            onward = λ u v n2 lu lv. elim (cases_eq u there) [
              | inl q ↦ inl (subst (Contains (s.now ++ there ∷ [])) (sym q) (Contains-push s.now there))
              | inr ne ↦ (
                  let other : slice_index s.labels v ≡ 0 = sym (new_other s.labels there k v (new_not s.labels there k inside v lv)) ∙ lv in
                  elim (known.onward u v n2 (λ e. lu (new_other s.labels there k u ne ∙ e)) other) [
                    | inl a ↦ inl (Contains-append_left s.now (there ∷ []) u a)
                    | inr r ↦ elim r [
                      | inl b ↦ inr (inl b)
                      | inr q ↦ elim q [
                        | inl d ↦ inr (inr (inl d))
                        | inr p ↦ elim (to_come u v other p) [ inl here ↦ absurd (new_not s.labels there k inside v lv here.1) | inr p2 ↦ inr (inr (inr p2)) ]
                      ]
                    ]
                  ])
            ];
            now_right = λ v c. elim (Contains-push_cases s.now there v c) [
              | inl a ↦ known.now_right v a
              | inr q ↦ (subst (IsFloor m) q n.to, subst (λ (x : ℕ). IsAt m t aimed x k) q is)
            ];
            next_right = known.next_right;
            later_right = known.later_right;
          }

      -- the cell there is away from it, and waits
      pub away_left : (new : IsNew t ways cell dir s.labels) → (IsToward t cell dir → ⊥)
          → IsLeaving m t aimed k (record s { later = s.later ++ cell_across t.width cell dir ∷ [] }) cell dirs
      away_left new far =
          let there : ℕ = cell_across t.width cell dir in
          let n = lead new.way in
          let off = estimate_away t dir cell there pos (side new.way) far in
          record {
            size = known.size;
            right = known.right;
            before = known.before;
            start = known.start;
            onward = λ u v n2 lu lv. elim (known.onward u v n2 lu lv) [
              | inl a ↦ inl a
              | inr r ↦ elim r [
                | inl b ↦ inr (inl b)
                | inr q ↦ elim q [
                  | inl d ↦ inr (inr (inl (d.0, d.1, Contains-append_left s.later (there ∷ []) v d.2)))
                  | inr p ↦ elim (to_come u v lv p) [
                    | inl here ↦ inr (inr (inl (
                      subst (λ (x : ℕ). IsAt m t aimed x k) (sym p.0) at,
                      ap (estimate t) here.1 ∙ (off ∙ ap (λ (x : ℕ). estimate t x + 1) (sym p.0)),
                      subst (Contains (s.later ++ there ∷ [])) (sym here.1) (Contains-push s.later there),
                    )))
                    | inr p2 ↦ inr (inr (inr p2))
                  ]
                ]
              ]
            ];
            now_right = known.now_right;
            next_right = known.next_right;
            later_right = λ v c. elim (Contains-push_cases s.later there v c) [
              | inl a ↦ known.later_right v a
              | inr q ↦ (subst (IsFloor m) q n.to, subst (λ (x : ℕ). IsWithin m t aimed x (k + 1)) q (within_away cell there k (dir, n) at.within off))
            ];
          }

  -- whatever is there
  pub left_one : (k cell ways mark : ℕ) (dir : Dir) (dirs : List Dir) (s new : Search) → mark ≡ label k → IsLeft t ways mark cell dir s new → IsAt m t aimed cell k → AreOpen m cell ways
      → IsLeaving m t aimed k s cell (dir ∷ dirs) → IsLeaving m t aimed k new cell dirs
  left_one k cell ways mark dir dirs s new e (inl a) at ways_open known = subst (λ (x : Search). IsLeaving m t aimed k x cell dirs) (sym a.1) (none_left k s cell ways dir dirs known at ways_open a.0)
  left_one k cell ways mark dir dirs s new e (inr (inl b)) at ways_open known =
      subst (λ (x : Search). IsLeaving m t aimed k x cell dirs)
      (ap (λ (y : ℕ). record s { labels = set s.labels (cell_across t.width cell dir) y; now = s.now ++ cell_across t.width cell dir ∷ [] }) (sym e) ∙ sym b.2)
      (toward_left k s cell ways dir dirs known at ways_open b.0 b.1)
  left_one k cell ways mark dir dirs s new e (inr (inr d)) at ways_open known = subst (λ (x : Search). IsLeaving m t aimed k x cell dirs) (sym d.2) (away_left k s cell ways dir dirs known at ways_open d.0 d.1)

  pub all_left : (k cell ways mark : ℕ) (s new : Search) → mark ≡ label k → IsSpread t ways mark cell s new → IsAt m t aimed cell k → AreOpen m cell ways
      → IsLeaving m t aimed k s cell (South ∷ West ∷ North ∷ East ∷ []) → IsKnown m t aimed k new
  all_left k cell ways mark s new e p at ways_open known =
      whole k new cell
      (left_one k cell ways mark East [] p.third new e p.east at ways_open
      (left_one k cell ways mark North (East ∷ []) p.second p.third e p.north at ways_open
      (left_one k cell ways mark West (North ∷ East ∷ []) p.first p.second e p.west at ways_open
      (left_one k cell ways mark South (West ∷ North ∷ East ∷ []) s p.first e p.south at ways_open known))))

pub one_less : (labels : List ℕ) (cell mark : ℕ) → cell < length labels → slice_index labels cell ≡ 0 → 0 < mark → zero_count (set labels cell mark) + 1 ≡ zero_count labels
one_less labels cell mark inside unseen some =
    let h : zero_count (set labels cell mark) + is_zero (get_or labels cell 0) ≡ zero_count labels + is_zero mark = sum_by-set is_zero labels cell mark 0 inside in
    let one : is_zero (get_or labels cell 0) ≡ 1 = ap is_zero unseen in
    let none : is_zero mark ≡ 0 = grind (arith, some) in
    omega (arith, h, one, none)
