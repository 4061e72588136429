-- One label spreads over a part.
use Rattle.std.proofs.Common.{◌≡◌, ◌≢◌, ℕ, ◌+◌, ◌<◌, ◌⊎◌, inl, inr, List, [], ◌∷◌, ◌++◌, length, set, refl, sym, ap, subst, ◌∙◌, arith}
use Rattle.std.specs.Prelude.{slice_index}
use Rattle.std.proofs.lemmas.Bool.{cases_lt}
use Rattle.std.proofs.lemmas.List.{length-set, length-append, get_or_append_left, get_or_push}
use Rattle.std.proofs.lemmas.List.Sums.{sum_by-set}
use Rattle.fleet_grid.specs.Floor.{Floor, IsFloor, IsNeighbour}
use Rattle.fleet_grid.specs.Walk.{AreJoined}
use Rattle.fleet_grid.specs.inside.Parts.{HasLabel, Awaits, IsSpread, Spreads, is_bare, bare_count}
use Rattle.fleet_grid.proofs.Forms.{floor_inside}
use Rattle.fleet_grid.proofs.Edges.{neighbour_back}
use Rattle.fleet_grid.proofs.Walks.{joined_by_edge}
use Rattle.fleet_grid.proofs.Made.{read}

length_push : (xs : List ℕ) (y : ℕ) → length (xs ++ y ∷ []) ≡ length xs + 1
length_push xs y = length-append xs (y ∷ [])

-- a cell that gets its label leaves one less without
bare_less : (labels : List ℕ) (d label : ℕ) → label < 4294967295 → d < length labels → slice_index labels d ≡ 4294967295 → bare_count (set labels d label) + 1 ≡ bare_count labels
bare_less labels d label less inside bare =
    let e = sum_by-set is_bare labels d label 0 inside in
    let one : is_bare (slice_index labels d) ≡ 1 = ap is_bare bare in
    let none : is_bare label ≡ 0 = bare_of label less in
    omega (arith, e, one, none)
  where
    bare_of : (x : ℕ) → x < 4294967295 → is_bare x ≡ 0
    bare_of x l = grind (arith, l)

-- a search that stands still
pub still : (m : Floor) (label head : ℕ) (labels queue : List ℕ) → IsSpread m label head labels queue → Spreads m label head labels queue labels queue
still m label head labels queue s = record { spread = s; kept = λ c h. refl; older = λ i l. refl; longer = omega arith; count = refl }

-- a neighbour that has a label has the search's
pub same_label : (m : Floor) (label head : ℕ) (labels queue : List ℕ) (c d : ℕ) → IsSpread m label head labels queue → slice_index labels c ≡ label → IsNeighbour m c d
    → slice_index labels d ≢ 4294967295 → slice_index labels d ≡ label
same_label m label head labels queue c d s e near has =
    let inside : d < length labels = omega (arith, floor_inside m d near.1.to, s.len) in
    elim (s.closed d c (neighbour_back m c d near) (inside, has)) [
      | inl same ↦ sym same ∙ e
      | inr waits ↦ subst (λ (x : ℕ). slice_index labels x ≡ label) waits.3 (s.queued waits.0 waits.2).1
    ]

module _ (m : Floor) (label head c d : ℕ) (labels queue : List ℕ) (s : IsSpread m label head labels queue) (less : label < 4294967295)
    (from : slice_index labels c ≡ label) (near : IsNeighbour m c d) (bare : slice_index labels d ≡ 4294967295) where
  inside : d < length labels
  inside = omega (arith, floor_inside m d near.1.to, s.len)

  c_inside : c < length labels
  c_inside = omega (arith, floor_inside m c near.1.from, s.len)

  has_c : HasLabel labels c
  has_c = (c_inside, λ e. omega (arith, e, from, less))

  seen : (v : ℕ) → ((v ≡ d) × (slice_index (set labels d label) v ≡ label)) ⊎ ((v ≡ d → ⊥) × (slice_index (set labels d label) v ≡ slice_index labels v))
  seen v = read labels d label v inside

  len : length (set labels d label) ≡ length labels
  len = length-set labels d label

  had : (v : ℕ) → (v ≡ d → ⊥) → slice_index (set labels d label) v ≡ slice_index labels v → HasLabel (set labels d label) v → HasLabel labels v
  had v ne same h = (omega (arith, h.0, len), λ e. h.1 (same ∙ e))

  kept_label : (v : ℕ) → HasLabel labels v → slice_index (set labels d label) v ≡ slice_index labels v
  kept_label v h = elim (seen v) [
    | inl p ↦ absurd (h.1 (ap (slice_index labels) p.0 ∙ bare))
    | inr p ↦ p.1
  ]

  joined_d : AreJoined (IsNeighbour m) d label
  joined_d = joined_by_edge (IsNeighbour m) d c label (neighbour_back m c d near) (subst (λ (x : ℕ). AreJoined (IsNeighbour m) c x) from (s.joined c has_c))

  long : length (queue ++ d ∷ []) ≡ length queue + 1
  long = length_push queue d

  old_item : (i : ℕ) → i < length queue → slice_index (queue ++ d ∷ []) i ≡ slice_index queue i
  old_item i less = get_or_append_left queue (d ∷ []) 0 i less

  new_item : slice_index (queue ++ d ∷ []) (length queue) ≡ d
  new_item = get_or_push queue d 0 (length queue) refl

  item_label : (v : ℕ) → slice_index labels v ≡ label → slice_index (set labels d label) v ≡ label
  item_label v e = elim (seen v) [
    | inl p ↦ p.1
    | inr p ↦ p.1 ∙ e
  ]

  pub spread_on : IsSpread m label head (set labels d label) (queue ++ d ∷ [])
  spread_on = record {
    len = len ∙ s.len;
    within = omega (arith, s.within, long);
    on_floor = λ v h. elim (seen v) [
      | inl p ↦ subst (IsFloor m) (sym p.0) near.1.to
      | inr p ↦ s.on_floor v (had v p.0 p.1 h)
    ];
    joined = λ v h. elim (seen v) [
      | inl p ↦ subst (λ (x : ℕ). AreJoined (IsNeighbour m) v x) (sym p.1) (subst (λ (x : ℕ). AreJoined (IsNeighbour m) x label) (sym p.0) joined_d)
      | inr p ↦ subst (λ (x : ℕ). AreJoined (IsNeighbour m) v x) (sym p.1) (s.joined v (had v p.0 p.1 h))
    ];
    queued = queued_on;
    closed = closed_on;
  }
    where
      queued_on : (i : ℕ) → i < length (queue ++ d ∷ []) → (slice_index (queue ++ d ∷ []) i < length (set labels d label)) × (slice_index (set labels d label) (slice_index (queue ++ d ∷ []) i) ≡ label)
      queued_on i l = elim (cases_lt i (length queue)) [
        | inl old ↦ (
            let q = s.queued i old in
            let e = old_item i old in
            (rw (e, len) q.0, rw e (item_label (slice_index queue i) q.1)))
        | inr past ↦ (
            let at : i ≡ length queue = omega (arith, past, l, long) in
            let e : slice_index (queue ++ d ∷ []) i ≡ d = ap (slice_index (queue ++ d ∷ [])) at ∙ new_item in
            (rw (e, len) inside, rw e (elim (seen d) [ inl p ↦ p.1 | inr p ↦ absurd (p.0 refl) ])))
      ]

      awaits_on : (a : ℕ) → Awaits queue head a → Awaits (queue ++ d ∷ []) head a
      awaits_on a w = (w.0, w.1, omega (arith, w.2, long), old_item w.0 w.2 ∙ w.3)

      closed_on : (a b : ℕ) → IsNeighbour m a b → HasLabel (set labels d label) a → (slice_index (set labels d label) b ≡ slice_index (set labels d label) a) ⊎ Awaits (queue ++ d ∷ []) head a
      closed_on a b nb h = elim (seen a) [
        | inl p ↦ inr (length queue, s.within, omega (arith, long), new_item ∙ sym p.0)
        | inr p ↦ (
            let was = had a p.0 p.1 h in
            elim (s.closed a b nb was) [
              | inl same ↦ inl (elim (seen b) [
                | inl q ↦ absurd (was.1 (sym same ∙ (ap (slice_index labels) q.0 ∙ bare)))
                | inr q ↦ q.1 ∙ (same ∙ sym p.1)
              ])
              | inr waits ↦ inr (awaits_on a waits)
            ])
      ]

  pub reach_new : Spreads m label head labels queue (set labels d label) (queue ++ d ∷ [])
  reach_new = record {
    spread = spread_on;
    kept = kept_label;
    older = old_item;
    longer = omega (arith, long);
    count = omega (arith, long, bare_less labels d label less inside bare);
  }
