-- Steps in which few robots move.
use Rattle.std.proofs.Common.{◌≡◌, ◌≢◌, ℕ, ◌+◌, ◌<◌, inl, inr, List, length, get_or, slice_index, sym, subst, ◌∙◌, arith}
use Rattle.std.proofs.lemmas.Bool.{cases_eq}
use Rattle.std.proofs.lemmas.Grind.{get_or_default_zero}
use Rattle.std.proofs.lemmas.List.{same_lists}
use Rattle.fleet_grid.specs.Floor.{Floor, IsFloor}
use Rattle.fleet_grid.specs.Step.{IsPlacement, IsConflictFree}
use Rattle.fleet_plans.specs.Costs.{IsNoted}
use Rattle.fleet_plans.specs.inside.Seats.{IsSeated, AreSeated, HaveChanged, KeepToEdges, MayGo, IsPartOf}

-- a robot that is on its cell is there too after another has come to a cell to which it does not come
pub seat_kept : (old new place : List ℕ) (cell robot : ℕ) → slice_index new cell ≡ robot + 1 → ((c : ℕ) → c ≢ cell → slice_index new c ≡ slice_index old c)
    → ((r : ℕ) → slice_index old cell ≡ r + 1 → r ≢ robot → slice_index place r ≡ cell → ⊥) → (r : ℕ) → IsSeated old place r → IsSeated new place r
seat_kept old new place cell robot here there free = λ r was. elim (cases_eq (slice_index place r) cell) [
  | inl same ↦
      let on : slice_index old cell ≡ r + 1 = subst (λ (c : ℕ). slice_index old c ≡ r + 1) same was in
      elim (cases_eq r robot) [
        | inl is ↦ subst (λ (c : ℕ). slice_index new c ≡ r + 1) (sym same) (here ∙ omega (arith, is))
        | inr other ↦ absurd (free r on other same)
      ]
  | inr other ↦ there (slice_index place r) other ∙ was
]

-- one more robot is on its cell
pub sat_more : (old new place robots : List ℕ) (n : ℕ) → ((k : ℕ) → k < n → IsSeated old place (slice_index robots k)) → IsSeated new place (slice_index robots n)
    → ((r : ℕ) → IsSeated old place r → IsSeated new place r) → (k : ℕ) → k < n + 1 → IsSeated new place (slice_index robots k)
sat_more old new place robots n done here kept = λ k less. elim (cases_eq k n) [
  | inl same ↦ subst (λ (x : ℕ). IsSeated new place (slice_index robots x)) (sym same) here
  | inr other ↦ kept (slice_index robots k) (done k (omega (arith, less, other)))
]

-- one more robot may go
pub may_more : (P : ℕ → Type 0) (robots : List ℕ) (n : ℕ) → ((k : ℕ) → k < n → P (slice_index robots k)) → P (slice_index robots n) → (k : ℕ) → k < n + 1 → P (slice_index robots k)
may_more P robots n done here = λ k less. elim (cases_eq k n) [
  | inl same ↦ subst (λ (x : ℕ). P (slice_index robots x)) (sym same) here
  | inr other ↦ done k (omega (arith, less, other))
]

module _ (robots last place : List ℕ) (changed : HaveChanged robots last place) where
  -- what holds of these robots, and of those that stay, holds of all
  each : (P : ℕ → Type 0) → ((k : ℕ) → k < length robots → P (slice_index robots k)) → ((r : ℕ) → r < length last → slice_index place r ≡ slice_index last r → P r) → (r : ℕ) → r < length last → P r
  each P moved stayed r less = elim (cases_eq (slice_index place r) (slice_index last r)) [
    | inl stays ↦ stayed r less stays
    | inr goes ↦ let one = changed r less goes in subst P one.is (moved one.at one.inside)
  ]

  pub all_may : (seats : List ℕ) → ((k : ℕ) → k < length robots → MayGo seats last place (slice_index robots k)) → (r : ℕ) → r < length last → MayGo seats last place r
  all_may seats may = each (λ r. MayGo seats last place r) may (λ r less stays. inl stays)

  pub all_sat : (seats new : List ℕ) → length place ≡ length last → AreSeated seats last → ((r : ℕ) → IsSeated seats place r → IsSeated new place r)
      → ((k : ℕ) → k < length robots → IsSeated new place (slice_index robots k)) → AreSeated new place
  all_sat seats new same seated kept sat = λ r less.
      each (λ x. IsSeated new place x) sat
      (λ x inner stays. kept x (subst (λ (c : ℕ). slice_index seats c ≡ x + 1) (sym stays) (seated x inner))) r (omega (arith, less, same))

pub free : (m : Floor) (seats new last place : List ℕ) → length place ≡ length last → IsPlacement m last → KeepToEdges m last place → AreSeated seats last → ((r : ℕ) → r < length last → MayGo seats last place r)
    → AreSeated new place → IsConflictFree m last place
free m seats new last place same placed edges seated may sat = record {
  same_length = same;
  on_floor = λ r less. elim (edges r less) [
    | inl stays ↦ subst (λ (c : ℕ). IsFloor m c) (sym stays) (placed.on_floor r less)
    | inr edge ↦ edge.1.to
  ];
  moves = edges;
  no_vertex_conflict = λ i j order inside together.
      let one : IsSeated new place i = sat i (omega (arith, order, inside, same)) in
      let other : IsSeated new place j = sat j (omega (arith, inside, same)) in
      let there : slice_index new (slice_index place j) ≡ i + 1 = subst (λ (c : ℕ). slice_index new c ≡ i + 1) together one in
      let equal : i + 1 ≡ j + 1 = sym there ∙ other in
      omega (arith, equal, order);
  no_swapping_conflict = λ i j order inside there back.
      elim (may i (omega (arith, order, inside))) [
        | inl stays ↦ placed.distinct i j order inside (sym stays ∙ there)
        | inr p ↦ p j (subst (λ (c : ℕ). slice_index seats c ≡ j + 1) (sym there) (seated j inside)) (sym there) back
      ];
}

-- a robot whose cell is written, or not, once more
pub part_more : (last costs place : List ℕ) (time : ℕ) (last_1 costs_1 last_2 costs_2 : List ℕ) (r : ℕ) → IsPartOf last costs place time last_1 costs_1 r → IsPartOf last_1 costs_1 place time last_2 costs_2 r
    → IsPartOf last costs place time last_2 costs_2 r
part_more last costs place time last_1 costs_1 last_2 costs_2 r (inl a) (inl b) = inl (b.0 ∙ a.0, b.1 ∙ a.1)
part_more last costs place time last_1 costs_1 last_2 costs_2 r (inl a) (inr b) = inr (b.0, λ same. b.1 (same ∙ sym a.0), b.2)
part_more last costs place time last_1 costs_1 last_2 costs_2 r (inr a) (inl b) = inr (b.0 ∙ a.0, a.1, b.1 ∙ a.2)
part_more last costs place time last_1 costs_1 last_2 costs_2 r (inr a) (inr b) = absurd (b.1 (sym a.0))

still_there : (last costs place : List ℕ) (time : ℕ) (last_1 costs_1 : List ℕ) (r : ℕ) → IsPartOf last costs place time last_1 costs_1 r → slice_index last r ≡ slice_index place r → slice_index last_1 r ≡ slice_index place r
still_there last costs place time last_1 costs_1 r (inl a) was = a.0 ∙ was
still_there last costs place time last_1 costs_1 r (inr b) was = b.0

pub done_more : (last costs place robots : List ℕ) (time : ℕ) (last_1 costs_1 : List ℕ) (n : ℕ) → ((r : ℕ) → r < length place → IsPartOf last costs place time last_1 costs_1 r)
    → ((k : ℕ) → k < n → slice_index robots k < length place → slice_index last (slice_index robots k) ≡ slice_index place (slice_index robots k))
    → (slice_index robots n < length place → slice_index last_1 (slice_index robots n) ≡ slice_index place (slice_index robots n))
    → (k : ℕ) → k < n + 1 → slice_index robots k < length place → slice_index last_1 (slice_index robots k) ≡ slice_index place (slice_index robots k)
done_more last costs place robots time last_1 costs_1 n part done here = λ k less. elim (cases_eq k n) [
  | inl same ↦ subst (λ (x : ℕ). slice_index robots x < length place → slice_index last_1 (slice_index robots x) ≡ slice_index place (slice_index robots x)) (sym same) here
  | inr other ↦ λ inner.
      let r = slice_index robots k in
      still_there last costs place time last_1 costs_1 r (part r inner) (done k (omega (arith, less, other)) inner)
]

-- all that have moved are noted
module _ (last costs place robots : List ℕ) (time : ℕ) (new_last new_costs : List ℕ) (same_length : length place ≡ length last) (changed : HaveChanged robots last place)
    (part : (r : ℕ) → r < length place → IsPartOf last costs place time new_last new_costs r)
    (done : (k : ℕ) → k < length robots → slice_index robots k < length place → slice_index new_last (slice_index robots k) ≡ slice_index place (slice_index robots k)) where
  arrived : (r : ℕ) → r < length place → slice_index new_last r ≡ slice_index place r
  arrived r less = elim (part r less) [
    | inl a ↦
        elim (cases_eq (slice_index place r) (slice_index last r)) [
          | inl same ↦ a.0 ∙ sym same
          | inr goes ↦
              let one = changed r (omega (arith, less, same_length)) goes in
              let P : ℕ → Type 0 = λ x. x < length place → slice_index new_last x ≡ slice_index place x in
              subst P one.is (done one.at one.inside) less
        ]
    | inr b ↦ b.0
  ]

  pub all_arrived : length new_last ≡ length last → new_last ≡ place
  all_arrived kept =
      let at : (k d : ℕ) → k < length new_last → get_or new_last k d ≡ get_or place k d =
      λ k d less.
      let inner : k < length place = omega (arith, less, kept, same_length) in
      get_or_default_zero new_last k d less ∙ (arrived k inner ∙ sym (get_or_default_zero place k d inner)) in
      same_lists new_last place (kept ∙ sym same_length) at

  pub all_noted : length costs ≡ length last → (r : ℕ) → r < length costs → IsNoted last place time r (slice_index costs r) (slice_index new_costs r)
  all_noted each_one = λ r less.
      let inner : r < length place = omega (arith, less, each_one, same_length) in
      elim (part r inner) [
        | inl a ↦
            elim (cases_eq (slice_index place r) (slice_index last r)) [
              | inl same ↦ inl (same, a.1)
              | inr goes ↦ absurd (goes (sym (arrived r inner) ∙ a.0))
            ]
        | inr b ↦ inr (b.1, b.2)
      ]
