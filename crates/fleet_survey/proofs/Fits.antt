-- What is fit stays: on a larger map its cells are roomy too, and each of them has two neighbours among them.
use Rattle.std.proofs.Common.{◌≡◌, ◌≢◌, ◌⊎◌, inl, inr, ℕ, zero, suc, ◌<◌, ◌≤◌, List, [], ◌∷◌, length, refl, sym, subst, ◌∙◌, arith}
use Rattle.std.specs.Prelude.{slice_index}
use Rattle.std.proofs.lemmas.Bool.{cases_eq, cases_lt}
use Rattle.fleet_grid.specs.Floor.{Floor, IsBeside, IsFloor, IsNeighbour}
use Rattle.fleet_grid.specs.Walk.{Walks, AreJoined, Besides, IsRoomy}
use Rattle.fleet_grid.proofs.Edges.{neighbour_back}
use Rattle.fleet_grid.proofs.Walks.{besides_back, joined_back, joined_by_edge, joined_on, joined_same}
use Rattle.fleet_survey.specs.Pruned.{IsFit, IsWithin}

-- walks go along a relation that has more edges
walks_more : (R Q : ℕ → ℕ → Type 0) → ((x y : ℕ) → R x y → Q x y) → (a b : ℕ) (xs : List ℕ) → Walks R a xs b → Walks Q a xs b
walks_more R Q more a b [] w = w
walks_more R Q more a b (x ∷ xs) w = (more a x w.0, walks_more R Q more x b xs w.1)

joined_more : (R Q : ℕ → ℕ → Type 0) → ((x y : ℕ) → R x y → Q x y) → (a b : ℕ) → AreJoined R a b → AreJoined Q a b
joined_more R Q more a b j = record { steps = j.steps; walk = walks_more R Q more a b j.steps j.walk }

besides_more : (R Q : ℕ → ℕ → Type 0) → ((x y : ℕ) → R x y → Q x y) → (a b x y : ℕ) → Besides R a b x y → Besides Q a b x y
besides_more R Q more a b x y r = record { near = more x y r.near; there = r.there; back = r.back }

pub neighbour_within : (s m : Floor) → IsWithin s m → (x y : ℕ) → IsNeighbour s x y → IsNeighbour m x y
neighbour_within s m in_m x y n = (
  n.0,
  record {
    from = in_m.cells x n.1.from;
    to = in_m.cells y n.1.to;
    beside = subst (λ (w : ℕ). IsBeside w n.0 x y) in_m.width n.1.beside;
  },
)

-- a walk does not cross an edge, or comes to one of its ends before it does
data Crosses (Near : ℕ → ℕ → Type 0) (a b u x : ℕ) : Type 0 where
  Never : AreJoined (Besides Near a b) u x → Crosses Near a b u x
  There : AreJoined (Besides Near a b) u a → Crosses Near a b u x
  Back : AreJoined (Besides Near a b) u b → Near b a → Crosses Near a b u x

crosses : (Near : ℕ → ℕ → Type 0) (a b u x : ℕ) (xs : List ℕ) → Walks Near u xs x → Crosses Near a b u x
crosses Near a b u x [] w = Never (subst (AreJoined (Besides Near a b) u) w (joined_same (Besides Near a b) u))
crosses Near a b u x (y ∷ ys) w =
    let rest = crosses Near a b y x ys w.1 in
    elim (cases_eq u a) [
      | inl at_a ↦ There (subst (AreJoined (Besides Near a b) u) at_a (joined_same (Besides Near a b) u))
      | inr off_a ↦ elim (cases_eq u b) [
        | inl at_b ↦ elim (cases_eq y a) [
          | inl to_a ↦ Back (subst (AreJoined (Besides Near a b) u) at_b (joined_same (Besides Near a b) u)) (subst (λ (v : ℕ). Near v a) at_b (subst (Near u) to_a w.0))
          | inr past ↦ further (record { near = w.0; there = λ p q. off_a p; back = λ p q. past q }) rest
        ]
        | inr off_b ↦ further (record { near = w.0; there = λ p q. off_a p; back = λ p q. off_b p }) rest
      ]
    ]
  where
    further : Besides Near a b u y → Crosses Near a b y x → Crosses Near a b u x
    further e (Never j) = Never (joined_by_edge (Besides Near a b) u y x e j)
    further e (There j) = There (joined_by_edge (Besides Near a b) u y a e j)
    further e (Back j n) = Back (joined_by_edge (Besides Near a b) u y b e j) n

-- one of two things holds of each number below k: the first of all, or the second
all_or : (P : ℕ → Type 0) (Q : Type 0) (k : ℕ) → ((i : ℕ) → i < k → P i ⊎ Q) → ((i : ℕ) → i < k → P i) ⊎ Q
all_or P Q zero each = inl (λ i less. absurd (omega (arith, less)))
all_or P Q (suc k) each = elim (all_or P Q k (λ i less. each i (omega (arith, less)))) [
  | inl all ↦ elim (each k (omega arith)) [
    | inl last ↦ inl (λ i less. elim (cases_lt i k) [
      | inl below ↦ all i below
      | inr from ↦ (let e : k ≡ i = omega (arith, less, from) in subst P e last)
    ])
    | inr other ↦ inr other
  ]
  | inr other ↦ inr other
]

-- a cell of a map that is fit is roomy on each map that it lies within
pub fit_stays : (n : ℕ) (s m : Floor) → IsFit n s → IsWithin s m → (c : ℕ) → IsFloor s c → IsRoomy (IsNeighbour m) n c
fit_stays n s m is in_m c floor a b bridge side =
    let part = is.many c floor in
    elim (all_or (λ i. AreJoined (Besides (IsNeighbour s) a b) c (slice_index part.cells i)) (AreJoined (Besides (IsNeighbour s) a b) c b × (IsNeighbour s) b a) (length part.cells) (λ i less. met (slice_index part.cells i) (part.inside i less))) [
      | inl all ↦ record { cells = part.cells; many = part.many; apart = part.apart; inside = λ i less. joined_on (Besides (IsNeighbour m) a b) b c (slice_index part.cells i) side (lifted c (slice_index part.cells i) (all i less)) }
      | inr it ↦
          let far = is.roomy c floor a b (record { edge = neighbour_back s b a it.1; alone = λ j. bridge.alone (lifted a b j) }) (joined_back (Besides (IsNeighbour s) a b) (besides_back (IsNeighbour s) (neighbour_back s) a b) c b it.0) in
          record { cells = far.cells; many = far.many; apart = far.apart; inside = λ i less. lifted b (slice_index far.cells i) (far.inside i less) }
    ]
  where
    lifted : (x y : ℕ) → AreJoined (Besides (IsNeighbour s) a b) x y → AreJoined (Besides (IsNeighbour m) a b) x y
    lifted x y j = joined_more (Besides (IsNeighbour s) a b) (Besides (IsNeighbour m) a b) (besides_more (IsNeighbour s) (IsNeighbour m) (neighbour_within s m in_m) a b) x y j

    -- the end a is beyond the bridge
    never_a : AreJoined (Besides (IsNeighbour s) a b) c a → ⊥
    never_a j = bridge.alone (joined_back (Besides (IsNeighbour m) a b) (besides_back (IsNeighbour m) (neighbour_back m) a b) b a (joined_on (Besides (IsNeighbour m) a b) b c a side (lifted c a j)))

    met : (x : ℕ) → AreJoined (IsNeighbour s) c x → AreJoined (Besides (IsNeighbour s) a b) c x ⊎ (AreJoined (Besides (IsNeighbour s) a b) c b × (IsNeighbour s) b a)
    met x j = elim (crosses (IsNeighbour s) a b c x j.steps j.walk) [
      | Never k ↦ inl k
      | There k ↦ absurd (never_a k)
      | Back k e ↦ inr (k, e)
    ]

-- a walk to another cell leaves the first one by an edge to another cell
leaves : (Near : ℕ → ℕ → Type 0) (c x : ℕ) (xs : List ℕ) → Walks Near c xs x → (x ≡ c → ⊥) → (d : ℕ) × Near c d × (d ≡ c → ⊥)
leaves Near c x [] w other = absurd (other (sym w))
leaves Near c x (y ∷ ys) w other = elim (cases_eq y c) [
  | inl same ↦ leaves Near c x ys (subst (λ (v : ℕ). Walks Near v ys x) same w.1) other
  | inr else_where ↦ (y, w.0, else_where)
]

-- one of two cells that differ is another than the third
one_other : (x y c : ℕ) → x ≢ y → (x ≡ c → ⊥) ⊎ (y ≡ c → ⊥)
one_other x y c differ = elim (cases_eq x c) [
  | inl same ↦ inr (λ e. differ (same ∙ sym e))
  | inr other ↦ inl other
]

-- no cell of a map that is fit for two robots or more has but one neighbour there
pub fit_has_two : (n : ℕ) (s : Floor) → 2 ≤ n → IsFit n s → (c x : ℕ) → IsFloor s c → ((d : ℕ) → IsNeighbour s c d → d ≡ x) → ⊥
fit_has_two n s two is c x floor only =
    let part = is.many c floor in
    let way : (d : ℕ) × IsNeighbour s c d × (d ≡ c → ⊥) = elim (one_other (slice_index part.cells 0) (slice_index part.cells 1) c (part.apart 0 1 (omega arith) (omega (arith, two, part.many)))) [
      | inl other ↦ (let j = part.inside 0 (omega (arith, two, part.many)) in leaves (IsNeighbour s) c (slice_index part.cells 0) j.steps j.walk other)
      | inr other ↦ (let j = part.inside 1 (omega (arith, two, part.many)) in leaves (IsNeighbour s) c (slice_index part.cells 1) j.steps j.walk other)
    ] in
    let at : way.0 ≡ x = only way.0 way.1 in
    let edge : IsNeighbour s c x = subst (IsNeighbour s c) at way.1 in
    let other : x ≡ c → ⊥ = λ e. way.2 (at ∙ e) in
    let far = is.roomy c floor x c (record { edge = neighbour_back s c x edge; alone = λ j. other (stays x (joined_back (Besides (IsNeighbour s) x c) (besides_back (IsNeighbour s) (neighbour_back s) x c) x c j)) }) (joined_same (Besides (IsNeighbour s) x c) c) in
    far.apart 0 1 (omega arith) (omega (arith, two, far.many)) (stays (slice_index far.cells 0) (far.inside 0 (omega (arith, two, far.many))) ∙ sym (stays (slice_index far.cells 1) (far.inside 1 (omega (arith, two, far.many)))))
  where
    stays : (y : ℕ) → AreJoined (Besides (IsNeighbour s) x c) c y → y ≡ c
    stays y j = begun y j.steps j.walk
      where
        begun : (y : ℕ) (ys : List ℕ) → Walks (Besides (IsNeighbour s) x c) c ys y → y ≡ c
        begun y [] w = sym w
        begun y (z ∷ zs) w = absurd (w.0.back refl (only z w.0.near))
