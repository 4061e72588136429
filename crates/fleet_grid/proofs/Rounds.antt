-- A cell of the queue is done once its four sides were visited; a queue that is done leaves all labels alike along edges.
use Rattle.std.proofs.Common.{◌≡◌, ℕ, zero, suc, ◌+◌, ◌<◌, ◌≤◌, ◌⊎◌, inl, inr, List, [], ◌∷◌, length, get_or, set, refl, sym, ap, subst, ◌∙◌, arith}
use Rattle.std.specs.Prelude.{slice_index, replicate}
use Rattle.std.proofs.lemmas.Bool.{cases_eq}
use Rattle.std.proofs.lemmas.List.{length-set, get_or-replicate, length-replicate}
use Rattle.fleet_grid.specs.declared.dir.Dir.{Dir}
use Rattle.fleet_grid.specs.declared.dir.Dir.TheVariants.{North, East, South, West}
use Rattle.fleet_grid.specs.Floor.{Floor, IsFloor, IsNeighbour, IsNeighbourIn}
use Rattle.fleet_grid.specs.Walk.{AreJoined}
use Rattle.fleet_grid.specs.inside.Parts.{AreParts, AreDone, HasLabel, Awaits, IsSpread, Spreads}
use Rattle.fleet_grid.proofs.Forms.{floor_inside}
use Rattle.fleet_grid.proofs.Edges.{neighbour_back}
use Rattle.fleet_grid.proofs.Walks.{joined_same, joined_on, joined_back, same_along}
use Rattle.std.proofs.Common.{eqb, true, eq-eqb, ◌↔◌}
use Rattle.std.proofs.lemmas.Bool.{eqb-true}
use Rattle.fleet_grid.proofs.Made.{read}
use Rattle.fleet_grid.proofs.Spread.{still}
use Rattle.fleet_grid.specs.Direction.{dir_number}

has_still : (m : Floor) (label head : ℕ) (old queue new queue' : List ℕ) → IsSpread m label head old queue → Spreads m label head old queue new queue' → (c : ℕ) → HasLabel old c → HasLabel new c
has_still m label head old queue new queue' o s c h = (omega (arith, h.0, o.len, s.spread.len), λ e. h.1 (sym (s.kept c h) ∙ e))

pub spreads_on : (m : Floor) (label head : ℕ) (l0 q0 l1 q1 l2 q2 : List ℕ) → IsSpread m label head l0 q0 → Spreads m label head l0 q0 l1 q1 → Spreads m label head l1 q1 l2 q2 → Spreads m label head l0 q0 l2 q2
spreads_on m label head l0 q0 l1 q1 l2 q2 o s t = record {
  spread = t.spread;
  kept = λ c h. t.kept c (has_still m label head l0 q0 l1 q1 o s c h) ∙ s.kept c h;
  older = λ i less. t.older i (omega (arith, less, s.longer)) ∙ s.older i less;
  longer = omega (arith, s.longer, t.longer);
  count = omega (arith, s.count, t.count);
}

-- a label stays
pub stays : (m : Floor) (label head : ℕ) (l1 q1 l2 q2 : List ℕ) → label < 4294967295 → IsSpread m label head l1 q1 → Spreads m label head l1 q1 l2 q2 → (b : ℕ) → IsFloor m b → slice_index l1 b ≡ label → slice_index l2 b ≡ label
stays m label head l1 q1 l2 q2 less o s b f e = s.kept b (omega (arith, floor_inside m b f, o.len), λ bare. omega (arith, bare, e, less)) ∙ e

-- the four sides of a cell were visited
pub next_head : (m : Floor) (label head cell : ℕ) (l0 q0 l4 q4 : List ℕ) → label < 4294967295 → IsSpread m label head l0 q0 → head < length q0 → slice_index q0 head ≡ cell
    → Spreads m label head l0 q0 l4 q4 → ((b : ℕ) → IsNeighbour m cell b → slice_index l4 b ≡ label) → Spreads m label (head + 1) l0 q0 l4 q4
next_head m label head cell l0 q0 l4 q4 less o short at s sides = record {
  spread = record {
    len = s.spread.len;
    within = omega (arith, short, s.longer);
    on_floor = s.spread.on_floor;
    joined = s.spread.joined;
    queued = s.spread.queued;
    closed = λ a b nb h. elim (s.spread.closed a b nb h) [
      | inl same ↦ inl same
      | inr waits ↦ later a b nb waits
    ];
  };
  kept = s.kept;
  older = s.older;
  longer = s.longer;
  count = s.count;
}
  where
    here : slice_index q4 head ≡ cell
    here = s.older head short ∙ at

    own : slice_index l4 cell ≡ label
    own = subst (λ (x : ℕ). slice_index l4 x ≡ label) here (s.spread.queued head (omega (arith, short, s.longer))).1

    later : (a b : ℕ) → IsNeighbour m a b → Awaits q4 head a → (slice_index l4 b ≡ slice_index l4 a) ⊎ Awaits q4 (head + 1) a
    later a b nb w = elim (cases_eq w.0 head) [
      | inl e ↦ (
          let is : cell ≡ a = sym here ∙ (ap (slice_index q4) (sym e) ∙ w.3) in
          inl (sides b (subst (λ (x : ℕ). IsNeighbour m x b) (sym is) nb) ∙ (sym own ∙ ap (slice_index l4) is)))
      | inr ne ↦ inr (w.0, omega (arith, w.1, ne), w.2, w.3)
    ]

-- the first cell of a part gets its own number as its label
pub started : (m : Floor) (start : ℕ) (labels : List ℕ) → start < 4294967295 → IsFloor m start → slice_index labels start ≡ 4294967295 → AreDone m labels → IsSpread m start 0 (set labels start start) (start ∷ [])
started m start labels less floor bare d = record {
  len = length-set labels start start ∙ d.len;
  within = omega arith;
  on_floor = λ v h. elim (seen v) [
    | inl p ↦ subst (IsFloor m) (sym p.0) floor
    | inr p ↦ d.on_floor v (had v p.1 h)
  ];
  joined = λ v h. elim (seen v) [
    | inl p ↦ subst (λ (x : ℕ). AreJoined (IsNeighbour m) v x) (p.0 ∙ sym p.1) (joined_same (IsNeighbour m) v)
    | inr p ↦ subst (λ (x : ℕ). AreJoined (IsNeighbour m) v x) (sym p.1) (d.joined v (had v p.1 h))
  ];
  queued = λ i l. first i l;
  closed = λ a b nb h. elim (seen a) [
    | inl p ↦ inr (0, omega arith, omega arith, sym p.0)
    | inr p ↦ (
        let was = had a p.1 h in
        let same = d.closed a b nb was in
        inl (elim (seen b) [
          | inl q ↦ absurd (was.1 (sym same ∙ (ap (slice_index labels) q.0 ∙ bare)))
          | inr q ↦ q.1 ∙ (same ∙ sym p.1)
        ]))
  ];
}
  where
    inside : start < length labels
    inside = omega (arith, floor_inside m start floor, d.len)

    seen : (v : ℕ) → ((v ≡ start) × (slice_index (set labels start start) v ≡ start)) ⊎ ((v ≡ start → ⊥) × (slice_index (set labels start start) v ≡ slice_index labels v))
    seen v = read labels start start v inside

    had : (v : ℕ) → slice_index (set labels start start) v ≡ slice_index labels v → HasLabel (set labels start start) v → HasLabel labels v
    had v same h = (omega (arith, h.0, length-set labels start start), λ e. h.1 (same ∙ e))

    first : (i : ℕ) → i < 1 → (slice_index (start ∷ []) i < length (set labels start start)) × (slice_index (set labels start start) (slice_index (start ∷ []) i) ≡ start)
    first zero l = (omega (arith, inside, length-set labels start start), elim (seen start) [ inl p ↦ p.1 | inr p ↦ absurd (p.0 refl) ])
    first (suc i) l = absurd (omega (arith, l))

-- labels of other cells stay where a part begins
pub started_keeps : (start : ℕ) (labels : List ℕ) → start < length labels → slice_index labels start ≡ 4294967295 → (c : ℕ) → HasLabel labels c → slice_index (set labels start start) c ≡ slice_index labels c
started_keeps start labels inside bare c h = elim (read labels start start c inside) [
  | inl p ↦ absurd (h.1 (ap (slice_index labels) p.0 ∙ bare))
  | inr p ↦ p.1
]

-- nothing waits any more
pub done : (m : Floor) (label head : ℕ) (labels queue : List ℕ) → IsSpread m label head labels queue → length queue ≤ head → AreDone m labels
done m label head labels queue s past = record {
  len = s.len;
  on_floor = s.on_floor;
  joined = s.joined;
  closed = λ a b nb h. elim (s.closed a b nb h) [
    | inl same ↦ same
    | inr waits ↦ absurd (omega (arith, past, waits.1, waits.2))
  ];
}

-- no cell has a label
pub bare_done : (m : Floor) (n : ℕ) → n ≡ length m.letters → AreDone m (replicate n 4294967295)
bare_done m n e = record {
  len = length-replicate {A = ℕ} n 4294967295 ∙ e;
  on_floor = λ c h. absurd (none c h);
  joined = λ c h. absurd (none c h);
  closed = λ a b nb h. absurd (none a h);
}
  where
    none : (c : ℕ) → HasLabel (replicate n 4294967295) c → ⊥
    none c h = h.1 (get_or-replicate n c 4294967295 0 (omega (arith, h.0, length-replicate {A = ℕ} n 4294967295)))

-- each floor cell has a label
pub all_labelled : (m : Floor) (labels : List ℕ) → AreDone m labels → ((c : ℕ) → c < length m.letters → IsFloor m c → HasLabel labels c) → AreParts m labels
all_labelled m labels d has = record {
  len = d.len;
  joined = λ c f. d.joined c (has c (floor_inside m c f) f);
  same = λ a b nb. sym (d.closed a b nb (has a (floor_inside m a nb.1.from) nb.1.from));
}

-- the directions below a number were visited
pub record HasTurned (m : Floor) (label head count : ℕ) (l0 q0 l1 q1 : List ℕ) : Type 0 where
  pub spreads : Spreads m label head l0 q0 l1 q1
  pub sides : (dir : Dir) (b : ℕ) → dir_number dir < count → IsNeighbourIn m dir (slice_index q0 head) b → slice_index l1 b ≡ label

pub unturned : (m : Floor) (label head : ℕ) (labels queue : List ℕ) → IsSpread m label head labels queue → HasTurned m label head 0 labels queue labels queue
unturned m label head labels queue s = record { spreads = still m label head labels queue s; sides = λ dir b few n. absurd (omega (arith, few)) }

dir_of : ℕ → Dir
dir_of zero = North
dir_of (suc zero) = East
dir_of (suc (suc zero)) = South
dir_of (suc (suc (suc k))) = West

dir_is : (dir : Dir) → dir_of (dir_number dir) ≡ dir
unfolding dir_of
dir_is North = refl
dir_is East = refl
dir_is South = refl
dir_is West = refl

-- one more direction was visited
pub turned_on : (m : Floor) (label head count : ℕ) (dir : Dir) (l0 q0 l1 q1 l2 q2 : List ℕ) → label < 4294967295 → IsSpread m label head l0 q0 → head < length q0
    → dir_number dir ≡ count → HasTurned m label head count l0 q0 l1 q1 → Spreads m label head l1 q1 l2 q2
    → ((b : ℕ) → IsNeighbourIn m dir (slice_index q1 head) b → slice_index l2 b ≡ label) → HasTurned m label head (count + 1) l0 q0 l2 q2
turned_on m label head count dir l0 q0 l1 q1 l2 q2 less o short is t s new = record {
  spreads = spreads_on m label head l0 q0 l1 q1 l2 q2 o t.spreads s;
  sides = λ d b few n. elim (cases_eq (dir_number d) (dir_number dir)) [
    | inl e ↦ new b (subst (λ (x : ℕ). IsNeighbourIn m dir x b) (sym (t.spreads.older head short)) (subst (λ (x : Dir). IsNeighbourIn m x (slice_index q0 head) b) (sym (dir_is d) ∙ (ap dir_of e ∙ dir_is dir)) n))
    | inr ne ↦ stays m label head l1 q1 l2 q2 less t.spreads.spread s b n.to (t.sides d b (omega (arith, few, ne, is)) n)
  ];
}

-- the directions in their order
pub dir_at : (i : ℕ) → i < 4 → dir_number (get_or (North ∷ East ∷ South ∷ West ∷ []) i North) ≡ i
dir_at zero less = refl
dir_at (suc zero) less = refl
dir_at (suc (suc zero)) less = refl
dir_at (suc (suc (suc zero))) less = refl
dir_at (suc (suc (suc (suc i)))) less = absurd (omega (arith, less))

-- all four were
pub turned_round : (m : Floor) (label head : ℕ) (l0 q0 l1 q1 : List ℕ) → label < 4294967295 → IsSpread m label head l0 q0 → head < length q0 → HasTurned m label head 4 l0 q0 l1 q1 → Spreads m label (head + 1) l0 q0 l1 q1
turned_round m label head l0 q0 l1 q1 less o short t =
    next_head m label head (slice_index q0 head) l0 q0 l1 q1 less o short refl t.spreads (λ b n. t.sides n.0 b (all n.0) n.1)
  where
    all : (dir : Dir) → dir_number dir < 4
    all North = omega arith
    all East = omega arith
    all South = omega arith
    all West = omega arith

-- the search for a part so far: it began from labels that are kept, and its first cell has its label
pub record HasKept (m : Floor) (start head : ℕ) (old new queue : List ℕ) : Type 0 where
  pub spread : IsSpread m start head new queue
  pub kept : (c : ℕ) → HasLabel old c → HasLabel new c
  pub first : HasLabel new start
  pub len : length new ≡ length old

pub begun : (m : Floor) (start : ℕ) (labels : List ℕ) → start < 4294967295 → IsFloor m start → slice_index labels start ≡ 4294967295 → AreDone m labels → HasKept m start 0 labels (set labels start start) (start ∷ [])
begun m start labels less floor bare d = record {
  spread = started m start labels less floor bare d;
  kept = λ c h. (omega (arith, h.0, size), λ e. h.1 (sym (started_keeps start labels inside bare c h) ∙ e));
  first = (omega (arith, inside, size), λ e. omega (arith, e, own, less));
  len = size;
}
  where
    inside : start < length labels
    inside = omega (arith, floor_inside m start floor, d.len)

    size : length (set labels start start) ≡ length labels
    size = length-set labels start start

    own : slice_index (set labels start start) start ≡ start
    own = elim (read labels start start start inside) [ inl p ↦ p.1 | inr p ↦ absurd (p.0 refl) ]

pub kept_on : (m : Floor) (start head : ℕ) (old l0 q0 l1 q1 : List ℕ) → HasKept m start head old l0 q0 → IsSpread m start head l0 q0 → Spreads m start (head + 1) l0 q0 l1 q1 → HasKept m start (head + 1) old l1 q1
kept_on m start head old l0 q0 l1 q1 k o s = record {
  spread = s.spread;
  kept = λ c h. still c (k.kept c h);
  first = still start k.first;
  len = size ∙ k.len;
}
  where
    size : length l1 ≡ length l0
    size = s.spread.len ∙ sym o.len

    still : (c : ℕ) → HasLabel l0 c → HasLabel l1 c
    still c h = (omega (arith, h.0, size), λ e. h.1 (sym (s.kept c h) ∙ e))

-- two labels are the same exactly where a walk joins their cells
pub same_label_is : (m : Floor) (labels : List ℕ) (a b : ℕ) → AreParts m labels → IsFloor m a → IsFloor m b → (eqb (slice_index labels a) (slice_index labels b) ≡ true) ↔ AreJoined (IsNeighbour m) a b
same_label_is m labels a b parts fa fb = (
  (λ e. joined_on (IsNeighbour m) a (slice_index labels a) b (parts.joined a fa)
      (subst (λ (x : ℕ). AreJoined (IsNeighbour m) x b) (sym (eqb-true _ _ e)) (joined_back (IsNeighbour m) (neighbour_back m) b (slice_index labels b) (parts.joined b fb)))),
  (λ j. eq-eqb _ _ (same_along (IsNeighbour m) (slice_index labels) parts.same a b j.steps j.walk)),
)
