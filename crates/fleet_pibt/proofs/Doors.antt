-- A step on a map with a door, what is enough for a way there, and that without a door nothing changes.
use Rattle.std.proofs.Common.{◌≡◌, ◌≢◌, ◌↔◌, ℕ, ◌<◌, ◌⊎◌, inl, inr, Option, Some, None, List, [], ◌∷◌, length, slice_index, sym, subst, ◌∙◌}
use Rattle.std.proofs.lemmas.Bool.{cases_eq}
use Rattle.fleet_grid.specs.Floor.{Floor, IsNeighbour}
use Rattle.fleet_grid.specs.Walk.{Walks, AreJoined, Besides, IsBridge, IsOnSide, HasSide}
use Rattle.fleet_grid.proofs.Walks.{joined_same, joined_by_edge, joined_on, joined_back}
use Rattle.fleet_hooks.specs.declared.law.TieLaw.{TieLaw}
use Rattle.fleet_pibt.specs.Advancing.{IsFullBeyond, HasWayAhead}
use Rattle.fleet_pibt.specs.Door.{IsPassage, IsFullWithDoor, HasPassage, HasWayWithDoor, IsSteppedWithDoor}
use Rattle.fleet_pibt.specs.Goals.{IsNearer}
use Rattle.fleet_pibt.specs.Purposeful.{IsEmptyIn}
use Rattle.fleet_pibt.specs.Stepped.{IsStepped}
use Rattle.fleet_pibt.specs.declared.door.Door.{Door}
use Rattle.fleet_pibt.proofs.Distances.{near-sym}
use Rattle.fleet_pibt.proofs.Roomy.{besides-turn, before-apart, only-nearer, too-many}

walks-map : (R S : ℕ → ℕ → Type 0) → ((x y : ℕ) → R x y → S x y) → (a : ℕ) (cs : List ℕ) (b : ℕ) → Walks R a cs b → Walks S a cs b
walks-map R S f a [] b w = w
walks-map R S f a (c ∷ cs) b w = (f a c w.0, walks-map R S f c cs b w.1)

-- a walk through passages is one on the floor
side-floor : (m : Floor) (door : Option Door) (a b c : ℕ) → IsOnSide (IsPassage m door) a b c → IsOnSide (IsNeighbour m) a b c
side-floor m door a b c side = record {
  steps = side.steps;
  walk = walks-map (Besides (IsPassage m door) a b) (Besides (IsNeighbour m) a b) (λ x y r. record { near = r.near.0; there = r.there; back = r.back }) b side.steps c side.walk;
}

side-none : (m : Floor) (a b c : ℕ) → IsOnSide (IsNeighbour m) a b c → IsOnSide (IsPassage m None) a b c
side-none m a b c side = record {
  steps = side.steps;
  walk = walks-map (Besides (IsNeighbour m) a b) (Besides (IsPassage m None) a b) (λ x y r. record { near = (r.near, tt); there = r.there; back = r.back }) b side.steps c side.walk;
}

pub full-from : (m : Floor) (door : Option Door) (from : List ℕ) (cell w : ℕ) → IsFullBeyond m from cell w → IsFullWithDoor m door from cell w
full-from m door from cell w beyond = record {
  apart = λ side. before-apart m cell w beyond.bridge (side-floor m door cell w cell side);
  full = λ c side. beyond.full c (side-floor m door cell w c side);
}

full-to : (m : Floor) (from : List ℕ) (cell w : ℕ) → IsNeighbour m cell w → IsFullWithDoor m None from cell w → IsFullBeyond m from cell w
full-to m from cell w n beyond = record {
  bridge = record {
    edge = n;
    alone = λ joined. beyond.apart (side-none m cell w cell (joined_back (Besides (IsNeighbour m) cell w) (besides-turn m cell w) cell w joined));
  };
  full = λ c side. beyond.full c (side-none m cell w c side);
}

way-none : (m : Floor) (from : List ℕ) (goal cell : ℕ) → HasWayAhead m from goal cell → HasWayWithDoor m None from goal cell
way-none m from goal cell ahead = record {
  passage = λ w n closer. (w, (n, tt), closer);
  free = λ w p closer beyond. ahead w p.0 closer (full-to m from cell w p.0 beyond);
}

pub way-same : (m : Floor) (from : List ℕ) (goal cell : ℕ) → HasWayWithDoor m None from goal cell ↔ HasWayAhead m from goal cell
way-same m from goal cell = (λ way w n closer beyond. way.free w (n, tt) closer (full-from m None from cell w beyond), way-none m from goal cell)

module _ (m : Floor) (waits : List (Option ℕ)) (goals : ℕ → Option ℕ) (laws : List TieLaw) (from to : List ℕ) where
  pub stepped-none : IsSteppedWithDoor m None waits goals laws from to → IsStepped m waits goals laws from to
  stepped-none s = record {
    conflict_free = s.conflict_free;
    purposeful = record {
      none_passed_over = λ r w l n closer free empty. s.purposeful.none_passed_over r w l (n, tt) closer free empty;
      drawn = s.purposeful.drawn;
    };
    advances = λ e g eldest is ahead. s.advances e g eldest is (way-none m from g (slice_index from e) ahead);
    bridgeless = λ none e g eldest is. s.advances e g eldest is (way-none m from g (slice_index from e) (λ w n closer beyond. none (slice_index from e) w beyond.bridge));
    by_law = λ e g law eldest is ahead at d f other step closer beside nearer under.
        s.by_law e g law eldest is (way-none m from g (slice_index from e) ahead) at d f other step closer beside tt nearer under;
  }

  stepped-with : IsStepped m waits goals laws from to → IsSteppedWithDoor m None waits goals laws from to
  stepped-with s = record {
    conflict_free = s.conflict_free;
    passes = λ r l. elim (s.conflict_free.moves r l) [ inl same ↦ inl same | inr n ↦ inr (n, tt) ];
    purposeful = record {
      none_passed_over = λ r w l p closer free empty. s.purposeful.none_passed_over r w l p.0 closer free empty;
      drawn = s.purposeful.drawn;
    };
    advances = λ e g eldest is way. s.advances e g eldest is ((way-same m from g (slice_index from e)).0 way);
    by_law = λ e g law eldest is way at d f other step closer beside opens nearer under.
        s.by_law e g law eldest is ((way-same m from g (slice_index from e)).0 way) at d f other step closer beside nearer under;
  }

  pub stepped-same : IsSteppedWithDoor m None waits goals laws from to ↔ IsStepped m waits goals laws from to
  stepped-same = (stepped-none, stepped-with)

-- a door elsewhere shuts nothing
pub passage-elsewhere : (m : Floor) (door : Door) (goal cell : ℕ) → door.from ≢ cell → HasPassage m (Some door) goal cell
passage-elsewhere m door goal cell elsewhere w n closer = (w, (n, λ from _. elsewhere from), closer)

-- a side with an empty cell is not full, nor one with as many cells as there are robots
pub empty-beyond : (m : Floor) (door : Option Door) (from : List ℕ) (cell w c : ℕ) → IsOnSide (IsPassage m door) cell w c → IsEmptyIn from c → IsFullWithDoor m door from cell w → ⊥
empty-beyond m door from cell w c side empty beyond = let robot = beyond.full c side in empty robot.0 robot.1 robot.2

pub many-beyond : (m : Floor) (door : Option Door) (from : List ℕ) (e w : ℕ) → e < length from → HasSide (IsPassage m door) (slice_index from e) w (length from) → IsFullWithDoor m door from (slice_index from e) w → ⊥
many-beyond m door from e w known many beyond = too-many (IsPassage m door) from e known w beyond.apart beyond.full many

-- a walk, past one edge: without it, or to one of its ends and on from one of them
module _ (R : ℕ → ℕ → Type 0) (p q z : ℕ) where
  abbrev IsEnd : ℕ → Type 0
  IsEnd x = (x ≡ p) ⊎ (x ≡ q)

  record IsPast (x : ℕ) : Type 0 where
    first : ℕ
    first_end : IsEnd first
    to : AreJoined (Besides R p q) x first
    last : ℕ
    last_end : IsEnd last
    on : AreJoined (Besides R p q) last z

  across : (x c : ℕ) → IsEnd x → IsEnd c → AreJoined (Besides R p q) c z ⊎ IsPast c → IsPast x
  across x c x_end c_end (inl rest) = record { first = x; first_end = x_end; to = joined_same (Besides R p q) x; last = c; last_end = c_end; on = rest }
  across x c x_end c_end (inr past) = record { first = x; first_end = x_end; to = joined_same (Besides R p q) x; last = past.last; last_end = past.last_end; on = past.on }

  along : (x c : ℕ) → Besides R p q x c → AreJoined (Besides R p q) c z ⊎ IsPast c → AreJoined (Besides R p q) x z ⊎ IsPast x
  along x c step (inl rest) = inl (joined_by_edge (Besides R p q) x c z step rest)
  along x c step (inr past) = inr (record { first = past.first; first_end = past.first_end; to = joined_by_edge (Besides R p q) x c past.first step past.to; last = past.last; last_end = past.last_end; on = past.on })

  past : (x : ℕ) (cs : List ℕ) → Walks R x cs z → AreJoined (Besides R p q) x z ⊎ IsPast x
  past x [] w = inl (record { steps = []; walk = w })
  past x (c ∷ cs) w =
      let rest = past c cs w.1 in
      elim (cases_eq x p) [
        | inl at ↦ elim (cases_eq c q) [
          | inl to ↦ inr (across x c (inl at) (inr to) rest)
          | inr off ↦ along x c (record { near = w.0; there = λ _ to. off to; back = λ from to. off (to_q at from to) }) rest
        ]
        | inr off ↦ elim (cases_eq x q) [
          | inl at ↦ elim (cases_eq c p) [
            | inl to ↦ inr (across x c (inr at) (inl to) rest)
            | inr far ↦ along x c (record { near = w.0; there = λ from _. off from; back = λ _ to. far to }) rest
          ]
          | inr apart ↦ along x c (record { near = w.0; there = λ from _. off from; back = λ from _. apart from }) rest
        ]
      ]
    where
      -- where both ends are one cell
      to_q : {y d : ℕ} → y ≡ p → y ≡ q → d ≡ p → d ≡ q
      to_q a b e = e ∙ (sym a ∙ b)

-- the two cells of an edge that are joined without it are so without a bridge too
module _ (m : Floor) (p q u v : ℕ) (bridge : IsBridge (IsNeighbour m) p q) (edge : IsNeighbour m u v) where
  abbrev R : ℕ → ℕ → Type 0
  R = Besides (IsNeighbour m) u v

  abbrev S : ℕ → ℕ → Type 0
  S = Besides R p q

  abbrev B : ℕ → ℕ → Type 0
  B = Besides (IsNeighbour m) p q

  thin : (x y : ℕ) → AreJoined S x y → AreJoined B x y
  thin x y j = record { steps = j.steps; walk = walks-map S B (λ a b r. record { near = r.near.near; there = r.there; back = r.back }) x j.steps y j.walk }

  -- the edge itself, unless it is the bridge
  other : (u ≡ p → v ≡ q → ⊥) → (u ≡ q → v ≡ p → ⊥) → (x : ℕ) → AreJoined B u x → AreJoined B v x
  other a b x j = joined_by_edge B v u x (besides-turn m p q u v (record { near = edge; there = a; back = b })) j

  pub joined-past : (u ≡ p → v ≡ q → ⊥) → (u ≡ q → v ≡ p → ⊥) → AreJoined R v u → AreJoined S v u
  joined-past a b j = elim (past R p q u v j.steps j.walk) [
    | inl same ↦ same
    | inr it ↦ elim it.first_end [
      | inl fp ↦ elim it.last_end [
        | inl lp ↦ joined_on S v p u (subst (AreJoined S v) fp it.to) (subst (λ (x : ℕ). AreJoined S x u) lp it.on)
        | inr lq ↦ absurd (cut (subst (AreJoined S v) fp it.to) (subst (λ (x : ℕ). AreJoined S x u) lq it.on))
      ]
      | inr fq ↦ elim it.last_end [
        | inl lp ↦ absurd (cut' (subst (AreJoined S v) fq it.to) (subst (λ (x : ℕ). AreJoined S x u) lp it.on))
        | inr lq ↦ joined_on S v q u (subst (AreJoined S v) fq it.to) (subst (λ (x : ℕ). AreJoined S x u) lq it.on)
      ]
    ]
  ]
    where
      back : (x y : ℕ) → AreJoined B x y → AreJoined B y x
      back x y = joined_back B (besides-turn m p q) x y

      -- p to v, to u, to q
      cut : AreJoined S v p → AreJoined S q u → ⊥
      cut to on = bridge.alone (joined_on B p v q (back v p (thin v p to)) (other a b q (back q u (thin q u on))))

      cut' : AreJoined S v q → AreJoined S p u → ⊥
      cut' to on = bridge.alone (joined_on B p v q (back v p (other a b p (back p u (thin p u on)))) (thin v q to))

-- where the door is a bridge, an edge that is none is full beyond at no side
module _ (m : Floor) (door : Door) (bridge : IsBridge (IsNeighbour m) door.from door.to) (from : List ℕ) (cell w : ℕ) (p : IsPassage m (Some door) cell w) (beyond : IsFullWithDoor m (Some door) from cell w) where
  -- the way back over the bridge is the edge itself
  round : (cell ≡ door.to → w ≡ door.from → ⊥) → AreJoined (Besides (IsNeighbour m) cell w) w cell → ⊥
  round apart j = beyond.apart (record {
    steps = joined.steps;
    walk = walks-map (Besides (Besides (IsNeighbour m) cell w) door.from door.to) (Besides (IsPassage m (Some door)) cell w)
        (λ x y r. record { near = (r.near.near, λ f t. r.there (sym f) (sym t)); there = r.near.there; back = r.near.back }) w joined.steps cell joined.walk;
  })
    where
      joined : AreJoined (Besides (Besides (IsNeighbour m) cell w) door.from door.to) w cell
      joined = joined-past m door.from door.to cell w bridge p.0 (λ f t. p.1 (sym f) (sym t)) apart j

bridge-turn : (m : Floor) (a b : ℕ) → IsBridge (IsNeighbour m) a b → IsBridge (IsNeighbour m) b a
bridge-turn m a b bridge = record {
  edge = near-sym m a b bridge.edge.0 bridge.edge.1;
  alone = λ joined. bridge.alone (joined_back (Besides (IsNeighbour m) a b) (besides-turn m a b) b a (record {
    steps = joined.steps;
    walk = walks-map (Besides (IsNeighbour m) b a) (Besides (IsNeighbour m) a b) (λ x y r. record { near = r.near; there = r.back; back = r.there }) b joined.steps a joined.walk;
  }));
}

pub open-edge : (m : Floor) (door : Door) (from : List ℕ) (cell w : ℕ) → IsBridge (IsNeighbour m) door.from door.to → IsPassage m (Some door) cell w → (IsBridge (IsNeighbour m) cell w → ⊥) → IsFullWithDoor m (Some door) from cell w → ⊥
open-edge m door from cell w bridge p sound beyond = elim (cases_eq cell door.to) [
  | inl here ↦ elim (cases_eq w door.from) [
    | inl there ↦ sound (subst (λ (x : ℕ). IsBridge (IsNeighbour m) x w) (sym here) (subst (IsBridge (IsNeighbour m) door.to) (sym there) (bridge-turn m door.from door.to bridge)))
    | inr off ↦ sound (lone (λ _ t. off t))
  ]
  | inr off ↦ sound (lone (λ f _. off f))
]
  where
    lone : (cell ≡ door.to → w ≡ door.from → ⊥) → IsBridge (IsNeighbour m) cell w
    lone apart = record {
      edge = p.0;
      alone = λ joined. round m door bridge from cell w p beyond apart (joined_back (Besides (IsNeighbour m) cell w) (besides-turn m cell w) cell w joined);
    }

-- so one nearer neighbour that is not full beyond is a way
pub one-with : (m : Floor) (door : Door) (from : List ℕ) (goal cell w : ℕ) → IsBridge (IsNeighbour m) door.from door.to → IsPassage m (Some door) cell w → IsNearer m goal w cell →
    (IsFullWithDoor m (Some door) from cell w → ⊥) → HasWayWithDoor m (Some door) from goal cell
one-with m door from goal cell w bridge p closer sound = record {
  passage = λ _ _ _. (w, p, closer);
  free = λ v p_v closer_v beyond. elim (cases_eq v w) [
    | inl same ↦ sound (subst (IsFullWithDoor m (Some door) from cell) same beyond)
    | inr apart ↦ open-edge m door from cell v bridge p_v (λ thin. apart (sym (only-nearer m goal cell v w thin closer_v p.0 closer))) beyond
  ];
}
