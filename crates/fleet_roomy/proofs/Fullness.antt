-- What is found beyond an edge, robot by robot.
use Rattle.std.proofs.Common.{◌≡◌, ◌≢◌, ◌∙◌, ℕ, zero, suc, ◌+◌, ◌<◌, ◌≤◌, Bool, true, false, List, [], ◌∷◌, ◌++◌, ◌⊎◌, length, get_or, replicate, inl, inr, true≢false, cond, refl, sym, ap, subst, arith, count_by, set}
use Rattle.std.proofs.lemmas.List.{length-set, length_push, length-replicate, get_or_push, get_or-append_right, get_or_append_left, get_or-set_same, get_or-set_other}
use Rattle.std.proofs.lemmas.Bool.{cases_eq}
use Rattle.std.specs.Prelude.{Result, Ok, Err, IfOk, OnOk}
use Rattle.std.proofs.lemmas.List.Sums.{sum_by-cons, sum_by-set, count_by-le-length}
use Rattle.fleet_grid.specs.declared.dir.Dir.{Dir}
use Rattle.fleet_grid.specs.declared.dir.Dir.TheVariants.{North, East, South, West}
use Rattle.fleet_grid.specs.Floor.{Floor, IsNeighbour, IsNeighbourIn}
use Rattle.fleet_grid.specs.Walk.{Walks, AreJoined, Besides, IsOnSide}
use Rattle.fleet_grid.proofs.Walks.{joined_same, joined_by_edge, joined_on, joined_back, besides_back}
use Rattle.fleet_grid.proofs.Edges.{neighbour_back}
use Rattle.fleet_pibt.specs.Advancing.{IsFullBeyond}
use Rattle.fleet_roomy.specs.inside.Found.{AreFound, AreMore, Has}

pub more-same : (robots : List ℕ) → AreMore robots robots
more-same robots = record { count = omega arith; same = λ k inside. refl }

pub more-then : (a b c : List ℕ) → AreMore a b → AreMore b c → AreMore a c
more-then a b c p q = record { count = omega (arith, p.count, q.count); same = λ k inside. q.same k (omega (arith, inside, p.count)) ∙ p.same k inside }

pub has-more : (cells a b : List ℕ) (c : ℕ) → AreMore a b → Has cells a c → Has cells b c
has-more cells a b c more (k, inside, is) = (k, omega (arith, inside, more.count), ap (λ (r : ℕ). get_or cells r 0) (more.same k inside) ∙ is)

module _ (m : Floor) (cells : List ℕ) (u v : ℕ) where
  abbrev Step : ℕ → ℕ → Type 0
  Step = Besides (IsNeighbour m) u v

  turn : (x y : ℕ) → Step x y → Step y x
  turn = besides_back (IsNeighbour m) (neighbour_back m) u v

  pub at-cell : (seen : List Bool) (robots : List ℕ) (x : ℕ) → AreFound m cells u v seen robots → Has cells robots x → IsOnSide (IsNeighbour m) u v x × (x ≢ u)
  at-cell seen robots x f (k, inside, is) = (subst (λ (c : ℕ). IsOnSide (IsNeighbour m) u v c) is (f.beyond k inside), λ same. f.other k inside (is ∙ same))

  step-beyond : (x y : ℕ) → IsOnSide (IsNeighbour m) u v x → Step x y → IsOnSide (IsNeighbour m) u v y
  step-beyond x y on step = joined_on Step v x y on (joined_by_edge Step x y y step (joined_same Step y))

  -- the edge's other end is reached by another way
  pub not-bridge : (x : ℕ) → IsOnSide (IsNeighbour m) u v x → x ≢ u → IsNeighbour m x u → x ≢ v → IsFullBeyond m cells u v → ⊥
  not-bridge x on apart near other full =
      full.bridge.alone (joined_back Step turn v u (step-beyond x u on (record { near = near; there = λ is _. apart is; back = λ is _. other is })))

  pub next-beyond : (x y : ℕ) → IsOnSide (IsNeighbour m) u v x → x ≢ u → IsNeighbour m x y → y ≢ u → IsOnSide (IsNeighbour m) u v y
  next-beyond x y on apart near other = step-beyond x y on (record { near = near; there = λ is _. apart is; back = λ _ is. other is })

  -- nobody stands on a cell beyond it
  pub not-full : (y : ℕ) → IsOnSide (IsNeighbour m) u v y → ((r : ℕ) → r < length cells → get_or cells r 0 ≢ y) → IsFullBeyond m cells u v → ⊥
  not-full y on none full = let (r, inside, is) = full.full y on in none r inside is

  -- one more robot is found
  module _ (seen : List Bool) (robots : List ℕ) (f : AreFound m cells u v seen robots) (robot : ℕ) (inside : robot < length cells) (new : get_or seen robot false ≡ false)
      (on : IsOnSide (IsNeighbour m) u v (get_or cells robot 0)) (other : get_or cells robot 0 ≢ u) where
    abbrev pub more : List ℕ
    more = robots ++ robot ∷ []

    last : get_or more (length robots) 0 ≡ robot
    last = get_or_push robots robot 0 (length robots) refl

    old : (k : ℕ) → k < length robots → get_or more k 0 ≡ get_or robots k 0
    old k within = get_or_append_left robots (robot ∷ []) 0 k within

    length-more : length more ≡ length robots + 1
    length-more = length_push robots robot

    each : (P : ℕ → Type 0) → ((k : ℕ) → k < length robots → P (get_or robots k 0)) → P robot → (k : ℕ) → k < length more → P (get_or more k 0)
    each P before now k within = elim (cases_eq k (length robots)) [
      | inl is ↦ subst P (sym (ap (λ (i : ℕ). get_or more i 0) is ∙ last)) now
      | inr other ↦ (let below : k < length robots = omega (arith, within, length-more, other) in subst P (sym (old k below)) (before k below))
    ]

    counted : count_by (λ b. b) (set seen robot true) ≡ count_by (λ b. b) seen + 1
    counted =
        let sums = sum_by-set (λ (b : Bool). cond {A = ℕ} b 1 0) seen robot true false (omega (arith, inside, f.size)) in
        let none : ◌≡◌ {A = ℕ} (cond (get_or seen robot false) 1 0) 0 = ap (λ (b : Bool). cond {A = ℕ} b 1 0) new in
        omega (arith, sums, none)

    pub found-more : AreFound m cells u v (set seen robot true) more
    found-more = record {
      size = length-set seen robot true ∙ f.size;
      count = length-more ∙ ap (λ (n : ℕ). n + 1) f.count ∙ sym counted;
      marked = marked;
      inside = each (λ (r : ℕ). r < length cells) f.inside inside;
      beyond = each (λ (r : ℕ). IsOnSide (IsNeighbour m) u v (get_or cells r 0)) f.beyond on;
      other = each (λ (r : ℕ). get_or cells r 0 ≢ u) f.other other;
    }
      where
        marked : (r : ℕ) → get_or (set seen robot true) r false ≡ true → (k : ℕ) × (k < length more) × (get_or more k 0 ≡ r)
        marked r is = elim (cases_eq r robot) [
          | inl same ↦ (length robots, omega (arith, length-more), last ∙ sym same)
          | inr apart ↦ (let (k, within, at) = f.marked r (sym (get_or-set_other seen robot r true false apart) ∙ is) in (k, omega (arith, within, length-more), old k within ∙ at))
        ]

    pub more-robots : AreMore robots more
    more-robots = record { count = omega (arith, length-more); same = old }

    pub has-last : Has cells more (get_or cells robot 0)
    has-last = (length robots, omega (arith, length-more), ap (λ (r : ℕ). get_or cells r 0) last)

  unmarked : (i r : ℕ) → get_or (replicate i false) r false ≡ false
  unmarked zero r = refl
  unmarked (suc i) zero = refl
  unmarked (suc i) (suc r) = unmarked i r

  pub nobody-found : (n : ℕ) → n ≡ length cells → AreFound m cells u v (replicate n false) []
  nobody-found n same = record {
    size = length-replicate n false ∙ same;
    count = sym (none n);
    marked = λ r is. absurd (true≢false (sym is ∙ unmarked n r));
    inside = λ k within. absurd (omega (arith, within));
    beyond = λ k within. absurd (omega (arith, within));
    other = λ k within. absurd (omega (arith, within));
  }
    where
      count_by-cons : (xs : List Bool) → count_by (λ b. b) (false ∷ xs) ≡ count_by (λ b. b) xs
      count_by-cons xs = sum_by-cons (λ (b : Bool). cond {A = ℕ} b 1 0) false xs ∙ omega arith

      none : (i : ℕ) → count_by (λ b. b) (replicate i false) ≡ 0
      none zero = refl
      none (suc i) = count_by-cons (replicate i false) ∙ none i

  -- the robot on the first cell beyond the edge is found
  pub start-found : (n first : ℕ) (seen : List Bool) (robots : List ℕ) → n ≡ length cells → first < length cells → get_or cells first 0 ≡ v → u ≢ v
      → seen ≡ set (replicate n false) first true → robots ≡ first ∷ [] → AreFound m cells u v seen robots × Has cells robots v
  start-found n first seen robots same inside at apart marks list =
      let on : IsOnSide (IsNeighbour m) u v (get_or cells first 0) = subst (λ (c : ℕ). IsOnSide (IsNeighbour m) u v c) (sym at) (joined_same Step v) in
      let other : get_or cells first 0 ≢ u = λ e. apart (sym e ∙ at) in
      let f = found-more (replicate n false) [] (nobody-found n same) first inside (unmarked n first) on other in (
        subst (λ (xs : List ℕ). AreFound m cells u v seen xs) (sym list) (subst (λ (bs : List Bool). AreFound m cells u v bs (first ∷ [])) (sym marks) f),
        subst (λ (xs : List ℕ). Has cells xs v) (sym list) (0, omega arith, at),
      )

  -- one has gone on from one more robot
  pub closed-more : (old new : List ℕ) (at : ℕ) → at < length old → AreMore old new
      → ((k : ℕ) → k < at → (y : ℕ) → Step (get_or cells (get_or old k 0) 0) y → Has cells old y) → ((k : ℕ) → k < at → k < length old)
      → ((y : ℕ) → Step (get_or cells (get_or old at 0) 0) y → Has cells new y)
      → (k : ℕ) → k < at + 1 → (y : ℕ) → Step (get_or cells (get_or new k 0) 0) y → Has cells new y
  closed-more old new at there more closed within now k below y step = elim (cases_eq k at) [
    | inl is ↦ now y (subst (λ (i : ℕ). Step (get_or cells (get_or old i 0) 0) y) is (subst (λ (r : ℕ). Step (get_or cells r 0) y) (more.same k (subst (λ (i : ℕ). i < length old) (sym is) there)) step))
    | inr other ↦ (let before : k < at = omega (arith, below, other) in has-more cells old new y more (closed k before y (subst (λ (r : ℕ). Step (get_or cells r 0) y) (more.same k (within k before)) step)))
  ]

  -- in each direction one has gone on
  pub all-ways : (cell : ℕ) (a b c d : List ℕ)
      → ((y : ℕ) → IsNeighbourIn m North cell y → (cell ≡ v → y ≡ u → ⊥) → Has cells a y) → ((y : ℕ) → IsNeighbourIn m East cell y → (cell ≡ v → y ≡ u → ⊥) → Has cells b y)
      → ((y : ℕ) → IsNeighbourIn m South cell y → (cell ≡ v → y ≡ u → ⊥) → Has cells c y) → ((y : ℕ) → IsNeighbourIn m West cell y → (cell ≡ v → y ≡ u → ⊥) → Has cells d y)
      → AreMore a b → AreMore b c → AreMore c d → (y : ℕ) → Step cell y → Has cells d y
  all-ways cell a b c d north east south west ab bc cd y step = by step.near.0 step.near.1
    where
      by : (dir : Dir) → IsNeighbourIn m dir cell y → Has cells d y
      by North near = has-more cells c d y cd (has-more cells b c y bc (has-more cells a b y ab (north y near step.back)))
      by East near = has-more cells c d y cd (has-more cells b c y bc (east y near step.back))
      by South near = has-more cells c d y cd (south y near step.back)
      by West near = west y near step.back

  -- all that is beyond the edge was found, and holds a robot
  pub full-beyond : (seen : List Bool) (robots : List ℕ) → AreFound m cells u v seen robots → Has cells robots v → IsNeighbour m u v
      → ((k : ℕ) → k < length robots → (y : ℕ) → Step (get_or cells (get_or robots k 0) 0) y → Has cells robots y) → IsFullBeyond m cells u v
  full-beyond seen robots f start edge closed = record {
    bridge = record { edge = edge; alone = λ j. let back = joined_back Step turn u v j in (at-cell seen robots u f (reach v u back.steps start back.walk)).1 refl };
    full = λ c on. let (k, within, is) = reach v c on.steps start on.walk in (get_or robots k 0, f.inside k within, is);
  }
    where
      reach : (x c : ℕ) (steps : List ℕ) → Has cells robots x → Walks Step x steps c → Has cells robots c
      reach x c [] has walk = subst (λ (z : ℕ). Has cells robots z) walk has
      reach x c (y ∷ ys) (k, within, is) (step, walk) = reach y c ys (closed k within y (subst (λ (z : ℕ). Step z y) (sym is) step)) walk

  -- no more robots are found than there are
  pub few-found : (seen : List Bool) (robots : List ℕ) → AreFound m cells u v seen robots → length robots ≤ length cells
  few-found seen robots f = omega (arith, f.count, f.size, count_by-le-length (λ (b : Bool). b) seen)

-- the neighbour in a direction is one
pub one-neighbour : (m : Floor) (a b c : ℕ) (dir : Dir) → IsNeighbourIn m dir a b → IsNeighbourIn m dir a c → b ≡ c
one-neighbour m a b c North p q = omega (arith, p.beside, q.beside)
one-neighbour m a b c East p q = sym p.beside.0 ∙ q.beside.0
one-neighbour m a b c South p q = sym p.beside ∙ q.beside
one-neighbour m a b c West p q = omega (arith, p.beside.0, q.beside.0)

pub ok-with : {X E : Type 0} (r : Result X E) (P S : X → Type 0) (Q : Type 0) → IfOk r P → OnOk r Q → ((x : X) → P x → Q → S x) → IfOk r S
ok-with (Ok x) P S Q p q f = f x p q
ok-with (Err e) P S Q p q f = tt
