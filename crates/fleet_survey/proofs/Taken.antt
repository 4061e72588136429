-- Cells are taken from those that are left, one after another.
use Rattle.std.proofs.Common.{◌≡◌, ◌≢◌, ◌∙◌, ◌⊎◌, inl, inr, ℕ, ◌+◌, ◌<◌, ◌≤◌, Bool, true, false, List, [], ◌∷◌, ◌++◌, append_assoc, length, Option, None, Some, refl, sym, ap, subst, arith}
use Rattle.std.specs.Prelude.{slice_index, slice_set}
use Rattle.std.specs.List.{Contains}
use Rattle.std.specs.Option.{option_or}
use Rattle.std.proofs.lemmas.Bool.{cases_Bool, cases_eq, cases_lt, false_from_ne_true}
use Rattle.std.proofs.lemmas.List.{append-nil, get_or_append_left, get_or_default, length-append, length-set}
use Rattle.std.proofs.lemmas.List.Elements.{Contains-append_left, Contains-get_or, Contains-push, Contains-push_cases}
use Rattle.std.proofs.lemmas.List.Quantifiers.{all_pairs_push}
use Rattle.fleet_grid.specs.declared.dir.Dir.{Dir}
use Rattle.fleet_grid.specs.declared.dir.Dir.TheVariants.{North, East, South, West}
use Rattle.fleet_grid.specs.Floor.{Floor, IsNeighbour, IsNeighbourIn}
use Rattle.fleet_grid.specs.Walk.{AreJoined}
use Rattle.fleet_grid.proofs.Edges.{beside_once}
use Rattle.fleet_grid.proofs.Walks.{joined_by_edge, joined_on, joined_same}
use Rattle.fleet_roomy.specs.Unroomy.{has}
use Rattle.fleet_survey.specs.DeadEnds.{IsFree, IsMouth}
use Rattle.fleet_survey.specs.Taken.{AreAllTaken, AreTaken, IsFound, IsTaken, LeadsTo, Takes, TakesAround, TakesIn}
use Rattle.fleet_survey.proofs.Marks.{count_less, has_inside, set_here, set_other}

-- ---- one cell

pub is_taken : (cell : ℕ) (had left : List Bool) (old cells : List ℕ) → has had cell ≡ true → left ≡ slice_set had cell false → cells ≡ old ++ cell ∷ [] → IsTaken cell had left old cells
is_taken cell had left old cells is set more = record { there = λ yes_it. (set, more); gone = λ off. absurd (let bad : true ≡ false = sym is ∙ off in cc bad) }

pub not_taken : (cell : ℕ) (had : List Bool) (old : List ℕ) → has had cell ≡ false → IsTaken cell had had old old
not_taken cell had old off = record { there = λ is. absurd (let bad : true ≡ false = sym is ∙ off in cc bad); gone = λ none. (refl, refl) }

-- the cell is not left then
taken_gone : (cell : ℕ) (had left : List Bool) (old cells : List ℕ) → IsTaken cell had left old cells → has left cell ≡ false
taken_gone cell had left old cells t = elim (cases_Bool (has had cell)) [
  | inl is ↦ ap (λ (xs : List Bool). has xs cell) (t.there is).0 ∙ set_here had cell false (has_inside had cell is)
  | inr off ↦ ap (λ (xs : List Bool). has xs cell) (t.gone off).0 ∙ off
]

same_but : (xs : List Bool) (x c : ℕ) → has (slice_set xs x false) c ≡ true → (c ≡ x → ⊥) × (has xs c ≡ true)
same_but xs x c is = elim (cases_eq c x) [
  | inl same ↦ absurd (elim (cases_lt x (length xs)) [
    | inl inside ↦ (let bad : false ≡ true = sym (set_here xs x false inside) ∙ subst (λ (k : ℕ). has (slice_set xs x false) k ≡ true) same is in cc bad)
    | inr past ↦ (let inside = has_inside (slice_set xs x false) x (subst (λ (k : ℕ). has (slice_set xs x false) k ≡ true) same is) in omega (arith, inside, past, length-set xs x false))
  ])
  | inr other ↦ (other, sym (set_other xs c x false other) ∙ is)
]

taken_less : (cell : ℕ) (had left : List Bool) (old cells : List ℕ) → IsTaken cell had left old cells → (d : ℕ) → has left d ≡ true → has had d ≡ true
taken_less cell had left old cells t d is = elim (cases_Bool (has had cell)) [
  | inl there ↦ (same_but had cell d (subst (λ (xs : List Bool). has xs d ≡ true) (t.there there).0 is)).1
  | inr off ↦ subst (λ (xs : List Bool). has xs d ≡ true) (t.gone off).0 is
]

-- a cell that walks join to the first
one_taken : (m : Floor) (first cell : ℕ) (before had : List Bool) (old : List ℕ) → AreTaken m first before had old → has had cell ≡ true → AreJoined (LeadsTo m before) first cell
    → AreTaken m first before (slice_set had cell false) (old ++ cell ∷ [])
one_taken m first cell before had old t is joined = record {
  left_were = λ c left. (
      let was = same_but had cell c left in
      let it = t.left_were c was.1 in (
        it.0,
        λ there. elim (Contains-push_cases old cell c there) [
          | inl early ↦ it.1 early
          | inr same ↦ was.0 (sym same)
        ],
      ));
  gone = λ c was none. elim (cases_eq c cell) [
    | inl same ↦ subst (Contains (old ++ cell ∷ [])) (sym same) (Contains-push old cell)
    | inr other ↦ Contains-append_left old (cell ∷ []) c (t.gone c was (sym (set_other had c cell false other) ∙ none))
  ];
  were = λ c there. elim (Contains-push_cases old cell c there) [
    | inl early ↦ t.were c early
    | inr same ↦ (subst (λ (k : ℕ). has before k ≡ true) same (t.left_were cell is).0, subst (AreJoined (LeadsTo m before) first) same joined)
  ];
  once = all_pairs_push (λ a b. a ≢ b) old cell t.once (λ k d inside same. (t.left_were cell is).1 (subst (Contains old) same (Contains-get_or old k d inside)));
  count = omega (arith, count_less had cell is, t.count, length-append old (cell ∷ []));
}

taken_on : (m : Floor) (first cell : ℕ) (before had left : List Bool) (old cells : List ℕ) → AreTaken m first before had old → IsTaken cell had left old cells → AreJoined (LeadsTo m before) first cell → AreTaken m first before left cells
taken_on m first cell before had left old cells t one joined = elim (cases_Bool (has had cell)) [
  | inl is ↦ subst (λ (xs : List Bool). AreTaken m first before xs cells) (sym (one.there is).0) (subst (AreTaken m first before (slice_set had cell false)) (sym (one.there is).1) (one_taken m first cell before had old t is joined))
  | inr off ↦ subst (λ (xs : List Bool). AreTaken m first before xs cells) (sym (one.gone off).0) (subst (AreTaken m first before had) (sym (one.gone off).1) t)
]

front_of : (cell : ℕ) (had left : List Bool) (old cells : List ℕ) → IsTaken cell had left old cells → (more : List ℕ) × (cells ≡ old ++ more)
front_of cell had left old cells one = elim (cases_Bool (has had cell)) [
  | inl is ↦ (cell ∷ [], (one.there is).1)
  | inr off ↦ ([], (one.gone off).1 ∙ sym (append-nil old))
]

-- ---- the cells around one

pub takes_next : (m : Floor) (dir : Dir) (cell next : ℕ) (had left : List Bool) (old cells : List ℕ) → IsNeighbourIn m dir cell next → IsTaken next had left old cells → TakesIn m dir cell had left old cells
takes_next m dir cell next had left old cells near one =
    let front = front_of next had left old cells one in
    record {
      takes = record {
        keeps = λ first before t inside. elim (cases_Bool (has had next)) [
          | inl is ↦ taken_on m first next before had left old cells t one (joined_on (LeadsTo m before) first cell next (t.were cell inside).1 (joined_by_edge (LeadsTo m before) cell next next ((dir, near), (t.left_were next is).0) (joined_same (LeadsTo m before) next)))
          | inr off ↦ subst (λ (xs : List Bool). AreTaken m first before xs cells) (sym (one.gone off).0) (subst (AreTaken m first before had) (sym (one.gone off).1) t)
        ];
        less = taken_less next had left old cells one;
        more = front.0;
        front = front.1;
      };
      none = λ d is. subst (λ (k : ℕ). has left k ≡ false) (beside_once m.width dir cell next d near.beside is.beside) (taken_gone next had left old cells one);
    }

pub takes_nothing : (m : Floor) (dir : Dir) (cell : ℕ) (had : List Bool) (old : List ℕ) → ((d : ℕ) → IsNeighbourIn m dir cell d → ⊥) → TakesIn m dir cell had had old old
takes_nothing m dir cell had old nobody = record {
  takes = record { keeps = λ first before t inside. t; less = λ d is. is; more = []; front = sym (append-nil old) };
  none = λ d is. absurd (nobody d is);
}

takes_on : (m : Floor) (cell : ℕ) (a b c : List Bool) (xs ys zs : List ℕ) → Takes m cell a b xs ys → Takes m cell b c ys zs → Takes m cell a c xs zs
takes_on m cell a b c xs ys zs p q = record {
  keeps = λ first before t inside. q.keeps first before (p.keeps first before t inside) (subst (λ (l : List ℕ). Contains l cell) (sym p.front) (Contains-append_left xs p.more cell inside));
  less = λ d is. p.less d (q.less d is);
  more = p.more ++ q.more;
  front = q.front ∙ (ap (λ (l : List ℕ). l ++ q.more) p.front ∙ append_assoc xs p.more q.more);
}

still : (a b : List Bool) → ((d : ℕ) → has b d ≡ true → has a d ≡ true) → (d : ℕ) → has a d ≡ false → has b d ≡ false
still a b less d off = false_from_ne_true (has b d) (λ is. let bad : false ≡ true = sym off ∙ less d is in absurd (cc bad))

pub takes_four : (m : Floor) (cell : ℕ) (a b c d e : List Bool) (va vb vc vd ve : List ℕ) → TakesIn m North cell a b va vb → TakesIn m East cell b c vb vc → TakesIn m South cell c d vc vd → TakesIn m West cell d e vd ve → TakesAround m cell a e va ve
takes_four m cell a b c d e va vb vc vd ve n e_ s w =
    let after_south = w.takes.less in
    let after_east : (x : ℕ) → has e x ≡ true → has c x ≡ true = λ x is. s.takes.less x (after_south x is) in
    let after_north : (x : ℕ) → has e x ≡ true → has b x ≡ true = λ x is. e_.takes.less x (after_east x is) in
    record {
      takes = takes_on m cell a b e va vb ve n.takes (takes_on m cell b c e vb vc ve e_.takes (takes_on m cell c d e vc vd ve s.takes w.takes));
      none = λ x near. at x near.0 near.1 after_north after_east after_south;
    }
  where
    at : (x : ℕ) (dir : Dir) → IsNeighbourIn m dir cell x → ((x : ℕ) → has e x ≡ true → has b x ≡ true) → ((x : ℕ) → has e x ≡ true → has c x ≡ true) → ((x : ℕ) → has e x ≡ true → has d x ≡ true) → has e x ≡ false
    at x North near p q r = still b e p x (n.none x near)
    at x East near p q r = still c e q x (e_.none x near)
    at x South near p q r = still d e r x (s.none x near)
    at x West near p q r = w.none x near

-- ---- all cells that hang together with the first

pub none_taken : (m : Floor) (first : ℕ) (before : List Bool) (cells : List ℕ) → cells ≡ [] → AreTaken m first before before cells
none_taken m first before cells none = subst (AreTaken m first before before) (sym none) (record {
  left_were = λ c is. (is, λ there. absurd (omega (arith, there.1)));
  gone = λ c was off. absurd (let bad : true ≡ false = sym was ∙ off in cc bad);
  were = λ c there. absurd (omega (arith, there.1));
  once = λ i j d less inside. absurd (omega (arith, inside));
  count = omega arith;
})

-- the first cell is taken
pub record IsBegun (m : Floor) (first : ℕ) (before left : List Bool) (cells : List ℕ) (place : ℕ) : Type 0 where
  pub taken : AreTaken m first before left cells
  pub first_is : has before first ≡ true → (0 < length cells) × (slice_index cells 0 ≡ first)
  pub closed : (i d : ℕ) → i < place → IsNeighbour m (slice_index cells i) d → has left d ≡ false
  pub within : place ≤ length cells

pub first_taken : (m : Floor) (first : ℕ) (before left : List Bool) (none cells : List ℕ) → none ≡ [] → IsTaken first before left none cells → IsBegun m first before left cells 0
first_taken m first before left none cells empty one = record {
  taken = taken_on m first first before before left none cells (none_taken m first before none empty) one (joined_same (LeadsTo m before) first);
  first_is = λ is. (let e : cells ≡ [] ++ first ∷ [] = (one.there is).1 ∙ ap (λ (l : List ℕ). l ++ first ∷ []) empty in (omega (arith, ap (λ (l : List ℕ). length l) e), ap (λ (l : List ℕ). slice_index l 0) e));
  closed = λ i d less near. absurd (omega (arith, less));
  within = omega arith;
}

front_get : (xs more cells : List ℕ) (i : ℕ) → cells ≡ xs ++ more → i < length xs → slice_index cells i ≡ slice_index xs i
front_get xs more cells i e inside = ap (λ (l : List ℕ). slice_index l i) e ∙ get_or_append_left xs more 0 i inside

pub more_taken : (m : Floor) (first cell : ℕ) (before had left : List Bool) (old cells : List ℕ) (place : ℕ) → IsBegun m first before had old place → place < length old → cell ≡ slice_index old place
    → TakesAround m cell had left old cells → IsBegun m first before left cells (place + 1)
more_taken m first cell before had left old cells place k inside is t =
    let long : length old ≤ length cells = omega (arith, ap (λ (l : List ℕ). length l) t.takes.front, length-append old t.takes.more) in
    record {
      taken = t.takes.keeps first before k.taken (subst (Contains old) (sym is) (Contains-get_or old place 0 inside));
      first_is = λ was. (let it = k.first_is was in (omega (arith, it.0, long), front_get old t.takes.more cells 0 t.takes.front it.0 ∙ it.1));
      closed = λ i d less near. elim (cases_lt i place) [
        | inl early ↦ still had left t.takes.less d (k.closed i d early (subst (λ (c : ℕ). IsNeighbour m c d) (front_get old t.takes.more cells i t.takes.front (omega (arith, early, inside))) near))
        | inr from ↦ (
            let same : i ≡ place = omega (arith, less, from) in
            let here : slice_index cells i ≡ cell = ap (λ (j : ℕ). slice_index cells j) same ∙ (front_get old t.takes.more cells place t.takes.front inside ∙ sym is) in
            t.none d (subst (λ (c : ℕ). IsNeighbour m c d) here near))
      ];
      within = omega (arith, inside, long);
    }

pub all_taken : (m : Floor) (first : ℕ) (before left : List Bool) (cells : List ℕ) (place : ℕ) → IsBegun m first before left cells place → length cells ≤ place → AreAllTaken m first before left cells
all_taken m first before left cells place k past = record {
  taken = k.taken;
  first_is = k.first_is;
  closed = λ c d there near. k.closed there.0 d (omega (arith, there.1, past)) (subst (λ (x : ℕ). IsNeighbour m x d) (sym there.2 ∙ get_or_default cells there.0 c 0 there.1) near);
}

-- ---- the first of some

found_or : (P Q : ℕ → Type 0) (a b : Option ℕ) → IsFound P a → IsFound Q b → IsFound (λ d. P d ⊎ Q d) (option_or a b)
found_or P Q (Some x) b is it = inl is
found_or P Q None (Some y) none is = inr is
found_or P Q None None none no_one = λ d it. elim it [ inl p ↦ none d p | inr q ↦ no_one d q ]

module _ (m : Floor) (marks : List Bool) (cell : ℕ) where
  abbrev In : Dir → ℕ → Type 0
  In dir d = IsNeighbourIn m dir cell d × IsFree m marks d

  found_less : (P Q : ℕ → Type 0) (a : Option ℕ) → ((d : ℕ) → P d → Q d) → ((d : ℕ) → Q d → P d) → IsFound P a → IsFound Q a
  found_less P Q (Some x) there back is = there x is
  found_less P Q None there back none = λ d is. none d (back d is)

  there : (d : ℕ) → ((In North d ⊎ In East d) ⊎ In South d) ⊎ In West d → IsNeighbour m cell d × IsFree m marks d
  there d (inl (inl (inl it))) = ((North, it.0), it.1)
  there d (inl (inl (inr it))) = ((East, it.0), it.1)
  there d (inl (inr it)) = ((South, it.0), it.1)
  there d (inr it) = ((West, it.0), it.1)

  back_at : (d : ℕ) (dir : Dir) → IsNeighbourIn m dir cell d → IsFree m marks d → ((In North d ⊎ In East d) ⊎ In South d) ⊎ In West d
  back_at d North near free = inl (inl (inl (near, free)))
  back_at d East near free = inl (inl (inr (near, free)))
  back_at d South near free = inl (inr (near, free))
  back_at d West near free = inr (near, free)

  pub found_beside : (n e s w : Option ℕ) → IsFound (In North) n → IsFound (In East) e → IsFound (In South) s → IsFound (In West) w → IsFound (λ d. IsNeighbour m cell d × IsFree m marks d) (option_or (option_or (option_or n e) s) w)
  found_beside n e s w in_n in_e in_s in_w =
      let one = found_or (In North) (In East) n e in_n in_e in
      let two = found_or (λ d. In North d ⊎ In East d) (In South) (option_or n e) s one in_s in
      let three = found_or (λ d. (In North d ⊎ In East d) ⊎ In South d) (In West) (option_or (option_or n e) s) w two in_w in
      found_less (λ d. ((In North d ⊎ In East d) ⊎ In South d) ⊎ In West d) (λ d. IsNeighbour m cell d × IsFree m marks d) (option_or (option_or (option_or n e) s) w) there (λ d is. back_at d is.0.0 is.0.1 is.1) three

-- no cell of the first has a free one next to it
abbrev pub NoneBeside : Floor → List Bool → List ℕ → ℕ → Type 0
NoneBeside m marks cells end = (i d : ℕ) → i < end → IsNeighbour m (slice_index cells i) d → IsFree m marks d → ⊥

pub none_first : (m : Floor) (marks : List Bool) (cells : List ℕ) → NoneBeside m marks cells 0
none_first m marks cells i d less near free = omega (arith, less)

pub none_next : (m : Floor) (marks : List Bool) (cells : List ℕ) (place : ℕ) → NoneBeside m marks cells place → ((d : ℕ) → IsNeighbour m (slice_index cells place) d × IsFree m marks d → ⊥) → NoneBeside m marks cells (place + 1)
none_next m marks cells place known none i d less near free = elim (cases_lt i place) [
  | inl early ↦ known i d early near free
  | inr from ↦ (let same : i ≡ place = omega (arith, less, from) in none d (subst (λ (j : ℕ). IsNeighbour m (slice_index cells j) d) same near, free))
]

pub mouth_found : (m : Floor) (marks : List Bool) (cells : List ℕ) (place mouth : ℕ) → place < length cells → IsNeighbour m (slice_index cells place) mouth × IsFree m marks mouth → IsMouth m (IsFree m marks) cells (Some mouth)
mouth_found m marks cells place mouth inside is = (is.1, (slice_index cells place, Contains-get_or cells place 0 inside, is.0))

pub no_mouth : (m : Floor) (marks : List Bool) (cells : List ℕ) (place : ℕ) → NoneBeside m marks cells place → length cells ≤ place → IsMouth m (IsFree m marks) cells None
no_mouth m marks cells place known past c d there near free = known there.0 d (omega (arith, there.1, past)) (subst (λ (x : ℕ). IsNeighbour m x d) (sym there.2 ∙ get_or_default cells there.0 c 0 there.1) near) free
