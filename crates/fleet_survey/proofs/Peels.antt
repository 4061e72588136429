-- Marks are taken from one cell after another.
use Rattle.std.proofs.Common.{◌≡◌, ◌⊎◌, inl, inr, ℕ, Bool, true, false, List, length, get_or, refl, sym, subst, ◌∙◌, Option, None, Some, arith, get_or-set_other, get_or-set_same}
use Rattle.std.specs.Prelude.{slice_set, MatchOption}
use Rattle.std.proofs.lemmas.Bool.{cases_eq, cases_lt}
use Rattle.std.proofs.lemmas.List.{get_or_past, length-set}
use Rattle.std.proofs.lemmas.Option.{unwrap_or-slice_get}
use Rattle.fleet_grid.specs.declared.dir.Dir.{Dir}
use Rattle.fleet_grid.specs.declared.dir.Dir.TheVariants.{North, East, South, West}
use Rattle.fleet_grid.specs.Floor.{Floor, IsNeighbour, IsNeighbourIn}
use Rattle.fleet_roomy.specs.Unroomy.{has}
use Rattle.fleet_survey.specs.Peeled.{IsPeeled, Says, SaysAround, SaysAt, with_next}
use Rattle.fleet_survey.specs.declared.around.Around.{Around}
use Rattle.fleet_survey.specs.declared.around.Around.TheVariants.{Nobody, One, More}
use Rattle.fleet_survey.proofs.Fits.{fit_has_two, neighbour_within}

says_with : (There More' : ℕ → Type 0) (found : Around) (next : Option ℕ) → Says There found
    → MatchOption next ((d : ℕ) → More' d → ⊥) (λ x. (d : ℕ) → More' d → d ≡ x) → Says (λ d. There d ⊎ More' d) (with_next found next)
says_with There More' Nobody None a b = λ d is. elim is [ inl p ↦ a d p | inr q ↦ b d q ]
says_with There More' (One x) None a b = λ d is. elim is [ inl p ↦ a d p | inr q ↦ absurd (b d q) ]
says_with There More' More None a b = tt
says_with There More' Nobody (Some next) a b = λ d is. elim is [ inl p ↦ absurd (a d p) | inr q ↦ b d q ]
says_with There More' (One x) (Some next) a b = tt
says_with There More' More (Some next) a b = tt

says_less : (There Fewer : ℕ → Type 0) (found : Around) → ((d : ℕ) → Fewer d → There d) → Says There found → Says Fewer found
says_less There Fewer Nobody less says = λ d is. says d (less d is)
says_less There Fewer (One x) less says = λ d is. says d (less d is)
says_less There Fewer More less says = tt

module _ (m : Floor) (marks : List Bool) (cell : ℕ) where
  abbrev At : (dir : Dir) → ℕ → Type 0
  At dir d = IsNeighbourIn m dir cell d × (has marks d ≡ true)

  at_dir : (dir : Dir) (next : Option ℕ) → SaysAt m marks cell dir next → MatchOption next ((d : ℕ) → At dir d → ⊥) (λ x. (d : ℕ) → At dir d → d ≡ x)
  at_dir dir None says = λ d is. says d is.0 is.1
  at_dir dir (Some x) says = λ d is. says d is.0 is.1

  pub says_around : (n e s w : Option ℕ) → SaysAt m marks cell North n → SaysAt m marks cell East e → SaysAt m marks cell South s → SaysAt m marks cell West w
      → SaysAround m marks cell (with_next (with_next (with_next (with_next Nobody n) e) s) w)
  says_around n e s w at_n at_e at_s at_w =
      let Nothing : ℕ → Type 0 = λ d. ⊥ in
      let one = says_with Nothing (At North) Nobody n (λ d is. is) (at_dir North n at_n) in
      let two = says_with (λ d. Nothing d ⊎ At North d) (At East) (with_next Nobody n) e one (at_dir East e at_e) in
      let three = says_with (λ d. (Nothing d ⊎ At North d) ⊎ At East d) (At South) (with_next (with_next Nobody n) e) s two (at_dir South s at_s) in
      let four = says_with (λ d. ((Nothing d ⊎ At North d) ⊎ At East d) ⊎ At South d) (At West) (with_next (with_next (with_next Nobody n) e) s) w three (at_dir West w at_w) in
      says_less (λ d. (((Nothing d ⊎ At North d) ⊎ At East d) ⊎ At South d) ⊎ At West d) (λ d. IsNeighbour m cell d × (has marks d ≡ true)) (with_next (with_next (with_next (with_next Nobody n) e) s) w) (λ d is. place d is.0.0 is.0.1 is.1) four
    where
      place : (d : ℕ) (dir : Dir) → IsNeighbourIn m dir cell d → has marks d ≡ true → ((((⊥ ⊎ At North d) ⊎ At East d) ⊎ At South d) ⊎ At West d)
      place d North near marked = inl (inl (inl (inr (near, marked))))
      place d East near marked = inl (inl (inr (near, marked)))
      place d South near marked = inl (inr (near, marked))
      place d West near marked = inr (near, marked)

has_get : (xs : List Bool) (c : ℕ) → has xs c ≡ get_or xs c false
has_get xs c = unwrap_or-slice_get xs c false

pub peeled_none : (m : Floor) (marks : List Bool) → IsPeeled m marks marks
peeled_none m marks = record { size = refl; less = λ c is. is; fit = λ n s two fit within covers. covers }

pub peeled_on : (m : Floor) (a b c : List Bool) → IsPeeled m a b → IsPeeled m b c → IsPeeled m a c
peeled_on m a b c p q = record {
  size = q.size ∙ p.size;
  less = λ x is. p.less x (q.less x is);
  fit = λ n s two fit within covers. q.fit n s two fit within (p.fit n s two fit within covers);
}

-- the mark is taken from a cell of which this is known
one_off : (m : Floor) (marks : List Bool) (cell x : ℕ) → ((d : ℕ) → IsNeighbour m cell d → has marks d ≡ true → d ≡ x) → IsPeeled m marks (slice_set marks cell false)
one_off m marks cell x only = record {
  size = size_same;
  less = less;
  fit = λ n s two fit within covers c floor. elim (cases_eq c cell) [
    | inl same ↦ absurd (fit_has_two n s two fit c x floor (λ d near. only d (subst (λ (k : ℕ). IsNeighbour m k d) same (neighbour_within s m within c d near)) (covers d near.1.to)))
    | inr other ↦ off c other ∙ covers c floor
  ];
}
  where
    size_same : length (slice_set marks cell false) ≡ length marks
    size_same = length-set marks cell false

    off : (c : ℕ) → (c ≡ cell → ⊥) → has (slice_set marks cell false) c ≡ has marks c
    off c other = has_get (slice_set marks cell false) c ∙ (get_or-set_other marks cell c false false other ∙ sym (has_get marks c))

    less : (c : ℕ) → has (slice_set marks cell false) c ≡ true → has marks c ≡ true
    less c is = elim (cases_eq c cell) [
      | inl same ↦ elim (cases_lt cell (length marks)) [
        | inl inside ↦ absurd (let gone : false ≡ true = sym (get_or-set_same marks cell false false inside) ∙ (sym (has_get (slice_set marks cell false) cell) ∙ subst (λ (k : ℕ). has (slice_set marks cell false) k ≡ true) same is) in cc gone)
        | inr past ↦ absurd (let gone : false ≡ true = sym (get_or_past (slice_set marks cell false) cell false (omega (arith, past, size_same))) ∙ (sym (has_get (slice_set marks cell false) cell) ∙ subst (λ (k : ℕ). has (slice_set marks cell false) k ≡ true) same is) in cc gone)
      ]
      | inr other ↦ sym (off c other) ∙ is
    ]

pub off_nobody : (m : Floor) (marks : List Bool) (cell : ℕ) → SaysAround m marks cell Nobody → IsPeeled m marks (slice_set marks cell false)
off_nobody m marks cell says = one_off m marks cell cell (λ d near marked. absurd (says d (near, marked)))

pub off_one : (m : Floor) (marks : List Bool) (cell x : ℕ) → SaysAround m marks cell (One x) → IsPeeled m marks (slice_set marks cell false)
off_one m marks cell x says = one_off m marks cell x (λ d near marked. says d (near, marked))
