-- Cells marked one after another.
use Rattle.std.proofs.Common.{◌≡◌, ◌∙◌, ◌↔◌, ℕ, ◌+◌, ◌<◌, ◌≤◌, inl, inr, Bool, true, false, cond, count_by, List, [], ◌∷◌, ◌++◌, length, get_or, sym, ap, subst, arith, get_or-set_other, get_or-set_same}
use Rattle.std.specs.Prelude.{slice_set}
use Rattle.std.proofs.Math.Seq.{get_or-append_seam}
use Rattle.std.proofs.lemmas.Bool.{cases_lt}
use Rattle.std.proofs.lemmas.List.{get_or_append_left, get_or_past, length-append}
use Rattle.std.proofs.lemmas.List.Sums.{sum_by-set}
use Rattle.std.proofs.lemmas.Option.{unwrap_or-slice_get}
use Rattle.fleet_roomy.specs.Unroomy.{has}

-- exactly the cells of a set below this one are marked
abbrev pub AreMarkedBelow : (In : ℕ → Type 0) → List Bool → ℕ → Type 0
AreMarkedBelow In marks end = (c : ℕ) → (has marks c ≡ true) ↔ (c < end × In c)

pub has_get : (xs : List Bool) (c : ℕ) → has xs c ≡ get_or xs c false
has_get xs c = unwrap_or-slice_get xs c false

pub none_marked : (In : ℕ → Type 0) (marks : List Bool) → marks ≡ [] → AreMarkedBelow In marks 0
none_marked In marks none c = (
  λ is. (let bad : false ≡ true = sym has_none ∙ (ap (λ (l : List Bool). has l c) (sym none) ∙ is) in absurd cc),
  λ is. absurd (omega (arith, is.0)),
)
  where
    has_none : has [] c ≡ false
    has_none = has_get [] c ∙ get_or_past [] c false (omega arith)

pub one_marked : (In : ℕ → Type 0) (marks : List Bool) (end : ℕ) (b : Bool) (more : List Bool) → length marks ≡ end → more ≡ marks ++ b ∷ [] → AreMarkedBelow In marks end → (b ≡ true) ↔ In end → AreMarkedBelow In more (end + 1)
one_marked In marks end b more size is marked this c = elim (cases_lt c end) [
  | inl below ↦
      let same : has more c ≡ has marks c = has_get more c ∙ (ap (λ (l : List Bool). get_or l c false) is ∙ (get_or_append_left marks (b ∷ []) false c (omega (arith, below, size)) ∙ sym (has_get marks c))) in (
        λ h. (let it = (marked c).0 (sym same ∙ h) in (omega (arith, below), it.1)),
        λ h. (same ∙ (marked c).1 (below, h.1)),
      )
  | inr past ↦ elim (cases_lt end c) [
    | inl above ↦
        let gone : has more c ≡ false = has_get more c ∙ get_or_past more c false (omega (arith, above, size, ap length is, length-append marks (b ∷ []))) in (
          λ h. (let bad : false ≡ true = sym gone ∙ h in absurd cc),
          λ h. absurd (omega (arith, h.0, above)),
        )
    | inr under ↦
        let at : c ≡ end = omega (arith, past, under) in
        let here : has more c ≡ b = has_get more c ∙ (ap (λ (l : List Bool). get_or l c false) is ∙ (ap (λ (k : ℕ). get_or (marks ++ b ∷ []) k false) (at ∙ sym size) ∙ get_or-append_seam marks b [] false)) in
        subst (λ (k : ℕ). (has more c ≡ true) ↔ (k < end + 1 × In k)) (sym at) (
          λ h. (omega arith, this.0 (sym here ∙ h)),
          λ h. (here ∙ this.1 h.1),
        )
  ]
]

pub set_other : (xs : List Bool) (c x : ℕ) (b : Bool) → (c ≡ x → ⊥) → has (slice_set xs x b) c ≡ has xs c
set_other xs c x b other = has_get (slice_set xs x b) c ∙ (get_or-set_other xs x c b false other ∙ sym (has_get xs c))

pub set_here : (xs : List Bool) (x : ℕ) (b : Bool) → x < length xs → has (slice_set xs x b) x ≡ b
set_here xs x b inside = has_get (slice_set xs x b) x ∙ get_or-set_same xs x b false inside

pub has_inside : (xs : List Bool) (c : ℕ) → has xs c ≡ true → c < length xs
has_inside xs c is = elim (cases_lt c (length xs)) [
  | inl less ↦ less
  | inr past ↦ absurd (let gone : false ≡ true = sym (get_or_past xs c false past) ∙ (sym (has_get xs c) ∙ is) in cc gone)
]

if_one : (b : Bool) → b ≡ true → 1 ≤ cond b 1 0
if_one true is = omega arith
if_one false is = absurd cc

at_most_one : (b : Bool) → cond b 1 0 ≤ 1
at_most_one true = omega arith
at_most_one false = omega arith

-- one mark less
pub count_less : (xs : List Bool) (x : ℕ) → has xs x ≡ true → count_by (λ b. b) (slice_set xs x false) + 1 ≡ count_by (λ b. b) xs
count_less xs x is =
    let e : count_by (λ b. b) (slice_set xs x false) + cond (get_or xs x false) 1 0 ≡ count_by (λ b. b) xs + 0 = sum_by-set (λ (b : Bool). cond b 1 0) xs x false false (has_inside xs x is) in
    let one = if_one (get_or xs x false) (sym (has_get xs x) ∙ is) in
    let most = at_most_one (get_or xs x false) in
    omega (arith, e, one, most)
