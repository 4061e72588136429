-- A letter leads to the next cell in its direction.
use Rattle.std.proofs.Common.{◌≡◌, ◌≢◌, ℕ, ◌+◌, ◌-◌, ◌*◌, ◌%◌, ◌<◌, ◌≤◌, ◌⊎◌, inl, inr, Bool, true, false, length, Option, Some, None, refl, sym, subst, ◌∙◌, arith}
use Rattle.std.specs.Prelude.{nat_lt, nat_le, ◌==◌, if◌then◌else◌}
use Rattle.std.proofs.lemmas.Bool.{cases_eq, cases_lt, ltb-true, ltb-false, leb-true, leb-false, eqb-true, eqb-false}
use Rattle.std.proofs.lemmas.Option.{same_Some}
use Rattle.std.proofs.Math.Nat.{mod-le, mul-mod_right}
use Rattle.fleet_grid.specs.declared.dir.Dir.{Dir}
use Rattle.fleet_grid.specs.declared.dir.Dir.TheVariants.{North, East, South, West}
use Rattle.fleet_grid.specs.Floor.{Floor, HasForm, IsNeighbourIn, cell_across}
use Rattle.fleet_grid.proofs.Edges.{beside_across}
use Rattle.fleet_grid.proofs.Forms.{floor_inside}
use Rattle.fleet_plans.specs.Tracks.{moved}
use Rattle.fleet_plans.specs.Leads.{dir_of, IsNext, Leads}
use Rattle.fleet_plans.specs.inside.Seats.{IsStep}

-- what holds of both values of a choice holds of the chosen one
decide : (P : ℕ → Type 0) (b : Bool) (x y : ℕ) → (b ≡ true → P x) → (b ≡ false → P y) → P (if b then x else y)
decide P true x y one other = one refl
decide P false x y one other = other refl

abbrev Goes : ℕ → ℕ → Dir → ℕ → ℕ → Type 0
Goes w h dir cell to = IsNext w h dir cell to ⊎ ((to ≡ 4294967295) × ((c : ℕ) → IsNext w h dir cell c → ⊥))

-- by the letter, where these are the four tests
abbrev dir_by : Bool → Bool → Bool → Bool → Option Dir
dir_by u d l r = if u then Some North else if d then Some South else if l then Some West else if r then Some East else None

abbrev pick : Bool → Bool → Bool → Bool → ℕ → ℕ → ℕ → ℕ → ℕ → ℕ
pick u d l r north south west east stay = if u then north else if d then south else if l then west else if r then east else stay

module _ (w h cell : ℕ) (inside : cell < w * h) where
  north : Goes w h North cell (if nat_lt cell w then 4294967295 else cell - w)
  north =
      let P : ℕ → Type 0 = λ to. Goes w h North cell to in
      let none : nat_lt cell w ≡ true → P 4294967295 = λ is. let less = ltb-true cell w is in inr (refl, λ c next. omega (arith, less, next.1)) in
      let one : nat_lt cell w ≡ false → P (cell - w) = λ is. let past = ltb-false cell w is in inl (omega (arith, past, inside), omega (arith, past)) in
      decide P (nat_lt cell w) 4294967295 (cell - w) none one

  south : Goes w h South cell (if nat_lt (cell + w) (w * h) then cell + w else 4294967295)
  south =
      let P : ℕ → Type 0 = λ to. Goes w h South cell to in
      let one : nat_lt (cell + w) (w * h) ≡ true → P (cell + w) = λ is. inl (ltb-true (cell + w) (w * h) is, refl) in
      let none : nat_lt (cell + w) (w * h) ≡ false → P 4294967295 = λ is. let past = ltb-false (cell + w) (w * h) is in inr (refl, λ c next. omega (arith, past, next.0, next.1)) in
      decide P (nat_lt (cell + w) (w * h)) (cell + w) 4294967295 one none

  west : Goes w h West cell (if cell % w == 0 then 4294967295 else cell - 1)
  west =
      let P : ℕ → Type 0 = λ to. Goes w h West cell to in
      let none : (cell % w == 0) ≡ true → P 4294967295 = λ is. inr (refl, λ c next. next.1.1 (eqb-true (cell % w) 0 is)) in
      let one : (cell % w == 0) ≡ false → P (cell - 1) =
      λ is.
      let other : cell % w ≢ 0 = eqb-false (cell % w) 0 is in
      let most = mod-le cell w in
      let some : 1 ≤ cell = elim (cases_eq cell 0) [ inl zeroth ↦ absurd (other (omega (arith, most, zeroth))) | inr more ↦ omega (arith, more) ] in
      inl (omega (arith, inside), (omega (arith, some), other)) in
      decide P (cell % w == 0) 4294967295 (cell - 1) none one

  east : Goes w h East cell (if (cell + 1) % w == 0 then 4294967295 else cell + 1)
  east =
      let P : ℕ → Type 0 = λ to. Goes w h East cell to in
      let none : ((cell + 1) % w == 0) ≡ true → P 4294967295 =
      λ is.
      let last : (cell + 1) % w ≡ 0 = eqb-true ((cell + 1) % w) 0 is in
      inr (refl, λ c next. next.1.1 (subst (λ (x : ℕ). x % w ≡ 0) next.1.0 last)) in
      let one : ((cell + 1) % w == 0) ≡ false → P (cell + 1) =
      λ is.
      let other : (cell + 1) % w ≢ 0 = eqb-false ((cell + 1) % w) 0 is in
      let room : cell + 1 < w * h = elim (cases_eq (cell + 1) (w * h)) [
        | inl end ↦ absurd (other (subst (λ (x : ℕ). x % w ≡ 0) (sym end) (mul-mod_right w h)))
        | inr more ↦ omega (arith, more, inside)
      ] in
      inl (room, (refl, other)) in
      decide P ((cell + 1) % w == 0) 4294967295 (cell + 1) none one

  by_tests : (u d l r : Bool) (dir : Dir) → dir_by u d l r ≡ Some dir → Goes w h dir cell (pick u d l r (if nat_lt cell w then 4294967295 else cell - w) (if nat_lt (cell + w) (w * h) then cell + w else 4294967295) (if cell % w == 0 then 4294967295 else cell - 1) (if (cell + 1) % w == 0 then 4294967295 else cell + 1) cell)
  by_tests true d l r dir is = subst (λ (x : Dir). Goes w h x cell (if nat_lt cell w then 4294967295 else cell - w)) (same_Some North dir is) north
  by_tests false true l r dir is = subst (λ (x : Dir). Goes w h x cell (if nat_lt (cell + w) (w * h) then cell + w else 4294967295)) (same_Some South dir is) south
  by_tests false false true r dir is = subst (λ (x : Dir). Goes w h x cell (if cell % w == 0 then 4294967295 else cell - 1)) (same_Some West dir is) west
  by_tests false false false true dir is = subst (λ (x : Dir). Goes w h x cell (if (cell + 1) % w == 0 then 4294967295 else cell + 1)) (same_Some East dir is) east
  by_tests false false false false dir is = absurd cc

waits_by : (u d l r : Bool) (north south west east cell : ℕ) → dir_by u d l r ≡ None → pick u d l r north south west east cell ≡ cell
waits_by true d l r north south west east cell is = absurd cc
waits_by false true l r north south west east cell is = absurd cc
waits_by false false true r north south west east cell is = absurd cc
waits_by false false false true north south west east cell is = absurd cc
waits_by false false false false north south west east cell is = refl

pub leads : (w h cell letter : ℕ) → Leads w h cell letter (moved w h cell letter)
leads w h cell letter =
    let north = if nat_lt cell w then 4294967295 else cell - w in
    let south = if nat_lt (cell + w) (w * h) then cell + w else 4294967295 in
    let west = if cell % w == 0 then 4294967295 else cell - 1 in
    let east = if (cell + 1) % w == 0 then 4294967295 else cell + 1 in
    let go = pick (letter == 117) (letter == 100) (letter == 108) (letter == 114) north south west east cell in
    let past_none : (dir : Dir) → cell < w * h → nat_le (w * h) cell ≡ true → Goes w h dir cell cell = λ dir inside past. let beyond = leb-true (w * h) cell past in absurd (omega (arith, beyond, inside)) in
    let on_none : w * h ≤ cell → nat_le (w * h) cell ≡ false → go ≡ cell = λ past on. let below = leb-false (w * h) cell on in absurd (omega (arith, below, past)) in
    let still : nat_le (w * h) cell ≡ true → cell ≡ cell = λ past. refl in
    record {
      next = λ dir inside is.
          decide (λ to. Goes w h dir cell to) (nat_le (w * h) cell) cell go (past_none dir inside)
          (λ on. by_tests w h cell inside (letter == 117) (letter == 100) (letter == 108) (letter == 114) dir is);
      waits = λ is.
          decide (λ to. to ≡ cell) (nat_le (w * h) cell) cell go still
          (λ on. waits_by (letter == 117) (letter == 100) (letter == 108) (letter == 114) north south west east cell is);
      off = λ past. decide (λ to. to ≡ cell) (nat_le (w * h) cell) cell go still (on_none past);
    }

-- without a direction a robot stays
pub stays_by : (w h cell letter : ℕ) → dir_of letter ≡ None → cell ≡ moved w h cell letter
stays_by w h cell letter is = sym ((leads w h cell letter).waits is)

pub stays_step : (m : Floor) (cell letter : ℕ) → dir_of letter ≡ None → IsStep m cell (moved m.width m.height cell letter)
stays_step m cell letter is = inl ((leads m.width m.height cell letter).waits is)

-- two cells next to a cell in one direction are one
one_next : (w h : ℕ) (dir : Dir) (cell a b : ℕ) → IsNext w h dir cell a → IsNext w h dir cell b → a ≡ b
one_next w h North cell a b p q = omega (arith, p.1, q.1)
one_next w h South cell a b p q = sym p.1 ∙ q.1
one_next w h East cell a b p q = sym p.1.0 ∙ q.1.0
one_next w h West cell a b p q = omega (arith, p.1.0, q.1.0)

one_goal : (w h : ℕ) (dir : Dir) (cell a b : ℕ) → Goes w h dir cell a → Goes w h dir cell b → a ≡ b
one_goal w h dir cell a b (inl p) (inl q) = one_next w h dir cell a b p q
one_goal w h dir cell a b (inl p) (inr q) = absurd (q.1 a p)
one_goal w h dir cell a b (inr p) (inl q) = absurd (p.1 b q)
one_goal w h dir cell a b (inr p) (inr q) = p.0 ∙ sym q.0

only_by : (w h cell letter a b : ℕ) (o : Option Dir) → dir_of letter ≡ o → cell < w * h → Leads w h cell letter a → Leads w h cell letter b → a ≡ b
only_by w h cell letter a b None is inside p q = p.waits is ∙ sym (q.waits is)
only_by w h cell letter a b (Some dir) is inside p q = one_goal w h dir cell a b (p.next dir inside is) (q.next dir inside is)

-- along an open way a letter leads to the next cell
module _ (m : Floor) (cell letter : ℕ) (dir : Dir) (form : HasForm m) (is : dir_of letter ≡ Some dir) (way : (w : ℕ) × IsNeighbourIn m dir cell w) where
  goes : moved m.width m.height cell letter ≡ way.0
  goes =
      let inside = floor_inside m cell way.1.from in
      let there = floor_inside m way.0 way.1.to in
      let area : length m.letters ≡ m.width * m.height = omega (arith, form.covered) in
      let next : IsNext m.width m.height dir cell way.0 = (omega (arith, there, area), way.1.beside) in
      elim ((leads m.width m.height cell letter).next dir (omega (arith, inside, area)) is) [
        | inl one ↦ one_next m.width m.height dir cell (moved m.width m.height cell letter) way.0 one next
        | inr none ↦ absurd (none.1 way.0 next)
      ]

  pub across_by : cell_across m.width cell dir ≡ moved m.width m.height cell letter
  across_by = sym (beside_across m.width dir cell way.0 way.1.beside) ∙ sym goes

  pub across_step : IsStep m cell (moved m.width m.height cell letter)
  across_step = inr (dir, subst (λ (c : ℕ). IsNeighbourIn m dir cell c) (sym goes) way.1)

pub leads_only : (w h cell letter a b : ℕ) → Leads w h cell letter a → Leads w h cell letter b → a ≡ b
leads_only w h cell letter a b p q = elim (cases_lt cell (w * h)) [
  | inl inside ↦ only_by w h cell letter a b (dir_of letter) refl inside p q
  | inr past ↦ p.off past ∙ sym (q.off past)
]
