-- Which errands of a queue were met once the clients below a number had their turn.
use Rattle.std.proofs.Common.{◌≡◌, ℕ, zero, suc, ◌+◌, ◌<◌, ◌≤◌, List, [], ◌∷◌, length, map, get_or, cond, eqb, true, false, sym, refl, ap, ◌∙◌, arith, inl, inr}
use Rattle.std.specs.Prelude.{All, max, slice_get}
use Rattle.std.proofs.Math.Dec.{ltb}
use Rattle.std.proofs.lemmas.Bool.{cases_eq, cases_lt, eq-eqb, ne_eqb, lt-ltb, le-ltb}
use Rattle.fleet_queue.specs.declared.errand.Errand.{Errand}
use Rattle.fleet_core.specs.OpenErrands.{open_in}
use Rattle.fleet_c.specs.declared.chore.Chore.{Chore}
use Rattle.fleet_c.specs.declared.standing.TheConstants.{NOWHERE}
use Rattle.fleet_c.specs.Errands.{chore_of, queued_at, queued_from, goal_of}
use Rattle.fleet_c.specs.inside.Runs.{run, farther, nearer, put_at}

-- a client, and the one whose turn it is
data Turn (x c : ℕ) : Type 0 where
  now : x ≡ c → eqb x c ≡ true → ltb x c ≡ false → ltb x (suc c) ≡ true → Turn x c
  before : eqb x c ≡ false → ltb x c ≡ true → ltb x (suc c) ≡ true → Turn x c
  later : eqb x c ≡ false → ltb x c ≡ false → ltb x (suc c) ≡ false → Turn x c

turn : (x c : ℕ) → Turn x c
turn x c =
    elim (cases_eq x c) [
      | inl same ↦ now same (eq-eqb x c same) (le-ltb x c (omega arith)) (lt-ltb x (suc c) (omega arith))
      | inr other ↦ elim (cases_lt x c) [
        | inl l ↦ before (ne_eqb x c other) (lt-ltb x c l) (lt-ltb x (suc c) (omega arith))
        | inr g ↦ later (ne_eqb x c other) (le-ltb x c g) (le-ltb x (suc c) (omega arith))
      ]
    ]

-- ---- the greatest place

abbrev pub top : ℕ → ℕ → List Errand → ℕ
top c p [] = 0
top c p (e ∷ es) = max (cond (ltb e.client c) p 0) (top c (p + 1) es)

farther-in : (r c p : ℕ) (es : List Errand) (a : ℕ) → run (farther r) (map (chore_of c) (open_in c r p es)) (max a (top c p es)) ≡ max a (top (suc c) p es)
farther-in r c p [] a = refl
farther-in r c p (e ∷ es) a =
    let rest : ℕ → ℕ = run (farther r) (map (chore_of c) (open_in c r (p + 1) es)) in
    let t = top c (p + 1) es in
    let u = top (suc c) (p + 1) es in
    elim (turn e.client c) [
      | now same x y z ↦ rw (x, y, z, eq-eqb r r refl)
          (let q : max (max a (max 0 t)) p ≡ max (max a p) t = omega arith in
          let s : max (max a p) u ≡ max a (max p u) = omega arith in
          ap rest q ∙ farther-in r c (p + 1) es (max a p) ∙ s)
      | before x y z ↦ rw (x, y, z)
          (let q : max a (max p t) ≡ max (max a p) t = omega arith in
          let s : max (max a p) u ≡ max a (max p u) = omega arith in
          ap rest q ∙ farther-in r c (p + 1) es (max a p) ∙ s)
      | later x y z ↦ rw (x, y, z)
          (let q : max a (max 0 t) ≡ max a t = omega arith in
          let s : max a u ≡ max a (max 0 u) = omega arith in
          ap rest q ∙ farther-in r c (p + 1) es a ∙ s)
    ]

pub farther-turn : (r c : ℕ) (es : List Errand) → run (farther r) (map (chore_of c) (open_in c r 1 es)) (top c 1 es) ≡ top (suc c) 1 es
farther-turn r c es =
    let q : top c 1 es ≡ max 0 (top c 1 es) = omega arith in
    let s : max 0 (top (suc c) 1 es) ≡ top (suc c) 1 es = omega arith in
    ap (run (farther r) (map (chore_of c) (open_in c r 1 es))) q ∙ farther-in r c 1 es 0 ∙ s

pub top-none : (p : ℕ) (es : List Errand) → top 0 p es ≡ 0
top-none p [] = refl
top-none p (e ∷ es) = rw (le-ltb e.client 0 (omega arith)) (omega (arith, top-none (p + 1) es))

top-more : (n p : ℕ) (e : Errand) (es : List Errand) → All (λ x. x.client < n) (e ∷ es) → top n p (e ∷ es) ≡ p + length es
top-more n p e [] all = rw (lt-ltb e.client n (all 0 e (omega arith))) (omega arith)
top-more n p e (f ∷ es) all =
    let rest : top n (p + 1) (f ∷ es) ≡ p + 1 + length es = top-more n (p + 1) f es (λ k d l. all (suc k) d (omega (arith, l))) in
    rw (lt-ltb e.client n (all 0 e (omega arith)), rest) (omega arith)

pub top-all : (n : ℕ) (es : List Errand) → All (λ x. x.client < n) es → top n 1 es ≡ length es
top-all n [] all = refl
top-all n (e ∷ es) all = top-more n 1 e es all ∙ omega arith

-- ---- the first errand's cell

abbrev pub front_goal : ℕ → List Errand → ℕ → ℕ
front_goal c [] g = g
front_goal c (e ∷ es) g = cond (ltb e.client c) e.cell g

nearer-late : (r c p : ℕ) (es : List Errand) (g : ℕ) → 1 < p → run (nearer r) (map (chore_of c) (open_in c r p es)) g ≡ g
nearer-late r c p [] g l = refl
nearer-late r c p (e ∷ es) g l =
    elim (cases_eq e.client c) [
      | inl same ↦ rw (eq-eqb e.client c same, eq-eqb r r refl, ne_eqb p 1 (λ x. omega (arith, l, x))) (nearer-late r c (p + 1) es g (omega (arith, l)))
      | inr other ↦ rw (ne_eqb e.client c other) (nearer-late r c (p + 1) es g (omega (arith, l)))
    ]

pub nearer-turn : (r c : ℕ) (es : List Errand) (g : ℕ) → run (nearer r) (map (chore_of c) (open_in c r 1 es)) (front_goal c es g) ≡ front_goal (suc c) es g
nearer-turn r c [] g = refl
nearer-turn r c (e ∷ es) g =
    elim (turn e.client c) [
      | now same x y z ↦ rw (x, y, z, eq-eqb r r refl) (nearer-late r c 2 es e.cell (omega arith))
      | before x y z ↦ rw (x, y, z) (nearer-late r c 2 es e.cell (omega arith))
      | later x y z ↦ rw (x, y, z) (nearer-late r c 2 es g (omega arith))
    ]

pub front-none : (es : List Errand) (g : ℕ) → front_goal 0 es g ≡ g
front-none [] g = refl
front-none (e ∷ es) g = rw (le-ltb e.client 0 (omega arith)) refl

pub front-all : (n : ℕ) (es : List Errand) → All (λ x. x.client < n) es → front_goal n es NOWHERE ≡ goal_of (slice_get es 0)
front-all n [] all = refl
front-all n (e ∷ es) all = rw (lt-ltb e.client n (all 0 e (omega arith))) refl

-- ---- the errand at a place

abbrev pub slot : (c r p j : ℕ) → List Errand → Chore → Chore
slot c r p j [] was = was
slot c r p zero (e ∷ es) was = cond (ltb e.client c) (queued_at r p e) was
slot c r p (suc j) (e ∷ es) was = slot c r (p + 1) j es was

put-late : (r k c p : ℕ) (es : List Errand) (was : Chore) → k + 1 < p → run (put_at r k) (map (chore_of c) (open_in c r p es)) was ≡ was
put-late r k c p [] was l = refl
put-late r k c p (e ∷ es) was l =
    elim (cases_eq e.client c) [
      | inl same ↦ rw (eq-eqb e.client c same, eq-eqb r r refl, ne_eqb p (k + 1) (λ x. omega (arith, l, x))) (put-late r k c (p + 1) es was (omega (arith, l)))
      | inr other ↦ rw (ne_eqb e.client c other) (put-late r k c (p + 1) es was (omega (arith, l)))
    ]

put-in : (r k c p j : ℕ) (es : List Errand) (was : Chore) → p + j ≡ k + 1 → run (put_at r k) (map (chore_of c) (open_in c r p es)) (slot c r p j es was) ≡ slot (suc c) r p j es was
put-in r k c p j [] was is = refl
put-in r k c p zero (e ∷ es) was is =
    elim (turn e.client c) [
      | now same x y z ↦ rw (x, y, z, eq-eqb r r refl, eq-eqb p (k + 1) (omega (arith, is)))
          (put-late r k c (p + 1) es (record { number = e.number; place = p; client = c; robot = r; cell = e.cell }) (omega (arith, is))
          ∙ ap (λ (i : ℕ). record { number = e.number; place = p; client = i; robot = r; cell = e.cell }) (sym same))
      | before x y z ↦ rw (x, y, z) (put-late r k c (p + 1) es (queued_at r p e) (omega (arith, is)))
      | later x y z ↦ rw (x, y, z) (put-late r k c (p + 1) es was (omega (arith, is)))
    ]
put-in r k c p (suc j) (e ∷ es) was is =
    elim (cases_eq e.client c) [
      | inl same ↦ rw (eq-eqb e.client c same, eq-eqb r r refl, ne_eqb p (k + 1) (λ x. omega (arith, is, x))) (put-in r k c (p + 1) j es was (omega (arith, is)))
      | inr other ↦ rw (ne_eqb e.client c other) (put-in r k c (p + 1) j es was (omega (arith, is)))
    ]

pub put-turn : (r k c : ℕ) (es : List Errand) (was : Chore) → run (put_at r k) (map (chore_of c) (open_in c r 1 es)) (slot c r 1 k es was) ≡ slot (suc c) r 1 k es was
put-turn r k c es was = put-in r k c 1 k es was (omega arith)

pub slot-none : (r p j : ℕ) (es : List Errand) (was : Chore) → slot 0 r p j es was ≡ was
slot-none r p j [] was = refl
slot-none r p zero (e ∷ es) was = rw (le-ltb e.client 0 (omega arith)) refl
slot-none r p (suc j) (e ∷ es) was = slot-none r (p + 1) j es was

pub slot-all : (n r p j : ℕ) (es : List Errand) (was d : Chore) → All (λ x. x.client < n) es → j < length es → slot n r p j es was ≡ get_or (queued_from r p es) j d
slot-all n r p j [] was d all l = absurd (omega arith)
slot-all n r p zero (e ∷ es) was d all l = rw (lt-ltb e.client n (all 0 e (omega arith))) refl
slot-all n r p (suc j) (e ∷ es) was d all l = slot-all n r (p + 1) j es was d (λ k x m. all (suc k) x (omega (arith, m))) (omega (arith, l))

pub slot-past : (n r p j : ℕ) (es : List Errand) (was : Chore) → length es ≤ j → slot n r p j es was ≡ was
slot-past n r p j [] was l = refl
slot-past n r p zero (e ∷ es) was l = absurd (omega arith)
slot-past n r p (suc j) (e ∷ es) was l = slot-past n r (p + 1) j es was (omega (arith, l))

pub length-queued : (r p : ℕ) (es : List Errand) → length (queued_from r p es) ≡ length es
length-queued r p [] = refl
length-queued r p (e ∷ es) = ap suc (length-queued r (p + 1) es)
