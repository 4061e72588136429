-- From one visit to a level.
use Rattle.std.proofs.Common.{◌≡◌, ◌≢◌, ℕ, ◌+◌, ◌-◌, ◌<◌, ◌≤◌, inl, inr, List, [], ◌∷◌, ◌++◌, length, set, get_or, slice_index, refl, sym, ap, subst, ◌∙◌, arith, nat_eq}
use Rattle.std.proofs.lemmas.Bool.{cases_eq, cases_lt}
use Rattle.std.proofs.lemmas.List.{get_or-set_same, get_or-set_other, length-set, get_or_default, length_push}
use Rattle.std.proofs.lemmas.List.Sums.{sum_by-set, count_by-le-length}
use Rattle.std.proofs.lemmas.List.Elements.{Contains-get_or}
use Rattle.fleet_grid.specs.Padded.{IsOpen}
use Rattle.fleet_field.specs.inside.Search.{IsBeside, IsLink, is_far, far_count, IsVisit, Search, Keeps, Extends}
use Rattle.fleet_field.proofs.Visit.{searched}

-- what one write does to the count
pub far_count-set : (xs : List ℕ) (i : ℕ) (y : ℕ) → i < length xs → get_or xs i 0 ≡ 4294967295 → y < 4294967295 → far_count (set xs i y) + 1 ≡ far_count xs
far_count-set xs i y below far less =
    let h : far_count (set xs i y) + is_far (get_or xs i 0) ≡ far_count xs + is_far y = sum_by-set is_far xs i y 0 below in
    let one : is_far (get_or xs i 0) ≡ 1 = ap is_far far in
    let none : is_far y ≡ 0 = grind arith in
    omega (arith, h, one, none)

pub far_count-le : (xs : List ℕ) → far_count xs ≤ length xs
far_count-le xs = count_by-le-length (λ d. nat_eq d 4294967295) xs

pub keeps_same : (xs : List ℕ) (level : ℕ) → Keeps xs xs level
keeps_same xs level = record { len = refl; each = λ v. inl refl }

pub keeps_set : (xs : List ℕ) (c level : ℕ) → c < length xs → slice_index xs c ≡ 4294967295 → Keeps xs (set xs c level) level
keeps_set xs c level below far = record {
  len = length-set xs c level;
  each = λ v. elim (cases_eq v c) [
    | inl e ↦ inr (ap (slice_index xs) e ∙ far, subst (λ (w : ℕ). get_or (set xs c level) w 0 ≡ level) (sym e) (get_or-set_same xs c level 0 below))
    | inr ne ↦ inl (get_or-set_other xs c v level 0 ne)
  ];
}

-- what was not far stays
pub kept : (old new : List ℕ) (level v : ℕ) → Keeps old new level → slice_index old v ≢ 4294967295 → slice_index new v ≡ slice_index old v
kept old new level v k near = elim (k.each v) [ inl e ↦ e | inr p ↦ absurd (near p.0) ]

pub keeps_on : (a b c : List ℕ) (level : ℕ) → level < 4294967295 → Keeps a b level → Keeps b c level → Keeps a c level
keeps_on a b c level small p q = record {
  len = q.len ∙ p.len;
  each = λ v. elim (q.each v) [
    | inl e ↦ elim (p.each v) [ inl f ↦ inl (e ∙ f) | inr g ↦ inr (g.0, e ∙ g.1) ]
    | inr h ↦ elim (p.each v) [ inl f ↦ inr (sym f ∙ h.0, h.1) | inr g ↦ absurd (omega (arith, g.1, h.0, small)) ]
  ];
}

-- the walls stay
pub was_open : (old new : List ℕ) (level v : ℕ) → level < 4294967294 → Keeps old new level → IsOpen new v → IsOpen old v
was_open old new level v small k o = (omega (arith, o.0, k.len), λ w. elim (k.each v) [ inl e ↦ o.1 (e ∙ w) | inr p ↦ omega (arith, p.0, w) ])

pub stays_open : (old new : List ℕ) (level v : ℕ) → level < 4294967294 → Keeps old new level → IsOpen old v → IsOpen new v
stays_open old new level v small k o = (omega (arith, o.0, k.len), λ w. elim (k.each v) [ inl e ↦ o.1 (sym e ∙ w) | inr p ↦ omega (arith, p.1, w, small) ])

pub was_link : (old new : List ℕ) (stride level a b : ℕ) → level < 4294967294 → Keeps old new level → IsLink new stride a b → IsLink old stride a b
was_link old new stride level a b small k l = record { from = was_open old new level a small k l.from; to = was_open old new level b small k l.to; side = l.side }

pub extends_same : (stride level : ℕ) (dist front : List ℕ) → Search dist stride level (level + 1) front → Extends stride level dist front dist front
extends_same stride level dist front s = record { search = s; keeps = keeps_same dist (level + 1); count = refl }

pub extends_on : (stride level : ℕ) (a f b g c h : List ℕ) → level + 1 < 4294967294 → Extends stride level a f b g → Extends stride level b g c h → Extends stride level a f c h
extends_on stride level a f b g c h small p q = record { search = q.search; keeps = keeps_on a b c (level + 1) (omega (arith, small)) p.keeps q.keeps; count = q.count ∙ p.count }

-- one visit from the open place `u` of the level
pub visited : (stride level u c : ℕ) (old from dist front new next : List ℕ) → level + 1 < 4294967294 → Extends stride level old from dist front → u < length old → slice_index old u ≡ level
    → c < length old → IsBeside stride c u → IsVisit dist front c (level + 1) new next → Extends stride level old from new next
visited stride level u c old from dist front new next small x inside at below side (inl p) = subst (λ (w : List ℕ). Extends stride level old from w next) (sym p.1) (subst (λ (w : List ℕ). Extends stride level old from dist w) (sym p.2) x)
visited stride level u c old from dist front new next small x inside at below side (inr p) =
    let here : c < length dist = omega (arith, below, x.keeps.len) in
    let level_u : slice_index dist u ≡ level = kept old dist (level + 1) u x.keeps (λ w. omega (arith, at, w, small)) ∙ at in
    let is_open : IsOpen dist u = (omega (arith, inside, x.keeps.len), λ w. omega (arith, level_u, w, small)) in
    let s : Search (set dist c (level + 1)) stride level (level + 1) (front ++ c ∷ []) = searched dist stride level u c front x.search small here side is_open level_u p.0 in
    let n = length_push front c in
    let far = far_count-set dist c (level + 1) here p.0 (omega (arith, small)) in
    let on : Extends stride level dist front (set dist c (level + 1)) (front ++ c ∷ []) = record { search = s; keeps = keeps_set dist c (level + 1) here p.0; count = omega (arith, n, far) } in
    let all : Extends stride level old from (set dist c (level + 1)) (front ++ c ∷ []) = extends_on stride level old from dist front (set dist c (level + 1)) (front ++ c ∷ []) small x on in
    subst (λ (w : List ℕ). Extends stride level old from w next) (sym p.1) (subst (λ (w : List ℕ). Extends stride level old from (set dist c (level + 1)) w) (sym p.2) all)

-- a visited place is not far
pub is_near : (c level : ℕ) (dist front new next : List ℕ) → level < 4294967295 → c < length dist → IsVisit dist front c level new next → slice_index new c ≢ 4294967295
is_near c level dist front new next small below (inl p) w = p.0 (ap (λ (xs : List ℕ). slice_index xs c) (sym p.1) ∙ w)
is_near c level dist front new next small below (inr p) w =
    let e : slice_index new c ≡ level = ap (λ (xs : List ℕ). slice_index xs c) p.1 ∙ get_or-set_same dist c level 0 below in omega (arith, e, w, small)

-- and stays so
pub stays_near : (c v level : ℕ) (dist front new next : List ℕ) → c < length dist → IsVisit dist front c level new next → slice_index dist v ≢ 4294967295 → slice_index new v ≢ 4294967295
stays_near c v level dist front new next below (inl p) near w = near (ap (λ (xs : List ℕ). slice_index xs v) (sym p.1) ∙ w)
stays_near c v level dist front new next below (inr p) near w =
    let k = kept dist (set dist c level) level v (keeps_set dist c level below p.0) near in
    near (sym k ∙ (ap (λ (xs : List ℕ). slice_index xs v) (sym p.1) ∙ w))

-- before a level nothing of it is reached
pub begins : (stride level : ℕ) (dist now : List ℕ) → level + 1 < 4294967294 → Search dist stride level level now → Extends stride level dist [] dist []
begins stride level dist now small s = extends_same stride level dist [] (record {
  walled = s.walled;
  back = s.back;
  low = λ v o near. (let l = s.low v o near in omega (arith, l));
  onward = s.onward;
  queued = λ v below e. (let l = s.low v (below, λ w. omega (arith, e, w, small)) (λ w. omega (arith, e, w, small)) in absurd (omega (arith, l, e)));
  is_level = λ v h. absurd (omega (arith, h.1));
})

-- what was left in all directions stays so
pub still_done : (stride level a b : ℕ) (dist front new next : List ℕ) → level + 1 < 4294967294 → Extends stride level dist front new next
    → ((v : ℕ) → IsLink dist stride a v → slice_index dist v ≤ level + 1) → IsLink new stride a b → slice_index new b ≤ level + 1
still_done stride level a b dist front new next small x done l =
    let d = done b (was_link dist new stride (level + 1) a b small x.keeps l) in
    let k = kept dist new (level + 1) b x.keeps (λ w. omega (arith, d, w, small)) in
    omega (arith, d, k)

-- after a level each place of the front was left
pub ends : (stride level : ℕ) (old now new next : List ℕ) → level + 1 < 4294967294 → Search old stride level level now → Extends stride level old [] new next
    → ((k : ℕ) → k < length now → (v : ℕ) → IsLink new stride (slice_index now k) v → slice_index new v ≤ level + 1) → Search new stride (level + 1) (level + 1) next
ends stride level old now new next small s x done = record {
  walled = x.search.walled;
  back = x.search.back;
  low = x.search.low;
  queued = x.search.queued;
  is_level = x.search.is_level;
  onward = onward;
}
  where
    at_front : (a b : ℕ) → IsLink new stride a b → slice_index new a ≡ level → slice_index new b ≤ slice_index new a + 1
    at_front a b l e =
        let was : slice_index old a ≡ level = elim (x.keeps.each a) [ inl p ↦ sym p ∙ e | inr p ↦ absurd (omega (arith, p.1, e)) ] in
        let in_now = s.queued a (omega (arith, l.from.0, x.keeps.len)) was in
        let is : slice_index now in_now.0 ≡ a = get_or_default now in_now.0 0 a in_now.1 ∙ in_now.2 in
        let d = done in_now.0 in_now.1 b (subst (λ (w : ℕ). IsLink new stride w b) (sym is) l) in
        omega (arith, d, e)

    onward : (a b : ℕ) → IsLink new stride a b → slice_index new a < level + 1 → slice_index new b ≤ slice_index new a + 1
    onward a b l less = elim (cases_lt (slice_index new a) level) [
      | inl below ↦ x.search.onward a b l below
      | inr above ↦ at_front a b l (omega (arith, above, less))
    ]

-- a place of the front has its four neighbours in the list
pub front_inside : (stride level i : ℕ) (old now dist next : List ℕ) → level + 1 < 4294967294 → Search old stride level level now → Extends stride level old [] dist next → i < length now
    → (stride ≤ get_or now i 0) × (get_or now i 0 + stride < length dist)
front_inside stride level i old now dist next small s x below =
    let here = s.is_level (get_or now i 0) (Contains-get_or now i 0 below) in
    let e : slice_index dist (get_or now i 0) ≡ level = kept old dist (level + 1) (get_or now i 0) x.keeps (λ w. omega (arith, here.1, w, small)) ∙ here.1 in
    x.search.walled (get_or now i 0) (omega (arith, here.0, x.keeps.len), λ w. omega (arith, e, w, small))

-- after the four visits each open place next to `u` is reached
module _ (stride level u : ℕ) (d0 f0 d1 f1 d2 f2 d3 f3 d4 f4 : List ℕ) (small : level + 1 < 4294967294) (step : 0 < stride) (low : stride ≤ u) (high : u + stride < length d0)
    (l1 : length d1 ≡ length d0) (l2 : length d2 ≡ length d1) (l3 : length d3 ≡ length d2)
    (v1 : IsVisit d0 f0 (u - stride) (level + 1) d1 f1) (v2 : IsVisit d1 f1 (u + 1) (level + 1) d2 f2)
    (v3 : IsVisit d2 f2 (u + stride) (level + 1) d3 f3) (v4 : IsVisit d3 f3 (u - 1) (level + 1) d4 f4)
    (s : Search d0 stride level (level + 1) f0) (at : slice_index d0 u ≡ level) where
  pub around_extends : Extends stride level d0 f0 d4 f4
  around_extends =
      let x0 = extends_same stride level d0 f0 s in
      let x1 = visited stride level u (u - stride) d0 f0 d0 f0 d1 f1 small x0 (omega arith) at (omega arith) (inr (inl (omega arith))) v1 in
      let x2 = visited stride level u (u + 1) d0 f0 d1 f1 d2 f2 small x1 (omega arith) at (omega arith) (inr (inr refl)) v2 in
      let x3 = visited stride level u (u + stride) d0 f0 d2 f2 d3 f3 small x2 (omega arith) at (omega arith) (inl (inl refl)) v3 in
      visited stride level u (u - 1) d0 f0 d3 f3 d4 f4 small x3 (omega arith) at (omega arith) (inl (inr (omega arith))) v4

  near_beside : (v : ℕ) → IsBeside stride u v → slice_index d4 v ≢ 4294967295
  near_beside v (inl (inl e)) =
      let is : u - stride ≡ v = omega arith in
      subst (λ (w : ℕ). slice_index d4 w ≢ 4294967295) is (
      stays_near (u - 1) (u - stride) (level + 1) d3 f3 d4 f4 (omega arith) v4 (
      stays_near (u + stride) (u - stride) (level + 1) d2 f2 d3 f3 (omega arith) v3 (
      stays_near (u + 1) (u - stride) (level + 1) d1 f1 d2 f2 (omega arith) v2 (
      is_near (u - stride) (level + 1) d0 f0 d1 f1 (omega arith) (omega arith) v1))))
  near_beside v (inl (inr e)) = subst (λ (w : ℕ). slice_index d4 w ≢ 4294967295) (sym e) (
      stays_near (u - 1) (u + 1) (level + 1) d3 f3 d4 f4 (omega arith) v4 (
      stays_near (u + stride) (u + 1) (level + 1) d2 f2 d3 f3 (omega arith) v3 (
      is_near (u + 1) (level + 1) d1 f1 d2 f2 (omega arith) (omega arith) v2)))
  near_beside v (inr (inl e)) = subst (λ (w : ℕ). slice_index d4 w ≢ 4294967295) (sym e) (
      stays_near (u - 1) (u + stride) (level + 1) d3 f3 d4 f4 (omega arith) v4 (
      is_near (u + stride) (level + 1) d2 f2 d3 f3 (omega arith) (omega arith) v3))
  near_beside v (inr (inr e)) =
      let is : u - 1 ≡ v = omega arith in
      subst (λ (w : ℕ). slice_index d4 w ≢ 4294967295) is (is_near (u - 1) (level + 1) d3 f3 d4 f4 (omega arith) (omega arith) v4)

  pub around_reached : (v : ℕ) → IsLink d4 stride u v → slice_index d4 v ≤ level + 1
  around_reached v l = around_extends.search.low v l.to (near_beside v l.side)
