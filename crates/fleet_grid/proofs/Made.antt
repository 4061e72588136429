-- How the padded form is made.
use Rattle.std.proofs.Common.{◌≡◌, ◌≢◌, ℕ, ◌+◌, ◌*◌, ◌<◌, ◌≤◌, ◌⊎◌, inl, inr, false, List, length, set, slice_index, sym, ap, subst, ◌∙◌, arith}
use Rattle.std.specs.Prelude.{replicate}
use Rattle.std.proofs.lemmas.Nat.{mul-le}
use Rattle.std.proofs.lemmas.Bool.{cases_eq, false≢true}
use Rattle.std.proofs.lemmas.List.{get_or-replicate, length-replicate, length-set, get_or-set_same, get_or-set_other}
use Rattle.fleet_grid.specs.Floor.{Floor, IsFloor, is_floor_letter}
use Rattle.fleet_grid.specs.Padded.{IsPadded, place}
use Rattle.fleet_grid.proofs.Places.{place_inside}
use Rattle.fleet_grid.proofs.Forms.{floor_inside}

-- reading a list after a write
pub read : (xs : List ℕ) (i x v : ℕ) → i < length xs → ((v ≡ i) × (slice_index (set xs i x) v ≡ x)) ⊎ ((v ≡ i → ⊥) × (slice_index (set xs i x) v ≡ slice_index xs v))
read xs i x v inside = elim (cases_eq v i) [
  | inl e ↦ inl (e, ap (slice_index (set xs i x)) e ∙ get_or-set_same xs i x 0 inside)
  | inr ne ↦ inr (ne, get_or-set_other xs i v x 0 ne)
]

-- the padded form so far: the first n cells are in it
pub record IsPartly (m : Floor) (s n : ℕ) (blank : List ℕ) : Type 0 where
  pub size : length blank ≡ (m.height + 2) * s
  pub each : (c : ℕ) → c < n → IsFloor m c → slice_index blank (place m.width s c) ≡ 4294967295
  pub only : (v : ℕ) → v < length blank → (slice_index blank v ≡ 4294967294) ⊎ ((slice_index blank v ≡ 4294967295) × (c : ℕ) × IsFloor m c × (v ≡ place m.width s c))

pub none_yet : (m : Floor) (s size : ℕ) → size ≡ (m.height + 2) * s → IsPartly m s 0 (replicate size 4294967294)
none_yet m s size e = record {
  size = length-replicate {A = ℕ} size 4294967294 ∙ e;
  each = λ c below f. absurd (omega (arith, below));
  only = λ v below. inl (get_or-replicate size v 4294967294 0 (omega (arith, below, length-replicate {A = ℕ} size 4294967294)));
}

pub wall_more : (m : Floor) (s n : ℕ) (blank : List ℕ) → IsPartly m s n blank → is_floor_letter (slice_index m.letters n) ≡ false → IsPartly m s (n + 1) blank
wall_more m s n blank p off = record {
  size = p.size;
  only = p.only;
  each = λ c below f. elim (cases_eq c n) [
    | inl e ↦ absurd (false≢true (sym off ∙ subst (IsFloor m) e f))
    | inr ne ↦ p.each c (omega (arith, below, ne)) f
  ];
}

pub floor_more : (m : Floor) (s n : ℕ) (blank : List ℕ) → 0 < m.width → m.width < s → n < m.height * m.width → IsPartly m s n blank → IsFloor m n → IsPartly m s (n + 1) (set blank (place m.width s n) 4294967295)
floor_more m s n blank pos apart below p on = record { size = length-set blank (place m.width s n) 4294967295 ∙ p.size; each = each; only = only }
  where
    inside : place m.width s n < length blank
    inside = let i = place_inside m.height m.width s n pos apart below in omega (arith, i.1, p.size)

    each : (c : ℕ) → c < n + 1 → IsFloor m c → slice_index (set blank (place m.width s n) 4294967295) (place m.width s c) ≡ 4294967295
    each c less f = elim (read blank (place m.width s n) 4294967295 (place m.width s c) inside) [
      | inl h ↦ h.1
      | inr h ↦ h.1 ∙ p.each c (let ne : c ≢ n = (λ e. h.0 (ap (place m.width s) e)) in omega (arith, less, ne)) f
    ]

    only : (v : ℕ) → v < length (set blank (place m.width s n) 4294967295)
        → (slice_index (set blank (place m.width s n) 4294967295) v ≡ 4294967294) ⊎ ((slice_index (set blank (place m.width s n) 4294967295) v ≡ 4294967295) × (c : ℕ) × IsFloor m c × (v ≡ place m.width s c))
    only v less = elim (read blank (place m.width s n) 4294967295 v inside) [
      | inl h ↦ inr (h.1, n, on, h.0)
      | inr h ↦ elim (p.only v (omega (arith, less, length-set blank (place m.width s n) 4294967295))) [
        | inl k ↦ inl (h.1 ∙ k)
        | inr k ↦ inr (h.1 ∙ k.0, k.1, k.2, k.3)
      ]
    ]

pub all_in : (m : Floor) (s : ℕ) (blank : List ℕ) → m.width < s → m.height ≤ 1024 → s ≤ 1041 → IsPartly m s (length m.letters) blank → IsPadded m s blank
all_in m s blank apart low slim p = record {
  apart = apart;
  small = rw p.size (few m.height s low slim);
  size = p.size;
  each = λ c f. p.each c (floor_inside m c f) f;
  only = λ v o. elim (p.only v o.0) [
    | inl wall ↦ absurd (o.1 wall)
    | inr there ↦ there
  ];
}
  where
    few : (h t : ℕ) → h ≤ 1024 → t ≤ 1041 → (h + 2) * t < 1073741824
    few h t a b = let most : (h + 2) * t ≤ 1026 * 1041 = mul-le (h + 2) t 1026 1041 (omega (arith, a)) b in omega (arith, most)
