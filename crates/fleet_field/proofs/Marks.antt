-- From the distances of the places to the ways of the cells.
use Rattle.std.proofs.Common.{◌≡◌, ℕ, ◌+◌, ◌-◌, ◌*◌, ◌<◌, ◌≤◌, inl, inr, List, length, get_or, slice_index, Option, Some, None, refl, sym, subst, ◌∙◌, arith, rules}
use Rattle.std.proofs.lemmas.Bool.{cases_lt}
use Rattle.std.proofs.lemmas.List.{get_or_past}
use Rattle.std.proofs.lemmas.Nat.Bits.{bit_at-zero}
use Rattle.fleet_grid.specs.declared.dir.Dir.{Dir}
use Rattle.fleet_grid.specs.declared.dir.Dir.TheVariants.{North, East, South, West}
use Rattle.fleet_grid.specs.Direction.{dir_number}
use Rattle.fleet_grid.specs.Floor as floor
use Rattle.fleet_grid.specs.Padded.{place}
use Rattle.fleet_grid.specs.Ways.{IsWay, IsLess}
use Rattle.fleet_grid.proofs.Places.{place_inside, east_on, south_on, east_back, south_back}
use Rattle.fleet_field.specs.Kept.{IsLaidOut, aways}
use Rattle.fleet_field.specs.Compass.{IsNear, AreWaysAt, IsRight}
use Rattle.fleet_field.proofs.Transfer.{away_in, away_out, away_near, away_far}

pub some_is : (a b : ℕ) → Some a ≡ Some b → a ≡ b
some_is a b e = search (rules, e)

pub none_is : (a : ℕ) → None ≡ Some a → ⊥
none_is a e = search (rules, e)

-- both are distances, and one is less
pub less_parts : (o p : Option ℕ) → IsLess o p → (x : ℕ) × (y : ℕ) × (o ≡ Some x) × (p ≡ Some y) × (x < y)
less_parts (Some x) (Some y) l = (x, y, refl, refl, l)
less_parts (Some x) None l = absurd l
less_parts None p l = absurd l

pub less_by : (o p : Option ℕ) (x y : ℕ) → o ≡ Some x → p ≡ Some y → x < y → IsLess o p
less_by o p x y eo ep l = subst (λ (q : Option ℕ). IsLess q p) (sym eo) (subst (IsLess (Some x)) (sym ep) l)

module _ (h w s : ℕ) (dist : List ℕ) (l : IsLaidOut h w s dist) where
  pub around_inside : (c : ℕ) → c < h * w → (s ≤ place w s c) × (place w s c + s < length dist)
  around_inside c below = let p = place_inside h w s c l.wide l.apart below in (p.0, omega (arith, p.1, l.size))

  near_less : (a b : ℕ) → a < h * w → b < h * w → IsNear dist (place w s a) (place w s b) → IsLess (get_or (aways h w s dist) b None) (get_or (aways h w s dist) a None)
  near_less a b la lb n =
      less_by (get_or (aways h w s dist) b None) (get_or (aways h w s dist) a None) (slice_index dist (place w s b)) (slice_index dist (place w s a))
      (away_in h w s b dist lb ∙ away_near (slice_index dist (place w s b)) (omega (arith, n.less, n.reached)))
      (away_in h w s a dist la ∙ away_near (slice_index dist (place w s a)) n.reached) n.less

  away_some : (c d : ℕ) → get_or (aways h w s dist) c None ≡ Some d → (c < h * w) × (slice_index dist (place w s c) ≡ d) × (d < 4294967294)
  away_some c d e = elim (cases_lt c (h * w)) [
    | inl below ↦ elim (cases_lt (slice_index dist (place w s c)) 4294967294) [
      | inl near ↦ (
          let same : slice_index dist (place w s c) ≡ d = some_is (slice_index dist (place w s c)) d (sym (away_in h w s c dist below ∙ away_near (slice_index dist (place w s c)) near) ∙ e) in
          (below, same, omega (arith, same, near)))
      | inr far ↦ absurd (none_is d (sym (away_in h w s c dist below ∙ away_far (slice_index dist (place w s c)) far) ∙ e))
    ]
    | inr past ↦ absurd (none_is d (sym (away_out h w s c dist past) ∙ e))
  ]

  less_near : (a b : ℕ) → IsLess (get_or (aways h w s dist) b None) (get_or (aways h w s dist) a None) → (a < h * w) × IsNear dist (place w s a) (place w s b)
  less_near a b less =
      let p = less_parts (get_or (aways h w s dist) b None) (get_or (aways h w s dist) a None) less in
      let pb = away_some b p.0 p.2 in
      let pa = away_some a p.1 p.3 in
      (pa.0, record { reached = omega (arith, pa.1, pa.2); less = omega (arith, pa.1, pb.1, p.4) })

  module _ (ways : List ℕ) (len : length ways ≡ h * w)
      (cells : (v : ℕ) → v < length dist → slice_index dist v < 4294967294 → (c : ℕ) × (c < h * w) × (v ≡ place w s c))
      (each : (c : ℕ) → c < h * w → AreWaysAt dist s (place w s c) (slice_index ways c)) where
    found : (c v : ℕ) → c < h * w → v < length dist → IsNear dist (place w s c) v → (n : ℕ) × (v ≡ place w s n) × IsLess (get_or (aways h w s dist) n None) (get_or (aways h w s dist) c None)
    found c v below inside near =
        let cell = cells v inside (omega (arith, near.less, near.reached)) in
        (cell.0, cell.2, near_less c cell.0 below cell.1 (subst (IsNear dist (place w s c)) cell.2 near))

    leads_at : (c : ℕ) → c < h * w → (dir : Dir) → IsWay (slice_index ways c) dir → (n : ℕ) × floor.IsBeside w dir c n × IsLess (get_or (aways h w s dist) n None) (get_or (aways h w s dist) c None)
    leads_at c below North way =
        let i = around_inside c below in
        let f = found c (place w s c - s) below (omega (arith, i.1)) ((each c below).north.0 way) in
        (f.0, south_back w s f.0 c l.wide l.apart (omega (arith, f.1, i.0)), f.2)
    leads_at c below East way =
        let i = around_inside c below in
        let f = found c (place w s c + 1) below (omega (arith, i.1, l.apart)) ((each c below).east.0 way) in
        (f.0, east_back w s c f.0 l.wide l.apart (sym f.1), f.2)
    leads_at c below South way =
        let i = around_inside c below in
        let f = found c (place w s c + s) below i.1 ((each c below).south.0 way) in
        (f.0, south_back w s c f.0 l.wide l.apart (sym f.1), f.2)
    leads_at c below West way =
        let i = around_inside c below in
        let f = found c (place w s c - 1) below (omega (arith, i.1)) ((each c below).west.0 way) in
        (f.0, east_back w s f.0 c l.wide l.apart (omega (arith, f.1, i.0, l.apart)), f.2)

    leads : (c : ℕ) (dir : Dir) → IsWay (slice_index ways c) dir → (n : ℕ) × floor.IsBeside w dir c n × IsLess (get_or (aways h w s dist) n None) (get_or (aways h w s dist) c None)
    leads c dir way = elim (cases_lt c (h * w)) [
      | inl below ↦ leads_at c below dir way
      | inr past ↦ absurd (
          let z : slice_index ways c ≡ 0 = get_or_past ways c 0 (omega (arith, past, len)) in
          let e = bit_at-zero (dir_number dir) in
          let one = subst (λ (x : ℕ). IsWay x dir) z way in
          omega (arith, e, one))
    ]

    all_at : (c : ℕ) (dir : Dir) (n : ℕ) → floor.IsBeside w dir c n → IsLess (get_or (aways h w s dist) n None) (get_or (aways h w s dist) c None) → IsWay (slice_index ways c) dir
    all_at c North n e less =
        let p = less_near c n less in
        let at : place w s n ≡ place w s c - s = (let on = south_on w s n c l.wide e in omega (arith, on)) in
        (each c p.0).north.1 (subst (IsNear dist (place w s c)) at p.1)
    all_at c East n e less =
        let p = less_near c n less in
        (each c p.0).east.1 (subst (IsNear dist (place w s c)) (east_on w s c n l.wide e.0 e.1) p.1)
    all_at c South n e less =
        let p = less_near c n less in
        (each c p.0).south.1 (subst (IsNear dist (place w s c)) (south_on w s c n l.wide e) p.1)
    all_at c West n e less =
        let p = less_near c n less in
        let at : place w s n ≡ place w s c - 1 = (let on = east_on w s n c l.wide e.0 e.1 in omega (arith, on)) in
        (each c p.0).west.1 (subst (IsNear dist (place w s c)) at p.1)

    pub is_right : IsRight w ways (λ c. get_or (aways h w s dist) c None)
    is_right = record { leads = leads; all = all_at }
