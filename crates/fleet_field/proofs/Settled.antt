-- What is read off the labels, once the search has come to a cell.
use Rattle.std.proofs.Common.{◌≡◌, ◌≢◌, ℕ, ◌+◌, ◌*◌, ◌/◌, ◌%◌, ◌<◌, ◌≤◌, ◌↔◌, inl, inr, List, [], ◌∷◌, length, slice_index, Option, Some, None, refl, sym, ap, subst, ◌∙◌, arith}
use Rattle.std.proofs.lemmas.Bool.{cases_lt}
use Rattle.fleet_grid.specs.Floor.{Floor, IsFloor, IsNeighbour}
use Rattle.fleet_grid.specs.Walk.{Walks}
use Rattle.fleet_grid.specs.Ways.{IsLess}
use Rattle.fleet_grid.specs.Distance.{distance}
use Rattle.fleet_grid.proofs.Least.{none_or_some}
use Rattle.fleet_grid.proofs.Shortest.{is_distance, distance_is, apart_is}
use Rattle.fleet_grid.proofs.Edges.{neighbour_back}
use Rattle.fleet_field.specs.declared.target.Target.{Target}
use Rattle.fleet_field.specs.inside.Estimate.{estimate}
use Rattle.fleet_field.specs.inside.Left.{Search}
use Rattle.fleet_field.specs.inside.Known.{IsAt, IsKnown, label}
use Rattle.fleet_field.proofs.Estimates.{neighbour_step, gap_same, gap_over}
use Rattle.fleet_field.proofs.Searches.{long, away_of, within_toward, within_away, complete, all_come}

less_none : (o : Option ℕ) → IsLess o None → ⊥
less_none (Some d) l = l
less_none None l = l

label_next : (k : ℕ) → label (k + 1) ≢ label k
label_next k e = omega (arith, e)

less_is : (a b : Option ℕ) (x y : ℕ) → a ≡ Some x → b ≡ Some y → x < y → IsLess a b
less_is a b x y e f l = rw (e, f) l

less_was : (a b : Option ℕ) (x y : ℕ) → a ≡ Some x → b ≡ Some y → IsLess a b → x < y
less_was a b x y e f l = subst (λ (o : Option ℕ). IsLess (Some x) o) f (subst (λ (o : Option ℕ). IsLess o b) e l)

-- a cell's distance, by its steps away
pub record HasDistance (m : Floor) (t : Target) (aimed v j : ℕ) : Type 0 where
  pub far : ℕ
  pub is : distance m v aimed ≡ Some far
  pub by : far + estimate t v ≡ estimate t aimed + 2 * j

has_distance : (m : Floor) (t : Target) (aimed v j : ℕ) → IsFloor m v → IsAt m t aimed v j → HasDistance m t aimed v j
has_distance m t aimed v j f at =
    let s = at.within.short in
    let l = at.least at.within.walk at.within.leads in
    let by : length at.within.walk + estimate t v ≡ estimate t aimed + 2 * j = omega (arith, s, l) in
    record {
      far = length at.within.walk;
      is = is_distance m v aimed (length at.within.walk) f (record {
        walk = (at.within.walk, at.within.leads, refl);
        least = λ cs leads. (let q = at.least cs leads in omega (arith, q, by));
      });
      by = by;
    }

-- the row and the column of the goal
abbrev pub home_at : ℕ → ℕ → Target
home_at w aimed = record { width = w; row = aimed / w; column = aimed % w }

abbrev pub home_of : Target → ℕ → Target
home_of t aimed = home_at t.width aimed

-- no walk is shorter than rows and columns
near_by : (m : Floor) (g : Target) (aimed : ℕ) (pos : 0 < g.width) (same : g.width ≡ m.width) (v : ℕ) (walk : List ℕ) → Walks (IsNeighbour m) v walk aimed → estimate g v ≤ length walk + estimate g aimed
near_by m g aimed pos same v [] w = let e : estimate g v ≡ estimate g aimed = ap (estimate g) w in omega (arith, e)
near_by m g aimed pos same v (c ∷ cs) w =
    let rest = near_by m g aimed pos same c cs w.1 in
    let e = long c cs in
    elim (neighbour_step m g v c pos same w.0) [
      | inl near ↦ omega (arith, rest, near, e)
      | inr far ↦ omega (arith, rest, far, e)
    ]

home_here : (t : Target) (aimed : ℕ) → estimate (home_of t aimed) aimed ≡ 0
home_here t aimed = let r = gap_same (aimed / t.width) in let c = gap_same (aimed % t.width) in omega (arith, r, c)

-- the goal is no farther from the target than by way of the cell
home_over : (t : Target) (aimed cell : ℕ) → estimate t aimed ≤ estimate t cell + estimate (home_of t aimed) cell
home_over t aimed cell =
    let r = gap_over (aimed / t.width) (cell / t.width) t.row in
    let c = gap_over (aimed % t.width) (cell % t.width) t.column in
    omega (arith, r, c)

-- a walk from a neighbour that is shorter than all from the cell, which has this many steps away
record IsShorter (m : Floor) (t : Target) (aimed cell next j : ℕ) : Type 0 where
  walk : List ℕ
  leads : Walks (IsNeighbour m) next walk aimed
  short : length walk + estimate t cell < estimate t aimed + 2 * j

shorter : (m : Floor) (t : Target) (aimed cell next j : ℕ) → IsFloor m cell → IsAt m t aimed cell j → IsLess (distance m next aimed) (distance m cell aimed) → IsShorter m t aimed cell next j
shorter m t aimed cell next j floor at less = elim (none_or_some (distance m next aimed)) [
  | inl gone ↦ absurd (subst (λ (o : Option ℕ). IsLess o (distance m cell aimed)) gone less)
  | inr some ↦ (
      let x = has_distance m t aimed cell j floor at in
      let l = less_was (distance m next aimed) (distance m cell aimed) some.0 x.far some.1 x.is less in
      let is = distance_is m next aimed some.0 some.1 in
      let size = is.walk.2 in
      let by = x.by in
      record { walk = is.walk.0; leads = is.walk.1; short = omega (arith, l, size, by) })
]

module _ (m : Floor) (t : Target) (aimed : ℕ) (pos : 0 < t.width) (same : t.width ≡ m.width) (k : ℕ) (s : Search) (known : IsKnown m t aimed k s) (cell next : ℕ) (floor : IsFloor m cell) (n : IsNeighbour m cell next) where
  -- a neighbour that is nearer has a label:
  module _ (come : slice_index s.labels cell ≢ 0) (less : IsLess (distance m next aimed) (distance m cell aimed)) where
    -- toward the target,
    pub seen_toward : estimate t next + 1 ≡ estimate t cell → slice_index s.labels next ≢ 0
    seen_toward near =
        let c = known.right cell come in
        let low = c.1 in
        let w = shorter m t aimed cell next c.0 floor c.2 less in
        let short = w.short in
        let a = away_of m t aimed pos same next w.walk w.leads in
        let is = a.1 in
        known.before next a.0 (omega (arith, low, short, is, near)) (record { walk = w.walk; leads = w.leads; short = omega (arith, is) })

    -- and anywhere, if the search came to the cell in a round before this one,
    pub seen_before : slice_index s.labels cell ≢ label k → slice_index s.labels next ≢ 0
    seen_before other =
        let c = known.right cell come in
        let low = c.1 in
        let w = shorter m t aimed cell next c.0 floor c.2 less in
        let short = w.short in
        let a = away_of m t aimed pos same next w.walk w.leads in
        let is = a.1 in
        let under : c.0 < k = elim (cases_lt c.0 k) [
          | inl l ↦ l
          | inr over ↦ (let e : c.0 ≡ k = omega (arith, low, over) in absurd (other (c.3 ∙ ap label e)))
        ] in
        elim (neighbour_step m t cell next pos same n) [
          | inl near ↦ seen_toward near
          | inr far ↦ known.before next a.0 (omega (arith, under, short, is, far)) (record { walk = w.walk; leads = w.leads; short = omega (arith, is) })
        ]

    -- or if this round is over;
    pub seen_over : s.now ≡ [] → s.next ≡ [] → slice_index s.labels next ≢ 0
    seen_over none empty =
        let c = known.right cell come in
        let low = c.1 in
        let w = shorter m t aimed cell next c.0 floor c.2 less in
        let short = w.short in
        elim (neighbour_step m t cell next pos same n) [
          | inl near ↦ complete m t aimed pos same k s known none empty next w.walk w.leads (omega (arith, low, short, near))
          | inr far ↦ complete m t aimed pos same k s known none empty next w.walk w.leads (omega (arith, low, short, far))
        ]

    -- and in the first round none is nearer that has more rows and columns to the goal
    pub none_first : k ≡ 0 → estimate (home_of t aimed) next ≡ estimate (home_of t aimed) cell + 1 → ⊥
    none_first first off =
        let c = known.right cell come in
        let low = c.1 in
        let w = shorter m t aimed cell next c.0 floor c.2 less in
        let short = w.short in
        let by = near_by m (home_of t aimed) aimed pos same next w.walk w.leads in
        let here = home_here t aimed in
        let over = home_over t aimed cell in
        omega (arith, first, off, low, short, by, here, over)

  pub toward_side : (come : slice_index s.labels cell ≢ 0) → estimate t next + 1 ≡ estimate t cell → IsFloor m next → slice_index s.labels next ≢ 0
      → (slice_index s.labels next ≢ slice_index s.labels cell) ↔ IsLess (distance m next aimed) (distance m cell aimed)
  toward_side come near ground seen =
      let c = known.right cell come in
      let j = c.0 in
      let within = within_toward m t aimed pos same cell next j n c.2.within near in
      let short = within.short in
      let d = known.right next seen in
      let i = d.0 in
      let up = d.2.least within.walk within.leads in
      let back = within_away m t aimed pos same next cell i (neighbour_back m cell next n) d.2.within (sym near) in
      let back_short = back.short in
      let down = c.2.least back.walk back.leads in
      let x = has_distance m t aimed cell j floor c.2 in
      let y = has_distance m t aimed next i ground d.2 in
      let xb = x.by in
      let yb = y.by in
      let most : i ≤ j = omega (arith, up, short) in
      let least : j ≤ i + 1 = omega (arith, down, back_short) in (
        λ ne. elim (cases_lt i j) [
          | inl less ↦ less_is (distance m next aimed) (distance m cell aimed) y.far x.far y.is x.is (omega (arith, less, xb, yb, near))
          | inr more ↦ (let e : i ≡ j = omega (arith, most, more) in absurd (ne (d.3 ∙ (ap label e ∙ sym c.3))))
        ],
        λ less e. (
            let l = less_was (distance m next aimed) (distance m cell aimed) y.far x.far y.is x.is less in
            let q : j ≡ i + 1 = omega (arith, l, xb, yb, near, least) in
            label_next i (ap label (sym q) ∙ (sym c.3 ∙ (sym e ∙ d.3)))),
      )

  pub away_side : (come : slice_index s.labels cell ≢ 0) → estimate t next ≡ estimate t cell + 1 → IsFloor m next
      → (IsLess (distance m next aimed) (distance m cell aimed) → slice_index s.labels next ≢ 0)
      → (slice_index s.labels next ≡ slice_index s.labels cell) ↔ IsLess (distance m next aimed) (distance m cell aimed)
  away_side come off ground all =
      let c = known.right cell come in
      let j = c.0 in
      let x = has_distance m t aimed cell j floor c.2 in
      let xb = x.by in (
        λ e. (
            let d = known.right next (λ z. come (sym e ∙ z)) in
            let i = d.0 in
            let y = has_distance m t aimed next i ground d.2 in
            let yb = y.by in
            let out = within_away m t aimed pos same cell next j n c.2.within off in
            let out_short = out.short in
            let up = d.2.least out.walk out.leads in
            let most : i ≤ j + 1 = omega (arith, up, out_short) in
            elim (cases_lt j i) [
              | inl over ↦ (let q : i ≡ j + 1 = omega (arith, over, most) in absurd (label_next j (ap label (sym q) ∙ (sym d.3 ∙ (e ∙ c.3)))))
              | inr within ↦ less_is (distance m next aimed) (distance m cell aimed) y.far x.far y.is x.is (omega (arith, within, xb, yb, off))
            ]),
        λ less. (
            let d = known.right next (all less) in
            let i = d.0 in
            let y = has_distance m t aimed next i ground d.2 in
            let yb = y.by in
            let l = less_was (distance m next aimed) (distance m cell aimed) y.far x.far y.is x.is less in
            let back = within_toward m t aimed pos same next cell i (neighbour_back m cell next n) d.2.within (sym off) in
            let back_short = back.short in
            let down = c.2.least back.walk back.leads in
            let e : i ≡ j = omega (arith, l, xb, yb, off, back_short, down) in
            d.3 ∙ (ap label e ∙ sym c.3)),
      )

  pub nowhere : s.now ≡ [] → s.next ≡ [] → slice_index s.labels cell ≡ 0 → s.later ≡ [] → IsLess (distance m next aimed) (distance m cell aimed) → ⊥
  nowhere none empty unseen over less =
      let gone = apart_is m cell aimed (λ cs leads. all_come m t aimed pos same k s known none empty over cell cs leads unseen) in
      less_none (distance m next aimed) (subst (λ (o : Option ℕ). IsLess (distance m next aimed) o) gone less)
