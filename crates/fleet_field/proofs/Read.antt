-- What two labels say of the ways to the goal.
use Rattle.std.proofs.Common.{◌≡◌, ◌≢◌, ℕ, ◌/◌, ◌%◌, ◌<◌, ◌↔◌, IsTrue, inl, inr, length, Option, Some, None, get_or, slice_index, eqb, eq-eqb, refl, sym, ap, subst, ◌∙◌, arith}
use Rattle.std.proofs.lemmas.Bool.{eqb-true}
use Rattle.std.proofs.lemmas.List.{get_or_default}
use Rattle.fleet_grid.specs.declared.dir.Dir.{Dir}
use Rattle.fleet_grid.specs.Floor.{Floor, IsFloor, IsBeside, IsNeighbour, IsNeighbourIn}
use Rattle.fleet_grid.specs.Ways.{IsLess}
use Rattle.fleet_grid.specs.Distance.{distance}
use Rattle.fleet_grid.proofs.Forms.{floor_inside}
use Rattle.fleet_field.specs.declared.target.Target.{Target}
use Rattle.fleet_field.specs.declared.growing.GrowingField.{GrowingField}
use Rattle.fleet_field.specs.Growing.{Serves, IsSettled, search_of}
use Rattle.fleet_field.specs.inside.Estimate.{IsToward}
use Rattle.fleet_field.specs.inside.Known.{label}
use Rattle.fleet_field.proofs.Estimates.{estimate_toward, estimate_away}
use Rattle.fleet_field.proofs.Settled.{home_at, home_of, seen_toward, seen_before, seen_over, none_first, toward_side, away_side, nowhere}
use Rattle.fleet_field.proofs.Serving.{target_wide}

label_first : (k : ℕ) → label k ≡ 3 → k ≡ 0
label_first k e = omega (arith, e)

module _ {A : Type 0} (m : Floor) (f : GrowingField A) (s : Serves m f) (cell : ℕ) (floor : IsFloor m cell) where
  pub here_inside : cell < length f.labels.items
  here_inside = let i = floor_inside m cell floor in let e = s.known.size in omega (arith, i, e)

  pub there_inside : (w : ℕ) → IsFloor m w → w < length f.labels.items
  there_inside w ground = let i = floor_inside m w ground in let e = s.known.size in omega (arith, i, e)

  side_of : (dir : Dir) (w : ℕ) → IsNeighbourIn m dir cell w → IsBeside f.target.width dir cell w
  side_of dir w n = subst (λ (x : ℕ). IsBeside x dir cell w) (sym s.width) n.beside

  pos : 0 < f.target.width
  pos = target_wide m f f s

  module _ (come : slice_index f.labels.items cell ≢ 0) where
    pub nearer_toward : (dir : Dir) (w : ℕ) → IsNeighbourIn m dir cell w → IsToward f.target cell dir → IsLess (distance m w f.goal) (distance m cell f.goal) → slice_index f.labels.items w ≢ 0
    nearer_toward dir w n near less =
        seen_toward m f.target f.goal pos s.width s.steps (search_of f) s.known cell w floor (dir, n) come less (estimate_toward f.target dir cell w pos (side_of dir w n) near)

    pub nearer_before : slice_index f.labels.items cell ≢ f.mark → (w : ℕ) → IsNeighbour m cell w → IsLess (distance m w f.goal) (distance m cell f.goal) → slice_index f.labels.items w ≢ 0
    nearer_before other w n less = seen_before m f.target f.goal pos s.width s.steps (search_of f) s.known cell w floor n come less (λ e. other (e ∙ sym s.mark))

    pub nearer_first : f.mark ≡ 3 → (dir : Dir) (w : ℕ) → IsNeighbourIn m dir cell w → (IsToward (home_of f.target f.goal) cell dir → ⊥) → IsLess (distance m w f.goal) (distance m cell f.goal) → ⊥
    nearer_first first dir w n far less =
        none_first m f.target f.goal pos s.width s.steps (search_of f) s.known cell w floor (dir, n) come less (label_first s.steps (sym s.mark ∙ first))
        (estimate_away (home_of f.target f.goal) dir cell w pos (side_of dir w n) far)

    pub nearer_settled : IsSettled m f cell → (w : ℕ) → IsNeighbour m cell w → IsLess (distance m w f.goal) (distance m cell f.goal) → slice_index f.labels.items w ≢ 0
    nearer_settled (inl found) w n less = found.nearer w n less
    nearer_settled (inr over) w n less = seen_over m f.target f.goal pos s.width s.steps (search_of f) s.known cell w floor n come less over.0.left over.0.emptied

  module _ (dir : Dir) (w here there : ℕ) (n : IsNeighbourIn m dir cell w) (hh : here ≡ get_or f.labels.items cell here) (ht : there ≡ get_or f.labels.items w there) where
    at_cell : here ≡ slice_index f.labels.items cell
    at_cell = hh ∙ sym (get_or_default f.labels.items cell 0 here here_inside)

    at_next : there ≡ slice_index f.labels.items w
    at_next = ht ∙ sym (get_or_default f.labels.items w 0 there (there_inside w n.to))

    pub unlike_is : here ≢ 0 → IsToward f.target cell dir → ((there ≢ 0) × (there ≢ here)) ↔ IsLess (distance m w f.goal) (distance m cell f.goal)
    unlike_is come near =
        let seen : slice_index f.labels.items cell ≢ 0 = λ e. come (at_cell ∙ e) in
        let side = toward_side m f.target f.goal pos s.width s.steps (search_of f) s.known cell w floor (dir, n) seen (estimate_toward f.target dir cell w pos (side_of dir w n) near) n.to in
        let all : IsLess (distance m w f.goal) (distance m cell f.goal) → slice_index f.labels.items w ≢ 0 = nearer_toward seen dir w n near in (
          λ p. (side (λ e. p.0 (at_next ∙ e))).0 (λ e. p.1 (at_next ∙ (e ∙ sym at_cell))),
          λ less. (λ e. all less (sym at_next ∙ e), λ e. (side (all less)).1 less (sym at_next ∙ (e ∙ at_cell))),
        )

    pub like_is : IsSettled m f cell → here ≢ 0 → (IsToward f.target cell dir → ⊥) → IsTrue (eqb there here) ↔ IsLess (distance m w f.goal) (distance m cell f.goal)
    like_is settled come far =
        let seen : slice_index f.labels.items cell ≢ 0 = λ e. come (at_cell ∙ e) in
        let side = away_side m f.target f.goal pos s.width s.steps (search_of f) s.known cell w floor (dir, n) seen
        (estimate_away f.target dir cell w pos (side_of dir w n) far) n.to (nearer_settled seen settled w (dir, n)) in (
          λ b. side.0 (sym at_next ∙ (eqb-true there here b ∙ at_cell)),
          λ less. eq-eqb there here (at_next ∙ (side.1 less ∙ sym at_cell)),
        )

  pub none_is : IsSettled m f cell → (dir : Dir) (w here : ℕ) → IsNeighbourIn m dir cell w → here ≡ get_or f.labels.items cell here → here ≡ 0 → IsLess (distance m w f.goal) (distance m cell f.goal) → ⊥
  none_is settled dir w here n hh none less = go settled
    where
      unseen : slice_index f.labels.items cell ≡ 0
      unseen = get_or_default f.labels.items cell 0 here here_inside ∙ (sym hh ∙ none)

      go : IsSettled m f cell → ⊥
      go (inl found) = found.here unseen
      go (inr over) = elim over.1 [
        | inl come ↦ come unseen
        | inr empty ↦ nowhere m f.target f.goal pos s.width s.steps (search_of f) s.known cell w floor (dir, n) over.0.left over.0.emptied unseen empty less
      ]

pub nothing_left : (o : Option ℕ) → ((x : ℕ) → o ≡ Some x → ⊥) → o ≡ None
nothing_left None h = refl
nothing_left (Some x) h = absurd (h x refl)

-- the goal's row and column, as they were worked out
pub home_is : (w u aimed : ℕ) (home t : Target) → home ≡ record { width = w; row = aimed / w; column = aimed % w } → w ≡ u → t.width ≡ u → home ≡ home_of t aimed
home_is w u aimed home t e same wide = e ∙ ap (λ (x : ℕ). home_at x aimed) (same ∙ sym wide)
