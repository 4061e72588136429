-- The cells next to a floor cell.
use Rattle.std.proofs.Common.{◌≡◌, ◌≢◌, ℕ, ◌<◌, inl, inr, Option, Some, None, List, length, slice_index, refl, sym, ◌∙◌, subst, arith}
use Rattle.std.proofs.lemmas.Bool.{cases_eq}
use Rattle.fleet_grid.specs.Floor.{Floor, IsFloor, IsNeighbourIn, cell_across}
use Rattle.fleet_grid.specs.Ways.{IsWay, AreOpen}
use Rattle.fleet_grid.specs.declared.dir.Dir.{Dir}
use Rattle.fleet_grid.specs.declared.dir.Dir.TheVariants.{North, East, South, West}
use Rattle.fleet_grid.proofs.Edges.{beside_across}
use Rattle.fleet_grid.proofs.Forms.{floor_inside}
use Rattle.fleet_pibt.specs.inside.Around.{IsSpot, IsExit, IsAround, AreArounds, cell_in}
use Rattle.fleet_pibt.specs.inside.Tables.{HasSides}
use Rattle.fleet_pibt.specs.declared.around.Around.{Around}
use Rattle.fleet_pibt.specs.declared.door.Door.{Door}
use Rattle.fleet_pibt.proofs.Seen.{seen-below}

-- where the way is open, the cell is the floor neighbour
pub spot_open : (m : Floor) (own ways cell : ℕ) (dir : Dir) → AreOpen m own ways → IsWay ways dir → cell ≡ cell_across m.width own dir → IsSpot m own dir cell
spot_open m own ways cell dir ways_open way e =
    let at = (ways_open dir).0 way in
    let same : (w : ℕ) → IsNeighbourIn m dir own w → cell ≡ w = λ w n. e ∙ sym (beside_across m.width dir own w n.beside) in
    record { there = same; beside = λ ne. subst (IsNeighbourIn m dir own) (sym (same at.0 at.1)) at.1 }

pub spot_shut : (m : Floor) (own ways : ℕ) (dir : Dir) → AreOpen m own ways → (IsWay ways dir → ⊥) → IsSpot m own dir own
spot_shut m own ways dir ways_open shut = record { there = λ w n. absurd (shut ((ways_open dir).1 (w, n))); beside = λ ne. absurd (ne refl) }

-- a neighbour that no door shuts is an exit
pub spot-exit : (m : Floor) (own cell : ℕ) (dir : Dir) → IsSpot m own dir cell → IsExit m None own dir cell
spot-exit m own cell dir spot = record { there = λ w n _. spot.there w n; beside = spot.beside; passes = λ _. tt }

-- so is one next to another cell than the door's
pub exit-apart : (m : Floor) (door : Door) (own cell : ℕ) (dir : Dir) → (door.from ≡ own → ⊥) → IsExit m None own dir cell → IsExit m (Some door) own dir cell
exit-apart m door own cell dir apart exit = record { there = λ w n _. exit.there w n tt; beside = exit.beside; passes = λ _ from _. apart from }

-- next to the door's cell the cell beyond it is none
pub exit-without : (m : Floor) (door : Door) (own cell new : ℕ) (dir : Dir) → door.from ≡ own → IsExit m None own dir cell → (cell ≡ door.to → new ≡ own) → (cell ≢ door.to → new ≡ cell) → IsExit m (Some door) own dir new
exit-without m door own cell new dir from exit shut open_ = elim (cases_eq cell door.to) [
  | inl same ↦ record {
    there = λ w n opens. absurd (opens from (sym same ∙ exit.there w n tt));
    beside = λ ne. absurd (ne (shut same));
    passes = λ ne. absurd (ne (shut same));
  }
  | inr apart ↦ (
      let at : new ≡ cell = open_ apart in
      record {
        there = λ w n _. at ∙ exit.there w n tt;
        beside = λ ne. subst (IsNeighbourIn m dir own) (sym at) (exit.beside (λ e. ne (at ∙ e)));
        passes = λ ne _ to. apart (sym at ∙ sym to);
      })
]

-- a neighbour, or the own cell where it is the one that is shut
abbrev Kept : (cell shut own new : ℕ) → Type 0
Kept cell shut own new = (cell ≡ shut → new ≡ own) × (cell ≢ shut → new ≡ cell)

pub around-without : (m : Floor) (door : Door) (own : ℕ) (around new : Around) → door.from ≡ own → IsAround m None own around → new.own ≡ own →
    Kept around.north door.to around.own new.north → Kept around.east door.to around.own new.east → Kept around.south door.to around.own new.south → Kept around.west door.to around.own new.west →
    IsAround m (Some door) own new
around-without m door own around new from seen here north east south west = record { here = here; beside = side }
  where
    side : (dir : Dir) → IsExit m (Some door) own dir (cell_in new dir)
    side North = exit-without m door own around.north new.north North from (seen.beside North) (λ e. north.0 e ∙ seen.here) north.1
    side East = exit-without m door own around.east new.east East from (seen.beside East) (λ e. east.0 e ∙ seen.here) east.1
    side South = exit-without m door own around.south new.south South from (seen.beside South) (λ e. south.0 e ∙ seen.here) south.1
    side West = exit-without m door own around.west new.west West from (seen.beside West) (λ e. west.0 e ∙ seen.here) west.1

spot-inside : (m : Floor) (door : Option Door) (own cell : ℕ) (dir : Dir) → IsFloor m own → IsExit m door own dir cell → cell < length m.letters
spot-inside m door own cell dir floor spot = floor_inside m cell
    (elim (cases_eq cell own) [
      | inl same ↦ subst (λ (x : ℕ). IsFloor m x) (sym same) floor
      | inr ne ↦ (spot.beside ne).to
    ])

pub sides-inside : (m : Floor) (door : Option Door) (goals : ℕ → Option ℕ) (distance : ℕ → ℕ → Option ℕ) (from : List ℕ) (arounds : List Around) → AreArounds m door goals distance from arounds → ((r : ℕ) → r < length from → IsFloor m (slice_index from r)) →
    HasSides arounds (length m.letters)
sides-inside m door goals distance from arounds are floor r around e =
    let own = floor r (let l = seen-below arounds r around e in omega (arith, l, are.same_length)) in
    let beside = (are.each r around e).beside in
    (spot-inside m door (slice_index from r) around.north North own (beside North), spot-inside m door (slice_index from r) around.south South own (beside South))
