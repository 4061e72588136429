use Rattle.std.proofs.Common.{◌≡◌, ◌≢◌, ℕ, List, length, get_or, slice_index, sym, ◌∙◌, ◌<◌}
use Rattle.std.proofs.lemmas.List.{get_or_default}
use Rattle.fleet_grid.specs.declared.dir.Dir.TheVariants.{North, East, South, West}
use Rattle.fleet_grid.specs.declared.dir.Dir.{Dir}
use Rattle.fleet_grid.specs.Floor.{Floor, IsNeighbourIn}
use Rattle.fleet_grid.specs.Ways.{IsLess}
use Rattle.fleet_grid.specs.Distance.{distance}
use Rattle.fleet_field.specs.declared.growing.GrowingField.{GrowingField}
use Rattle.fleet_field.specs.Growing.{IsFound}
use Rattle.fleet_field.proofs.Read.{here_inside, nearer_before, nothing_left}
use Rattle.fleet_field.proofs.growing.GrowingField.wanted.Goals as goal

-- what was read is the cell's label
read : (labels : List ℕ) (cell here : ℕ) → cell < length labels → here ≡ get_or labels cell here → here ≡ slice_index labels cell
read labels cell here inside e = e ∙ sym (get_or_default labels cell 0 here inside)

has_come : (labels : List ℕ) (cell here : ℕ) → cell < length labels → here ≡ get_or labels cell here → here ≢ 0 → slice_index labels cell ≢ 0
has_come labels cell here inside e come z = come (read labels cell here inside e ∙ z)

abbrev Sees : {A : Type 0} → Floor → GrowingField A → ℕ → Dir → Type 0
Sees m f cell dir = (w : ℕ) → IsNeighbourIn m dir cell w → IsLess (distance m w f.goal) (distance m cell f.goal) → slice_index f.labels.items w ≢ 0

found_by : {A : Type 0} (m : Floor) (f : GrowingField A) (cell : ℕ) → slice_index f.labels.items cell ≢ 0 → Sees m f cell North → Sees m f cell East → Sees m f cell South → Sees m f cell West → IsFound m f cell
found_by m f cell come north east south west = record { here = come; nearer = λ w n. by n.0 w n.1 }
  where
    by : (dir : Dir) → Sees m f cell dir
    by North = north
    by East = east
    by South = south
    by West = west

pub returns-then-here-self-clause-found : goal.returns-then-here-self-clause-found
returns-then-here-self-clause-found g c e =
    let i = here_inside c.args.grid.now c.args.self.now c.requires.serves c.args.cell c.requires.floor in
    let come = has_come c.args.self.now.labels.items c.args.cell c.index-here.result.now i c.index-here.ensures c.if-here-eq0.false in
    record {
      here = come;
      nearer = nearer_before c.args.grid.now c.args.self.now c.requires.serves c.args.cell c.requires.floor come
          (λ z. c.if-here-self.true (read c.args.self.now.labels.items c.args.cell c.index-here.result.now i c.index-here.ensures ∙ z));
    }

pub doubt-requires-clause-come : goal.doubt-requires-clause-come
doubt-requires-clause-come g c =
    has_come c.args.self.now.labels.items c.args.cell c.index-here.result.now (here_inside c.args.grid.now c.args.self.now c.requires.serves c.args.cell c.requires.floor) c.index-here.ensures c.if-here-eq0.false

pub doubt-requires-2-clause-come : goal.doubt-requires-2-clause-come
doubt-requires-2-clause-come g c =
    has_come c.args.self.now.labels.items c.args.cell c.index-here.result.now (here_inside c.args.grid.now c.args.self.now c.requires.serves c.args.cell c.requires.floor) c.index-here.ensures c.if-here-eq0.false

pub doubt-requires-3-clause-come : goal.doubt-requires-3-clause-come
doubt-requires-3-clause-come g c =
    has_come c.args.self.now.labels.items c.args.cell c.index-here.result.now (here_inside c.args.grid.now c.args.self.now c.requires.serves c.args.cell c.requires.floor) c.index-here.ensures c.if-here-eq0.false

pub doubt-requires-4-clause-come : goal.doubt-requires-4-clause-come
doubt-requires-4-clause-come g c =
    has_come c.args.self.now.labels.items c.args.cell c.index-here.result.now (here_inside c.args.grid.now c.args.self.now c.requires.serves c.args.cell c.requires.floor) c.index-here.ensures c.if-here-eq0.false

pub returns-clause-found : goal.returns-clause-found
returns-clause-found g c last =
    found_by c.args.grid.now c.args.self.now c.args.cell
    (has_come c.args.self.now.labels.items c.args.cell c.index-here.result.now (here_inside c.args.grid.now c.args.self.now c.requires.serves c.args.cell c.requires.floor) c.index-here.ensures c.if-here-eq0.false)
    (c.doubt.ensures.none (nothing_left c.doubt.result c.in_default.not-Some))
    (c.doubt-2.ensures.none (nothing_left c.doubt-2.result c.in_default-doubt.not-Some))
    (c.doubt-3.ensures.none (nothing_left c.doubt-3.result c.in_default-doubt-2.not-Some))
    (c.doubt-4.ensures.none last)
