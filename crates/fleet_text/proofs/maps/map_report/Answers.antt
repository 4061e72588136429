-- What is told of a map.
use Rattle.std.proofs.Common.{◌≡◌, ◌∙◌, ℕ, List, [], ◌++◌, Option, refl, string_bytes}
use Rattle.fleet_grid.specs.Counts.{floor_count, edge_count}
use Rattle.fleet_text.specs.MapReport.{Ends, map_lines}
use Rattle.fleet_text.proofs.maps.map_report.Goals as goal

lines-are : (text base : List ℕ) (h i w x f g e d : ℕ) (bridge : Option Ends) → text ≡ base ++ map_lines h w f e bridge → base ≡ [] → h ≡ i → w ≡ x → f ≡ g → e ≡ d → text ≡ map_lines i x g d bridge
lines-are text base h i w x f g e d bridge is none height width floor edges = is ∙ rw (none, height, width, floor, edges) refl

pub returns : goal.returns
returns g c =
    let m = c.args.grid.now in
    record {
      bridge = c.in_ok-first_bridge.field-0;
      first = c.in_ok-first_bridge.ensures;
      said = lines-are (string_bytes c.write_map.new.out) (string_bytes c.new-text.result) c.height.result m.height c.width.result m.width c.floor_count.result (floor_count m) c.edge_count.result (edge_count m) c.in_ok-first_bridge.field-0
          c.in_ok-write_map.ensures c.new-text.ensures.bytes c.height.ensures.value c.width.ensures.value c.floor_count.ensures c.edge_count.ensures;
    }
