-- What stands under the robots, piece by piece.
use Rattle.std.proofs.Common.{◌≡◌, ◌∙◌, ◌++◌, ap, List, ℕ, string_bytes}
use Rattle.fleet_view.specs.Picture.{head_text, walls_from}
use Rattle.fleet_view.specs.declared.shapes.TheConstants.{WALLS, WALLS_END}
use Rattle.fleet_view.proofs.Pieces.{floor-is}
use Rattle.fleet_view.proofs.picture.write_floor.Goals as goal

pub returns : goal.returns
returns c =
    let floor = c.args.floor.now in
    let walls : string_bytes c.write_walls.new.out ≡ string_bytes c.push_str.new.self ++ walls_from floor.width 0 floor.cells.items = c.in_ok-write_walls.ensures ∙ ap (λ (cells : List ℕ). string_bytes c.push_str.new.self ++ walls_from floor.width 0 cells) c.deref.ensures.value in
    floor-is (string_bytes c.args.out.now) (head_text floor.height floor.width) WALLS.now (walls_from floor.width 0 floor.cells.items) WALLS_END.now _ _ _ _
    c.in_ok-write_head.ensures c.in_ok-push_str.ensures.bytes walls c.in_ok-push_str-2.ensures.bytes
