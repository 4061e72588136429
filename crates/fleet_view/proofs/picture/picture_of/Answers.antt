-- The whole picture.
use Rattle.std.proofs.Common.{◌≡◌, ◌∙◌, ◌++◌, ap, ℕ, List, length, map, string_bytes}
use Rattle.fleet_history.specs.declared.history.RobotState.{RobotState}
use Rattle.fleet_map.specs.Grammar.{view}
use Rattle.fleet_trace.specs.Trace.{trace_of}
use Rattle.fleet_view.specs.Picture.{head_text, walls_text, shapes_from, goals_below, robots_in, bar_text}
use Rattle.fleet_view.specs.declared.shapes.TheConstants.{SVG_END}
use Rattle.fleet_view.proofs.Pieces.{picture-is}
use Rattle.fleet_view.proofs.picture.picture_of.Goals as goal

pub returns : goal.returns
returns c =
    let floor = c.args.floor.now in
    let ts = map trace_of c.args.chapters.now in
    let shapes : string_bytes c.write_shapes.new.out ≡ string_bytes c.write_goals_of.new.out ++ shapes_from floor.width c.args.tick ts 0 (robots_in ts) = c.in_ok-write_shapes.ensures ∙ ap (λ (xs : List (RobotState _)). string_bytes c.write_goals_of.new.out ++ shapes_from floor.width c.args.tick ts 0 xs) c.robots_in-robots.ensures in
    let goals : string_bytes c.write_goals_of.new.out ≡ string_bytes c.write_floor.new.out ++ goals_below floor.width ts (length (robots_in ts)) = c.in_ok-write_goals_of.ensures ∙ ap (λ (n : ℕ). string_bytes c.write_floor.new.out ++ goals_below floor.width ts n) (ap (λ (xs : List (RobotState _)). length xs) c.robots_in-robots.ensures) in
    picture-is (string_bytes c.new-out.result) (head_text floor.height floor.width ++ walls_text (view floor)) (goals_below floor.width ts (length (robots_in ts))) (shapes_from floor.width c.args.tick ts 0 (robots_in ts)) (bar_text c.args.tick ts) SVG_END.now _ _ _ _ _
    c.new-out.ensures.bytes c.in_ok-write_floor.ensures goals shapes c.in_ok-write_bar.ensures c.in_ok-push_str.ensures.bytes
