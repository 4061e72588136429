-- One more robot's line.
use Rattle.std.proofs.Common.{◌≡◌, ◌<◌, ℕ, List, [], ◌∷◌, ◌++◌, length, string_bytes, ap, ◌∙◌, subst}
use Rattle.std.proofs.lemmas.List.{append_assoc}
use Rattle.fleet_plans.specs.Valid.{place_at}
use Rattle.fleet_convert.specs.Moves.{track_of, tracks_text}
use Rattle.fleet_convert.proofs.Pieces.{next_track}
use Rattle.fleet_convert.proofs.moves.write_tracks.Goals as goal

pub loop-robot-preserved : goal.loop-robot-preserved
loop-robot-preserved c =
    let w = c.args.width in
    let places = c.args.places.now in
    let r = c.loop-robot.robot in
    let starts = place_at places 0 in
    let old = string_bytes c.loop-robot.out in
    let track = track_of w r places in
    let less : r < length starts = subst (λ (l : List ℕ). r < length l) c.at-robot-end.ensures c.loop-robot-test.true in
    let is : string_bytes c.push_str.new.self ≡ old ++ (track ++ 10 ∷ []) = c.in_ok-push_str.ensures.bytes ∙ (ap (λ (l : List ℕ). l ++ 10 ∷ []) c.in_ok-write_track.ensures ∙ append_assoc old track (10 ∷ [])) in
    next_track w r places starts old (string_bytes c.push_str.new.self) (string_bytes c.args.out.now ++ tracks_text w places 0 starts) less is c.loop-robot.invariant
