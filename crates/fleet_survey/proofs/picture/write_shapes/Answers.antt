use Rattle.std.proofs.Common.{◌∙◌, ◌++◌, ℕ, List, ap, string_bytes}
use Rattle.std.specs.List.{flat_map}
use Rattle.std.proofs.lemmas.Result.{on_ok_weaker}
use Rattle.fleet_survey.specs.Picture.{cell_text, rest_text}
use Rattle.fleet_survey.specs.declared.picture.TheConstants.{FLOOR, UNROOMY}
use Rattle.fleet_survey.proofs.Pieces.{three-is}
use Rattle.fleet_survey.proofs.picture.write_shapes.Goals as goal

pub returns : goal.returns
returns c =
    let s = c.args.s.now in
    let width = c.args.width in
    let old = string_bytes c.args.out.now in
    let roomy = string_bytes c.write_part.new.out in
    let unroomy = string_bytes c.write_part-2.new.out in
    on_ok_weaker c.write_rest.result
    (λ h. three-is old (FLOOR.now ++ flat_map (cell_text width) s.roomy.items) (UNROOMY.now ++ flat_map (cell_text width) s.unroomy.items) (rest_text width s.bridges.items) roomy unroomy (string_bytes c.write_rest.new.out)
    (c.in_ok-write_part.ensures ∙ ap (λ (xs : List ℕ). old ++ (FLOOR.now ++ flat_map (cell_text width) xs)) c.deref.ensures.value)
    (c.in_ok-write_part-2.ensures ∙ ap (λ (xs : List ℕ). roomy ++ (UNROOMY.now ++ flat_map (cell_text width) xs)) c.deref-2.ensures.value)
    (h ∙ ap (λ (xs : List (ℕ × ℕ)). unroomy ++ rest_text width xs) c.deref-3.ensures.value)) c.write_rest.ensures
