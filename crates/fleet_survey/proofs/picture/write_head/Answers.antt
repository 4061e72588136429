use Rattle.std.proofs.Common.{◌≡◌, ◌∙◌, ◌++◌, ℕ, List, length, ap, string_bytes}
use Rattle.std.specs.Prelude.{codes, decimal}
use Rattle.fleet_survey.specs.Picture.{label_text}
use Rattle.fleet_survey.specs.declared.picture.TheConstants.{BEGIN, STYLE}
use Rattle.fleet_survey.proofs.Pieces.{pushed, three-is}
use Rattle.fleet_survey.proofs.picture.write_head.Goals as goal

pub returns : goal.returns
returns c =
    let s = c.args.s.now in
    let bridges : c.len.result ≡ length s.bridges.items = c.len.ensures ∙ s.bridges.ok.0 in
    let unroomy : c.len-2.result ≡ length s.unroomy.items = c.len-2.ensures ∙ s.unroomy.ok.0 in
    let label : label_text c.len.result c.len-2.result s.floor s.robots ≡ label_text (length s.bridges.items) (length s.unroomy.items) s.floor s.robots = ap (λ (b : ℕ). label_text b c.len-2.result s.floor s.robots) bridges ∙ ap (λ (u : ℕ). label_text (length s.bridges.items) u s.floor s.robots) unroomy in
    let begun = string_bytes c.write.new.self in
    let labelled = string_bytes c.write_label.new.out in
    let all = string_bytes c.push_str.new.self in
    pushed c.push_str.result all (labelled ++ STYLE.now) labelled _ c.push_str.ensures.bytes
    (λ h. three-is (string_bytes c.args.out.now) (BEGIN.now ++ (decimal s.width ++ (codes " " ++ decimal s.height))) (label_text (length s.bridges.items) (length s.unroomy.items) s.floor s.robots) STYLE.now begun labelled all
    c.in_ok-write.ensures.bytes (c.in_ok-write_label.ensures ∙ ap (λ (xs : List ℕ). begun ++ xs) label) h)
