-- The seconds of the time.
use Rattle.std.proofs.Common.{◌∙◌, ℕ, List, ◌++◌, ap, codes, string_bytes}
use Rattle.live_parts.proofs.figures.add_time.Goals as goal

pub returns : goal.returns
returns c =
    let name = c.args.name.now in
    c.in_ok-write.ensures.bytes
    ∙ ap (λ (l : List ℕ). string_bytes c.args.text.now ++ (codes "# HELP " ++ (name ++ (codes " " ++ (c.args.help.now ++ (codes "\n# TYPE " ++ (name ++ (codes " gauge\n" ++ (name ++ (codes " " ++ (l ++ codes "\n")))))))))))
    c.in_ok-seconds.ensures
