-- The name and the count of a kind.
use Rattle.std.proofs.Common.{◌∙◌, ℕ, List, ◌++◌, ap, string_bytes}
use Rattle.std.proofs.lemmas.Result.{on_ok_weaker}
use Rattle.fleet_book.specs.Refusals.{verdict_name}
use Rattle.live_parts.specs.Figures.{kind_line, verdict_line}
use Rattle.live_parts.proofs.verdicts.add_kind.Goals as goal

pub returns : goal.returns
unfolding kind_line
returns c =
    on_ok_weaker c.add_verdict.result
    (λ h. h
    ∙ ap (λ (l : List ℕ). string_bytes c.args.text.now ++ l)
    (ap (λ (name : List ℕ). verdict_line name c.count_of.result) c.name.ensures ∙ ap (verdict_line (verdict_name c.args.verdict)) c.count_of.ensures))
    c.add_verdict.ensures
