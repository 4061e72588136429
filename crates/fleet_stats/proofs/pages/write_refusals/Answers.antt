use Rattle.std.proofs.Common.{◌∙◌, ◌+◌, ◌++◌, ℕ, List, ap, sym, string_bytes}
use Rattle.fleet_book.specs.Refusals.{refusal_of}
use Rattle.fleet_stats.specs.Text.{refusal_line, refusals_below}
use Rattle.fleet_stats.proofs.Lists.{one_more, refusals_more}
use Rattle.fleet_stats.proofs.pages.write_refusals.Goals as goal

pub loop-code-preserved : goal.loop-code-preserved
loop-code-preserved c =
    let k = c.loop-code.code in
    one_more (string_bytes c.args.out.now) (refusals_below c.args.style c.args.kinds.now k) (refusal_line c.args.style c.args.kinds.now (k + 1) (refusal_of (k + 1))) (string_bytes c.loop-code.out) (string_bytes c.write_refusal.new.out) c.loop-code.invariant c.in_ok-write_refusal.ensures
    ∙ ap (λ (text : List ℕ). string_bytes c.args.out.now ++ text) (sym (refusals_more c.args.style c.args.kinds.now k))
