-- One answer more, or the last once more.
use Rattle.std.proofs.Common.{rules, ◌≡◌, ◌∙◌, ℕ, ◌+◌, ◌-◌, ◌<◌, [], ◌∷◌, ◌++◌, length, refl, sym, ap, arith}
use Rattle.std.specs.Prelude.{slice_index_or}
use Rattle.std.proofs.lemmas.List.{get_or_read}
use Rattle.fleet_world.specs.Answers.{events_in, replies_in}
use Rattle.fleet_world.proofs.Answering.{events-bumped, replies-bumped, events-pushed, replies-pushed}
use Rattle.fleet_world.proofs.lines.add_answer.Goals as goal

pub returns-then-last-lt4294967295-clause-events : goal.returns-then-last-lt4294967295-clause-events
returns-then-last-lt4294967295-clause-events g c =
    let all = c.args.answers.now.items in
    let last = c.index.result.now in
    let same : last.event ≡ c.args.event = search rules in
    let count : c.len-count.result - 1 + 1 ≡ length all = search rules in
    let inside : c.len-count.result - 1 < length all = omega (arith, count) in
    let at : last ≡ slice_index_or all (c.len-count.result - 1) last = get_or_read all (c.len-count.result - 1) last inside c.index.ensures last in
    events-bumped all (c.len-count.result - 1) last _ count at refl (sym same) ∙ ap (λ e. events_in all ++ e ∷ []) same

pub returns-then-last-lt4294967295-clause-replies : goal.returns-then-last-lt4294967295-clause-replies
returns-then-last-lt4294967295-clause-replies g c =
    let all = c.args.answers.now.items in
    let last = c.index.result.now in
    let same : last.reply ≡ c.args.reply = search rules in
    let count : c.len-count.result - 1 + 1 ≡ length all = search rules in
    let inside : c.len-count.result - 1 < length all = omega (arith, count) in
    let at : last ≡ slice_index_or all (c.len-count.result - 1) last = get_or_read all (c.len-count.result - 1) last inside c.index.ensures last in
    replies-bumped all (c.len-count.result - 1) last _ count at refl (sym same) ∙ ap (λ e. replies_in all ++ e ∷ []) same

pub returns-clause-events : goal.returns-clause-events
returns-clause-events g c = ap events_in c.in_ok-push.ensures.items ∙ events-pushed c.args.answers.now.items _

pub returns-clause-replies : goal.returns-clause-replies
returns-clause-replies g c = ap replies_in c.in_ok-push.ensures.items ∙ replies-pushed c.args.answers.now.items _
