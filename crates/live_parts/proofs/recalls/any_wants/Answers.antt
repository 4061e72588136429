-- The first that wants more, and none.
use Rattle.std.proofs.Common.{ℕ, ◌∙◌, ◌≡◌, ap, arith, length, sym, false, true}
use Rattle.std.specs.Prelude.{slice_index_or}
use Rattle.std.proofs.lemmas.List.{get_or_default}
use Rattle.fleet_history.specs.History.{unknown_client}
use Rattle.live_parts.specs.Recalls.{nothing_told, recall_at, wants_more}
use Rattle.live_parts.proofs.Recalling.{any_here, any_later}
use Rattle.live_parts.proofs.recalls.any_wants.Goals as goal

pub returns-then-wants : goal.returns-then-wants
returns-then-wants c =
    let at = c.loop-at.at in
    let most = c.args.most in
    let wants = λ (i : ℕ). wants_more most (slice_index_or c.args.opened.now i unknown_client) (recall_at c.args.clients.now i) in
    let is = c.index-clients-at.is ∙ get_or_default c.args.clients.now at c.index-clients-at.result nothing_told (omega (arith, c.loop-at-test.true, c.requires.wide)) in
    let here : wants at ≡ true = ap (wants_more most (slice_index_or c.args.opened.now at unknown_client)) (sym is) ∙ sym c.wants.ensures ∙ c.if-wants.true in
    sym (any_here wants at (length c.args.opened.now) c.loop-at-test.true here) ∙ c.loop-at.invariant

pub loop-at-preserved : goal.loop-at-preserved
loop-at-preserved c =
    let at = c.loop-at.at in
    let most = c.args.most in
    let wants = λ (i : ℕ). wants_more most (slice_index_or c.args.opened.now i unknown_client) (recall_at c.args.clients.now i) in
    let is = c.index-clients-at.is ∙ get_or_default c.args.clients.now at c.index-clients-at.result nothing_told (omega (arith, c.loop-at-test.true, c.requires.wide)) in
    let here : wants at ≡ false = ap (wants_more most (slice_index_or c.args.opened.now at unknown_client)) (sym is) ∙ sym c.wants.ensures ∙ c.if-wants.false in
    sym (any_later wants at (length c.args.opened.now) c.loop-at-test.true here) ∙ c.loop-at.invariant
