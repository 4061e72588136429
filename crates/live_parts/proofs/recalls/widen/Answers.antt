-- One client more, of whom nothing was told.
use Rattle.std.proofs.Common.{◌≤◌, ◌∙◌, ◌++◌, ◌∷◌, [], length, ap, subst, sym, arith}
use Rattle.std.proofs.lemmas.List.Elements.{All-push}
use Rattle.live_parts.specs.Recalls.{AreFew, Recall, nothing_told, recall_at}
use Rattle.live_parts.proofs.Recalling.{same-more}
use Rattle.live_parts.proofs.recalls.widen.Goals as goal

pub loop-alloc-preserved : goal.loop-alloc-preserved
loop-alloc-preserved c =
    let rs = c.loop-alloc.clients.items in
    let is = c.in_ok-push.ensures.items ∙ ap (λ (r : Recall). rs ++ r ∷ []) c.new.ensures in
    record {
      few = λ most few. subst (AreFew most) (sym is) (All-push (λ (r : Recall). length r.notices ≤ most) rs nothing_told (c.loop-alloc.invariant.few most few) (omega arith));
      same = λ k. ap (λ l. recall_at l k) is ∙ same-more rs k ∙ c.loop-alloc.invariant.same k;
    }
