-- A chapter that is handed out leaves as many clients.
use Rattle.std.proofs.Common.{◌≡◌, ◌∙◌, ℕ, sym, ap, Result, Ok, Err}
use Rattle.std.specs.Prelude.{OnOk, OnErr}
use Rattle.fleet_history.specs.History.{clients}
use Rattle.fleet_history.proofs.Next.{next-clients}
use Rattle.fleet_core.specs.Core.{World, next_world}

pub count_kept : {A X E : Type 0} (r : Result X E) (old new : World A) (n : ℕ) → n ≡ clients old.history → OnOk r (new ≡ next_world old) → OnErr r (new ≡ old) → n ≡ clients new.history
count_kept (Ok x) old new n known next same = known ∙ (sym (next-clients old.history) ∙ ap (λ (w : World _). clients w.history) (sym next))
count_kept (Err e) old new n known next same = known ∙ ap (λ (w : World _). clients w.history) (sym same)
