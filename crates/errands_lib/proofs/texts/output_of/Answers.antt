use Rattle.std.proofs.Common.{◌≡◌, ◌++◌, ◌∙◌, ap, codes, refl, ℕ}
use Rattle.std.proofs.lemmas.Result.{IfOk-weaker}
use Rattle.fleet_history.specs.History.{History, history_of}
use Rattle.fleet_trace.specs.Trace.{Trace}
use Rattle.fleet_trace.specs.Text.{trace_text}
use Rattle.errands_lib.proofs.texts.output_of.Goals as goal

-- traces of the same number and history are the same
same_trace : {A : Type 0} (n k : ℕ) (h g : History A) → n ≡ k → h ≡ g → ◌≡◌ {A = Trace A} (record { number = n; history = h }) (record { number = k; history = g })
same_trace n k h g p q = rw (p, q) refl

pub returns-then-trace : goal.returns-then-trace
returns-then-trace g c =
    let same = same_trace c.chapter-chapter.result.now.number c.args.played.now.world.core.number (history_of c.chapter-chapter.result.now) c.args.played.now.world.core.history c.chapter-chapter.ensures.number c.chapter-chapter.ensures.history in
    rw c.if-trace.true (IfOk-weaker c.whole.result _ _ (λ s e. e ∙ (c.in_ok-trace_line.ensures ∙ ap (λ t. trace_text t ++ codes "\n") same)) c.whole.ensures)
