-- One more run.
use Rattle.std.proofs.Common.{◌≡◌, ℕ, List, [], ◌∷◌, ◌++◌, ap, ◌∙◌}
use Rattle.std.specs.Prelude.{replicate}
use Rattle.fleet_book.specs.declared.event.Event.{Event}
use Rattle.fleet_script.specs.declared.header.Head.{Head}
use Rattle.fleet_script.specs.declared.run.Run.{Run}
use Rattle.fleet_script.specs.Runs.{unrolled, numbered}
use Rattle.fleet_script.specs.Shown.{headed}
use Rattle.fleet_script.specs.Script.{with_events}
use Rattle.fleet_script.proofs.Rolls.{unrolled_more, numbered_more}
use Rattle.fleet_script.proofs.script.Draft.add_events.Goals as goal

added : {A : Type 0} (h : Head A) (old new : List Run) (run : Run) → new ≡ old ++ run ∷ []
    → headed h (unrolled new) (numbered new) ≡ with_events (headed h (unrolled old) (numbered old)) run.line (record { event = run.event; times = run.times })
added h old new run is =
    ap (λ (runs : List Run). headed h (unrolled runs) (numbered runs)) is
    ∙ (ap (λ (events : List Event). headed h events (numbered (old ++ run ∷ []))) (unrolled_more old run)
    ∙ ap (λ (lines : List ℕ). headed h (unrolled old ++ replicate run.times run.event) lines) (numbered_more old run))

pub returns : goal.returns
returns g c = added c.args.self.now.head c.args.self.now.runs.items c.push.new.self.items _ c.in_ok-push.ensures.items
