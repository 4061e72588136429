-- Runs, and the lists of events and lines that they stand for.
use Rattle.std.proofs.Common.{◌≡◌, ℕ, zero, suc, ◌≤◌, true, false, List, [], ◌∷◌, ◌++◌, length, refl, sym, ap, ◌∙◌, arith, append_assoc, append-nil}
use Rattle.std.specs.Prelude.{replicate}
use Rattle.fleet_book.specs.declared.event.Event.{Event}
use Rattle.fleet_script.specs.declared.run.Run.{Run}
use Rattle.fleet_script.specs.Runs.{unrolled, numbered}
use Rattle.fleet_script.specs.Script.{no_events}

pub unrolled_more : (runs : List Run) (run : Run) → unrolled (runs ++ run ∷ []) ≡ unrolled runs ++ replicate run.times run.event
unrolled_more [] run = append-nil (replicate run.times run.event)
unrolled_more (r ∷ rs) run = ap (λ (es : List Event). replicate r.times r.event ++ es) (unrolled_more rs run) ∙ sym (append_assoc (replicate r.times r.event) (unrolled rs) (replicate run.times run.event))

pub numbered_more : (runs : List Run) (run : Run) → numbered (runs ++ run ∷ []) ≡ numbered runs ++ replicate run.times run.line
numbered_more [] run = append-nil (replicate run.times run.line)
numbered_more (r ∷ rs) run = ap (λ (ns : List ℕ). replicate r.times r.line ++ ns) (numbered_more rs run) ∙ sym (append_assoc (replicate r.times r.line) (numbered rs) (replicate run.times run.line))

some_times : (n : ℕ) (event : Event) (events : List Event) → 1 ≤ n → no_events (replicate n event ++ events) ≡ false
some_times zero event events some = absurd (omega (arith, some))
some_times (suc n) event events some = refl

pub some_yet : (runs : List Run) → (length runs ≡ 0 → ⊥) → no_events (unrolled runs) ≡ false
some_yet [] full = absurd (full refl)
some_yet (r ∷ rs) full = some_times r.times r.event (unrolled rs) r.some

pub none_yet : (runs : List Run) → length runs ≡ 0 → no_events (unrolled runs) ≡ true
none_yet [] empty = refl
none_yet (r ∷ rs) empty = absurd (omega arith)
