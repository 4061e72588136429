-- The first event of a script's lines that no client's thread can run.
use Rattle.std.proofs.Common.{◌≡◌, ℕ, zero, suc, ◌+◌, ◌<◌, ◌≤◌, List, [], ◌∷◌, ◌++◌, length, refl, sym, ap, subst, ◌∙◌, arith}
use Rattle.std.specs.Prelude.{replicate, slice_index, slice_index_or}
use Rattle.std.specs.List.{All}
use Rattle.fleet_book.specs.declared.event.Event.{Event}
use Rattle.fleet_script.specs.declared.run.Run.{Run}
use Rattle.fleet_script.specs.Runs.{unrolled, numbered}
use Rattle.fleet_serve.specs.Posted.{IsLine, IsFirstOther, IsLineOfOther}

module _ (clients : ℕ) where
  -- one line more before
  later : (event : Event) (events : List Event) (own line : ℕ) (lines : List ℕ) → IsLine clients event → IsLineOfOther clients events lines line → IsLineOfOther clients (event ∷ events) (own ∷ lines) line
  later event events own line lines fits o = record {
    at = suc o.at;
    first = record {
      inside = omega (arith, o.first.inside);
      other = o.first.other;
      before = before;
    };
    stands = o.stands;
  }
    where
      before : (k : ℕ) (d : Event) → k < suc o.at → IsLine clients (slice_index_or (event ∷ events) k d)
      before zero d less = fits
      before (suc k) d less = o.first.before k d (omega (arith, less))

  -- several of one line
  later_times : (n : ℕ) (event : Event) (events : List Event) (own line : ℕ) (lines : List ℕ) → IsLine clients event → IsLineOfOther clients events lines line
      → IsLineOfOther clients (replicate n event ++ events) (replicate n own ++ lines) line
  later_times zero event events own line lines fits o = o
  later_times (suc n) event events own line lines fits o =
      later event (replicate n event ++ events) own line (replicate n own ++ lines) fits (later_times n event events own line lines fits o)

  -- at once
  at_once : (n : ℕ) (event : Event) (events : List Event) (line : ℕ) (lines : List ℕ) → 1 ≤ n → (IsLine clients event → ⊥) → IsLineOfOther clients (replicate n event ++ events) (replicate n line ++ lines) line
  at_once zero event events line lines some other = absurd (omega (arith, some))
  at_once (suc n) event events line lines some other = record {
    at = 0;
    first = record {
      inside = omega arith;
      other = λ d. other;
      before = λ k d less. absurd (omega (arith, less));
    };
    stands = refl;
  }

  pub other_at : (runs : List Run) (k : ℕ) (run : Run) → k < length runs → run ≡ slice_index_or runs k run → ((j : ℕ) (d : Run) → j < k → IsLine clients (slice_index_or runs j d).event)
      → (IsLine clients run.event → ⊥) → IsLineOfOther clients (unrolled runs) (numbered runs) run.line
  other_at [] k run less is fits other = absurd (omega (arith, less))
  other_at (r ∷ rs) zero run less is fits other =
      subst (λ (x : Run). IsLineOfOther clients (unrolled (r ∷ rs)) (numbered (r ∷ rs)) x.line) (sym is)
      (at_once r.times r.event (unrolled rs) r.line (numbered rs) r.some (subst (λ (x : Run). IsLine clients x.event → ⊥) is other))
  other_at (r ∷ rs) (suc k) run less is fits other =
      later_times r.times r.event (unrolled rs) r.line run.line (numbered rs) (fits 0 r (omega arith))
      (other_at rs k run (omega (arith, less)) is (λ j d before. fits (suc j) d (omega (arith, before))) other)

  times-all : (n : ℕ) (event : Event) (events : List Event) → IsLine clients event → All (IsLine clients) events → All (IsLine clients) (replicate n event ++ events)
  times-all zero event events fits rest = rest
  times-all (suc n) event events fits rest = each (times-all n event events fits rest)
    where
      each : All (IsLine clients) (replicate n event ++ events) → (k : ℕ) (d : Event) → k < suc (length (replicate n event ++ events)) → IsLine clients (slice_index_or (event ∷ (replicate n event ++ events)) k d)
      each rows zero d less = fits
      each rows (suc k) d less = rows k d (omega (arith, less))

  pub all-lines : (runs : List Run) → ((j : ℕ) (d : Run) → j < length runs → IsLine clients (slice_index_or runs j d).event) → All (IsLine clients) (unrolled runs)
  all-lines [] fits = λ k d less. absurd (omega (arith, less))
  all-lines (r ∷ rs) fits = times-all r.times r.event (unrolled rs) (fits 0 r (omega arith)) (all-lines rs (λ j d less. fits (suc j) d (omega (arith, less))))
