-- The figures of a run as counts of its histories.
use Rattle.std.proofs.Common.{◌≡◌, ℕ, zero, suc, ◌+◌, ◌-◌, ◌^◌, ◌≤◌, List, [], ◌∷◌, length, length-append, map, cond, sym, refl, ap, ◌∙◌, arith, add-zero}
use Rattle.std.specs.Prelude.{sum_by, min, ◌==◌}
use Rattle.std.specs.List.{fold, range_with_len}
use Rattle.std.proofs.lemmas.List.{length-map}
use Rattle.std.proofs.lemmas.List.Sums.{sum_by-cons}
use Rattle.fleet_grid.specs.Floor.{Floor}
use Rattle.fleet_queue.specs.declared.errand.Errand.{Errand}
use Rattle.fleet_book.specs.declared.verdict.Verdict.{Verdict}
use Rattle.fleet_book.specs.declared.verdict.Verdict.TheVariants as verdict
use Rattle.fleet_history.specs.declared.history.Entry.{Entry}
use Rattle.fleet_history.specs.declared.history.Entry.TheVariants.{Take, Tick, Shut}
use Rattle.fleet_history.specs.History.{History, start, after, robots, clock, is_tick, is_accepted, unfinished}
use Rattle.fleet_trace.specs.Trace.{Trace}
use Rattle.fleet_trace.specs.Chapters.{AreInTurn}
use Rattle.fleet_stats.specs.declared.rows.ErrandRow.{ErrandRow}
use Rattle.fleet_stats.specs.declared.rows.Left.{Left}
use Rattle.fleet_stats.specs.declared.figures.Summary.{Summary}
use Rattle.fleet_stats.specs.declared.lines.Style.TheVariants as style
use Rattle.fleet_stats.specs.declared.answer.StatsForm.TheVariants as form
use Rattle.fleet_stats.specs.Noted.{Notes, kind_of, note, noted, left_by, left_below, left_of, history_noted, chapters_noted, blank, robots_in, run_noted}
use Rattle.fleet_stats.specs.Chapters.{AreSound}
use Rattle.fleet_stats.specs.Figures.{count_of, first_tick, arrivals_of, windows_of, IsSummary}
use Rattle.fleet_stats.specs.Report.{IsStats, IsSummarized}
use Rattle.fleet_stats.specs.Counts.{is_acceptance, is_withdrawn, is_withdrawal, arrivals_shown, waiting, tick_count, acceptance_count, withdrawal_count, arrival_count, over, at_end, AreCounts, IsCounted}
use Rattle.fleet_stats.proofs.Balance.{balanced, one-more}

-- ---- a number of the notes to which each entry adds

module _ {A : Type 0} (number : Notes → ℕ) (adds : Entry A → ℕ)
    (step : (h : History A) (e : Entry A) (n : Notes) → number (note h e n) ≡ number n + adds e)
    (apart : (n : Notes) (left : List Left) → number (record n { left = left }) ≡ number n) where
  entries-added : (h : History A) (es : List (Entry A)) (n : Notes) → number (noted h es n) ≡ number n + sum_by adds es
  entries-added h [] n = sym (add-zero (number n))
  entries-added h (e ∷ es) n = entries-added (after h e) es (note h e n) ∙ omega (arith, step h e n, sum_by-cons adds e es)

  history-added : (h : History A) (n : Notes) → number (history_noted h n) ≡ number n + sum_by adds h.entries
  history-added h n = apart (noted (start h.opening) h.entries n) (left_of h) ∙ entries-added (start h.opening) h.entries n

  all-added : (ts : List (Trace A)) (n : Notes) → number (chapters_noted ts n) ≡ number n + over (λ h. sum_by adds h.entries) ts
  all-added [] n = sym (add-zero (number n))
  all-added (t ∷ ts) n =
      all-added ts (history_noted t.history n) ∙ omega (arith, history-added t.history n, sum_by-cons (λ (t : Trace A). sum_by adds t.history.entries) t ts)

-- ---- ticks and arrivals

tick-step : {A : Type 0} (h : History A) (e : Entry A) (n : Notes) → length (note h e n).ticks ≡ length n.ticks + cond (is_tick e) 1 0
tick-step h (Take client order v) n = sym (add-zero (length n.ticks))
tick-step h (Tick to arrived farewells) n = length-append n.ticks _
tick-step h (Shut robot farewell) n = sym (add-zero (length n.ticks))

arrival-step : {A : Type 0} (h : History A) (e : Entry A) (n : Notes) → sum_by (λ x. x.arrivals) (note h e n).ticks ≡ sum_by (λ x. x.arrivals) n.ticks + arrivals_shown e
arrival-step h (Take client order v) n = sym (add-zero (sum_by (λ x. x.arrivals) n.ticks))
arrival-step h (Tick to arrived farewells) n = one-more (λ x. x.arrivals) n.ticks _
arrival-step h (Shut robot farewell) n = sym (add-zero (sum_by (λ x. x.arrivals) n.ticks))

-- a sum that stays at a number
capped : {X : Type 0} (f : X → ℕ) (xs : List X) (a k : ℕ) → a ≤ k → fold (λ sum x. min (sum + f x) k) a xs ≡ min (a + sum_by f xs) k
capped f [] a k le = omega arith
capped f (x ∷ xs) a k le = capped f xs (min (a + f x) k) k (omega arith) ∙ omega (arith, sum_by-cons f x xs)

-- ---- verdicts

accepted-kind : (v : Verdict) → (kind_of v == 0) ≡ is_accepted v
accepted-kind (verdict.Accepted number) = refl
accepted-kind v = refl

withdrawn-kind : (v : Verdict) → (kind_of v == 12) ≡ is_withdrawn v
withdrawn-kind verdict.Withdrawn = refl
withdrawn-kind v = refl

acceptance-step : {A : Type 0} (h : History A) (e : Entry A) (n : Notes) → count_of (note h e n).kinds 0 ≡ count_of n.kinds 0 + cond (is_acceptance e) 1 0
acceptance-step h (Take client order v) n =
    one-more (λ (x : ℕ). cond (x == 0) 1 0) n.kinds (kind_of v) ∙ ap {B = ℕ} (λ b. count_of n.kinds 0 + cond b 1 0) (accepted-kind v)
acceptance-step h (Tick to arrived farewells) n = sym (add-zero (count_of n.kinds 0))
acceptance-step h (Shut robot farewell) n = sym (add-zero (count_of n.kinds 0))

withdrawal-step : {A : Type 0} (h : History A) (e : Entry A) (n : Notes) → count_of (note h e n).kinds 12 ≡ count_of n.kinds 12 + cond (is_withdrawal e) 1 0
withdrawal-step h (Take client order v) n =
    one-more (λ (x : ℕ). cond (x == 12) 1 0) n.kinds (kind_of v) ∙ ap {B = ℕ} (λ b. count_of n.kinds 12 + cond b 1 0) (withdrawn-kind v)
withdrawal-step h (Tick to arrived farewells) n = sym (add-zero (count_of n.kinds 12))
withdrawal-step h (Shut robot farewell) n = sym (add-zero (count_of n.kinds 12))

-- ---- what is left

range-more : (g : ℕ → ℕ) (a n k : ℕ) → a + n ≡ k → sum_by g (range_with_len a (suc n)) ≡ sum_by g (range_with_len a n) + g k
range-more g a zero k e =
    let same : k ≡ a = omega arith in
    let one : sum_by g (a ∷ []) ≡ g a + 0 = sum_by-cons g a [] in
    omega (arith, one, ap g same)
range-more g a (suc n) k e =
    omega (arith, sum_by-cons g a (range_with_len (a + 1) (suc n)), range-more g (a + 1) n k (omega arith), sum_by-cons g a (range_with_len (a + 1) n))

length-left : (queue : ℕ → List Errand) (n : ℕ) → length (left_below queue n) ≡ sum_by (λ r. length (queue r)) (range_with_len 0 n)
length-left queue zero = refl
length-left queue (suc n) =
    length-append (left_below queue n) (map (left_by n) (queue n)) ∙ omega (arith, length-left queue n, length-map (queue n) (left_by n), range-more (λ r. length (queue r)) 0 n n (omega arith))

left-end : {A : Type 0} (t : Trace A) (ts : List (Trace A)) (n : Notes) → length (chapters_noted (t ∷ ts) n).left ≡ at_end waiting (t ∷ ts)
left-end t [] n = length-left (unfinished t.history) (robots t.history)
left-end t (u ∷ us) n = left-end u us (history_noted t.history n)

left-all : {A : Type 0} (ts : List (Trace A)) → length (run_noted ts).left ≡ at_end waiting ts
left-all [] = refl
left-all (t ∷ ts) = left-end t ts (blank (robots_in (t ∷ ts)))

balance : {A : Type 0} (m : Floor) (ts : List (Trace A)) → AreSound m ts →
    over (λ h. waiting (start h.opening)) ts + over acceptance_count ts ≡ over waiting ts + over arrival_count ts + over withdrawal_count ts
balance m [] sound = refl
balance {A} m (t ∷ ts) sound =
    omega (
      arith,
      balanced m t.history sound.0.legal,
      balance m ts sound.1,
      sum_by-cons (λ (t : Trace A). waiting (start t.history.opening)) t ts,
      sum_by-cons (λ (t : Trace A). acceptance_count t.history) t ts,
      sum_by-cons (λ (t : Trace A). waiting t.history) t ts,
      sum_by-cons (λ (t : Trace A). arrival_count t.history) t ts,
      sum_by-cons (λ (t : Trace A). withdrawal_count t.history) t ts,
    )

-- ---- the clock

clocks : {A : Type 0} (m : Floor) (ts : List (Trace A)) → AreInTurn m ts → first_tick ts + over tick_count ts ≡ at_end clock ts
clocks m [] turn = refl
clocks {A} m (t ∷ []) turn = omega (arith, sum_by-cons (λ (t : Trace A). tick_count t.history) t [])
clocks {A} m (t ∷ u ∷ us) turn =
    let rest : u.history.opening.tick + over tick_count (u ∷ us) ≡ at_end clock (u ∷ us) = clocks m (u ∷ us) turn.1 in
    omega (arith, rest, turn.0.clock, sum_by-cons (λ (t : Trace A). tick_count t.history) t (u ∷ us))

-- ---- the figures

module _ {A : Type 0} (m : Floor) (ts : List (Trace A)) (s : Summary) (rows : List ErrandRow) (turn : AreInTurn m ts) (sound : AreSound m ts) (is : IsSummary m ts (run_noted ts) rows s) where
  ticks-are : s.ticks ≡ over tick_count ts
  ticks-are =
      ap (λ (s : Summary). s.ticks) is.is
      ∙ all-added (λ n. length n.ticks) (λ e. cond (is_tick e) 1 0) tick-step (λ n left. refl) ts (blank (robots_in ts)) ∙ omega arith

  arrivals-are : s.arrivals ≡ min (over arrival_count ts) (2 ^ 64 - 1)
  arrivals-are =
      let all : sum_by (λ x. x.arrivals) (run_noted ts).ticks ≡ 0 + over arrival_count ts =
      all-added (λ n. sum_by (λ x. x.arrivals) n.ticks) arrivals_shown arrival-step (λ n left. refl) ts (blank (robots_in ts)) in
      let sum : 0 + sum_by (λ x. x.arrivals) (run_noted ts).ticks ≡ over arrival_count ts = omega (arith, all) in
      ap (λ (s : Summary). s.arrivals) is.is ∙ capped (λ x. x.arrivals) (run_noted ts).ticks 0 (2 ^ 64 - 1) (omega arith) ∙ ap (λ n. min n (2 ^ 64 - 1)) sum

  accepted-are : count_of (run_noted ts).kinds 0 ≡ over acceptance_count ts
  accepted-are =
      all-added (λ n. count_of n.kinds 0) (λ e. cond (is_acceptance e) 1 0) acceptance-step (λ n left. refl) ts (blank (robots_in ts)) ∙ omega arith

  withdrawn-are : count_of (run_noted ts).kinds 12 ≡ over withdrawal_count ts
  withdrawn-are =
      all-added (λ n. count_of n.kinds 12) (λ e. cond (is_withdrawal e) 1 0) withdrawal-step (λ n left. refl) ts (blank (robots_in ts)) ∙ omega arith

  pub counts : AreCounts ts s (run_noted ts).kinds
  counts = record {
    ticks = ticks-are;
    clock = omega (arith, ap (λ (s : Summary). s.first_tick) is.is, ticks-are, clocks m ts turn);
    arrivals = arrivals-are;
    accepted = accepted-are;
    withdrawn = withdrawn-are;
    unfinished = ap (λ (s : Summary). s.unfinished) is.is ∙ left-all ts;
    balance = omega (arith, accepted-are, withdrawn-are, balance m ts sound);
  }

-- ---- the text

pub text-counted : (map : List ℕ) (texts : List (List ℕ)) (text : List ℕ) → IsStats form.Text map texts text → IsCounted style.Text map texts text
text-counted map texts text k =
    let ts = k.on.traces in
    let x : IsSummarized style.Text _ ts (run_noted ts) text = k.on.reported.is in
    record {
      floor = k.floor;
      traces = ts;
      summary = x.summary;
      kinds = (run_noted ts).kinds;
      windows = windows_of (arrivals_of (run_noted ts).ticks);
      read = k.read;
      told = k.on.told;
      sound = k.on.reported.sound;
      is = x.is;
      counts = counts _ ts x.summary _ k.on.told.in_turn k.on.reported.sound x.summarized;
    }

pub json-counted : (map : List ℕ) (texts : List (List ℕ)) (text : List ℕ) → IsStats form.Json map texts text → IsCounted style.Json map texts text
json-counted map texts text k =
    let ts = k.on.traces in
    let x : IsSummarized style.Json _ ts (run_noted ts) text = k.on.reported.is in
    record {
      floor = k.floor;
      traces = ts;
      summary = x.summary;
      kinds = (run_noted ts).kinds;
      windows = windows_of (arrivals_of (run_noted ts).ticks);
      read = k.read;
      told = k.on.told;
      sound = k.on.reported.sound;
      is = x.is;
      counts = counts _ ts x.summary _ k.on.told.in_turn k.on.reported.sound x.summarized;
    }
