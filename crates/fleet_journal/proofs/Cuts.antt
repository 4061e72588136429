-- The text of a journal, cut after some bytes.
use Rattle.std.proofs.Common.{◌≡◌, ℕ, zero, suc, ◌+◌, ◌-◌, ◌^◌, ◌<◌, ◌≤◌, List, [], ◌∷◌, ◌++◌, length, take, map, Option, Some, None, true, false, refl, sym, ap, subst, ◌∙◌, append_assoc, append-nil, length-append, inl, inr, add-one, arith}
use Rattle.std.specs.declared.alloc.Global.{Global}
use Rattle.std.specs.List.{AllByRecursion}
use Rattle.std.proofs.lemmas.Bool.{cases_lt}
use Rattle.std.proofs.lemmas.List.{take-map, take_all, length-map}
use Rattle.serde_json.specs.Data.{depth}
use Rattle.serde_json.specs.Read.{max_depth}
use Rattle.serde_json.specs.Written.{compact_text}
use Rattle.fleet_history.specs.declared.history.Entry.{Entry}
use Rattle.fleet_history.specs.declared.history.Opening.{Opening}
use Rattle.fleet_trace.specs.declared.version.Version.TheVariants.{Second}
use Rattle.fleet_trace.specs.inside.Plain.{IsPlain}
use Rattle.fleet_trace.specs.Fits.{Fits32, OpeningFits, EntryFits, TraceFits}
use Rattle.fleet_trace.specs.Text.{entry_data}
use Rattle.fleet_trace.specs.Trace.{Trace}
use Rattle.fleet_trace.proofs.PlainTrace.{opening_plain, entry_plain, opening_shallow, entry_shallow}
use Rattle.fleet_trace.proofs.RoundTrip.{number_again, opening_again, entry_again}
use Rattle.fleet_trace.proofs.TextLaws.{reads_back}
use Rattle.fleet_journal.specs.Cut.{cut_after, IsCut}
use Rattle.fleet_journal.specs.Journal.{Head, head_in, IsHeadLine, IsEntryLine, AreEntryLines, IsJournal}
use Rattle.fleet_journal.specs.Journal.AreEntryLines.{none, more}
use Rattle.fleet_journal.specs.Lines.{whole_lines, bytes_of}
use Rattle.fleet_journal.specs.Text.{head_data, head_line, entry_line, entry_lines, journal_text}
use Rattle.fleet_journal.proofs.LineBytes.{line-no_feed, line-utf8}
use Rattle.fleet_journal.proofs.LineTexts.{head-line, entry-line}
use Rattle.fleet_journal.proofs.WholeLines.{HasNoFeed, line-then, no-line}

-- ---- any lines

-- the first `k` bytes of lines have the first lines whole, and no more
record FirstLines (lines : List (List ℕ)) (k : ℕ) : Type 0 where
  count : ℕ
  few : count ≤ length lines
  are : whole_lines (take k (bytes_of lines)) ≡ take count lines
  whole : length (bytes_of (take count lines)) ≤ k
  most : count < length lines → k < length (bytes_of (take (count + 1) lines))

take-within : (line rest : List ℕ) (k : ℕ) → k ≤ length line → take k (line ++ rest) ≡ take k line
take-within line rest zero l = refl
take-within [] rest (suc k) l = absurd (omega (arith, l))
take-within (b ∷ line) rest (suc k) l = ap (λ (x : List ℕ). b ∷ x) (take-within line rest k (omega (arith, l)))

take-past : (line rest : List ℕ) (n k : ℕ) → n ≡ length line + 1 + k → take n (line ++ 10 ∷ rest) ≡ line ++ 10 ∷ take k rest
take-past [] rest zero k e = absurd (omega (arith, e))
take-past [] rest (suc n) k e = let same : n ≡ k = omega (arith, e) in ap (λ (m : ℕ). 10 ∷ take m rest) same
take-past (b ∷ line) rest zero k e = absurd (omega (arith, e))
take-past (b ∷ line) rest (suc n) k e = ap (λ (x : List ℕ). b ∷ x) (take-past line rest n k (omega (arith, e)))

no_feed-take : (line : List ℕ) (k : ℕ) → HasNoFeed line → HasNoFeed (take k line)
no_feed-take [] zero h = tt
no_feed-take [] (suc k) h = tt
no_feed-take (b ∷ line) zero h = tt
no_feed-take (b ∷ line) (suc k) h = (h.0, no_feed-take line k h.1)

take-none : (k : ℕ) → take k (bytes_of []) ≡ []
take-none zero = refl
take-none (suc k) = refl

first-short : (line : List ℕ) (lines : List (List ℕ)) (k : ℕ) → HasNoFeed line → k < length line + 1 → FirstLines (line ∷ lines) k
first-short line lines k h short = record {
  count = 0;
  few = omega arith;
  are = ap whole_lines (take-within line (10 ∷ bytes_of lines) k (omega (arith, short))) ∙ no-line (take k line) (no_feed-take line k h);
  whole = omega arith;
  most = λ l. omega (arith, short, length-append line (10 ∷ []));
}

first-more : (line : List ℕ) (lines : List (List ℕ)) (k rest : ℕ) → HasNoFeed line → k ≡ length line + 1 + rest → FirstLines lines rest → FirstLines (line ∷ lines) k
first-more line lines k rest h is f = record {
  count = suc f.count;
  few = omega (arith, f.few);
  are = ap whole_lines (take-past line (bytes_of lines) k rest is) ∙ line-then line (take rest (bytes_of lines)) h ∙ ap (λ (x : List (List ℕ)). line ∷ x) f.are;
  whole = omega (arith, is, f.whole, length-append line (10 ∷ bytes_of (take f.count lines)));
  most = λ l. subst (λ (n : ℕ). k < length (bytes_of (take n (line ∷ lines)))) (one_more f.count) (longer (f.count + 1) (f.most (omega (arith, l))));
}
  where
    one_more : (n : ℕ) → suc (n + 1) ≡ suc n + 1
    one_more n = omega arith

    longer : (n : ℕ) → rest < length (bytes_of (take n lines)) → k < length (bytes_of (take (suc n) (line ∷ lines)))
    longer n far = omega (arith, is, far, length-append line (10 ∷ bytes_of (take n lines)))

first-lines : (lines : List (List ℕ)) (k : ℕ) → AllByRecursion HasNoFeed lines → FirstLines lines k
first-lines [] k h = record { count = 0; few = omega arith; are = ap whole_lines (take-none k); whole = omega arith; most = λ l. absurd (omega (arith, l)) }
first-lines (line ∷ lines) k h = elim (cases_lt k (length line + 1)) [
  | inl short ↦ first-short line lines k h.0 short
  | inr past ↦ first-more line lines k (k - (length line + 1)) h.0 (omega (arith, past)) (first-lines lines (k - (length line + 1)) h.1)
]

-- ---- the lines of a journal

abbrev text_of : Entry Global → List ℕ
text_of e = compact_text (entry_data e)

abbrev first_of : Trace Global → List ℕ
first_of t = compact_text (head_data t.number t.history.opening)

abbrev lines_of : Trace Global → List (List ℕ)
lines_of t = first_of t ∷ map text_of t.history.entries

entries-bytes : (es : List (Entry Global)) → entry_lines es ≡ bytes_of (map text_of es)
entries-bytes [] = refl
entries-bytes (e ∷ es) = ap (λ (x : List ℕ). (text_of e ++ 10 ∷ []) ++ x) (entries-bytes es) ∙ append_assoc (text_of e) (10 ∷ []) (bytes_of (map text_of es))

journal-bytes : (t : Trace Global) → journal_text t ≡ bytes_of (lines_of t)
journal-bytes t = ap (λ (x : List ℕ). (first_of t ++ 10 ∷ []) ++ x) (entries-bytes t.history.entries) ∙ append_assoc (first_of t) (10 ∷ []) (bytes_of (map text_of t.history.entries))

no-feeds : (es : List (Entry Global)) → AllByRecursion EntryFits es → AllByRecursion HasNoFeed (map text_of es)
no-feeds [] h = tt
no-feeds (e ∷ es) h = (line-no_feed (text_of e) (entry-line e h.0), no-feeds es h.1)

lines-no_feed : (t : Trace Global) → TraceFits t → AllByRecursion HasNoFeed (lines_of t)
lines-no_feed t h = (line-no_feed (first_of t) (head-line t.number t.history.opening h.number h.opening), no-feeds t.history.entries h.entries)

-- ---- what they tell

entry-tells : (e : Entry Global) → EntryFits e → IsEntryLine (text_of e) e
entry-tells e h =
    let deep : depth (entry_data e) ≤ max_depth = omega (arith, entry_shallow e) in
    (entry_data e, (line-utf8 (text_of e) (entry-line e h), reads_back (entry_data e) (entry_plain e h) deep), entry_again e h)

entries-tell : (es : List (Entry Global)) → AllByRecursion EntryFits es → AreEntryLines (map text_of es) es
entries-tell [] h = none
entries-tell (e ∷ es) h = more (entry-tells e h.0) (entries-tell es h.1)

fits-take : (n : ℕ) (es : List (Entry Global)) → AllByRecursion EntryFits es → AllByRecursion EntryFits (take n es)
fits-take zero [] h = tt
fits-take zero (e ∷ es) h = tt
fits-take (suc n) [] h = tt
fits-take (suc n) (e ∷ es) h = (h.0, fits-take n es h.1)

head-plain : (n : ℕ) (o : Opening Global) → Fits32 n → OpeningFits o → IsPlain (head_data n o)
head-plain n o small h = ((omega (arith, small), (opening_plain o h, (omega arith, tt))), refl)

head-again : (n : ℕ) (o : Opening Global) → Fits32 n → OpeningFits o → head_in (head_data n o) ≡ Some (n, o)
head-again n o small h = rw (opening_again o h, number_again n small) refl

head-tells : (n : ℕ) (o : Opening Global) → Fits32 n → OpeningFits o → IsHeadLine (compact_text (head_data n o)) (n, o)
head-tells n o small h =
    let deep : depth (head_data n o) ≤ max_depth = omega (arith, opening_shallow o) in
    (head_data n o, (line-utf8 (compact_text (head_data n o)) (head-line n o small h), reads_back (head_data n o) (head-plain n o small h) deep), head-again n o small h)

-- ---- the cut

few-entries : (t : Trace Global) (n : ℕ) → journal_text (cut_after t n) ≡ bytes_of (take (suc n) (lines_of t))
few-entries t n = journal-bytes (cut_after t n) ∙ ap (λ (x : List (List ℕ)). bytes_of (first_of t ∷ x)) (sym (take-map text_of n t.history.entries))

first-size : (t : Trace Global) → length (head_line t.number t.history.opening) ≡ length (first_of t) + 1
first-size t = length-append (first_of t) (10 ∷ [])

pub cut-short : (t : Trace Global) (bytes : ℕ) → TraceFits t → bytes < length (head_line t.number t.history.opening) → whole_lines (take bytes (journal_text t)) ≡ []
cut-short t bytes fits short =
    let within : bytes ≤ length (first_of t) = before bytes _ _ short (first-size t) in
    ap (λ (x : List ℕ). whole_lines (take bytes x)) (journal-bytes t)
    ∙ ap whole_lines (take-within (first_of t) (10 ∷ bytes_of (map text_of t.history.entries)) bytes within)
    ∙ no-line (take bytes (first_of t)) (no_feed-take (first_of t) bytes (lines-no_feed t fits).0)
  where
    before : (n a b : ℕ) → n < a → a ≡ b + 1 → n ≤ b
    before n a b l e = omega (arith, l, e)

-- whatever number of lines is whole, one is
cut-by : (t : Trace Global) (bytes count : ℕ) → TraceFits t → length (first_of t) + 1 ≤ bytes → count ≤ suc (length t.history.entries) →
    whole_lines (take bytes (bytes_of (lines_of t))) ≡ take count (lines_of t) → length (bytes_of (take count (lines_of t))) ≤ bytes →
    (count < suc (length t.history.entries) → bytes < length (bytes_of (take (suc count) (lines_of t)))) → IsCut t bytes
cut-by t bytes zero fits long few are whole most = absurd (too_short (length (bytes_of (take 1 (lines_of t)))) (length (first_of t)) bytes (length-append (first_of t) (10 ∷ [])) (most (omega arith)) long)
  where
    too_short : (a b n : ℕ) → a ≡ b + 1 → n < a → b + 1 ≤ n → ⊥
    too_short a b n e l m = omega (arith, e, l, m)
cut-by t bytes (suc n) fits long few are whole most = record {
  entries = n;
  few = omega (arith, few);
  tells = record {
    first = first_of t;
    others = map text_of (take n t.history.entries);
    lines = ap (λ (x : List ℕ). whole_lines (take bytes x)) (journal-bytes t) ∙ are ∙ ap (λ (x : List (List ℕ)). first_of t ∷ x) (take-map text_of n t.history.entries);
    opens = head-tells t.number t.history.opening fits.number fits.opening;
    entries = entries-tell (take n t.history.entries) (fits-take n t.history.entries fits.entries);
  };
  whole = subst (λ (x : List ℕ). length x ≤ bytes) (sym (few-entries t n)) whole;
  most = λ l. subst (λ (x : List ℕ). bytes < length x) (sym (few-next n)) (most (omega (arith, l)));
}
  where
    few-next : (n : ℕ) → journal_text (cut_after t (n + 1)) ≡ bytes_of (take (suc (suc n)) (lines_of t))
    few-next n = few-entries t (n + 1) ∙ ap (λ (k : ℕ). bytes_of (take (suc k) (lines_of t))) (add-one n)

pub cut-within : (t : Trace Global) (bytes : ℕ) → TraceFits t → length (head_line t.number t.history.opening) ≤ bytes → IsCut t bytes
cut-within t bytes fits long =
    let f = first-lines (lines_of t) bytes (lines-no_feed t fits) in
    let size : length (lines_of t) ≡ suc (length t.history.entries) = ap suc (length-map t.history.entries text_of) in
    cut-by t bytes f.count fits (subst (λ (k : ℕ). k ≤ bytes) (first-size t) long) (subst (λ (k : ℕ). f.count ≤ k) size f.few) f.are f.whole
    (λ l. subst (λ (k : ℕ). bytes < length (bytes_of (take k (lines_of t)))) (add-one f.count) (f.most (subst (λ (k : ℕ). f.count < k) (sym size) l)))
