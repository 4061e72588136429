-- A journal that is read line by line.
use Rattle.std.proofs.Common.{◌≡◌, ℕ, ◌+◌, List, [], ◌∷◌, ◌++◌, length, refl, sym, ap, subst, ◌∙◌, append_assoc, length-append, arith}
use Rattle.std.proofs.lemmas.List.{append-nil}
use Rattle.std.specs.declared.alloc.Global.{Global}
use Rattle.fleet_history.specs.declared.history.Entry.{Entry}
use Rattle.fleet_journal.specs.Lines.{whole_lines, bytes_of}
use Rattle.fleet_journal.specs.Journal.{Head, IsHeadLine, IsEntryLine, AreEntryLines, IsBadAfter, AreFaulty, IsJournalFault}
use Rattle.fleet_journal.specs.declared.fault.JournalFault.{JournalFault}
use Rattle.fleet_journal.specs.declared.fault.JournalFault.TheVariants as fault
use Rattle.fleet_journal.specs.Journal.AreEntryLines.{none, more}
use Rattle.fleet_journal.specs.inside.Reading.{HasRead}
use Rattle.fleet_journal.proofs.WholeLines.{bytes_of-append}

-- one more at the end
lines-then : {A : Type 0} {lines : List (List ℕ)} {es : List (Entry A)} (line : List ℕ) (e : Entry A) → AreEntryLines lines es → IsEntryLine line e → AreEntryLines (lines ++ line ∷ []) (es ++ e ∷ [])
lines-then line e none told = more told none
lines-then line e (more here rest) told = more here (lines-then line e rest told)

module _ (bytes : List ℕ) where
  pub begins : HasRead {A = Global} bytes bytes []
  begins = record { lines = []; tell = none; before = refl; joined = refl }

  pub goes_on : (rest line after : List ℕ) (es : List (Entry Global)) (e : Entry Global) → HasRead bytes rest es → whole_lines rest ≡ line ∷ whole_lines after → rest ≡ line ++ 10 ∷ after →
      IsEntryLine line e → HasRead bytes after (es ++ e ∷ [])
  goes_on rest line after es e h cut joined told = record {
    lines = h.lines ++ line ∷ [];
    tell = lines-then line e h.tell told;
    before = h.before ∙ ap (λ (x : List (List ℕ)). h.lines ++ x) cut ∙ sym (append_assoc h.lines (line ∷ []) (whole_lines after));
    joined = h.joined ∙ ap (λ (x : List ℕ). bytes_of h.lines ++ x) joined ∙ ap (λ (x : List ℕ). bytes_of h.lines ++ x) (sym (append_assoc line (10 ∷ []) after))
        ∙ sym (append_assoc (bytes_of h.lines) (line ++ 10 ∷ []) after) ∙ ap (λ (x : List ℕ). x ++ after) (sym (bytes_of-append h.lines (line ∷ [])));
  }

  all_lines : (rest : List ℕ) (es : List (Entry Global)) (h : HasRead bytes rest es) → whole_lines rest ≡ [] → whole_lines bytes ≡ h.lines
  all_lines rest es h last = h.before ∙ ap (λ (x : List (List ℕ)). h.lines ++ x) last ∙ append-nil h.lines

  pub ends : (rest : List ℕ) (es : List (Entry Global)) → HasRead bytes rest es → whole_lines rest ≡ [] → AreEntryLines (whole_lines bytes) es
  ends rest es h last = subst (λ (x : List (List ℕ)). AreEntryLines x es) (sym (all_lines rest es h last)) h.tell

  pub cut_is : (rest : List ℕ) (es : List (Entry Global)) → HasRead bytes rest es → whole_lines rest ≡ [] → length bytes ≡ length (bytes_of (whole_lines bytes)) + length rest
  cut_is rest es h last =
      ap length h.joined ∙ length-append (bytes_of h.lines) rest ∙ ap (λ (x : List (List ℕ)). length (bytes_of x) + length rest) (sym (all_lines rest es h last))

  pub bad : (rest line after : List ℕ) (es : List (Entry Global)) → HasRead bytes rest es → whole_lines rest ≡ line ∷ whole_lines after → ((e : Entry Global) → IsEntryLine line e → ⊥) →
      IsBadAfter (whole_lines bytes) (length es)
  bad rest line after es h cut untold = record {
    good = h.lines;
    bad = line;
    rest = whole_lines after;
    entries = es;
    place = h.before ∙ ap (λ (x : List (List ℕ)). h.lines ++ x) cut;
    number = refl;
    tell = h.tell;
    untold = untold;
  }

pub faulty_journal : (lines : List (List ℕ)) (first : List ℕ) (others : List (List ℕ)) (h : Head Global) (why : JournalFault) → lines ≡ first ∷ others → IsHeadLine first h →
    AreFaulty others why → IsJournalFault lines why
faulty_journal lines first others h fault.Empty is opens bad = absurd bad
faulty_journal lines first others h fault.Opening is opens bad = absurd bad
faulty_journal lines first others h (fault.Entry n) is opens bad = (first, others, h, is, opens, bad)
faulty_journal lines first others h fault.NoMemory is opens bad = tt
