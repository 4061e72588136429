-- What is read of a journal, and why none is.
use Rattle.std.proofs.Common.{◌≡◌, ℕ, ◌+◌, ◌-◌, ◌≤◌, List, Option, None, Some, Ok, length, length-take, string_bytes, refl, subst, sym, arith, ◌∙◌}
use Rattle.std.specs.List.{position}
use Rattle.std.specs.declared.alloc.Global.{Global}
use Rattle.fleet_grid.specs.Floor.{Floor, floor_of_map}
use Rattle.fleet_history.specs.Legal.{IsLegal}
use Rattle.fleet_journal.specs.Journal.{IsJournal, IsJournalFault}
use Rattle.fleet_journal.specs.Lines.{bytes_of, whole_lines}
use Rattle.fleet_journal.specs.declared.fault.JournalFault.{JournalFault}
use Rattle.fleet_map.specs.Grammar.{Map, map_of}
use Rattle.fleet_trace.specs.Trace.{Trace}
use Rattle.fleet_lib.specs.declared.recovering.RecoverFault.{RecoverFault}
use Rattle.fleet_lib.specs.declared.recovering.RecoverFault.TheVariants as fault
use Rattle.fleet_lib.specs.declared.recovering.Recovered.{Recovered}
use Rattle.fleet_lib.specs.Recovered.{Follows, IsAstrayAfter, IsRecoverFault, IsRecovered, IsUnlawful, astray, is_zero, journal_unread, line_after, other_number, trace_file, unlawful, unread, until, written}

length-until : (o : Option ℕ) (bytes : List ℕ) → length (until o bytes) ≤ length bytes
length-until None bytes = omega arith
length-until (Some at) bytes = omega (arith, length-take at bytes)

length-written : (bytes : List ℕ) → length (written bytes) ≤ length bytes
length-written bytes = length-until (position is_zero bytes) bytes

module _ (map : List ℕ) (before : Option (List ℕ)) (journal : List ℕ) (number : ℕ) (m : Map) (reads : map_of map ≡ Ok m) (whole : List ℕ) (is : whole ≡ written journal) where
  pub unread-fault : (why : JournalFault) (f : RecoverFault) → IsJournalFault (whole_lines whole) why → f ≡ unread why → IsRecoverFault map before journal number f
  unread-fault why f fault same = journal_unread m why reads (subst (λ (bs : List ℕ). IsJournalFault (whole_lines bs) why) is fault) same

  pub number-fault : (t : Trace Global) → IsJournal whole t → (t.number ≡ number → ⊥) → IsRecoverFault map before journal number (fault.Number t.number)
  number-fault t tells other = other_number m t reads (subst (λ (bs : List ℕ). IsJournal bs t) is tells) other refl

  module _ (t : Trace Global) (tells : IsJournal whole t) (same : t.number ≡ number) (g : Floor) (on : g ≡ floor_of_map m) (trace : List ℕ) (text : trace ≡ trace_file t) where
    told : IsJournal (written journal) t
    told = subst (λ (bs : List ℕ). IsJournal bs t) is tells

    pub unlawful-fault : (f : RecoverFault) → IsUnlawful map g t.history trace f → IsRecoverFault map before journal number f
    unlawful-fault f why =
        unlawful m t reads told same
        (subst (λ (x : Floor). IsUnlawful map x t.history (trace_file t) f) on (subst (λ (x : List ℕ). IsUnlawful map g t.history x f) text why))

    pub astray-fault : IsLegal g t.history → IsAstrayAfter g before trace → IsRecoverFault map before journal number fault.Astray
    astray-fault legal why =
        astray m t reads told same (subst (λ (x : Floor). IsLegal x t.history) on legal)
        (subst (λ (x : Floor). IsAstrayAfter x before (trace_file t)) on (subst (λ (x : List ℕ). IsAstrayAfter g before x) text why)) refl

    -- the bytes that are cut are those after the lines, and from the first zero on
    pub is-recovered : IsLegal g t.history → Follows g before trace → (r : Recovered) (cut : ℕ) → string_bytes r.trace ≡ trace → r.lines ≡ line_after (length t.history.entries) 1 →
        length whole ≡ length (bytes_of (whole_lines whole)) + cut →
        (cut ≤ length whole → length whole ≤ length journal → r.cut ≡ cut + (length journal - length whole)) → IsRecovered map before journal number r
    is-recovered legal next r cut is_trace lines left sum =
        let short : length whole ≤ length journal = subst (λ (bs : List ℕ). length bs ≤ length journal) (sym is) (length-written journal) in
        let all : r.cut ≡ cut + (length journal - length whole) = sum (omega (arith, left)) short in
        let count : length journal ≡ length (bytes_of (whole_lines whole)) + r.cut = omega (arith, left, short, all) in
        record {
          floor = m;
          told = t;
          reads = reads;
          tells = told;
          same = same;
          legal = subst (λ (x : Floor). IsLegal x t.history) on legal;
          follows = subst (λ (x : Floor). Follows x before (trace_file t)) on (subst (λ (x : List ℕ). Follows g before x) text next);
          trace = is_trace ∙ text;
          lines = lines;
          cut = subst (λ (bs : List ℕ). length journal ≡ length (bytes_of (whole_lines bs)) + r.cut) is count;
        }
