-- What is counted of the entries of a fleet's chapters.
use Rattle.std.specs.Prelude.{ℕ, ◌==◌, ◌||◌, ◌-◌, ◌^◌, List, [], ◌∷◌, true, drop, length, map, min, nat_le, nat_lt, sum_by, if◌then◌else◌}
use Rattle.std.specs.declared.alloc.Global.{Global}
use Rattle.fleet_history.specs.declared.history.Entry.{Entry}
use Rattle.fleet_history.specs.declared.history.Entry.TheVariants.{Take, Tick, Shut}
use Rattle.fleet_history.specs.declared.history.Opening.{Opening}
use Rattle.fleet_talk.specs.Chapters.{ChapterView}
use Rattle.live_parts.specs.Counts as tallies
use Rattle.live_parts.specs.Notices.{with_arrivals, with_verdict}
use Rattle.live_parts.specs.Size as sizes
use Rattle.fleet_live.specs.declared.counts.Counts.{Counts}

-- how many errands the queues have
abbrev pub errands_in : Opening Global → ℕ
errands_in o = min (sum_by (λ r. length r.errands) o.robots) (2 ^ 64 - 1)

-- the counts with one more order
abbrev pub with_order : Counts → Counts
with_order c = record c { tally = tallies.with_orders c.tally 1; all = tallies.with_orders c.all 1; size = sizes.with_orders c.size 1; has_news = true }

-- the counts with a tick of this number of arrivals
abbrev pub with_tick : Counts → ℕ → Counts
with_tick c arrived = record c {
  tally = tallies.with_tick c.tally;
  all = tallies.with_tick c.all;
  size = sizes.with_tick c.size arrived;
  notices = with_arrivals c.notices arrived;
  has_news = c.has_news || nat_lt 0 arrived;
}

-- the counts with one more entry
abbrev pub with_entry : Counts → Entry Global → Counts
with_entry c (Take client order verdict) = record (with_order c) { notices = with_verdict c.notices verdict }
with_entry c (Tick to arrived farewells) = with_tick c (min (length arrived) (2 ^ 32 - 1))
with_entry c (Shut robot farewell) = record c { size = sizes.with_orders c.size 1 }

-- the counts with these entries, one after another
abbrev pub with_entries : Counts → List (Entry Global) → Counts
with_entries c [] = c
with_entries c (e ∷ es) = with_entries (with_entry c e) es

-- the counts before the first entry of a chapter that is another than the last
abbrev pub with_opening : Counts → ChapterView Global → Counts
with_opening c x = if x.number == c.chapter then c else record c { chapter = x.number; entries = 0; size = sizes.begun c.size (errands_in x.history.opening) }

-- the counts with the entries of a chapter that are not counted yet
abbrev pub with_new : Counts → ChapterView Global → Counts
with_new c x = record (with_entries c (drop c.entries x.history.entries)) { entries = length x.history.entries }

-- the counts with what is not counted yet of a chapter
abbrev pub with_chapter : Counts → ChapterView Global → Counts
with_chapter c x = with_new (with_opening c x) x

-- with chapters that were handed out; one that comes before the chapter that was being filled is counted
abbrev pub with_handed : Counts → List (ChapterView Global) → Counts
with_handed c [] = c
with_handed c (x ∷ xs) = with_handed (if nat_le c.chapter x.number then with_chapter c x else c) xs
