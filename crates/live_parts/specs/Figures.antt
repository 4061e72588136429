-- The figures of a fleet, in the text form that Prometheus reads.
use Rattle.std.specs.Prelude.{ℕ, List, [], ◌∷◌, ◌++◌, Option, Some, None, codes, decimal, unwrap_or}
use Rattle.std.specs.List.{flat_map}
use Rattle.fleet_book.specs.Refusals.{verdict_name}
use Rattle.fleet_book.specs.declared.verdict.Verdict.{Verdict}
use Rattle.fleet_book.specs.declared.verdict.Verdict.TheVariants.{Accepted, Closed, Withdrawn, ClientClosed, NoRobot, RobotShut, NoCell, Blocked, Unreachable, QueueFull, LifeSpent, NoErrand, TooLate}
use Rattle.live_parts.specs.declared.figures.Figures.{Figures}
use Rattle.live_parts.specs.declared.notices.Notices.{Notices}
use Rattle.live_parts.specs.Histogram.{histogram_text, seconds_text}
use Rattle.live_parts.specs.Notices.{open_count, told_count}

-- a figure, after what it is
abbrev pub figure_text : List ℕ → List ℕ → List ℕ → ℕ → List ℕ
figure_text name kind help value =
    codes "# HELP " ++ (name ++ (codes " " ++ (help ++ (codes "\n# TYPE " ++ (name ++ (codes " " ++ (kind ++ (codes "\n" ++ (name ++ (codes " " ++ (decimal value ++ codes "\n")))))))))))

-- a figure that never falls
abbrev pub counter : List ℕ → List ℕ → ℕ → List ℕ
counter name help value = figure_text name (codes "counter") help value

-- a figure that rises and falls
abbrev pub gauge : List ℕ → List ℕ → ℕ → List ℕ
gauge name help value = figure_text name (codes "gauge") help value

-- ---- verdicts

-- one of each kind
abbrev pub all_verdicts : List Verdict
all_verdicts =
    Accepted 0 ∷ Closed ∷ Withdrawn ∷ ClientClosed ∷ NoRobot ∷ RobotShut ∷ NoCell ∷ Blocked ∷ Unreachable ∷ QueueFull ∷ LifeSpent ∷ NoErrand ∷ TooLate ∷ []

-- how many verdicts of a name were told
abbrev pub verdict_line : List ℕ → ℕ → List ℕ
verdict_line name count = codes "fleet_verdicts_total{verdict=\"" ++ (name ++ (codes "\"} " ++ (decimal count ++ codes "\n")))

-- how many of the kind of this verdict were told
unfoldable pub kind_line : Notices → Verdict → List ℕ
kind_line n verdict = verdict_line (verdict_name verdict) (told_count n verdict)

-- how many verdicts of each kind were told
abbrev pub verdicts_text : Notices → List ℕ
verdicts_text n = codes "# HELP fleet_verdicts_total Verdicts told.\n# TYPE fleet_verdicts_total counter\n" ++ flat_map (kind_line n) all_verdicts

-- ---- all figures

-- the figures that never fall: ticks, orders, late turns, arrivals and chapters kept
abbrev pub counters_text : Figures → List ℕ
counters_text f =
    counter (codes "fleet_ticks_total") (codes "Ticks made.") f.tally.ticks
    ++ counter (codes "fleet_orders_total") (codes "Orders judged.") f.tally.orders
    ++ counter (codes "fleet_turns_late_total") (codes "Turns that began a period or more after their deadline.") f.tally.late
    ++ counter (codes "fleet_arrivals_total") (codes "Arrivals told.") f.notices.arrived
    ++ counter (codes "fleet_chapters_kept_total") (codes "Chapters kept.") f.kept

-- the limit of all waits, where there is one
abbrev pub limit_text : Option ℕ → List ℕ
limit_text None = []
limit_text (Some most) = gauge (codes "fleet_wait_limit_ticks") (codes "A number that no wait reaches.") most

-- a time that rises and falls, in seconds
abbrev pub time_text : List ℕ → List ℕ → ℕ → List ℕ
time_text name help micros =
    codes "# HELP " ++ (name ++ (codes " " ++ (help ++ (codes "\n# TYPE " ++ (name ++ (codes " gauge\n" ++ (name ++ (codes " " ++ (seconds_text micros ++ codes "\n")))))))))

-- the program's version
abbrev pub version_text : List ℕ → List ℕ
version_text version =
    codes "# HELP fleet_build_info The program.\n# TYPE fleet_build_info gauge\nfleet_build_info{version=\"" ++ (version ++ codes "\"} 1\n")

-- the time between two turns, where they come by themselves
abbrev pub period_text : Option ℕ → List ℕ
period_text None = []
period_text (Some micros) = time_text (codes "fleet_period_seconds") (codes "The time between two deadlines.") micros

-- how late turns began, how long they took, and the time between two
abbrev pub turns_text : Figures → List ℕ
turns_text f =
    counter (codes "fleet_turns_left_out_total") (codes "Deadlines that went by without a turn.") f.timing.left_out
    ++ histogram_text (codes "fleet_turn_lateness_seconds") (codes "How long after its deadline a turn began.") f.timing.lateness
    ++ histogram_text (codes "fleet_turn_duration_seconds") (codes "How long a turn took, with what was told.") f.timing.turns
    ++ period_text f.period

-- the version, when the fleet began, and when its last chapter was kept
abbrev pub times_text : Figures → List ℕ
times_text f =
    version_text f.version.now
    ++ time_text (codes "fleet_start_time_seconds") (codes "When the fleet began, since 1970.") f.began_at
    ++ time_text (codes "fleet_chapter_kept_time_seconds") (codes "When the last chapter was kept, since 1970; 0 if none was.") f.kept_at

-- how many errands are open, and how many are in the robots' queues
abbrev pub queues_text : Figures → List ℕ
queues_text f =
    gauge (codes "fleet_errands_open") (codes "Errands by a verdict that was told, without an arrival that was told.") (open_count f.before f.notices)
    ++ gauge (codes "fleet_queued_errands") (codes "Errands in the robots' queues.") f.queues.total
    ++ gauge (codes "fleet_queue_longest") (codes "Errands in the longest queue.") f.queues.longest

-- the longest wait, and the limit of waits
abbrev pub waits_text : Figures → List ℕ
waits_text f =
    gauge (codes "fleet_wait_ticks") (codes "How long the robot has waited that has waited longest; 0 if none has an errand.") (unwrap_or f.waits.longest 0)
    ++ limit_text f.waits.limit

-- how many chapters wait to be kept, and the bytes of distance fields
abbrev pub memory_text : Figures → List ℕ
memory_text f =
    gauge (codes "fleet_chapters_waiting") (codes "Chapters that could not be kept yet.") f.waiting
    ++ gauge (codes "fleet_kept_field_bytes") (codes "Bytes of the distance fields that are kept for later.") f.field_bytes

-- all figures
abbrev pub figures_text : Figures → List ℕ
figures_text f = counters_text f ++ verdicts_text f.notices ++ turns_text f ++ queues_text f ++ waits_text f ++ memory_text f ++ times_text f
