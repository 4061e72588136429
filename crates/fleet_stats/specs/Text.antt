-- Figures as text: lines `NAME VALUE`, or the members of one JSON object.
use Rattle.std.specs.Prelude.{ℕ, zero, suc, ◌+◌, ◌-◌, ◌*◌, ◌^◌, ◌/◌, ◌%◌, ◌==◌, if◌then◌else◌, List, [], ◌∷◌, ◌++◌, Option, Some, None, codes, decimal, length, count_by, min}
use Rattle.std.specs.List.{flat_map}
use Rattle.fleet_book.specs.declared.verdict.Verdict.{Verdict}
use Rattle.fleet_book.specs.Refusals.{refusal_of, verdict_name}
use Rattle.fleet_stats.specs.declared.lines.Style.{Style}
use Rattle.fleet_stats.specs.declared.lines.Style.TheVariants.{Text, Json}
use Rattle.fleet_stats.specs.declared.rows.TickRow.{TickRow}
use Rattle.fleet_stats.specs.declared.rows.ErrandRow.{ErrandRow}
use Rattle.fleet_stats.specs.declared.rows.LeftRow.{LeftRow}
use Rattle.fleet_stats.specs.declared.rows.Landed.{Landed}
use Rattle.fleet_stats.specs.declared.ranks.Ranks.{Ranks}
use Rattle.fleet_stats.specs.declared.later.LaterFigures.{LaterFigures}
use Rattle.fleet_stats.specs.declared.tallies.Tally.{Tally}
use Rattle.fleet_stats.specs.declared.figures.Summary.{Summary}
use Rattle.fleet_stats.specs.Figures.{count_of, is_refusal}

-- ---- one figure; its name has two parts

-- a whole number
abbrev pub whole_line : Style → List ℕ → List ℕ → ℕ → List ℕ
whole_line Text group name n = group ++ (name ++ (codes " " ++ (decimal n ++ codes "\n")))
whole_line Json group name n = codes "\"" ++ (group ++ (name ++ (codes "\":" ++ (decimal n ++ codes ","))))

-- a figure that there is not
abbrev pub none_line : Style → List ℕ → List ℕ → List ℕ
none_line Text group name = group ++ (name ++ codes " none\n")
none_line Json group name = codes "\"" ++ (group ++ (name ++ codes "\":null,"))

-- a number and its thousandths
abbrev pub parts_line : Style → List ℕ → List ℕ → ℕ → ℕ → List ℕ
parts_line Text group name whole part =
    group ++ (name ++ (codes " " ++ (decimal whole ++ (codes "." ++ (decimal (part / 100) ++ (decimal (part / 10 % 10) ++ (decimal (part % 10) ++ codes "\n")))))))
parts_line Json group name whole part =
    codes "\"" ++ (group ++ (name ++ (codes "\":" ++ (decimal whole ++ (codes "." ++ (decimal (part / 100) ++ (decimal (part / 10 % 10) ++ (decimal (part % 10) ++ codes ","))))))))

-- a quotient, rounded down to thousandths; there is none by 0
abbrev pub ratio_line : Style → List ℕ → List ℕ → ℕ → ℕ → List ℕ
ratio_line style group name n d = if d == 0 then none_line style group name else parts_line style group name (n / d) (n % d * 1000 / d)

-- a whole number, if there is one
abbrev pub option_line : Style → List ℕ → List ℕ → Option ℕ → List ℕ
option_line style group name None = none_line style group name
option_line style group name (Some n) = whole_line style group name n

-- there is none of no numbers
abbrev pub counted_line : Style → List ℕ → List ℕ → ℕ → ℕ → List ℕ
counted_line style group name count n = if count == 0 then none_line style group name else whole_line style group name n

-- ---- groups of figures

-- what the run was of: robots, clients, floor cells, its first tick, and how many ticks
abbrev pub run_text : Style → Summary → List ℕ
run_text style s =
    whole_line style (codes "") (codes "robots") s.robots
    ++ (whole_line style (codes "") (codes "clients") s.clients
    ++ (whole_line style (codes "") (codes "floor_cells") s.floor_cells
    ++ (whole_line style (codes "") (codes "first_tick") s.first_tick
    ++ whole_line style (codes "") (codes "ticks") s.ticks)))

-- how many orders there were, and how many of them were accepted, closed, withdrawn or refused
abbrev pub orders_text : Style → List ℕ → List ℕ
orders_text style kinds =
    whole_line style (codes "") (codes "orders") (length kinds)
    ++ (whole_line style (codes "") (codes "accepted") (count_of kinds 0)
    ++ (whole_line style (codes "") (codes "closed") (count_of kinds 11)
    ++ (whole_line style (codes "") (codes "withdrawn") (count_of kinds 12)
    ++ whole_line style (codes "") (codes "refused") (count_by is_refusal kinds))))

-- how many orders were refused with this code; nothing where no refusal has it
abbrev pub refusal_line : Style → List ℕ → ℕ → Option Verdict → List ℕ
refusal_line style kinds code None = []
refusal_line style kinds code (Some v) = whole_line style (codes "refused_") (verdict_name v) (count_of kinds code)

-- the refusals up to this code
abbrev pub refusals_below : Style → List ℕ → ℕ → List ℕ
refusals_below style kinds zero = []
refusals_below style kinds (suc k) = refusals_below style kinds k ++ refusal_line style kinds (k + 1) (refusal_of (k + 1))

-- arrivals, arrivals a tick, what is unfinished, and how many errands the run accepted and did
abbrev pub done_text : Style → Summary → List ℕ
done_text style s =
    whole_line style (codes "") (codes "arrivals") s.arrivals
    ++ (ratio_line style (codes "") (codes "throughput") s.arrivals s.ticks
    ++ (whole_line style (codes "") (codes "unfinished") s.unfinished
    ++ whole_line style (codes "") (codes "errands") s.service.count))

abbrev pub ranks_text : Style → List ℕ → Ranks → List ℕ
ranks_text style group x =
    ratio_line style group (codes "_mean") x.total x.count
    ++ (counted_line style group (codes "_median") x.count x.median
    ++ (counted_line style group (codes "_p90") x.count x.ninetieth
    ++ (counted_line style group (codes "_p99") x.count x.ninety_ninth
    ++ counted_line style group (codes "_greatest") x.count x.greatest)))

-- the time beyond the distances, over the errands; and the time over the distances
abbrev pub delay_text : Style → ℕ → ℕ → ℕ → List ℕ
delay_text style travel distance errands =
    ratio_line style (codes "") (codes "delay") (travel - distance) errands
    ++ ratio_line style (codes "") (codes "delay_ratio") travel distance

-- the steps of the robots, the distances, and the one by the other
abbrev pub ways_text : Style → Summary → List ℕ
ways_text style s =
    whole_line style (codes "") (codes "steps") s.steps
    ++ (whole_line style (codes "") (codes "distance") s.distance
    ++ ratio_line style (codes "") (codes "detour") s.steps s.distance)

-- how many robots there were in all ticks together
abbrev pub robot_ticks : Summary → ℕ
robot_ticks s = min (s.robots * s.ticks) (2 ^ 64 - 1)

abbrev pub robots_text : Style → Summary → List ℕ
robots_text style s =
    whole_line style (codes "") (codes "longest_wait") s.waited
    ++ (option_line style (codes "") (codes "wait_limit") s.limit
    ++ (ratio_line style (codes "") (codes "idle_mean") s.idle s.ticks
    ++ (ratio_line style (codes "") (codes "under_way") (robot_ticks s - s.idle) (robot_ticks s)
    ++ (whole_line style (codes "") (codes "moves") s.moves
    ++ whole_line style (codes "") (codes "stands") s.stands))))

-- what was done, the times of service, the waits, and the ways
abbrev pub fleet_text : Style → Summary → List ℕ
fleet_text style s =
    done_text style s
    ++ (ranks_text style (codes "service") s.service
    ++ (ranks_text style (codes "travel") s.travel
    ++ (ways_text style s
    ++ delay_text style s.travel.total s.distance s.service.count)))

-- all figures but for the windows
abbrev pub figures_text : Style → Summary → List ℕ → List ℕ
figures_text style s kinds = run_text style s ++ (orders_text style kinds ++ (refusals_below style kinds 10 ++ (fleet_text style s ++ robots_text style s)))

-- ---- the arrivals in windows

-- numbers with a blank before each
abbrev pub blank_before : List ℕ → List ℕ
blank_before ns = flat_map (λ n. codes " " ++ decimal n) ns

-- a comma, but for the first place
abbrev pub comma_before : ℕ → List ℕ
comma_before place = if place == 0 then [] else codes ","

-- numbers from this place on, with a comma before each but the first
abbrev pub commas_from : ℕ → List ℕ → List ℕ
commas_from place [] = []
commas_from place (n ∷ ns) = (comma_before place ++ decimal n) ++ commas_from (place + 1) ns

-- ---- all figures

-- all figures, with the arrivals in windows
abbrev pub summary_text : Style → Summary → List ℕ → List ℕ → List ℕ
summary_text Text s kinds windows = figures_text Text s kinds ++ (codes "window_arrivals" ++ (blank_before windows ++ codes "\n"))
summary_text Json s kinds windows = codes "{" ++ (figures_text Json s kinds ++ (codes "\"window_arrivals\":[" ++ (commas_from 0 windows ++ codes "]}\n")))

-- ---- the figures after a clock

abbrev pub later_figures : Style → LaterFigures → List ℕ
later_figures style f =
    whole_line style (codes "") (codes "ticks") f.ticks
    ++ (whole_line style (codes "") (codes "arrivals") f.arrivals
    ++ (ratio_line style (codes "") (codes "throughput") f.arrivals f.ticks
    ++ (whole_line style (codes "") (codes "errands") f.service.count
    ++ (ranks_text style (codes "service") f.service
    ++ (whole_line style (codes "") (codes "distance") f.distance
    ++ delay_text style f.travel f.distance f.service.count)))))

abbrev pub later_text : Style → LaterFigures → List ℕ
later_text Text f = later_figures Text f ++ (codes "longest_wait " ++ (decimal f.waited ++ codes "\n"))
later_text Json f = codes "{" ++ (later_figures Json f ++ (codes "\"longest_wait\":" ++ (decimal f.waited ++ codes "}\n")))

-- ---- tables, with commas between the columns

-- a number, or nothing in its column
abbrev pub option_text : Option ℕ → List ℕ
option_text None = []
option_text (Some n) = decimal n

-- whose errand it was, and where it led
abbrev pub names_text : Landed → List ℕ
names_text x = decimal x.client ++ (codes "," ++ (decimal x.number ++ (codes "," ++ (decimal x.robot ++ (codes "," ++ (decimal x.cell ++ codes ","))))))

-- when it was accepted, begun and done, and the robot's way
abbrev pub times_text : ℕ → Landed → List ℕ
times_text accepted x =
    decimal accepted ++ (codes "," ++ (decimal x.begun ++ (codes "," ++ (decimal x.arrived ++ (codes "," ++ (decimal x.leg.from ++ (codes "," ++ (decimal x.leg.steps ++ codes ","))))))))

-- the row of an errand that was done
abbrev pub errand_line : ErrandRow → List ℕ
errand_line x = names_text x.done ++ (times_text x.accepted x.done ++ (option_text x.distance ++ codes "\n"))

-- the names of the columns of errands
abbrev pub errands_head : List ℕ
errands_head = codes "client,number,robot,cell,accepted,begun,arrived,from,steps,distance\n"

abbrev pub errands_table : List ErrandRow → List ℕ
errands_table rows = errands_head ++ flat_map errand_line rows

-- an errand that is left
abbrev pub left_line : LeftRow → List ℕ
left_line x =
    decimal x.left.client ++ (codes "," ++ (decimal x.left.number ++ (codes "," ++ (decimal x.left.robot ++ (codes "," ++ (decimal x.left.cell ++ (codes "," ++ (option_text x.accepted ++ codes "\n"))))))))

abbrev pub unfinished_head : List ℕ
unfinished_head = codes "client,number,robot,cell,accepted\n"

abbrev pub unfinished_table : List LeftRow → List ℕ
unfinished_table left = unfinished_head ++ flat_map left_line left

-- what the errands of one robot or client add up to
abbrev pub tally_line : ℕ → Tally → List ℕ
tally_line key x =
    decimal key ++ (codes "," ++ (decimal x.errands ++ (codes "," ++ (decimal x.unfinished ++ (codes "," ++ (decimal x.service ++ (codes "," ++ (decimal x.travel ++ (codes "," ++ (decimal x.steps ++ (codes "," ++ (decimal x.distance ++ codes "\n"))))))))))))

-- those of the robots or clients below this number
abbrev pub tallies_below : (ℕ → Tally) → ℕ → List ℕ
tallies_below tally zero = []
tallies_below tally (suc key) = tallies_below tally key ++ tally_line key (tally key)

abbrev pub tallies_head : List ℕ → List ℕ
tallies_head name = name ++ codes ",errands,unfinished,service,travel,steps,distance\n"

abbrev pub tallies_table : List ℕ → (ℕ → Tally) → ℕ → List ℕ
tallies_table name tally count = tallies_head name ++ tallies_below tally count

-- the row of a tick
abbrev pub tick_line : TickRow → List ℕ
tick_line x = decimal x.tick ++ (codes "," ++ (decimal x.arrivals ++ (codes "," ++ (decimal x.moves ++ (codes "," ++ (decimal x.idle ++ (codes "," ++ (decimal x.waited ++ codes "\n"))))))))

-- the names of the columns of ticks
abbrev pub ticks_head : List ℕ
ticks_head = codes "tick,arrivals,moves,idle,longest_wait\n"

-- the table of ticks
abbrev pub ticks_table : List TickRow → List ℕ
ticks_table rows = ticks_head ++ flat_map tick_line rows

-- a cell on which robots with errands stood, and how often
abbrev pub cell_line : ℕ → ℕ → ℕ → List ℕ
cell_line width cell stands =
    if stands == 0 then []
    else decimal cell ++ (codes "," ++ (decimal (cell / width) ++ (codes "," ++ (decimal (cell % width) ++ (codes "," ++ (decimal stands ++ codes "\n"))))))

-- the cells below this number, with how often robots stood on each
abbrev pub cells_below : ℕ → (ℕ → ℕ) → ℕ → List ℕ
cells_below width stands zero = []
cells_below width stands (suc cell) = cells_below width stands cell ++ cell_line width cell (stands cell)

-- the names of the columns of cells
abbrev pub cells_head : List ℕ
cells_head = codes "cell,row,column,stands\n"

-- the table of cells on which robots with errands stood, by cell
abbrev pub cells_table : ℕ → List ℕ → ℕ → List ℕ
cells_table width stood cells = cells_head ++ cells_below width (count_of stood) cells
