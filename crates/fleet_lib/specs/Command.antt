-- The words that the program takes.
use Rattle.std.specs.Prelude.{List, [], ◌∷◌, true, codes}
use Rattle.clap.specs.Words.{App, new_app, new_rule}
use Rattle.command_words.specs.Table.{file_rule, files_rule, flag_rule, value_rule, values_rule, required_value_rule, number_rule, with_rules, program_top, with_words}

-- view [--svg] [--tick N] MAP TRACE..
abbrev pub view_app : App
view_app = with_rules (new_app (codes "view"))
    (flag_rule (codes "svg") ∷ number_rule (codes "tick") ∷ file_rule (codes "MAP") ∷ files_rule (codes "TRACE") ∷ [])

-- check [--strict] [--all] [--form FORM] [--goals SCENARIO] [--agents N] MAP PLAN
abbrev pub check_app : App
check_app = with_rules (new_app (codes "check"))
    (flag_rule (codes "strict") ∷ flag_rule (codes "all") ∷ value_rule (codes "form") ∷ value_rule (codes "goals") ∷ number_rule (codes "agents") ∷ file_rule (codes "MAP") ∷ file_rule (codes "PLAN") ∷ [])

-- talk [--marks] [--roll] [--chapter-bytes N] [--roomy] [--planner NAME] [--traces DIR] [--journal] [--resume] [--resume-only] MAP [SCRIPT]
abbrev pub talk_app : App
talk_app = with_rules (new_app (codes "talk"))
    (flag_rule (codes "marks") ∷ flag_rule (codes "roll") ∷ value_rule (codes "chapter-bytes") ∷ flag_rule (codes "roomy") ∷ value_rule (codes "planner") ∷ value_rule (codes "traces") ∷ flag_rule (codes "journal") ∷ flag_rule (codes "resume") ∷ flag_rule (codes "resume-only") ∷ file_rule (codes "MAP") ∷ new_rule (codes "SCRIPT") ∷ [])

-- convert --to FORM MAP INPUT
abbrev pub convert_app : App
convert_app = with_rules (new_app (codes "convert")) (required_value_rule (codes "to") ∷ file_rule (codes "MAP") ∷ file_rule (codes "INPUT") ∷ [])

-- explain [--head] MAP [INPUT]
abbrev pub explain_app : App
explain_app = with_rules (new_app (codes "explain")) (flag_rule (codes "head") ∷ file_rule (codes "MAP") ∷ new_rule (codes "INPUT") ∷ [])

-- live [--robots CELLS] [--clients N] [--period TIME] [--tickers N] [--client IN,OUT].. [--watch] [--service] [--roomy] [--planner NAME] [--traces DIR]
-- [--resume] [--resume-only] [--keep-every TIME] [--journal] [--recall N] [--chapter-bytes N] [--metrics FILE] MAP [SCRIPT]
abbrev pub live_app : App
live_app = with_rules (new_app (codes "live"))
    (value_rule (codes "robots") ∷ value_rule (codes "clients") ∷ value_rule (codes "period") ∷ value_rule (codes "tickers") ∷ values_rule (codes "client")
    ∷ flag_rule (codes "watch") ∷ flag_rule (codes "service") ∷ flag_rule (codes "roomy") ∷ value_rule (codes "planner") ∷ value_rule (codes "traces") ∷ flag_rule (codes "resume") ∷ flag_rule (codes "resume-only")
    ∷ value_rule (codes "keep-every") ∷ flag_rule (codes "journal") ∷ value_rule (codes "recall") ∷ value_rule (codes "chapter-bytes") ∷ value_rule (codes "metrics") ∷ file_rule (codes "MAP") ∷ new_rule (codes "SCRIPT") ∷ [])

-- stats [--json] [--csv TABLE] [--warm-up N] MAP TRACE..
abbrev pub stats_app : App
stats_app = with_rules (new_app (codes "stats"))
    (flag_rule (codes "json") ∷ value_rule (codes "csv") ∷ value_rule (codes "warm-up") ∷ file_rule (codes "MAP") ∷ files_rule (codes "TRACE") ∷ [])

-- judge MAP TRACE..
abbrev pub judge_app : App
judge_app = with_rules (new_app (codes "judge")) (file_rule (codes "MAP") ∷ files_rule (codes "TRACE") ∷ [])

-- map --robots N [--cells FILE] [--json] [--prune] [--svg] [--mend] MAP
abbrev pub map_app : App
map_app = with_rules (new_app (codes "map"))
    (number_rule (codes "robots") ∷ value_rule (codes "cells") ∷ flag_rule (codes "json") ∷ flag_rule (codes "prune") ∷ flag_rule (codes "svg") ∷ flag_rule (codes "mend") ∷ file_rule (codes "MAP") ∷ [])

-- execute [--clearance RULE] [--ahead N] [--form FORM] MAP PLAN
abbrev pub execute_app : App
execute_app = with_rules (new_app (codes "execute"))
    (value_rule (codes "clearance") ∷ number_rule (codes "ahead") ∷ value_rule (codes "form") ∷ file_rule (codes "MAP") ∷ file_rule (codes "PLAN") ∷ [])

-- sim --robots LIST --ticks N [--warm-up N] [--seeds N] [--cells FILE] [--scen FILE] [--tasks FILE] [--roomy] [--planner NAME] [--ties NAME] [--traces DIR] [--times] [--csv] [--json] MAP
abbrev pub sim_app : App
sim_app = with_rules (new_app (codes "sim"))
    (value_rule (codes "robots") ∷ value_rule (codes "ticks") ∷ value_rule (codes "warm-up") ∷ value_rule (codes "seeds") ∷ value_rule (codes "cells") ∷ value_rule (codes "scen") ∷ value_rule (codes "tasks")
    ∷ flag_rule (codes "roomy") ∷ value_rule (codes "planner") ∷ value_rule (codes "ties") ∷ value_rule (codes "traces") ∷ flag_rule (codes "times") ∷ flag_rule (codes "csv") ∷ flag_rule (codes "json") ∷ file_rule (codes "MAP") ∷ [])

-- change --traces DIR --to OUT [--renumber] [--dry-run] MAP CHANGE..
abbrev pub change_app : App
change_app = with_rules (new_app (codes "change"))
    (required_value_rule (codes "traces") ∷ required_value_rule (codes "to") ∷ flag_rule (codes "renumber") ∷ flag_rule (codes "dry-run") ∷ file_rule (codes "MAP") ∷ files_rule (codes "CHANGE") ∷ [])

-- vehicles [--clearance RULE] [--ahead N]
abbrev pub vehicles_app : App
vehicles_app = with_rules (new_app (codes "vehicles")) (value_rule (codes "clearance") ∷ number_rule (codes "ahead") ∷ [])

-- the words of fleet
abbrev pub word_apps : List App
word_apps = view_app ∷ check_app ∷ talk_app ∷ convert_app ∷ explain_app ∷ live_app ∷ stats_app ∷ judge_app ∷ map_app ∷ execute_app ∷ sim_app ∷ change_app ∷ vehicles_app ∷ []

-- fleet, which tells its version and wants a word
abbrev pub fleet_app : App
fleet_app = with_words (program_top (codes "fleet") true) word_apps
