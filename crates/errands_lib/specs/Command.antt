-- The words that the program takes.
use Rattle.std.specs.Prelude.{[], ◌∷◌, false, codes}
use Rattle.clap.specs.Words.{App, new_app}
use Rattle.command_words.specs.Table.{file_rule, flag_rule, with_rules, program_top, with_words}

-- map FILE
abbrev pub map_app : App
map_app = with_rules (new_app (codes "map")) (file_rule (codes "FILE") ∷ [])

-- run [--trace] MAP SCRIPT
abbrev pub run_app : App
run_app = with_rules (new_app (codes "run")) (flag_rule (codes "trace") ∷ file_rule (codes "MAP") ∷ file_rule (codes "SCRIPT") ∷ [])

-- judge MAP TRACE
abbrev pub judge_app : App
judge_app = with_rules (new_app (codes "judge")) (file_rule (codes "MAP") ∷ file_rule (codes "TRACE") ∷ [])

-- serve MAP SCRIPT
abbrev pub serve_app : App
serve_app = with_rules (new_app (codes "serve")) (file_rule (codes "MAP") ∷ file_rule (codes "SCRIPT") ∷ [])

-- errands, which tells its version, and needs no word
abbrev pub errands_app : App
errands_app = with_words (program_top (codes "errands") false) (map_app ∷ run_app ∷ judge_app ∷ serve_app ∷ [])
