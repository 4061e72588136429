-- What the words ask for.
use Rattle.std.specs.Prelude.{Bool, true, false, List, Option, Some, None, codes, if◌then◌else◌, string_bytes}
use Rattle.std.specs.Option.{option_and_then, option_map}
use Rattle.std.specs.Str.{bytes_eq}
use Rattle.clap.specs.Words.{Text, Row, first_of}
use Rattle.command_words.specs.Values.{has_flag}
use Rattle.errands_lib.specs.declared.job.Job.{Job}
use Rattle.errands_lib.specs.declared.job.Job.TheVariants.{Bundle, Map, Run, Judge, Serve}
use Rattle.errands_lib.specs.declared.job.JobFiles.{JobFiles}
use Rattle.errands_lib.specs.declared.job.JobFiles.TheVariants as job_files

-- a job without where its words lie in memory
pub data Asked : Type 0 where
  bundle : Asked
  map : Text → Asked
  -- a map, a script, and whether its trace is to be written
  run : Text → Text → Bool → Asked
  judge : Text → Text → Asked
  serve : Text → Text → Asked

-- what the job of the program asks for
abbrev pub asked : Job → Asked
asked Bundle = bundle
asked (Map file) = map (string_bytes file)
asked (Run first second trace) = run (string_bytes first) (string_bytes second) trace
asked (Judge first second) = judge (string_bytes first) (string_bytes second)
asked (Serve first second) = serve (string_bytes first) (string_bytes second)

-- what is asked of the words that stand for these two arguments
abbrev pub of_two : (Text → Text → Asked) → Text → Text → List Row → Option Asked
of_two f first second rows = option_and_then (λ x. option_map (λ y. f x y) (first_of second rows)) (first_of first rows)

-- the job of a subcommand and the words that stand for its arguments
abbrev pub job_of : Option (Text × List Row) → Option Asked
job_of None = Some bundle
job_of (Some p) =
    if bytes_eq p.0 (codes "map") then option_map (λ file. map file) (first_of (codes "FILE") p.1)
    else if bytes_eq p.0 (codes "judge") then of_two judge (codes "MAP") (codes "TRACE") p.1
    else if bytes_eq p.0 (codes "serve") then of_two serve (codes "MAP") (codes "SCRIPT") p.1
    else of_two (λ first second. run first second (has_flag (codes "trace") p.1)) (codes "MAP") (codes "SCRIPT") p.1

-- whether the job is to serve a script
abbrev pub is_serve : Job → Bool
is_serve Bundle = false
is_serve (Map file) = false
is_serve (Run first second trace) = false
is_serve (Judge first second) = false
is_serve (Serve first second) = true

-- the names of a job's files, in their order
pub data Files : Type 0 where
  none : Files
  one : Text → Files
  two : Text → Text → Files

-- the files of a job, the map first
abbrev pub files_of : Job → Files
files_of Bundle = none
files_of (Map file) = one (string_bytes file)
files_of (Run first second trace) = two (string_bytes first) (string_bytes second)
files_of (Judge first second) = two (string_bytes first) (string_bytes second)
files_of (Serve first second) = two (string_bytes first) (string_bytes second)

-- the names without where they lie in memory
abbrev pub files_named : JobFiles → Files
files_named job_files.None = none
files_named (job_files.One name) = one name.now
files_named (job_files.Two first second) = two first.now second.now
