-- The job to run, by the words that stand for its arguments.
use Rattle.std.proofs.Common.{◌≡◌, ◌∙◌, sym, refl, Bool, false, List, Option, Some, None, codes, option_map, string_bytes}
use Rattle.std.specs.Str.{bytes_eq}
use Rattle.clap.specs.Words.{Row, Text, first_of, found_of, rows_of}
use Rattle.command_words.specs.Values.{has_flag}
use Rattle.errands_lib.specs.Asked.{job_of, run}
use Rattle.errands_lib.proofs.job.job_from.Goals as goal

-- the subcommand by its name and by its rows
abbrev pair : {B : Type 0} → (B → Text) → (B → List Row) → B → Text × List Row
pair f g b = (f b, g b)

named : {B : Type 0} (f : B → Text) (g : B → List Row) (found : Option B) (name : Text) (rows : List Row) → Some name ≡ option_map f found
    → Some rows ≡ option_map (λ (p : Text × List Row). p.1) (option_map (pair f g) found) → option_map (pair f g) found ≡ Some (name, rows)
named f g None name rows e h = absurd cc
named f g (Some b) name rows e h = let one : name ≡ f b = cc in let two : rows ≡ g b = cc in rw (one, two) refl

is_run : (found : Option (Text × List Row)) (name first second : Text) (rows : List Row) (trace : Bool) → found ≡ Some (name, rows)
    → bytes_eq name (codes "map") ≡ false → bytes_eq name (codes "judge") ≡ false → bytes_eq name (codes "serve") ≡ false
    → first_of (codes "MAP") rows ≡ Some first → first_of (codes "SCRIPT") rows ≡ Some second → trace ≡ has_flag (codes "trace") rows → job_of found ≡ Some (run first second trace)
is_run found name first second rows trace is map judge serve one two flag = rw (is, map, judge, serve, one, two, flag) refl

pub returns : goal.returns
returns c =
    is_run _ c.in-Some.name.now (string_bytes c.in_ok-first-2.first) (string_bytes c.in_ok-first-2.second) (rows_of (found_of c.in-Some.inner.now)) c.has_flag-trace.result
    (named _ _ _ c.in-Some.name.now (rows_of (found_of c.in-Some.inner.now)) c.in-Some.ensures.name c.in-Some.ensures.rows)
    (sym c.eq.ensures ∙ c.if-eq.false) (sym c.eq-2.ensures ∙ c.if-eq-2.false) (sym c.eq-3.ensures ∙ c.if-eq-3.false)
    c.in_ok-first-2.ensures.first c.in_ok-first-2.ensures.second c.has_flag-trace.ensures
