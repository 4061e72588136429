-- The job of the word that was met.
use Rattle.std.proofs.Common.{◌≡◌, ◌∙◌, ap, sym, refl, List, Option, Some, None, codes, option_map}
use Rattle.std.proofs.lemmas.Slice.Eq.{bytes_eq-Decides}
use Rattle.clap.specs.Words.{Row, Text, found_of, rows_of}
use Rattle.fleet_lib.proofs.words.job.job_from.Goals as goal

-- the subcommand by its name and by its rows
abbrev pair : {B : Type 0} → (B → Text) → (B → List Row) → B → Text × List Row
pair f g b = (f b, g b)

named : {B : Type 0} (f : B → Text) (g : B → List Row) (found : Option B) (name : Text) (rows : List Row) → Some name ≡ option_map f found
    → Some rows ≡ option_map (λ (p : Text × List Row). p.1) (option_map (pair f g) found) → option_map (pair f g) found ≡ Some (name, rows)
named f g None name rows e h = absurd cc
named f g (Some b) name rows e h = let one : name ≡ f b = cc in let two : rows ≡ g b = cc in rw (one, two) refl

pub returns-in_ok-view_in-in-Some : goal.returns-in_ok-view_in-in-Some
returns-in_ok-view_in-in-Some c =
    let rows = rows_of (found_of c.in-Some.inner.now) in
    let name_is : c.in-Some.name.now ≡ codes "view" = (bytes_eq-Decides c.in-Some.name.now (codes "view")).0 (sym c.eq.ensures ∙ c.if-eq.true) in
    (rows, named _ _ _ c.in-Some.name.now rows c.in-Some.ensures.name c.in-Some.ensures.rows ∙ ap (λ (n : Text). Some (n, rows)) name_is, c.in_ok-view_in-in-Some.ensures)

pub returns-in_ok-check_in-in-Some : goal.returns-in_ok-check_in-in-Some
returns-in_ok-check_in-in-Some c =
    let rows = rows_of (found_of c.in-Some.inner.now) in
    let name_is : c.in-Some.name.now ≡ codes "check" = (bytes_eq-Decides c.in-Some.name.now (codes "check")).0 (sym c.eq-else-eq.ensures ∙ c.if-eq-2.true) in
    (rows, named _ _ _ c.in-Some.name.now rows c.in-Some.ensures.name c.in-Some.ensures.rows ∙ ap (λ (n : Text). Some (n, rows)) name_is, c.in_ok-check_in-in-Some.ensures)

pub returns-in_ok-talk_in-in-Some : goal.returns-in_ok-talk_in-in-Some
returns-in_ok-talk_in-in-Some c =
    let rows = rows_of (found_of c.in-Some.inner.now) in
    let name_is : c.in-Some.name.now ≡ codes "talk" = (bytes_eq-Decides c.in-Some.name.now (codes "talk")).0 (sym c.eq-else-eq-2.ensures ∙ c.if-eq-3.true) in
    (rows, named _ _ _ c.in-Some.name.now rows c.in-Some.ensures.name c.in-Some.ensures.rows ∙ ap (λ (n : Text). Some (n, rows)) name_is, c.in_ok-talk_in-in-Some.ensures)

pub returns-in_ok-convert_in-in-Some : goal.returns-in_ok-convert_in-in-Some
returns-in_ok-convert_in-in-Some c =
    let rows = rows_of (found_of c.in-Some.inner.now) in
    let name_is : c.in-Some.name.now ≡ codes "convert" = (bytes_eq-Decides c.in-Some.name.now (codes "convert")).0 (sym c.eq-else-eq-3.ensures ∙ c.if-eq-4.true) in
    (rows, named _ _ _ c.in-Some.name.now rows c.in-Some.ensures.name c.in-Some.ensures.rows ∙ ap (λ (n : Text). Some (n, rows)) name_is, c.in_ok-convert_in-in-Some.ensures)

pub returns-in_ok-explain_in-in-Some : goal.returns-in_ok-explain_in-in-Some
returns-in_ok-explain_in-in-Some c =
    let rows = rows_of (found_of c.in-Some.inner.now) in
    let name_is : c.in-Some.name.now ≡ codes "explain" = (bytes_eq-Decides c.in-Some.name.now (codes "explain")).0 (sym c.eq-else-eq-4.ensures ∙ c.if-eq-5.true) in
    (rows, named _ _ _ c.in-Some.name.now rows c.in-Some.ensures.name c.in-Some.ensures.rows ∙ ap (λ (n : Text). Some (n, rows)) name_is, c.in_ok-explain_in-in-Some.ensures)

pub returns-in_ok-live_in-in-Some : goal.returns-in_ok-live_in-in-Some
returns-in_ok-live_in-in-Some c =
    let rows = rows_of (found_of c.in-Some.inner.now) in
    let name_is : c.in-Some.name.now ≡ codes "live" = (bytes_eq-Decides c.in-Some.name.now (codes "live")).0 (sym c.eq-else-eq-5.ensures ∙ c.if-eq-6.true) in
    (rows, named _ _ _ c.in-Some.name.now rows c.in-Some.ensures.name c.in-Some.ensures.rows ∙ ap (λ (n : Text). Some (n, rows)) name_is, c.in_ok-live_in-in-Some.ensures)

pub returns-in_ok-stats_in-in-Some : goal.returns-in_ok-stats_in-in-Some
returns-in_ok-stats_in-in-Some c =
    let rows = rows_of (found_of c.in-Some.inner.now) in
    let name_is : c.in-Some.name.now ≡ codes "stats" = (bytes_eq-Decides c.in-Some.name.now (codes "stats")).0 (sym c.eq-else-eq-6.ensures ∙ c.if-eq-7.true) in
    (rows, named _ _ _ c.in-Some.name.now rows c.in-Some.ensures.name c.in-Some.ensures.rows ∙ ap (λ (n : Text). Some (n, rows)) name_is, c.in_ok-stats_in-in-Some.ensures)

pub returns-in_ok-judge_in-in-Some : goal.returns-in_ok-judge_in-in-Some
returns-in_ok-judge_in-in-Some c =
    let rows = rows_of (found_of c.in-Some.inner.now) in
    let name_is : c.in-Some.name.now ≡ codes "judge" = (bytes_eq-Decides c.in-Some.name.now (codes "judge")).0 (sym c.eq-else-eq-7.ensures ∙ c.if-eq-8.true) in
    (rows, named _ _ _ c.in-Some.name.now rows c.in-Some.ensures.name c.in-Some.ensures.rows ∙ ap (λ (n : Text). Some (n, rows)) name_is, c.in_ok-judge_in-in-Some.ensures)

pub returns-in_ok-map_in-in-Some : goal.returns-in_ok-map_in-in-Some
returns-in_ok-map_in-in-Some c =
    let rows = rows_of (found_of c.in-Some.inner.now) in
    let name_is : c.in-Some.name.now ≡ codes "map" = (bytes_eq-Decides c.in-Some.name.now (codes "map")).0 (sym c.eq-else-eq-8.ensures ∙ c.if-eq-9.true) in
    (rows, named _ _ _ c.in-Some.name.now rows c.in-Some.ensures.name c.in-Some.ensures.rows ∙ ap (λ (n : Text). Some (n, rows)) name_is, c.in_ok-map_in-in-Some.ensures)

pub returns-in_ok-execute_in-in-Some : goal.returns-in_ok-execute_in-in-Some
returns-in_ok-execute_in-in-Some c =
    let rows = rows_of (found_of c.in-Some.inner.now) in
    let name_is : c.in-Some.name.now ≡ codes "execute" = (bytes_eq-Decides c.in-Some.name.now (codes "execute")).0 (sym c.eq-else-eq-9.ensures ∙ c.if-eq-10.true) in
    (rows, named _ _ _ c.in-Some.name.now rows c.in-Some.ensures.name c.in-Some.ensures.rows ∙ ap (λ (n : Text). Some (n, rows)) name_is, c.in_ok-execute_in-in-Some.ensures)

pub returns-in_ok-sim_in-in-Some : goal.returns-in_ok-sim_in-in-Some
returns-in_ok-sim_in-in-Some c =
    let rows = rows_of (found_of c.in-Some.inner.now) in
    let name_is : c.in-Some.name.now ≡ codes "sim" = (bytes_eq-Decides c.in-Some.name.now (codes "sim")).0 (sym c.eq-else-eq-10.ensures ∙ c.if-eq-11.true) in
    (rows, named _ _ _ c.in-Some.name.now rows c.in-Some.ensures.name c.in-Some.ensures.rows ∙ ap (λ (n : Text). Some (n, rows)) name_is, c.in_ok-sim_in-in-Some.ensures)

pub returns-in_ok-change_in-in-Some : goal.returns-in_ok-change_in-in-Some
returns-in_ok-change_in-in-Some c =
    let rows = rows_of (found_of c.in-Some.inner.now) in
    let name_is : c.in-Some.name.now ≡ codes "change" = (bytes_eq-Decides c.in-Some.name.now (codes "change")).0 (sym c.eq-else-eq-11.ensures ∙ c.if-eq-12.true) in
    (rows, named _ _ _ c.in-Some.name.now rows c.in-Some.ensures.name c.in-Some.ensures.rows ∙ ap (λ (n : Text). Some (n, rows)) name_is, c.in_ok-change_in-in-Some.ensures)

pub returns-in_ok-vehicles_in-in-Some : goal.returns-in_ok-vehicles_in-in-Some
returns-in_ok-vehicles_in-in-Some c =
    let rows = rows_of (found_of c.in-Some.inner.now) in
    let name_is : c.in-Some.name.now ≡ codes "vehicles" = (bytes_eq-Decides c.in-Some.name.now (codes "vehicles")).0 (sym c.eq-else-eq-12.ensures ∙ c.if-eq-13.true) in
    (rows, named _ _ _ c.in-Some.name.now rows c.in-Some.ensures.name c.in-Some.ensures.rows ∙ ap (λ (n : Text). Some (n, rows)) name_is, c.in_ok-vehicles_in-in-Some.ensures)
