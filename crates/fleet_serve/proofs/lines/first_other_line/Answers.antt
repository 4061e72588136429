-- The first line that is none of a client's.
use Rattle.std.proofs.Common.{rules, ◌<◌, ◌≤◌, ◌≡◌, length, arith}
use Rattle.std.specs.Prelude.{slice_index_or}
use Rattle.std.proofs.lemmas.List.{get_or_read}
use Rattle.fleet_serve.specs.Posted.{IsLine}
use Rattle.fleet_serve.proofs.Others.{other_at, all-lines}
use Rattle.fleet_serve.proofs.lines.first_other_line.Goals as goal

pub returns-then-not-is_line-clause-some : goal.returns-then-not-is_line-clause-some
returns-then-not-is_line-clause-some c =
    let runs = c.args.script.now.runs.items in
    let run = c.index-run.result.now in
    let inside : c.loop-at.at < length runs = search rules in
    let read : run ≡ slice_index_or runs c.loop-at.at run = get_or_read runs c.loop-at.at run inside c.index-run.ensures run in
    let other : IsLine c.args.script.now.clients run.event → ⊥ = search rules in
    other_at c.args.script.now.clients runs c.loop-at.at run inside read c.loop-at.invariant other

pub returns-clause-none : goal.returns-clause-none
returns-clause-none c =
    let runs = c.args.script.now.runs.items in
    let all : length runs ≤ c.loop-at.at = search rules in
    all-lines c.args.script.now.clients runs (λ j d less. c.loop-at.invariant j d (omega (arith, less, all)))
