-- One line more.
use Rattle.std.proofs.Common.{rules, ◌≡◌, ◌∙◌, ◌+◌, ◌-◌, ℕ, List, None, Some, true, false, drop, take, length, refl, sym, arith}
use Rattle.std.specs.List.{position}
use Rattle.fleet_live.specs.Quit.{ends_fleet, quit_from}
use Rattle.fleet_live.specs.Taken.{is_line_feed}
use Rattle.fleet_live.proofs.Quits.{after_line, at_none, at_quit, line_within}
use Rattle.fleet_live.proofs.lines_in.find_quit.Goals as goal

pub returns-in_default : goal.returns-in_default
returns-in_default c =
    let bytes = c.args.bytes.now in
    let rest : List ℕ = take (length bytes - c.loop-line.looked) (drop c.loop-line.looked bytes) in
    let none : position is_line_feed rest ≡ None = search rules in
    at_none c.args.rights bytes rest c.loop-line.looked (length bytes - c.loop-line._line) (quit_from c.args.rights bytes c.args.from) refl none c.loop-line.invariant.same

pub returns-then-ends_fleet : goal.returns-then-ends_fleet
returns-then-ends_fleet c =
    let bytes = c.args.bytes.now in
    let rest : List ℕ = take (length bytes - c.loop-line.looked) (drop c.loop-line.looked bytes) in
    let asked : ends_fleet c.args.rights (take c.in-Some.len rest) ≡ true = search rules in
    at_quit c.args.rights bytes rest c.loop-line.looked c.in-Some.len (length bytes - c.loop-line._line) (length bytes - (c.loop-line._line + 1)) (quit_from c.args.rights bytes c.args.from) (omega (arith, c.loop-line-test.true)) refl
    (sym c.line_len.ensures ∙ c.in-Some.is) asked c.loop-line.invariant.same

pub loop-line-preserved : goal.loop-line-preserved
loop-line-preserved c =
    let bytes = c.args.bytes.now in
    let rest : List ℕ = take (length bytes - c.loop-line.looked) (drop c.loop-line.looked bytes) in
    let asked : ends_fleet c.args.rights (take c.in-Some.len rest) ≡ false = search rules in
    let found : position is_line_feed rest ≡ Some c.in-Some.len = sym c.line_len.ensures ∙ c.in-Some.is in
    record {
      within = line_within bytes rest c.loop-line.looked c.in-Some.len c.loop-line.invariant.within refl found;
      same = after_line c.args.rights bytes rest c.loop-line.looked c.in-Some.len (length bytes - c.loop-line._line) (length bytes - (c.loop-line._line + 1)) (quit_from c.args.rights bytes c.args.from) (omega (arith, c.loop-line-test.true)) refl
          found asked c.loop-line.invariant.same;
    }
