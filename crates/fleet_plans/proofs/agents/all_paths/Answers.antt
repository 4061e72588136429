-- One more line is read, or is at fault.
use Rattle.std.proofs.Common.{◌≡◌, ℕ, ◌+◌, ◌≤◌, List, [], ◌∷◌, ◌++◌, length, drop, slice_index_or, inr, Option, Some, None, IfSome, ap, subst, sym, ◌∙◌, arith}
use Rattle.std.proofs.lemmas.List.{length-append}
use Rattle.fleet_map.specs.Text.{lines_of}
use Rattle.fleet_plans.specs.declared.limit.TheConstants.{MOST_PLAN_BYTES}
use Rattle.fleet_plans.specs.Agents.{agent_in, AreAgents}
use Rattle.fleet_plans.proofs.Pieces.{drop_first, drop_none, agents_more, short_more}
use Rattle.fleet_plans.proofs.agents.all_paths.Goals as goal

-- the line in its place is the one that was read
module _ (w h : ℕ) (lines paths : List (List ℕ)) (line : List ℕ) (after : List (List ℕ)) (robot : ℕ) (read : Option (List ℕ)) (left : drop (length paths) lines ≡ line ∷ after) (count : robot ≡ length paths) (is : read ≡ agent_in w h robot line) where
  in_place : (found : Option (List ℕ)) → read ≡ found → agent_in w h (length paths) (slice_index_or lines (length paths) []) ≡ found
  in_place found here =
      let first = drop_first lines (length paths) line after left in
      subst (λ (k : ℕ). agent_in w h k (slice_index_or lines (length paths) []) ≡ found) count
      (subst (λ (l : List ℕ). agent_in w h robot l ≡ found) (sym first.1) (sym is ∙ here))

pub loop-line-preserved : goal.loop-line-preserved
loop-line-preserved c =
    let w = c.args.sides.width in
    let h = c.args.sides.height in
    let lines = lines_of c.args.text.now in
    let paths = c.loop-line.paths.items in
    let path = c.in-Some-2.path in
    let line = c.in-Some.line.now in
    let after = lines_of c.in-Some.after.now in
    let was = c.loop-line.invariant in
    let left : drop (length paths) lines ≡ line ∷ after = was.left ∙ c.in-Some.ensures.cut in
    let first = drop_first lines (length paths) line after left in
    let more : c.push.new.self.items ≡ paths ++ path ∷ [] = c.in_ok-push.ensures.items in
    let count : length c.push.new.self.items ≡ length paths + 1 = ap (λ (ps : List (List ℕ)). length ps) more ∙ length-append paths (path ∷ []) in
    let here = in_place w h lines paths line after c.len-robot.result c.in_ok-path.field-0 left (c.len-robot.ensures ∙ c.loop-line.paths.ok.0) c.in_ok-path.ensures.read (Some path) c.in-Some-2.is in
    let few : length path ≤ length line = subst (λ (o : Option (List ℕ)). IfSome o (λ list. length list ≤ length line)) c.in-Some-2.is c.in_ok-path.ensures.few in
    let short : length path ≤ MOST_PLAN_BYTES = omega (arith, few, c.in-Some.ensures.within, was.room, c.requires) in
    record {
      read = subst (λ (ps : List (List ℕ)). AreAgents w h lines (length ps) ps) (sym more) (agents_more w h lines paths path was.read here);
      left = subst (λ (n : ℕ). drop n lines ≡ after) (sym count) first.2;
      inside = omega (arith, count, first.0);
      room = omega (arith, count, was.room, c.in-Some.ensures.shorter);
      short = subst (λ (ps : List (List ℕ)). (r : ℕ) → length (slice_index_or ps r []) ≤ MOST_PLAN_BYTES) (sym more) (short_more MOST_PLAN_BYTES paths path was.short short);
    }

pub returns-in_default-2-clause-fault : goal.returns-in_default-2-clause-fault
returns-in_default-2-clause-fault c =
    let w = c.args.sides.width in
    let h = c.args.sides.height in
    let lines = lines_of c.args.text.now in
    let paths = c.loop-line.paths.items in
    let line = c.in-Some.line.now in
    let after = lines_of c.in-Some.after.now in
    let left : drop (length paths) lines ≡ line ∷ after = c.loop-line.invariant.left ∙ c.in-Some.ensures.cut in
    let count : c.len-robot.result ≡ length paths = c.len-robot.ensures ∙ c.loop-line.paths.ok.0 in
    record {
      robot = length paths;
      line_is = ap (λ (n : ℕ). n + 1) count;
      inside = inr (drop_first lines (length paths) line after left).0;
      paths = paths;
      before = c.loop-line.invariant.read;
      none = in_place w h lines paths line after c.len-robot.result c.in_ok-path.field-0 left count c.in_ok-path.ensures.read None c.in_default-2.is;
    }

pub returns-clause-read : goal.returns-clause-read
returns-clause-read c =
    let lines = lines_of c.args.text.now in
    let paths = c.loop-line.paths.items in
    let past = drop_none lines (length paths) (c.loop-line.invariant.left ∙ c.in_default.ensures.cut) in
    let all : length paths ≡ length lines = omega (arith, past, c.loop-line.invariant.inside) in
    subst (λ (n : ℕ). AreAgents c.args.sides.width c.args.sides.height lines n paths) all c.loop-line.invariant.read
