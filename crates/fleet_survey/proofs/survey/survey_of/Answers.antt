use Rattle.std.proofs.Common.{ℕ, List, arith, refl, subst, sym}
use Rattle.fleet_bridge.specs.Roominess.{AreRoomyFor}
use Rattle.fleet_survey.proofs.DeadEnds.{ends_are}
use Rattle.fleet_survey.proofs.Sets.{roomy_are, unroomy_are}
use Rattle.fleet_survey.proofs.Standings.{standing_is}
use Rattle.fleet_survey.proofs.survey.survey_of.Goals as goal

pub unroomy_by-requires : goal.unroomy_by-requires
unroomy_by-requires c =
    subst (λ (xs : List ℕ). AreRoomyFor c.args.grid.now xs) (sym c.deref.ensures.value) (record { size = omega (arith, c.in_ok-most.ensures.size, c.in_ok-most.most.ok.0); each = c.in_ok-most.ensures.exact })

pub returns : goal.returns
returns c =
    let m = c.args.grid.now in
    let n = c.args.robots in
    let marks = c.in_ok-marked.marked.marks.items in
    let known = c.in_ok-marked.ensures in
    let roomy = roomy_are m n marks c.in_ok-roomy.roomy.items known c.in_ok-roomy.ensures in
    let unroomy = unroomy_are m n marks c.in_ok-unroomy.unroomy.items known c.in_ok-unroomy.ensures in
    record {
      robots = refl;
      height = c.height.ensures.value;
      width = c.width.ensures.value;
      floor = c.floor_count.ensures;
      edges = c.edge_count.ensures;
      bridges = record { each = c.in_ok-bridges.ensures.exact; order = c.in_ok-bridges.ensures.order };
      roomy = roomy;
      unroomy = unroomy;
      ends = ends_are m n marks c.in_ok-ends.ends.items known c.in_ok-ends.ensures;
      served = c.in_ok-served.ensures;
      most = record { size = omega (arith, c.in_ok-most.ensures.size, c.in_ok-most.most.ok.0); each = c.in_ok-most.ensures.exact };
      standing =
          standing_is m n c.in_ok-bridges.bridges.items c.in_ok-roomy.roomy.items c.in_ok-unroomy.unroomy.items marks c.standing_of-standing.result
          c.height.ensures.form (record { each = c.in_ok-bridges.ensures.exact; order = c.in_ok-bridges.ensures.order }) roomy unroomy known c.standing_of-standing.ensures;
    }
