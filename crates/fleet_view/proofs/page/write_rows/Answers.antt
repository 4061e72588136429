-- One more row of the map.
use Rattle.fleet_view.proofs.Rows.{next-row, cells-left}
use Rattle.fleet_view.proofs.page.write_rows.Goals as goal

pub loop-row-preserved : goal.loop-row-preserved
loop-row-preserved c = record {
  left = cells-left c.args.height c.loop-row.row c.args.width c.loop-row-test.true c.loop-row.rest.now c.split_at.result.1.now c.loop-row.invariant.left c.split_at.ensures.back;
  written = next-row c.args.height c.loop-row.row c.args.width c.loop-row-test.true c.loop-row.out.items c.loop-row.rest.now c.split_at.result.0.now c.split_at.result.1.now c.extend_from_slice.new.self.items c.push.new.self.items _
      c.loop-row.invariant.written c.split_at.ensures.front c.split_at.ensures.back c.in_ok-extend_from_slice.ensures.items c.in_ok-push.ensures.items;
}
