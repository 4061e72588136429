-- The page's pieces.
use Rattle.fleet_map.specs.Grammar.{view}
use Rattle.fleet_view.proofs.Signs.{runs-is}
use Rattle.fleet_view.proofs.runs.runs_page.Goals as goal

pub returns : goal.returns
returns c =
    runs-is (view c.args.floor.now) c.args.runs.now c.as_bytes.result.now c.in_ok-out.out.items c.write_rows.new.out.items c.deref.result.now c.extend_from_slice.new.self.items c.as_bytes-2.result.now
    c.extend_from_slice-2.new.self.items c.as_bytes-3.result.now c.extend_from_slice-3.new.self.items c.extend_from_slice-4.new.self.items c.as_bytes-4.result.now
    c.extend_from_slice-5.new.self.items c.as_bytes-5.result.now
    c.in_ok-out.ensures.items c.as_bytes.ensures.value c.in_ok-write_rows.ensures c.deref.ensures.value c.in_ok-extend_from_slice.ensures.items c.as_bytes-2.ensures.value
    c.in_ok-extend_from_slice-2.ensures.items c.as_bytes-3.ensures.value c.in_ok-extend_from_slice-3.ensures.items c.in_ok-extend_from_slice-4.ensures.items c.as_bytes-4.ensures.value c.in_ok-extend_from_slice-5.ensures.items c.as_bytes-5.ensures.value
