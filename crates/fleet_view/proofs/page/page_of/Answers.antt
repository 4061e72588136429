-- The page's pieces.
use Rattle.std.proofs.Common.{map}
use Rattle.fleet_map.specs.Grammar.{view}
use Rattle.fleet_trace.specs.Trace.{trace_of}
use Rattle.fleet_view.proofs.Rows.{page-is}
use Rattle.fleet_view.proofs.page.page_of.Goals as goal

pub returns : goal.returns
returns c =
    page-is (view c.args.floor.now) c.args.verdicts.now (map trace_of c.args.chapters.now) c.as_bytes.result.now c.in_ok-out.out.items c.write_rows.new.out.items c.deref.result.now c.extend_from_slice.new.self.items c.as_bytes-2.result.now
    c.write_verdicts.new.out.items c.extend_from_slice-2.new.self.items c.as_bytes-3.result.now c.write_chapters.new.out.items c.extend_from_slice-3.new.self.items c.as_bytes-4.result.now
    c.extend_from_slice-4.new.self.items c.as_bytes-5.result.now
    c.in_ok-out.ensures.items c.as_bytes.ensures.value c.in_ok-write_rows.ensures c.deref.ensures.value c.in_ok-extend_from_slice.ensures.items c.as_bytes-2.ensures.value
    c.in_ok-write_verdicts.ensures c.in_ok-extend_from_slice-2.ensures.items c.as_bytes-3.ensures.value c.in_ok-write_chapters.ensures c.in_ok-extend_from_slice-3.ensures.items c.as_bytes-4.ensures.value c.in_ok-extend_from_slice-4.ensures.items c.as_bytes-5.ensures.value
