-- The page of these chapters.
use Rattle.fleet_map.specs.Grammar.{view}
use Rattle.fleet_trace.specs.Trace.{trace_of}
use Rattle.fleet_view.proofs.Made.{page-made}
use Rattle.fleet_view.proofs.view.page_on.Goals as goal

pub returns-in-Ok-judged_page-clause-page : goal.returns-in-Ok-judged_page-clause-page
returns-in-Ok-judged_page-clause-page c = λ bytes read. page-made (view c.args.ground.now.floor) bytes _ trace_of c.in-Ok.chapters.items c.deref.result.now _ read c.in-Ok.ensures.told c.deref.ensures.value c.in-Ok-judged_page.ensures
