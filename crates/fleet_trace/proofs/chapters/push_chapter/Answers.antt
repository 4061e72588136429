-- One more chapter is read.
use Rattle.std.proofs.Common.{◌∙◌, [], ◌∷◌, ap, map}
use Rattle.std.proofs.lemmas.List.{map-append}
use Rattle.fleet_trace.specs.Trace.{trace_of}
use Rattle.fleet_trace.proofs.chapters.push_chapter.Goals as goal

pub returns-clause-told : goal.returns-clause-told
returns-clause-told c =
    (trace_of c.in_ok-chapter.chapter, c.in_ok-chapter.ensures.found, ap (map trace_of) c.in_ok-push.ensures.items ∙ map-append trace_of c.args.chapters.now.items (c.in_ok-chapter.chapter ∷ []))
