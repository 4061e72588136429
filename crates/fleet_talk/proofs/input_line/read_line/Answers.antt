-- One more part of a line, and its last.
use Rattle.std.proofs.Common.{◌≢◌, ◌∙◌, ◌++◌, sym, true≢false}
use Rattle.std.proofs.lemmas.List.Elements.{All-append}
use Rattle.std.proofs.KnownBytes.{Consumes-trans}
use Rattle.std.proofs.BufReadLemmas.{Consumes_through}
use Rattle.fleet_talk.proofs.Strips.{found_more, kept_part, kept_line}
use Rattle.fleet_talk.proofs.input_line.read_line.Goals as goal

pub loop-preserved : goal.loop-preserved
loop-preserved g c =
    let (short, done, none, some, read, kept) = c.loop.invariant in
    let (bs, long, stops, read', none', ends, end, more) = c.in-Ok.ensures.part in
    let free = none' (λ e. true≢false (sym e ∙ c.if-part.false)) in (
      c.in-Ok.ensures.short,
      done ++ bs,
      All-append (λ x. x ≢ 10) done bs none free,
      found_more c.loop.found done bs c.in-Ok.part.len long some,
      Consumes-trans _ _ _ _ _ read read',
      kept_part c.args.most c.loop.line.items c.read_part.new.line.items done bs free kept more,
    )

pub returns-then-part-clause-line : goal.returns-then-part-clause-line
returns-then-part-clause-line g c =
    let (short, done, none, some, read, kept) = c.loop.invariant in
    let (bs, long, stops, read', none', ends, end, more) = c.in-Ok.ensures.part in
    let last = c.if-part.true in
    let all = Consumes_through 10 _ _ _ done bs read none read' stops (ends last) (end last) in
    kept_line c.args.most (g.R.Read.remaining c.args.reader.now) c.loop.line.items c.read_part.new.line.items done bs none (ends last) kept more all.0

pub returns-then-part-clause-rest : goal.returns-then-part-clause-rest
returns-then-part-clause-rest g c =
    let (short, done, none, some, read, kept) = c.loop.invariant in
    let (bs, long, stops, read', none', ends, end, more) = c.in-Ok.ensures.part in
    let last = c.if-part.true in
    (Consumes_through 10 _ _ _ done bs read none read' stops (ends last) (end last)).1
