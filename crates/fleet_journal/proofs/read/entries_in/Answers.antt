-- Line by line.
use Rattle.std.proofs.Common.{List, Option, Global, subst, sym}
use Rattle.std.specs.Prelude.{IfSome}
use Rattle.fleet_history.specs.declared.history.Entry.{Entry}
use Rattle.fleet_journal.specs.Journal.{IsEntryLine}
use Rattle.fleet_journal.specs.inside.Reading.{HasRead}
use Rattle.fleet_journal.proofs.Readings.{begins, goes_on}
use Rattle.fleet_journal.proofs.read.entries_in.Goals as goal

pub loop-line-init : goal.loop-line-init
loop-line-init c = subst (λ (es : List (Entry Global)). HasRead c.args.bytes.now c.args.bytes.now es) (sym c.new-entries.ensures.items) (begins c.args.bytes.now)

pub loop-line-preserved : goal.loop-line-preserved
loop-line-preserved c =
    let told = subst (λ (o : Option (Entry Global)). IfSome o (λ e. IsEntryLine c.in-Some.line.now e)) c.in-Some-2.is c.in_ok-entry.ensures.some in
    subst (λ (es : List (Entry Global)). HasRead c.args.bytes.now c.in-Some.after.now es) (sym c.in_ok-push.ensures.items)
    (goes_on c.args.bytes.now c.loop-line.rest.now c.in-Some.line.now c.in-Some.after.now c.loop-line.entries.items c.in-Some-2.entry c.loop-line.invariant
    c.in-Some.ensures.cut c.in-Some.ensures.joined told)
