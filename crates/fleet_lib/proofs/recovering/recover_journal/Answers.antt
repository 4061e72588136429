-- The chapter, and each reason why there is none.
use Rattle.std.proofs.Common.{◌∙◌, option_map, sym}
use Rattle.fleet_trace.specs.Trace.{trace_of}
use Rattle.fleet_lib.proofs.Journals.{astray-fault, is-recovered, number-fault, unlawful-fault, unread-fault}
use Rattle.fleet_lib.proofs.recovering.recover_journal.Goals as goal

pub returns-in-Err-clause-fault : goal.returns-in-Err-clause-fault
returns-in-Err-clause-fault c =
    let floor = c.in_ok-grid.ensures.ok in
    unread-fault c.args.map.now (option_map (λ b. b.now) c.args.before) c.args.journal.text.now c.args.journal.number floor.0 floor.1 c.written-whole.result.now c.written-whole.ensures
    c.in-Err.fault c.unread.result c.in-Err.ensures.fault c.unread.ensures

pub returns-then-chapter-journal-clause-fault : goal.returns-then-chapter-journal-clause-fault
returns-then-chapter-journal-clause-fault c =
    let floor = c.in_ok-grid.ensures.ok in
    number-fault c.args.map.now (option_map (λ b. b.now) c.args.before) c.args.journal.text.now c.args.journal.number floor.0 floor.1 c.written-whole.result.now c.written-whole.ensures
    (trace_of c.in-Ok.read.chapter) c.in-Ok.ensures.told c.if-chapter-journal.true

pub returns-in-Err-judged-clause-fault : goal.returns-in-Err-judged-clause-fault
returns-in-Err-judged-clause-fault c =
    let floor = c.in_ok-grid.ensures.ok in
    unlawful-fault c.args.map.now (option_map (λ b. b.now) c.args.before) c.args.journal.text.now c.args.journal.number floor.0 floor.1 c.written-whole.result.now c.written-whole.ensures
    (trace_of c.in-Ok.read.chapter) c.in-Ok.ensures.told c.if-chapter-journal.false c.in_ok-grid.grid floor.2 c.as_str.result.now (c.as_str.ensures.value ∙ c.in_ok-trace.ensures)
    c.in-Err-judged.fault c.in-Err-judged.ensures.fault

pub returns-then-not-branch-clause-fault : goal.returns-then-not-branch-clause-fault
returns-then-not-branch-clause-fault c =
    let floor = c.in_ok-grid.ensures.ok in
    astray-fault c.args.map.now (option_map (λ b. b.now) c.args.before) c.args.journal.text.now c.args.journal.number floor.0 floor.1 c.written-whole.result.now c.written-whole.ensures
    (trace_of c.in-Ok.read.chapter) c.in-Ok.ensures.told c.if-chapter-journal.false c.in_ok-grid.grid floor.2 c.as_str-2.result.now (c.as_str-2.ensures.value ∙ c.in_ok-trace.ensures)
    c.in-Ok-judged.ensures.ok (c.in_ok-follows.ensures.no c.if-not-branch.true)

pub returns-clause-ok : goal.returns-clause-ok
returns-clause-ok c =
    let floor = c.in_ok-grid.ensures.ok in
    is-recovered c.args.map.now (option_map (λ b. b.now) c.args.before) c.args.journal.text.now c.args.journal.number floor.0 floor.1 c.written-whole.result.now c.written-whole.ensures
    (trace_of c.in-Ok.read.chapter) c.in-Ok.ensures.told c.if-chapter-journal.false c.in_ok-grid.grid floor.2 c.as_str-2.result.now (c.as_str-2.ensures.value ∙ c.in_ok-trace.ensures)
    c.in-Ok-judged.ensures.ok (c.in_ok-follows.ensures.yes c.if-not-branch.false) _ c.in-Ok.read.cut (sym c.as_str-2.ensures.value) c.lines_of.ensures c.in-Ok.ensures.cut c.cut_of.ensures
