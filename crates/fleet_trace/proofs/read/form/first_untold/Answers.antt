use Rattle.std.proofs.Common.{◌∙◌, sym}
use Rattle.std.specs.declared.alloc.Global.{Global}
use Rattle.serde_json.specs.View.{view}
use Rattle.fleet_trace.specs.Told.{entry_in}
use Rattle.fleet_trace.proofs.ErrandNames.{none_is}
use Rattle.fleet_trace.proofs.FormParts.{is_there, told_more, told_all, first_here}
use Rattle.fleet_trace.proofs.read.form.first_untold.Goals as goal

pub returns-then-not-branch : goal.returns-then-not-branch
returns-then-not-branch c =
    let told = entry_in {A = Global} c.args.version (view c.index-values-at.result) in
    first_here c.args.version view c.args.values.now c.loop-at.at c.index-values-at.result c.loop-at-test.true c.index-values-at.is
    (none_is told (sym (c.in_ok-is_told.ensures told c.read_value.ensures) ∙ c.if-not-branch.true)) c.loop-at.invariant

pub loop-at-preserved : goal.loop-at-preserved
loop-at-preserved c =
    let told = entry_in {A = Global} c.args.version (view c.index-values-at.result) in
    told_more (entry_in {A = Global} c.args.version) view c.args.values.now c.loop-at.at c.index-values-at.result c.loop-at-test.true c.index-values-at.is
    (is_there told (sym (c.in_ok-is_told.ensures told c.read_value.ensures) ∙ c.if-not-branch.false)) c.loop-at.invariant

pub returns : goal.returns
returns c = told_all (entry_in {A = Global} c.args.version) view c.args.values.now c.loop-at.at c.loop-at-test.false c.loop-at.invariant
