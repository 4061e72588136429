use Rattle.std.proofs.Common.{◌∙◌, ◌+◌, sym, subst, refl, Option}
use Rattle.fleet_trace.specs.inside.Opened.{IsGreatest}
use Rattle.fleet_trace.proofs.ErrandNames.{impossible, get-slice, falls, greatest_new, greatest_same, rising_new, rising_same, rising_all}
use Rattle.fleet_trace.proofs.judging.names.is_rising.Goals as goal
use Rattle.fleet_trace.proofs.judging.names.is_rising.Goals.{then-errand-client+else-not-is_above, else-errand-client}

pub returns-then-not-is_above : goal.returns-then-not-is_above
returns-then-not-is_above c =
    let errands = c.args.errands.now in
    let i = c.loop-errand.errand-index in
    let at = get-slice errands i _ c.loop-errand-test.true in (
      λ never. absurd (impossible never),
      λ rising. absurd (falls errands c.args.client i _ at c.if-errand-client.true c.loop-errand.last c.loop-errand.invariant.greatest (λ above. impossible (sym c.if-not-is_above.true ∙ c.is_above.ensures.1 above)) rising),
    )

pub loop-errand-preserved : goal.loop-errand-preserved
loop-errand-preserved c =
    let errands = c.args.errands.now in
    let i = c.loop-errand.errand-index in
    let at = get-slice errands i record { client = 0; number = 0; cell = 0 } c.loop-errand-test.true in
    let greatest = c.loop-errand.invariant.greatest in
    let rising = c.loop-errand.invariant.rising in
    let last = c.loop-errand.last in
    elim c.if-errand-client.branch [
      | then-errand-client+else-not-is_above w ↦ (let above = w.is_above.ensures.0 w.if-not-is_above.false in record {
        greatest = subst (λ (o : Option _). IsGreatest errands c.args.client (i + 1) o) (sym w.last-is) (greatest_new errands c.args.client i _ at w.if-errand-client.true last greatest above);
        rising = rising_new errands c.args.client i _ at last greatest above rising;
      })
      | else-errand-client w ↦ record {
        greatest = subst (λ (o : Option _). IsGreatest errands c.args.client (i + 1) o) (sym w.last-is) (greatest_same errands c.args.client i _ at w.if-errand-client.false last greatest);
        rising = rising_same errands c.args.client i _ at w.if-errand-client.false rising;
      }
    ]

pub returns : goal.returns
returns c = (λ _. rising_all c.args.errands.now c.args.client c.loop-errand.errand-index c.loop-errand-test.false c.loop-errand.invariant.rising, λ _. refl)
