use Rattle.std.proofs.Common.{◌∙◌, ◌<◌, sym, subst, refl, inl, inr, ℕ, arith}
use Rattle.fleet_trace.proofs.ErrandNames.{impossible}
use Rattle.fleet_trace.proofs.ShutRules.{shows_farewell, shows_no_farewell, farewell_stamp, stamp_farewell, no_farewell}
use Rattle.fleet_trace.proofs.judging.shuts.broken_shut.Goals as goal

pub returns-then-robot-robots : goal.returns-then-robot-robots
returns-then-robot-robots g c = λ m h is same. inl (refl, λ may. omega (arith, c.robots.ensures.of m h is, may.0))

pub returns-then-is_shut : goal.returns-then-is_shut
returns-then-is_shut g c = λ m h is same. inl (refl, λ may. impossible (sym may.1 ∙ sym (c.is_shut.ensures m h is) ∙ c.if-is_shut.true))

pub returns-then-is_some-is_none : goal.returns-then-is_some-is_none
returns-then-is_some-is_none g c = λ m h is same.
    let known = subst (λ (n : ℕ). c.args.robot < n) (c.robots.ensures.of m h is) c.if-robot-robots.false in
    let first = sym (c.is_shut.ensures m h is) ∙ c.if-is_shut.false in
    inr (inl (refl, (known, first), shows_no_farewell h c.args.robot c.args.farewell c.is_some.result c.is_none.result c.front.result c.is_some.ensures c.is_none.ensures (c.front.ensures.of m h is) c.if-is_some-is_none.true))

pub returns-then-not-is_last_stamp : goal.returns-then-not-is_last_stamp
returns-then-not-is_last_stamp g c = λ m h is same.
    let known = subst (λ (n : ℕ). c.args.robot < n) (c.robots.ensures.of m h is) c.if-robot-robots.false in
    let first = sym (c.is_shut.ensures m h is) ∙ c.if-is_shut.false in
    let shows = shows_farewell h c.args.robot c.args.farewell c.is_some.result c.is_none.result c.front.result c.is_some.ensures c.is_none.ensures (c.front.ensures.of m h is) c.if-is_some-is_none.false in
    let stamp = stamp_farewell h c.args.robot c.args.farewell c.args.robots.now c.in-Some.stamp same c.in-Some.is in
    inr (inr (refl, (known, first), shows, λ also. impossible (sym c.if-not-is_last_stamp.true ∙ c.is_last_stamp.ensures.1 (stamp also))))

pub returns-else-not-is_last_stamp : goal.returns-else-not-is_last_stamp
returns-else-not-is_last_stamp g c = λ m h is same. record {
  known = subst (λ (n : ℕ). c.args.robot < n) (c.robots.ensures.of m h is) c.if-robot-robots.false;
  first = sym (c.is_shut.ensures m h is) ∙ c.if-is_shut.false;
  leaves = shows_farewell h c.args.robot c.args.farewell c.is_some.result c.is_none.result c.front.result c.is_some.ensures c.is_none.ensures (c.front.ensures.of m h is) c.if-is_some-is_none.false;
  stamp = farewell_stamp h c.args.robot c.args.farewell c.args.robots.now c.in-Some.stamp same c.in-Some.is (c.is_last_stamp.ensures.0 c.if-not-is_last_stamp.false);
}

pub returns-in_default : goal.returns-in_default
returns-in_default g c = λ m h is same. record {
  known = subst (λ (n : ℕ). c.args.robot < n) (c.robots.ensures.of m h is) c.if-robot-robots.false;
  first = sym (c.is_shut.ensures m h is) ∙ c.if-is_shut.false;
  leaves = shows_farewell h c.args.robot c.args.farewell c.is_some.result c.is_none.result c.front.result c.is_some.ensures c.is_none.ensures (c.front.ensures.of m h is) c.if-is_some-is_none.false;
  stamp = no_farewell h c.args.robot c.args.farewell c.in_default.is;
}
