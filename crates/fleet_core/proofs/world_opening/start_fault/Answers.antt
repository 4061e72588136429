-- Why an opening is refused where its limits are in range, and that it is not.
use Rattle.std.proofs.Common.{rules}
use Rattle.fleet_core.proofs.world_opening.start_fault.Goals as goal

pub returns-in-Some : goal.returns-in-Some
returns-in-Some g c = (
  (c.is_valid.ensures.0 c.if-not-is_valid.false, (c.if-clients-lt1.false, c.if-clients-gt-MOST_CLIENTS.false)),
  (search rules, c.if-starts-gt-MOST_ROBOTS.false),
  c.in-Some.ensures,
)

pub returns-in-Some-first_shared : goal.returns-in-Some-first_shared
returns-in-Some-first_shared g c = (
  (c.is_valid.ensures.0 c.if-not-is_valid.false, (c.if-clients-lt1.false, c.if-clients-gt-MOST_CLIENTS.false)),
  (search rules, c.if-starts-gt-MOST_ROBOTS.false),
  c.in_default.ensures,
  c.in-Some-first_shared.ensures,
)

pub returns : goal.returns
returns g c = record {
  range = (c.is_valid.ensures.0 c.if-not-is_valid.false, (c.if-clients-lt1.false, c.if-clients-gt-MOST_CLIENTS.false));
  robots = (search rules, c.if-starts-gt-MOST_ROBOTS.false);
  placed = record {
    on_floor = c.in_default.ensures;
    distinct = λ i j b k s. c.in_default-first_shared.ensures i j (record { before = b; known = k; same = s });
  };
}
