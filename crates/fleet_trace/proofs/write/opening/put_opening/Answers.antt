-- The members of an opening, put in one by one.
use Rattle.std.proofs.Common.{◌≡◌, ◌∙◌, ap, subst, refl, codes, map, List, arith}
use Rattle.std.specs.List.{AllByRecursion}
use Rattle.std.proofs.lemmas.Result.{on_ok_weaker}
use Rattle.serde_json.specs.Data.{Data, Members, member, no_members, object, put}
use Rattle.fleet_history.specs.declared.history.ClientState.{ClientState}
use Rattle.fleet_history.specs.declared.history.RobotState.{RobotState}
use Rattle.fleet_trace.specs.Fits.{ClientFits, RobotFits}
use Rattle.fleet_trace.specs.Text.{client_data, listed, robot_data}
use Rattle.fleet_trace.proofs.write.opening.put_opening.Goals as goal

put_in : {a b c d e f : Members} {clients life queue robots tick clients2 life2 queue2 robots2 tick2 : Data} → a ≡ no_members
    → b ≡ put (codes "clients") clients a → c ≡ put (codes "life") life b → d ≡ put (codes "queue") queue c → e ≡ put (codes "robots") robots d
    → clients ≡ clients2 → life ≡ life2 → queue ≡ queue2 → robots ≡ robots2 → tick ≡ tick2 → f ≡ put (codes "tick") tick e
    → object f ≡ object (member (codes "clients") clients2 (member (codes "life") life2 (member (codes "queue") queue2 (member (codes "robots") robots2 (member (codes "tick") tick2 no_members)))))
put_in none p q r s u v w x y t = rw (t, s, r, q, p, none, u, v, w, x, y) refl

pub returns-clause-value : goal.returns-clause-value
returns-clause-value g c =
    let clients = c.in_ok-clients.ensures.value ∙ ap (λ xs. listed (map client_data xs)) c.as_slice.ensures in
    let robots = c.in_ok-robots.ensures.value ∙ ap (λ xs. listed (map robot_data xs)) c.as_slice-2.ensures in
    on_ok_weaker c.put-5.result
    (put_in c.requires c.in_ok-put.ensures.ok c.in_ok-put-2.ensures.ok c.in_ok-put-3.ensures.ok c.in_ok-put-4.ensures.ok clients c.from.ensures c.from-2.ensures robots c.from-3.ensures) c.put-5.ensures.ok

pub returns-clause-fits : goal.returns-clause-fits
returns-clause-fits g c = on_ok_weaker c.put-5.result (λ _. record {
  tick = omega arith;
  queue = omega arith;
  life = omega arith;
  clients = subst (λ (xs : List ClientState). AllByRecursion ClientFits xs) c.as_slice.ensures c.in_ok-clients.ensures.fits;
  robots = subst (λ (xs : List (RobotState _)). AllByRecursion RobotFits xs) c.as_slice-2.ensures c.in_ok-robots.ensures.fits;
}) c.put-5.ensures.ok
