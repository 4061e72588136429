use Rattle.std.proofs.Common.{◌≡◌, [], ◌∷◌, ◌++◌, length, ap, arith, length-append}
use Rattle.fleet_office.specs.Views.{AreNew}
use Rattle.fleet_office.proofs.Pairs.{pairs-push}
use Rattle.fleet_office.proofs.desk.Desk.make.Goals as goal

pub loop-number-preserved : goal.loop-number-preserved
loop-number-preserved g c =
    let i = c.loop-number.invariant in
    let client = c.in_ok-client.client in
    let end = c.in_ok-client.end in
    let cs = c.loop-number.clients.items in
    let es = c.loop-number.ends.items in
    let a : c.push.new.self.items ≡ cs ++ client ∷ [] = c.in_ok-push.ensures.items in
    let b : c.push-in-loop-number.new.self.items ≡ es ++ end ∷ [] = c.in_ok-push-2.ensures.items in
    let born : AreNew client end (length cs) c.args.limits = record { client = rw i.0 c.in_ok-client.ensures.client; hall = c.in_ok-client.ensures.hall } in
    (omega (arith, ap length a, length-append cs (client ∷ []), i.0), rw (a, b) (pairs-push c.args.limits cs es client end i.1 born))
