use Rattle.fleet_c.proofs.Queued.{queue-short, queue-told}
use Rattle.fleet_c.proofs.errands.tell_queue.Goals as goal

pub returns-then-errands-length : goal.returns-then-errands-length
returns-then-errands-length c =
    queue-short c.args.core.now c.args.all.now c.args.robot c.requires.all c.requires.known c.args.errands.now c.args.count.now c.last_place-length.result c.last_place-length.ensures c.if-errands-length.true

pub returns : goal.returns
returns c =
    queue-told c.args.core.now c.args.all.now c.args.robot c.requires.all c.requires.known c.args.errands.now c.put_errands.new.errands c.args.count.now c.last_place-length.result
    c.last_place-length.ensures c.if-errands-length.false c.put_errands.auto.errands c.put_errands.ensures
