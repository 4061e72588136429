-- The text of the conversation grew.
use Rattle.std.proofs.Common.{ℕ, Vec, Global, ◌<◌, length, arith}
use Rattle.std.proofs.lemmas.List.{get_or_read}
use Rattle.live_fleet.proofs.Texts.{grown-at, if-said}
use Rattle.live_fleet.proofs.outboxes.Outboxes.say.Goals as goal

pub returns-clause-texts : goal.returns-clause-texts
returns-clause-texts c =
    let inside : c.args.to < length c.args.self.now.texts.items = omega (arith, c.requires, c.args.self.now.texts.ok.0) in
    if-said c.extend_from_slice.result _ _ _ c.extend_from_slice.ensures.items
    (λ h. grown-at (λ (t : Vec ℕ Global). t.items) c.args.self.now.texts.items c.args.to c.index_mut.result.now c.extend_from_slice.new.self c.args.text.now inside
    (get_or_read c.args.self.now.texts.items c.args.to c.index_mut.result.now inside c.index_mut.ensures.value c.index_mut.result.now) h)
