-- All is handed on.
use Rattle.std.proofs.Common.{◌∙◌, refl, ap, arith, map}
use Rattle.rtrb.specs.Ring.{sent}
use Rattle.fleet_talk.specs.Chapters.{chapter_shown}
use Rattle.live_fleet.specs.Out.{out_of}
use Rattle.fleet_live.proofs.ByPlace.{all-handed, lent-handed, lent-within}
use Rattle.fleet_live.proofs.listeners.LiveListeners.hand_on.Goals as goal

pub hand_texts-requires : goal.hand_texts-requires
hand_texts-requires g c = record {
  within = lent-within _ c.args.self.now.texts.items c.deref_mut.result.now c.args.out.now.texts.items c.deref_mut-2.result.now c.deref_mut.ensures.value c.deref_mut-2.ensures.value c.requires.within;
}

pub returns-then-not-party : goal.returns-then-not-party
returns-then-not-party g c =
    let hands = lent-handed _ c.args.self.now.texts.items c.deref_mut.result.now c.hand_texts.new.texts c.hand_chapters.new.self.texts.items c.args.out.now.texts.items c.deref_mut-2.result.now c.hand_texts.new.waits _ c.args.self.now.texts.len
    c.args.out.now.texts.len c.deref_mut.ensures.value c.deref_mut-2.ensures.value (omega (arith, c.args.self.now.texts.ok.0)) (omega (arith, c.args.out.now.texts.ok.0)) (ap (λ v. v.items) c.hand_chapters.ensures.texts) refl c.in_ok-hand_texts.ensures.handed in
    record {
      hands = all-handed chapter_shown c.args.self.now.texts.items c.hand_chapters.new.self.texts.items (sent c.args.self.now.chapters) (sent c.hand_chapters.new.self.chapters) c.args.out.now.chapters.items c.hand_chapters.new.chapters.items
          (out_of c.args.out.now) _ hands c.requires.within c.hand_chapters.ensures.sent c.hand_chapters.ensures.none refl refl;
      none = ap (map chapter_shown) c.hand_chapters.ensures.none;
      log = c.hand_chapters.ensures.log;
    }

pub returns : goal.returns
returns g c =
    let hands = lent-handed _ c.args.self.now.texts.items c.deref_mut.result.now c.hand_texts.new.texts c.end-kept.new.self.texts.items c.args.out.now.texts.items c.deref_mut-2.result.now c.hand_texts.new.waits _ c.args.self.now.texts.len
    c.args.out.now.texts.len c.deref_mut.ensures.value c.deref_mut-2.ensures.value (omega (arith, c.args.self.now.texts.ok.0)) (omega (arith, c.args.out.now.texts.ok.0)) (ap (λ v. v.items) (c.end-kept.ensures.texts ∙ c.hand_chapters.ensures.texts)) refl
    c.in_ok-hand_texts.ensures.handed in
    record {
      hands = all-handed chapter_shown c.args.self.now.texts.items c.end-kept.new.self.texts.items (sent c.args.self.now.chapters) (sent c.end-kept.new.self.chapters) c.args.out.now.chapters.items c.hand_chapters.new.chapters.items
          (out_of c.args.out.now) _ hands c.requires.within (ap sent c.end-kept.ensures.chapters ∙ c.hand_chapters.ensures.sent) c.hand_chapters.ensures.none refl refl;
      none = ap (map chapter_shown) c.hand_chapters.ensures.none;
      log = c.end-kept.ensures.log ∙ c.hand_chapters.ensures.log;
    }
