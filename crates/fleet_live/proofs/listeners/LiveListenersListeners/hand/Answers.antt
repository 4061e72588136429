-- The journal has all before anything is handed on.
use Rattle.std.proofs.Common.{◌≤◌, ◌++◌, ℕ, List, false, inl, inr, length, map, refl, ap, subst, sym}
use Rattle.rtrb.specs.Ring.{sent}
use Rattle.std.specs.declared.alloc.Global.{Global}
use Rattle.fleet_history.specs.declared.history.Chapter.{Chapter}
use Rattle.fleet_talk.specs.Chapters.{chapter_in, chapter_shown}
use Rattle.live_fleet.specs.Out.{out_of, text_at}
use Rattle.live_parts.specs.Kept.{AreSound}
use Rattle.fleet_live.specs.declared.text_out.TextOut.{TextOut}
use Rattle.fleet_live.specs.Logged.{HasAll, IsReady, log_view}
use Rattle.fleet_live.specs.Told.{ahead_at, handed_at}
use Rattle.fleet_live.proofs.Backed.{hands-from}
use Rattle.fleet_live.proofs.listeners.LiveListenersListeners.hand.Goals as goal

pub bring_down-requires : goal.bring_down-requires
bring_down-requires g c =
    let log = c.args.self.now.log in
    let (before, ready) = c.requires.ready in
    record {
      ready = (before, subst (λ (l : List (Chapter Global)). IsReady (log_view g.J.Journal.logged log.journal log.number log.entries) before (map chapter_shown l) (chapter_in c.args.party.now.fleet.session.world.core)) (sym c.deref.ensures.value) ready);
      sound = subst (λ (l : List (Chapter Global)). AreSound (map chapter_shown l)) (sym c.deref.ensures.value) c.requires.sound;
    }

pub hand_on-requires : goal.hand_on-requires
hand_on-requires g c = record {
  number = c.requires.number;
  within = subst (λ (l : List TextOut). (k : ℕ) → ahead_at l k ≤ length (text_at (out_of c.args.out.now) k)) (sym (ap (λ v. v.items) c.bring_down.ensures.texts)) c.requires.within;
  sound = c.requires.sound;
}

pub returns-then-not-bring_down : goal.returns-then-not-bring_down
returns-then-not-bring_down g c = record {
  hands = tt;
  none = tt;
  logged = λ before ready. inr (refl, λ k. ap (λ v. handed_at v.items k) c.bring_down.ensures.texts, ap (λ x. map chapter_shown (sent x)) c.bring_down.ensures.chapters);
}

pub returns : goal.returns
returns g c =
    let log = c.args.self.now.log in
    let core = c.args.party.now.fleet.session.world.core in
    record {
      hands = hands-from c.hand_on.result c.bring_down.new.self.texts.items c.args.self.now.texts.items _ _ (map chapter_shown (sent c.bring_down.new.self.chapters)) (map chapter_shown (sent c.args.self.now.chapters)) _ _ _ (ap (λ v. v.items) c.bring_down.ensures.texts)
          (ap (λ x. map chapter_shown (sent x)) c.bring_down.ensures.chapters) c.hand_on.ensures.hands;
      none = c.hand_on.ensures.none;
      logged = λ before ready. inl (subst (λ x. HasAll (log_view g.J.Journal.logged x.journal x.number x.entries) (before ++ (out_of c.args.out.now).chapters) (chapter_in core) false) (sym c.hand_on.ensures.log)
          (subst (λ (l : List (Chapter Global)). HasAll (log_view g.J.Journal.logged c.bring_down.new.self.log.journal c.bring_down.new.self.log.number c.bring_down.new.self.log.entries) (before ++ map chapter_shown l) (chapter_in core) false) c.deref.ensures.value
          (c.bring_down.ensures.logged c.if-not-bring_down.false before
          (subst (λ (l : List (Chapter Global)). IsReady (log_view g.J.Journal.logged log.journal log.number log.entries) before (map chapter_shown l) (chapter_in core)) (sym c.deref.ensures.value) ready))));
    }
