-- What the history of a concluded office says of the clients that ran their lines.
use Rattle.std.proofs.Common.{◌≡◌, ◌∙◌, ℕ, ◌<◌, List, ◌++◌, length, Some, None, Result, Ok, Err, refl, sym, subst, arith}
use Rattle.std.specs.Prelude.{Vec, slice_get, IfOk}
use Rattle.std.specs.declared.alloc.Global.{Global}
use Rattle.fleet_grid.specs.Floor.{Floor}
use Rattle.fleet_book.specs.declared.event.Event.{Event}
use Rattle.fleet_book.specs.declared.notice.Notice.{Notice}
use Rattle.fleet_history.specs.History.{History, clock}
use Rattle.fleet_history.specs.Legal.{IsLegal}
use Rattle.fleet_history.specs.Laws.{orders, EachTick}
use Rattle.fleet_history.specs.Notices.{notices}
use Rattle.mover.specs.Moving.{IsPlannedAs}
use Rattle.fleet_bound.specs.Bound.{WaitsAreBounded}
use Rattle.fleet_bound.specs.Roomy.{AdvancesIfRoomy, HasBound}
use Rattle.fleet_core.specs.Core.{World}
use Rattle.fleet_lanes.specs.Ends.{ClientView}
use Rattle.fleet_lanes.specs.Names.{LaneName}
use Rattle.fleet_office.specs.Concluded.{AreTold, HasAll}
use Rattle.fleet_office.specs.Since.{IsChapterSince}
use Rattle.fleet_office.specs.Views.{AreOn, AreDistinct, core, cores}
use Rattle.fleet_office.proofs.Places.{map_at, within, there_is}
use Rattle.fleet_serve.specs.Posted.{posts, until_close, IsSubsequence, FullPosts, ComeTo, AllHaveRun, AreFullCounted, TakesPosted, TakesAll, AreLastNotices}
use Rattle.fleet_serve.specs.inside.Ends.{IsEnd}
use Rattle.fleet_serve.proofs.Counts.{none-met}

module _ {A : Type 0} (began : World A) (h : History A) (number count : ℕ) (cs : List (ClientView A)) (rests : List (Vec Notice A))
    (first : number ≡ began.number) (told : AreTold began number h cs rests) (all : HasAll count cs) where
  pub last-notices : AreLastNotices h rests count
  last-notices = λ c l.
      let a = all c l in
      let t = told a.0 a.1 a.2 in
      (t.0, subst (λ n. slice_get rests n ≡ Some t.0) a.3 t.1, (a.1.collected, subst (λ n. a.1.collected ++ t.0.items ≡ notices h n) a.3 (sym (t.2.notices first))))

  module _ (events : List Event) (most full : ℕ) (ran : AllHaveRun events most cs full) where
    pub takes-posted : TakesPosted h events count
    takes-posted = λ c l.
        let a = all c l in
        let t = told a.0 a.1 a.2 in
        let r = there_is ran.counts a.0 (omega (arith, within cs a.0 a.1 a.2, ran.count)) in
        subst (λ n. IsSubsequence (orders h n) (posts n events)) a.3
        (subst (λ os. IsSubsequence os (posts a.1.number events)) (sym (t.2.orders first)) (ran.each a.0 a.1 r.0 a.2 r.1).1.part)

    pub takes-all : full ≡ 0 → length events < most → TakesAll h events count
    takes-all none room = λ c l.
        let a = all c l in
        let t = told a.0 a.1 a.2 in
        let r = there_is ran.counts a.0 (omega (arith, within cs a.0 a.1 a.2, ran.count)) in
        subst (λ n. orders h n ≡ until_close (posts n events)) a.3
        (t.2.orders first ∙ (ran.each a.0 a.1 r.0 a.2 r.1).1.whole (none-met ran.counts full a.0 r.0 ran.sum none r.1) room)

    -- the count of a place is that of its client
    client_of : (k : ℕ) (y : FullPosts) → slice_get ran.counts k ≡ Some y → (x : ClientView A) × (slice_get cs k ≡ Some x) × (y.client ≡ x.number)
    client_of k y at =
        let x = there_is cs k (omega (arith, within ran.counts k y at, ran.count)) in
        (x.0, x.1, (ran.each k x.0 y x.1 at).0)

    pub full-counted : (rings : List (LaneName A)) → length rings ≡ count → AreOn rings (cores cs) → AreDistinct (cores cs) → AreFullCounted h events most count full
    full-counted rings many on distinct = record {
      counts = ran.counts;
      each = λ k y at.
          let x = client_of k y at in
          let run = (ran.each k x.0 y x.1 at).1 in
          let t = told k x.0 x.1 in (
            omega (arith, x.2, within rings x.0.number x.0.lane (on k (core x.0) (map_at core cs k x.0 x.1)), many),
            subst (λ n. ComeTo most (posts n events) (orders h n) y.count) (sym x.2)
                (subst (λ os. ComeTo most (posts x.0.number events) os y.count) (sym (t.2.orders first)) run.come),
          );
      all = λ c l.
          let a = all c l in
          let y = there_is ran.counts a.0 (omega (arith, within cs a.0 a.1 a.2, ran.count)) in
          (a.0, y.0, y.1, (ran.each a.0 a.1 y.0 a.2 y.1).0 ∙ a.3);
      once = λ i j y z at there same.
          let a = client_of i y at in
          let b = client_of j z there in
          distinct i j (core a.0) (core b.0) (map_at core cs i a.0 a.1) (map_at core cs j b.0 b.1) (sym a.2 ∙ same ∙ b.2);
      sum = ran.sum;
    }

-- a serve that came to its end
pub is-end : (began : World Global) (m : Floor) (h : History Global) (number ticks : ℕ) (rings : List (LaneName Global)) (cs : List (ClientView Global)) (rests : List (Vec Notice Global)) → number ≡ 0 → IsChapterSince began m number h → AreTold began number h cs rests → HasAll (length rings) cs
    → AreOn rings (cores cs) → AreDistinct (cores cs)
    → (events : List Event) (most full : ℕ) → AllHaveRun events most cs full → IsLegal m h → EachTick (IsPlannedAs began.turns m began.ties) h → (began.turns ≡ None → AdvancesIfRoomy m h)
    → (began.turns ≡ None → HasBound m h → WaitsAreBounded m h) → ticks ≡ clock h
    → IsEnd began events most (length rings) full m h number ticks rests
is-end began m h number ticks rings cs rests first since told all on distinct events most full ran legal planned advancing bounded tick =
    let own : number ≡ began.number = omega (arith, first, since.later) in
    record {
      first = first;
      floor = since.floor;
      opening = since.opening own;
      legal = legal;
      planned = planned;
      advancing = advancing;
      bounded = bounded;
      tick = tick;
      posted = takes-posted began h number (length rings) cs rests own told all events most full ran;
      all = takes-all began h number (length rings) cs rests own told all events most full ran;
      counted = full-counted began h number (length rings) cs rests own told all events most full ran rings refl on distinct;
      rest = last-notices began h number (length rings) cs rests own told all;
    }

-- what follows of what came
pub on_ok : {S E : Type 0} {P Q : S → Type 0} (r : Result S E) → IfOk r P → ((s : S) → P s → Q s) → IfOk r Q
on_ok (Ok s) p more = more s p
on_ok (Err e) p more = tt
