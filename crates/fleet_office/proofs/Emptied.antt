-- A client's lane is emptied order by order.
use Rattle.std.proofs.Common.{◌≡◌, ℕ, ◌+◌, ◌*◌, ◌<◌, ◌≤◌, ◌++◌, ◌∷◌, [], true, List, length, Some, refl, ap, sym, ◌∙◌, subst, arith, ⊎_elim, inl, inr, append_assoc, length-append, eq-eqb}
use Rattle.std.specs.Prelude.{slice_get}
use Rattle.std.proofs.lemmas.List.{append-nil, get_or-set_other}
use Rattle.std.proofs.lemmas.List.Elements.{All-nil, All-append}
use Rattle.std.proofs.lemmas.Bool.{ne_eqb}
use Rattle.std.proofs.Math.ListN.{length-set}
use Rattle.fleet_book.specs.declared.order.Order.{Order}
use Rattle.fleet_book.specs.declared.verdict.Verdict.{Verdict}
use Rattle.fleet_history.specs.declared.history.Entry.{Entry}
use Rattle.fleet_history.specs.declared.history.Entry.TheVariants as entry
use Rattle.fleet_history.specs.History.{History, with_entries, is_take_of}
use Rattle.fleet_history.specs.Notices.{told}
use Rattle.fleet_history.proofs.Legal.{All-single}
use Rattle.fleet_core.specs.Pending.{Pending, no_pending}
use Rattle.fleet_core.specs.Core.{World, pending, Takes}
use Rattle.fleet_core.proofs.CoreKept.{told_to}
use Rattle.fleet_core.proofs.CoreKept.{length-delivered, box_at-delivered}
use Rattle.fleet_lanes.specs.Ends.{EndView, ClientView}
use Rattle.fleet_office.specs.Views.{OthersStay, Moves, IsSettled}
use Rattle.fleet_office.specs.Draining.{used, Widens, TakesNext, Drains}
use Rattle.fleet_office.proofs.Drains.{pending_wide}
use Rattle.fleet_office.proofs.Places.{there_is}

empty_list : {A : Type 0} (xs : List A) → length xs ≡ 0 → xs ≡ []
empty_list [] h = refl
empty_list (x ∷ xs) h = absurd (omega arith)

module _ {A : Type 0} where
  pub others_trans : (c : ℕ) (a b d : List (EndView A)) → OthersStay c a b → OthersStay c b d → OthersStay c a d
  others_trans c a b d p q = record { count = q.count ∙ p.count; each = λ k e apart at. p.each k e apart (q.each k e apart at) }

  -- what is known of the lane, with n orders taken of `left`
  abbrev pub Left : ℕ → List (EndView A) → ClientView A → ℕ → ℕ → Type 0
  Left c ends x n left = (e : EndView A) → slice_get ends c ≡ Some e → (e.taken ++ e.known ≡ x.sent) × (x.collected ++ x.known ≡ e.given) × (length e.known + n ≡ left)

  pub left_step : (c : ℕ) (ends new : List (EndView A)) (x : ClientView A) (n left : ℕ) → c < length ends → Moves c ends new → Left c ends x n left → Left c new x (n + 1) left
  left_step c ends new x n left inside moves h = λ d at.
      let e = there_is ends c inside in
      let was = h e.0 e.1 in
      let fewer = moves.fewer e.0 d e.1 at in
      (moves.lane e.0 d e.1 at ∙ was.0, was.1 ∙ sym (moves.given e.0 d e.1 at), omega (arith, was.2))

  pub left_end : (ends : List (EndView A)) (x : ClientView A) (n left : ℕ) → left ≤ n → Left x.number ends x n left → IsSettled ends x
  left_end ends x n left done h = record {
    taken = λ e at.
        let was = h e at in
        let none : e.known ≡ [] = empty_list e.known (omega (arith, was.2)) in
        sym (append-nil e.taken) ∙ ap (λ k. e.taken ++ k) (sym none) ∙ was.0;
    given = λ e at. (h e at).1;
  }

  -- ---- the worlds

  -- i orders of n were taken
  pub record DrainsSome (w : World A) (c n i : ℕ) (v : World A) : Type 0 where
    pub drains : Drains w c n v
    pub count : length drains.more ≡ i
    pub few : used v c ≤ used w c + 2 * i

  pub drains_none : (w : World A) (c n : ℕ) → Drains w c n w
  drains_none w c n = record {
    more = [];
    takes = All-nil (λ (e : Entry A). is_take_of c e ≡ true);
    history = ap (λ es. with_entries w.history es) (sym (append-nil w.history.entries));
    floor = refl;
    limits = refl;
    ties = refl;
    turns = refl;
    number = refl;
    box_count = refl;
    others = λ k inside apart. refl;
    wide = inl refl;
  }

  -- no order was taken, of none that were left
  pub none_taken : (w : World A) (c : ℕ) → (d : Drains w c 0 w) × (length d.more ≡ 0)
  unfolding drains_none
  none_taken w c = (drains_none w c 0, refl)

  pub some_none : (w v : World A) (c n : ℕ) → v ≡ w → DrainsSome w c n 0 v
  unfolding drains_none
  some_none w v c n same = subst (DrainsSome w c n 0) (sym same) (record { drains = drains_none w c n; count = refl; few = omega arith })

  -- after a widening, which is for no more orders than are left
  pub drains_wide : (w v u : World A) (c n i left : ℕ) → c < length w.mailboxes → left + i ≤ n → DrainsSome w c n i v → Widens v c left u → Drains w c n u
  drains_wide w v u c n i left inside few some wide =
      let d = some.drains in
      let b : Pending = record { notices = (pending v c).notices; limit = wide.limit } in
      let box : (pending u c).limit ≡ wide.limit = ap (λ x. (pending x c).limit) wide.world ∙ ap (λ (b : Pending). b.limit) (pending_wide v c wide.limit (omega (arith, d.box_count))) in
      let many : used v c ≤ used w c + 2 * i = some.few in
      record {
        more = d.more;
        takes = d.takes;
        history = ap (λ x. x.history) wide.world ∙ d.history;
        floor = ap (λ x. x.floor) wide.world ∙ d.floor;
        limits = ap (λ x. x.limits) wide.world ∙ d.limits;
        ties = ap (λ x. x.ties) wide.world ∙ d.ties;
        turns = ap (λ x. x.turns) wide.world ∙ d.turns;
        number = ap (λ x. x.number) wide.world ∙ d.number;
        box_count = ap (λ x. length x.mailboxes) wide.world ∙ length-set v.mailboxes c b ∙ d.box_count;
        others = λ k there apart. ap (λ x. pending x k) wide.world ∙ get_or-set_other v.mailboxes c k b no_pending apart ∙ d.others k there apart;
        wide = ⊎_elim
            (λ (h : wide.limit ≡ (pending v c).limit). ⊎_elim
            (λ (k : (pending v c).limit ≡ (pending w c).limit). inl (box ∙ h ∙ k))
            (λ (k : (pending v c).limit ≤ used w c + 2 * n). inr (omega (arith, box)))
            d.wide)
            (λ (h : wide.limit ≤ used v c + 2 * left). inr (omega (arith, box, many)))
            wide.at_most;
      }

  -- after a take
  pub drains_take : (w v u : World A) (c n : ℕ) (o : Order) (vd : Verdict) → c < length w.mailboxes → Drains w c n v → Takes v c o vd u → Drains w c n u
  drains_take w v u c n o vd inside d takes =
      let en : Entry A = entry.Take c o vd in
      let box : (k : ℕ) → k < length w.mailboxes → pending u k ≡ told_to v.history en k (pending v k) =
      (λ k there. ap (λ x. pending x k) takes.world ∙ box_at-delivered v.history en 0 k k v.mailboxes (omega arith) (omega (arith, d.box_count))) in
      let limit : (pending u c).limit ≡ (pending v c).limit = ap (λ (b : Pending). b.limit) (box c inside) in
      let mine : is_take_of c en ≡ true = eq-eqb c c refl in
      record {
        more = d.more ++ en ∷ [];
        takes = All-append (λ (e : Entry A). is_take_of c e ≡ true) d.more (en ∷ []) d.takes (All-single (λ (e : Entry A). is_take_of c e ≡ true) en mine);
        history = ap (λ x. x.history) takes.world ∙ ap (λ (h : History A). with_entries h (h.entries ++ en ∷ [])) d.history ∙ ap (λ es. with_entries w.history es) (append_assoc w.history.entries d.more (en ∷ []));
        floor = ap (λ x. x.floor) takes.world ∙ d.floor;
        limits = ap (λ x. x.limits) takes.world ∙ d.limits;
        ties = ap (λ x. x.ties) takes.world ∙ d.ties;
        turns = ap (λ x. x.turns) takes.world ∙ d.turns;
        number = ap (λ x. x.number) takes.world ∙ d.number;
        box_count = ap (λ x. length x.mailboxes) takes.world ∙ length-delivered v.history en 0 v.mailboxes ∙ d.box_count;
        others = λ k there apart.
            let none : told v.history k en ≡ [] = rw (ne_eqb c k (λ s. apart (sym s))) refl in
            box k there ∙ ap (λ ns. record { notices = (pending v k).notices ++ ns; limit = (pending v k).limit }) none
            ∙ ap (λ ns. record { notices = ns; limit = (pending v k).limit }) (append-nil (pending v k).notices) ∙ d.others k there apart;
        wide = ⊎_elim (λ (h : (pending v c).limit ≡ (pending w c).limit). inl (limit ∙ h)) (λ (h : (pending v c).limit ≤ used w c + 2 * n). inr (omega (arith, limit))) d.wide;
      }

  -- one order more
  pub some_more : (w v u : World A) (c n i left : ℕ) → c < length w.mailboxes → left + i ≤ n → DrainsSome w c n i v → TakesNext v c left u → used u c ≤ used v c + 2 → DrainsSome w c n (i + 1) u
  unfolding drains_take drains_wide
  some_more w v u c n i left inside few some next one =
      let en : Entry A = entry.Take c next.order next.verdict in
      record {
        drains = drains_take w next.wide u c n next.order next.verdict inside (drains_wide w v next.wide c n i left inside few some next.widens) next.takes;
        count = length-append some.drains.more (en ∷ []) ∙ ap (λ k. k + 1) some.count;
        few = let m = some.few in omega arith;
      }

  -- the next was refused, after its mailbox may have been widened
  pub some_refused : (w v u : World A) (c n i left : ℕ) → c < length w.mailboxes → left + i ≤ n → i < n → DrainsSome w c n i v → Widens v c left u → (d : Drains w c n u) × (length d.more < n)
  unfolding drains_wide
  some_refused w v u c n i left inside few less some wide = (drains_wide w v u c n i left inside few some wide, subst (λ k. k < n) (sym some.count) less)
