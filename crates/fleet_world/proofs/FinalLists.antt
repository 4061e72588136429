-- The lists of the clients after a run are those that it leaves.
use Rattle.std.proofs.Common.{◌≡◌, ℕ, zero, suc, ◌+◌, ◌<◌, List, [], length, map, replicate, get_or, sym, refl, ap, ◌∙◌, subst, arith}
use Rattle.std.specs.Prelude.{slice_index_or}
use Rattle.std.specs.List.{range_with_len}
use Rattle.std.proofs.lemmas.List.{length-map, length-replicate, get_or-replicate, get_or-map, ext_get_or}
use Rattle.std.proofs.lemmas.List.FromFn.{get_or-map-range_with_len}
use Rattle.fleet_grid.specs.Floor.{Floor}
use Rattle.fleet_book.specs.declared.limits.Limits.{Limits}
use Rattle.fleet_book.specs.declared.order.Order.{Order}
use Rattle.fleet_book.specs.declared.notice.Notice.{Notice}
use Rattle.fleet_history.specs.History.{History, start, clients, unknown_client}
use Rattle.fleet_core.specs.Hooks.{HookLaws}
use Rattle.fleet_core.specs.Pending.{Pending, no_pending}
use Rattle.fleet_core.specs.Core.{World, opening_of}
use Rattle.fleet_world.specs.Run.{Lists, lane, outlet, no_lists, state_of, opened_state}
use Rattle.fleet_world.specs.Laws.{RingLaw, KeepsRings}
use Rattle.fleet_world.specs.Played.{lists_from}

length_range : (a n : ℕ) → length (range_with_len a n) ≡ n
length_range a zero = refl
length_range a (suc n) = ap suc (length_range (a + 1) n)

-- one client
same_lists : (l l' : Lists) → l.sent ≡ l'.sent → l.taken ≡ l'.taken → l.given ≡ l'.given → l.collected ≡ l'.collected → l ≡ l'
same_lists l l' a b c d =
    ap (λ x. record { sent = x; taken = l.taken; given = l.given; collected = l.collected }) a
    ∙ ap (λ x. record { sent = l'.sent; taken = x; given = l.given; collected = l.collected }) b
    ∙ ap (λ x. record { sent = l'.sent; taken = l'.taken; given = x; collected = l.collected }) c
    ∙ ap (λ x. record { sent = l'.sent; taken = l'.taken; given = l'.given; collected = x }) d

-- the lists that a run leaves are those that its ends show
pub lists-left : {A : Type 0} (w : World A) (ends : List Lists) (lanes : List (List Order)) (outlets collected : List (List Notice)) → KeepsRings (state_of w ends) →
    lanes ≡ map lane ends → outlets ≡ map outlet ends → collected ≡ map (λ l. l.collected) ends →
    map (lists_from w.history lanes outlets collected) (range_with_len 0 (clients w.history)) ≡ ends
lists-left w ends lanes outlets collected k a b d =
    let n = clients w.history in
    let f = lists_from w.history lanes outlets collected in
    ext_get_or no_lists (map f (range_with_len 0 n)) ends (length-map (range_with_len 0 n) f ∙ length_range 0 n ∙ sym k.list_count)
    (λ c l.
    let inside : c < n = omega (arith, length-map (range_with_len 0 n) f, length_range 0 n) in
    let known : c < length ends = omega (arith, k.list_count) in
    let e = get_or ends c no_lists in
    let law = k.each c inside in
    let at : slice_index_or lanes c [] ≡ lane e = ap (λ xs. slice_index_or xs c []) a ∙ get_or-map lane ends c no_lists [] known in
    let out : slice_index_or outlets c [] ≡ outlet e = ap (λ xs. slice_index_or xs c []) b ∙ get_or-map outlet ends c no_lists [] known in
    let got : slice_index_or collected c [] ≡ e.collected = ap (λ xs. slice_index_or xs c []) d ∙ get_or-map (λ (l : Lists). l.collected) ends c no_lists [] known in
    mapped f n c inside
    ∙ same_lists (f c) e (rw (at, law.taken) law.taken_prefix) law.taken (rw (got, out) law.collected_prefix) got)
  where
    mapped : (f : ℕ → Lists) (n c : ℕ) → c < n → get_or (map f (range_with_len 0 n)) c no_lists ≡ f c
    mapped f n c l = get_or-map-range_with_len f 0 n c c no_lists l (omega arith)

pub KeepsRings-opened : {A : Type 0} (m : Floor) (starts : List ℕ) (n : ℕ) (limits : Limits) (laws : HookLaws) → KeepsRings (opened_state {A = A} m starts n limits laws)
KeepsRings-opened {A = A} m starts n limits laws =
    let box : Pending = record { notices = []; limit = limits.mailbox } in
    let h : History A = start (opening_of starts n limits laws) in
    record {
      list_count = length-replicate n no_lists ∙ sym (length-replicate n unknown_client);
      box_count = length-replicate n box ∙ sym (length-replicate n unknown_client);
      each = λ c l.
          let inside : c < n = omega (arith, length-replicate n unknown_client) in
          subst (λ (b : Pending). RingLaw h c b.notices (slice_index_or (replicate n no_lists) c no_lists)) (sym (get_or-replicate n c box no_pending inside))
          (subst (λ (e : Lists). RingLaw h c [] e) (sym (get_or-replicate n c no_lists no_lists inside)) (record { taken_prefix = refl; collected_prefix = refl; taken = refl; told = refl }));
    }
