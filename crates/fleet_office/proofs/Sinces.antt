-- Orders and notices since an office began go on with each entry and with each chapter.
use Rattle.std.proofs.Common.{◌≡◌, ℕ, ◌+◌, ◌<◌, List, [], ◌∷◌, ◌++◌, length, map, refl, ap, sym, ◌∙◌, subst, arith, append_assoc, length-append}
use Rattle.std.specs.Prelude.{slice_index_or}
use Rattle.std.proofs.lemmas.List.{append-nil, map-append, length-map}
use Rattle.std.proofs.lemmas.List.FromFn.{length-range_with_len}
use Rattle.std.specs.List.{flat_map, range_with_len}
use Rattle.std.proofs.lemmas.List.Concat.{flat_map-append}
use Rattle.fleet_grid.specs.Floor.{Floor}
use Rattle.fleet_book.specs.declared.notice.Notice.{Notice}
use Rattle.fleet_book.specs.declared.order.Order.{Order}
use Rattle.fleet_history.specs.declared.history.ClientState.{ClientState}
use Rattle.fleet_history.specs.declared.history.Entry.{Entry}
use Rattle.fleet_history.specs.declared.history.Opening.{Opening}
use Rattle.fleet_history.specs.History.{History, start, after, robots, with_entries, clients, client_at, unknown_client, taken_count, accepted_count}
use Rattle.fleet_history.specs.Laws.{orders, order_by}
use Rattle.fleet_history.specs.Legal as legal
use Rattle.fleet_history.specs.Legal.{IsLegal, Fits}
use Rattle.fleet_history.specs.Next.{next_opening, robot_after}
use Rattle.fleet_history.specs.Notices.{notices, told, noticed_count, seq_of}
use Rattle.fleet_history.specs.Numbering.{order_number, accepted_number}
use Rattle.fleet_history.specs.Rings.{IsEndOf, KeepsRing}
use Rattle.fleet_history.proofs.After.{accepted_count-after}
use Rattle.fleet_history.proofs.Next.{start-taken, start-accepted, start-noticed}
use Rattle.fleet_history.proofs.Numbered.{numbered-append, told-seqs, told-orders, told-accepted, length-told_accepted, taken-length, noticed-length}
use Rattle.fleet_history.proofs.Rings.{ring-after, ring-begins, ring-next}
use Rattle.fleet_history.proofs.Told.{notices-after, orders-after}
use Rattle.fleet_core.specs.Core.{World, next_world}
use Rattle.fleet_office.specs.Since.{GoesOn, IsSince, IsChapterSince}

-- ---- the world

module _ {A : Type 0} (began : World A) where
  pub since-begins : began.history.entries ≡ [] → IsLegal began.floor began.history → IsSince began began
  since-begins none lawful = record { begun = none; legal = lawful; floor = refl; limits = refl; ties = refl; turns = refl; robots = refl; later = omega arith; opening = λ same. refl }

  pub since-same : (w v : World A) → v.floor ≡ w.floor → v.limits ≡ w.limits → v.ties ≡ w.ties → v.turns ≡ w.turns → v.number ≡ w.number → v.history.opening ≡ w.history.opening → IsSince began w → IsSince began v
  since-same w v floor limits ties turns number opening h = record {
    begun = h.begun;
    legal = h.legal;
    floor = floor ∙ h.floor;
    limits = limits ∙ h.limits;
    ties = ties ∙ h.ties;
    turns = turns ∙ h.turns;
    robots = ap (λ (o : Opening A). length o.robots) opening ∙ h.robots;
    later = omega (arith, h.later, number);
    opening = λ same. opening ∙ h.opening (sym number ∙ same);
  }

  pub since-next : (w : World A) → IsSince began w → IsSince began (next_world w)
  since-next w h = record {
    begun = h.begun;
    legal = h.legal;
    floor = h.floor;
    limits = h.limits;
    ties = h.ties;
    turns = h.turns;
    robots = length-map (range_with_len 0 (robots w.history)) (robot_after w.history) ∙ length-range_with_len 0 (robots w.history) ∙ h.robots;
    later = omega (arith, h.later);
    opening = λ same. absurd (omega (arith, h.later, same));
  }

  -- a chapter of a hall of such a world
  pub since-chapter : (w : World A) (m : Floor) (n : ℕ) (h : History A) → IsSince began w → m ≡ w.floor → n ≡ w.number → h.opening ≡ w.history.opening → IsChapterSince began m n h
  since-chapter w m n h since floor number opening = record {
    floor = floor ∙ since.floor;
    later = omega (arith, since.later, number);
    opening = λ same. opening ∙ since.opening (sym number ∙ same);
  }

-- ---- the beginning

module _ {A : Type 0} where
  goes-start : (o : Opening A) (c : ℕ) → GoesOn (start o) (start o) c [] []
  goes-start o c = record {
    taken_end = ([], refl);
    told_end = ([], refl);
    taken_length = omega arith;
    told_length = omega arith;
    accepted_length = omega arith;
    seqs = refl;
    orders = refl;
    accepted = refl;
    keeps = λ before heard held.
        subst (λ t. KeepsRing (start o) c t (heard ++ [])) (sym (append-nil before)) (subst (KeepsRing (start o) c before) (sym (append-nil heard)) held);
  }

  -- a history without entries is the start of its opening
  pub is-start : (h : History A) → h.entries ≡ [] → start h.opening ≡ h
  is-start h none = ap (λ es. with_entries h es) (sym none)

  pub goes-begins : (h : History A) (c : ℕ) → h.entries ≡ [] → GoesOn h h c [] []
  goes-begins h c none = subst (λ (g : History A). GoesOn g g c [] []) (is-start h none) (goes-start h.opening c)

-- ---- one more entry

-- a list that ends with another, and both go on alike
end_on : {X : Type 0} (xs ys more xs2 : List X) → IsEndOf xs ys → xs2 ≡ xs ++ more → IsEndOf xs2 (ys ++ more)
end_on xs ys more xs2 p e = (p.0, ap (λ t. p.0 ++ t) e ∙ sym (append_assoc p.0 xs more) ∙ ap (λ t. t ++ more) p.1)

module _ {A : Type 0} (first : History A) (m : Floor) (h : History A) (c : ℕ) (taken : List Order) (ns : List Notice) (lawful : IsLegal m h) (on : GoesOn first h c taken ns) (e : Entry A) (f : Fits m h e) where
  later-legal : IsLegal m (after h e)
  later-legal = legal.grown e lawful f refl

  taken-more : taken_count (after h e) c ≡ taken_count h c + length (order_by c e)
  taken-more = omega (
    arith,
    taken-length m h c lawful,
    taken-length m (after h e) c later-legal,
    ap length (orders-after h c e),
    length-append (orders h c) (order_by c e),
  )

  noticed-more : noticed_count (after h e) c ≡ noticed_count h c + length (told h c e)
  noticed-more = omega (
    arith,
    noticed-length m h c lawful,
    noticed-length m (after h e) c later-legal,
    ap length (notices-after h c e),
    length-append (notices h c) (told h c e),
  )

  pub goes-after : GoesOn first (after h e) c (taken ++ order_by c e) (ns ++ told h c e)
  goes-after = record {
    taken_end = end_on (orders h c) taken (order_by c e) (orders (after h e) c) on.taken_end (orders-after h c e);
    told_end = end_on (notices h c) ns (told h c e) (notices (after h e) c) on.told_end (notices-after h c e);
    taken_length = omega (arith, on.taken_length, length-append taken (order_by c e), taken-more);
    told_length = omega (arith, on.told_length, length-append ns (told h c e), noticed-more);
    accepted_length = omega (
      arith,
      on.accepted_length,
      ap length (flat_map-append accepted_number ns (told h c e)),
      length-append (flat_map accepted_number ns) (flat_map accepted_number (told h c e)),
      length-told_accepted h c e,
      accepted_count-after h c e,
    );
    seqs = rw (map-append seq_of ns (told h c e), length-append ns (told h c e))
        (numbered-append (map seq_of ns) (map seq_of (told h c e)) (client_at first c).noticed (noticed_count h c) (length ns) (length (told h c e))
        on.seqs (sym on.told_length) (told-seqs h c e));
    orders = rw (flat_map-append order_number ns (told h c e), length-append taken (order_by c e))
        (numbered-append (flat_map order_number ns) (flat_map order_number (told h c e)) (client_at first c).taken (taken_count h c) (length taken) (length (order_by c e))
        on.orders (sym on.taken_length) (told-orders h c e));
    accepted = rw (flat_map-append accepted_number ns (told h c e), length-append (flat_map accepted_number ns) (flat_map accepted_number (told h c e)))
        (numbered-append (flat_map accepted_number ns) (flat_map accepted_number (told h c e)) (client_at first c).accepted (accepted_count h c)
        (length (flat_map accepted_number ns)) (length (flat_map accepted_number (told h c e)))
        on.accepted (sym on.accepted_length) (told-accepted m h c e f));
    keeps = λ before heard held.
        subst (λ t. KeepsRing (after h e) c t (heard ++ (ns ++ told h c e))) (append_assoc before taken (order_by c e))
        (subst (KeepsRing (after h e) c ((before ++ taken) ++ order_by c e)) (append_assoc heard ns (told h c e))
        (ring-after m h c (before ++ taken) (heard ++ ns) lawful (on.keeps before heard held) e f));
  }

-- ---- the next chapter

module _ {A : Type 0} (first : History A) (m : Floor) (h : History A) (c : ℕ) (taken : List Order) (ns : List Notice) (lawful : IsLegal m h) (known : c < clients h) (on : GoesOn first h c taken ns) where
  pub goes-next : GoesOn first (start (next_opening h)) c taken ns
  goes-next = record {
    taken_end = (taken, append-nil taken);
    told_end = (ns, append-nil ns);
    taken_length = on.taken_length ∙ sym (start-taken h c known);
    told_length = on.told_length ∙ sym (start-noticed h c known);
    accepted_length = on.accepted_length ∙ sym (start-accepted h c known);
    seqs = on.seqs;
    orders = on.orders;
    accepted = on.accepted;
    keeps = λ before heard held. ring-next m h c (before ++ taken) (heard ++ ns) lawful known (on.keeps before heard held);
  }

-- ---- what it says

no_earlier : {X : Type 0} (xs ys : List X) → IsEndOf xs ys → length ys ≡ length xs → xs ≡ ys
no_earlier xs ys ([], e) same = e
no_earlier xs ys (x ∷ more, e) same = absurd (omega (arith, same, ap length (sym e), length-append more xs))

module _ {A : Type 0} where
  -- of a client that was not known before, the ring law as it stands
  pub goes-unknown : (m : Floor) (first h : History A) (c : ℕ) (taken : List Order) (ns : List Notice) → first.entries ≡ [] → IsLegal m first → client_at first c ≡ unknown_client →
      GoesOn first h c taken ns → KeepsRing h c taken ns
  goes-unknown m first h c taken ns none lawful unknown on =
      on.keeps [] []
      (subst (λ (g : History A). KeepsRing g c [] []) (is-start first none)
      (ring-begins m first.opening c (subst (IsLegal m) (sym (is-start first none)) lawful) unknown))

  -- in a chapter that begins as the first, the lists are the chapter's own
  pub goes-own : (m : Floor) (first h : History A) (c : ℕ) (taken : List Order) (ns : List Notice) → IsLegal m h → h.opening ≡ first.opening →
      GoesOn first h c taken ns → (orders h c ≡ taken) × (notices h c ≡ ns)
  goes-own m first h c taken ns lawful same on =
      let had : client_at h c ≡ client_at first c = ap (λ (o : Opening A). slice_index_or o.clients c unknown_client) same in (
        no_earlier (orders h c) taken on.taken_end (omega (arith, on.taken_length, taken-length m h c lawful, ap (λ (s : ClientState). s.taken) had)),
        no_earlier (notices h c) ns on.told_end (omega (arith, on.told_length, noticed-length m h c lawful, ap (λ (s : ClientState). s.noticed) had)),
      )
