-- The notices that histories make for a client are numbered one after another.
use Rattle.std.proofs.Common.{◌≡◌, ◌∙◌, ℕ, ◌+◌, ◌<◌, ◌==◌, suc, List, [], ◌∷◌, ◌++◌, length, map, eqb, inl, inr, refl, sym, ap, subst, arith, length-append}
use Rattle.std.proofs.lemmas.List.{map-append}
use Rattle.std.proofs.lemmas.List.Sums.{length-filter}
use Rattle.std.specs.Prelude.{filter}
use Rattle.std.proofs.lemmas.Bool.{cases_Bool}
use Rattle.std.specs.declared.alloc.Global.{Global}
use Rattle.fleet_book.specs.declared.notice.Notice.{Notice}
use Rattle.fleet_history.specs.declared.history.Arrival.{Arrival}
use Rattle.fleet_history.specs.declared.history.Entry.{Entry}
use Rattle.fleet_history.specs.declared.history.Entry.TheVariants.{Take, Tick, Shut}
use Rattle.fleet_history.specs.History.{History, after, clients, clock, start}
use Rattle.fleet_history.specs.Next.{next_opening}
use Rattle.fleet_history.specs.Notices.{arrival_notices, noticed_count, seq_of, told, told_count}
use Rattle.fleet_history.specs.Numbering.{numbers_behind}
use Rattle.fleet_history.proofs.After.{noticed_count-after}
use Rattle.fleet_history.proofs.Next.{next-clients, start-noticed}
use Rattle.fleet_history.proofs.Numbered.{numbered-append, told-seqs}

-- these notices were made for a client from one history to another
pub record Made (c : ℕ) (h g : History Global) (fresh : List Notice) : Type 0 where
  pub stays : clients g ≡ clients h
  pub count : c < clients h → noticed_count g c ≡ noticed_count h c + length fresh
  pub seqs : c < clients h → map seq_of fresh ≡ numbers_behind (noticed_count h c) (length fresh)

none_more : (n : ℕ) → n ≡ n + 0
none_more n = omega arith

pub made-none : (c : ℕ) (h g : History Global) → g ≡ h → Made c h g []
made-none c h g same = record {
  stays = ap (λ (x : History Global). clients x) same;
  count = λ less. ap (λ (x : History Global). noticed_count x c) same ∙ none_more (noticed_count h c);
  seqs = λ less. refl;
}

pub made-then : (c : ℕ) (h m g : History Global) (xs ys : List Notice) → Made c h m xs → Made c m g ys → Made c h g (xs ++ ys)
made-then c h m g xs ys one two = record {
  stays = two.stays ∙ one.stays;
  count = λ less.
      let first = one.count less in
      let second = two.count (inside less) in
      let size = length-append xs ys in
      omega (arith, first, second, size);
  seqs = λ less.
      map-append seq_of xs ys
      ∙ (numbered-append (map seq_of xs) (map seq_of ys) (noticed_count h c) (noticed_count m c) (length xs) (length ys) (one.seqs less) (one.count less) (two.seqs (inside less))
      ∙ ap (λ (n : ℕ). numbers_behind (noticed_count h c) n) (sym (length-append xs ys)));
}
  where
    inside : c < clients h → c < clients m
    inside less = subst (λ (n : ℕ). c < n) (sym one.stays) less

-- ---- an entry

many_arrivals : (to : List ℕ) (tick seq : ℕ) (xs : List Arrival) → length (arrival_notices to tick seq xs) ≡ length xs
many_arrivals to tick seq [] = refl
many_arrivals to tick seq (x ∷ xs) = ap suc (many_arrivals to tick (seq + 1) xs)

many_told : (h : History Global) (c : ℕ) (e : Entry Global) → length (told h c e) ≡ told_count c e
many_told h c (Take client order verdict) =
    elim (cases_Bool (eqb client c)) [
      | inl e ↦ rw (e) refl
      | inr e ↦ rw (e) refl
    ]
many_told h c (Tick to arrived farewells) =
    many_arrivals to (clock h + 1) (noticed_count h c) (filter (λ (a : Arrival). a.client == c) arrived) ∙ length-filter (λ (a : Arrival). a.client == c) arrived
many_told h c (Shut robot farewell) = refl

pub made-entry : (c : ℕ) (h g : History Global) (e : Entry Global) → g ≡ after h e → Made c h g (told h c e)
made-entry c h g e same = record {
  stays = ap (λ (x : History Global). clients x) same;
  count = λ less. ap (λ (x : History Global). noticed_count x c) same ∙ (noticed_count-after h c e ∙ ap (λ (n : ℕ). noticed_count h c + n) (sym (many_told h c e)));
  seqs = λ less. told-seqs h c e;
}

-- ---- a chapter

pub made-next : (c : ℕ) (h g : History Global) → g ≡ start (next_opening h) → Made c h g []
made-next c h g same = record {
  stays = ap (λ (x : History Global). clients x) same ∙ next-clients h;
  count = λ less. ap (λ (x : History Global). noticed_count x c) same ∙ (start-noticed h c less ∙ none_more (noticed_count h c));
  seqs = λ less. refl;
}
