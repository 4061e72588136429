-- What is kept of notices that were told.
use Rattle.std.proofs.Common.{◌≡◌, ◌≢◌, ◌∙◌, ℕ, ◌+◌, ◌-◌, ◌≤◌, ◌<◌, ◌==◌, Bool, true, false, List, [], ◌∷◌, ◌++◌, length, drop, map, get_or, Result, Ok, Err, refl, sym, ap, subst, arith, append_assoc, append-nil}
use borrow.Author.Tests.{eqb-true}
use Rattle.std.proofs.lemmas.Bool.{eq-eqb}
use Rattle.std.proofs.lemmas.List.{drop-append-le, drop-drop, get_or-set_same, get_or-set_other, length-append, length-drop, length-set, map-append}
use Rattle.std.specs.Prelude.{OnOk, if◌then◌else◌, slice_index_or, sum_by}
use Rattle.std.specs.declared.alloc.Global.{Global}
use Rattle.fleet_book.specs.declared.notice.Notice.{Notice}
use Rattle.fleet_history.specs.declared.history.ClientState.{ClientState}
use Rattle.fleet_history.specs.declared.history.Entry.{Entry}
use Rattle.fleet_history.specs.History.{History, client_at, clients, unknown_client}
use Rattle.fleet_history.specs.Notices.{noticed_count, seq_of, told_count}
use Rattle.fleet_history.specs.Numbering.{numbers_behind}
use Rattle.fleet_history.proofs.Numbered.{numbered-append}
use Rattle.live_parts.specs.Recalls.{AreFew, Recall, Recalls, begun, last_of, noted, nothing_told, recall_of, with_notice}
use Rattle.live_fleet.specs.Act.{Act, did, full, grew, handed, said, told}
use Rattle.live_fleet.specs.Law.{AreKept, AreNumberedOn, last_seq, left_of, notices_told}
use Rattle.live_fleet.specs.Recalling.{AreBegun, IsRecalled, noted_by}
use Rattle.live_fleet.specs.Went.{FleetView}
use Rattle.live_fleet.proofs.Made.{Made}

-- ---- the last of a list

last_all : (most : ℕ) (xs : List Notice) → length xs ≤ most → last_of most xs ≡ xs
last_all most xs few = let none : length xs - most ≡ 0 = omega (arith, few) in ap (λ (n : ℕ). drop n xs) none

length_last : (most : ℕ) (xs : List Notice) → length (last_of most xs) ≤ most
length_last most xs = let size = length-drop (length xs - most) xs in omega (arith, size)

last_then : (most : ℕ) (xs ys : List Notice) → last_of most (last_of most xs ++ ys) ≡ last_of most (xs ++ ys)
last_then most xs ys =
    let less : length xs - most ≤ length xs = omega arith in
    let front : last_of most xs ++ ys ≡ drop (length xs - most) (xs ++ ys) = sym (drop-append-le (length xs - most) xs ys less) in
    let part : length (last_of most xs) ≡ length xs - (length xs - most) = length-drop (length xs - most) xs in
    let size : length (last_of most xs ++ ys) ≡ length (last_of most xs) + length ys = length-append (last_of most xs) ys in
    let all : length (xs ++ ys) ≡ length xs + length ys = length-append xs ys in
    let same : (length xs - most) + (length (last_of most xs ++ ys) - most) ≡ length (xs ++ ys) - most = omega (arith, part, size, all) in
    ap (drop (length (last_of most xs ++ ys) - most)) front ∙ (drop-drop (length (last_of most xs ++ ys) - most) (length xs - most) (xs ++ ys) ∙ ap (λ (n : ℕ). drop n (xs ++ ys)) same)

last_seq_then : (n : ℕ) (xs ys : List Notice) → last_seq (last_seq n xs) ys ≡ last_seq n (xs ++ ys)
last_seq_then n [] ys = refl
last_seq_then n (x ∷ xs) ys = last_seq_then (seq_of x) xs ys

-- ---- one notice after another

kept_none : (c : ℕ) (r t : Recalls) → IsRecalled r c → recall_of t c ≡ recall_of r c → AreKept c r [] t
kept_none c r t recalled same = record {
  kept = ap (λ (x : Recall). x.notices) same ∙ (sym (last_all r.most (recall_of r c).notices recalled.1) ∙ ap (last_of r.most) (sym (append-nil (recall_of r c).notices)));
  count = ap (λ (x : Recall). x.told) same;
}

kept_then : (c : ℕ) (r m t : Recalls) (xs ys : List Notice) → m.most ≡ r.most → AreKept c r xs m → AreKept c m ys t → AreKept c r (xs ++ ys) t
kept_then c r m t xs ys most one two = record {
  kept = two.kept
      ∙ (ap (λ (n : ℕ). last_of n ((recall_of m c).notices ++ ys)) most
      ∙ (ap (λ (l : List Notice). last_of r.most (l ++ ys)) one.kept
      ∙ (last_then r.most ((recall_of r c).notices ++ xs) ys ∙ ap (last_of r.most) (append_assoc (recall_of r c).notices xs ys))));
  count = two.count ∙ (ap (λ (n : ℕ). last_seq n ys) one.count ∙ last_seq_then (recall_of r c).told xs ys);
}

-- what is there of a client once another, or the same one, was told a notice
noted_one : (b : Bool) (c k : ℕ) (r : Recalls) (n : Notice) → (k == c) ≡ b → IsRecalled r c → IsRecalled (noted k n r) c × AreKept c r (if b then n ∷ [] else []) (noted k n r)
noted_one true c k r n at (inside, few) =
    let same : k ≡ c = eqb-true k c at in
    let is : recall_of (noted k n r) c ≡ with_notice r.most n (recall_of r c) =
    ap (λ (i : ℕ). recall_of (noted i n r) c) same ∙ get_or-set_same r.clients c (with_notice r.most n (recall_of r c)) nothing_told inside in
    let size = length-set r.clients k (with_notice r.most n (recall_of r k)) in (
      (omega (arith, inside, size), subst (λ (x : Recall). length x.notices ≤ r.most) (sym is) (length_last r.most ((recall_of r c).notices ++ n ∷ []))),
      record { kept = ap (λ (x : Recall). x.notices) is; count = ap (λ (x : Recall). x.told) is },
    )
noted_one false c k r n at (inside, few) =
    let other : c ≢ k = λ e. let good : (k == c) ≡ true = eq-eqb k c (sym e) in cc in
    let is : recall_of (noted k n r) c ≡ recall_of r c = get_or-set_other r.clients k c (with_notice r.most n (recall_of r k)) nothing_told other in
    let size = length-set r.clients k (with_notice r.most n (recall_of r k)) in (
      (omega (arith, inside, size), subst (λ (x : Recall). length x.notices ≤ r.most) (sym is) few),
      kept_none c r (noted k n r) (inside, few) is,
    )

pub noted-kept : (c : ℕ) (acts : List Act) (r : Recalls) → IsRecalled r c → AreKept c r (notices_told c acts) (noted_by acts r)
noted-kept c [] r recalled = kept_none c r r recalled refl
noted-kept c (did e reply ∷ acts) r recalled = noted-kept c acts r recalled
noted-kept c (full e ∷ acts) r recalled = noted-kept c acts r recalled
noted-kept c (handed x ∷ acts) r recalled = noted-kept c acts r recalled
noted-kept c (told to k n ∷ acts) r recalled =
    let (still, one) = noted_one (k == c) c k r n refl recalled in
    kept_then c r (noted k n r) (noted_by acts (noted k n r)) (if k == c then n ∷ [] else []) (notices_told c acts) refl one (noted-kept c acts (noted k n r) still)
noted-kept c (said to text ∷ acts) r recalled = noted-kept c acts r recalled
noted-kept c (grew k extra ∷ acts) r recalled = noted-kept c acts r recalled

-- the same from what a run says
pub kept-by : (c : ℕ) (acts : List Act) (r t : Recalls) → t ≡ noted_by acts r → IsRecalled r c → AreKept c r (notices_told c acts) t
kept-by c acts r t is recalled = subst (λ (x : Recalls). AreKept c r (notices_told c acts) x) (sym is) (noted-kept c acts r recalled)

-- ---- their numbers

-- notices that are numbered on: the first of them, and the others
numbered_parts : (xs ys : List Notice) (n : ℕ) → map seq_of (xs ++ ys) ≡ numbers_behind n (length (xs ++ ys)) → (last_seq n xs ≡ n + length xs) × (map seq_of ys ≡ numbers_behind (n + length xs) (length ys))
numbered_parts [] ys n seqs = let e : n ≡ n + 0 = omega arith in (e, subst (λ (m : ℕ). map seq_of ys ≡ numbers_behind m (length ys)) e seqs)
numbered_parts (x ∷ xs) ys n seqs =
    let first : seq_of x ≡ n + 1 = ap (λ (l : List ℕ). get_or l 0 0) seqs in
    let (last, others) = numbered_parts xs ys (n + 1) (ap (drop 1) seqs) in
    let e : (n + 1) + length xs ≡ n + length (x ∷ xs) = omega arith in
    (ap (λ (m : ℕ). last_seq m xs) first ∙ (last ∙ e), subst (λ (m : ℕ). map seq_of ys ≡ numbers_behind m (length ys)) e others)

-- what was told, and what waits now, goes on from what was told before
pub numbered-on : (c : ℕ) (f g : FleetView) (now fresh : List Notice) → c < clients f.talk.world.history → now ++ left_of g.talk c ≡ left_of f.talk c ++ fresh → Made c f.talk.world.history g.talk.world.history fresh → AreNumberedOn c f
    → map seq_of (now ++ left_of g.talk c) ≡ numbers_behind (recall_of f.recalls c).told (length (now ++ left_of g.talk c))
numbered-on c f g now fresh inside once made before =
    let size = length-append (left_of f.talk c) fresh in
    let both = ap length once in
    let all = before.all in
    let joined : map seq_of (left_of f.talk c ++ fresh) ≡ numbers_behind (recall_of f.recalls c).told (length (left_of f.talk c) + length fresh) =
    map-append seq_of (left_of f.talk c) fresh
    ∙ numbered-append (map seq_of (left_of f.talk c)) (map seq_of fresh) (recall_of f.recalls c).told (noticed_count f.talk.world.history c) (length (left_of f.talk c)) (length fresh) before.seqs (sym all) (made.seqs inside) in
    let many : length (left_of f.talk c) + length fresh ≡ length (now ++ left_of g.talk c) = sym size ∙ sym both in
    ap (map seq_of) once ∙ (joined ∙ ap (λ (n : ℕ). numbers_behind (recall_of f.recalls c).told n) many)

pub counted-on : (c : ℕ) (f g : FleetView) (now fresh : List Notice) → c < clients f.talk.world.history → now ++ left_of g.talk c ≡ left_of f.talk c ++ fresh → Made c f.talk.world.history g.talk.world.history fresh → AreKept c f.recalls now g.recalls → AreNumberedOn c f
    → AreNumberedOn c g × ((recall_of g.recalls c).told ≡ (recall_of f.recalls c).told + length now)
counted-on c f g now fresh inside once made keeps before =
    let size = length-append (left_of f.talk c) fresh in
    let size_now = length-append now (left_of g.talk c) in
    let both = ap length once in
    let count = made.count inside in
    let all = before.all in
    let (last, others) = numbered_parts now (left_of g.talk c) (recall_of f.recalls c).told (numbered-on c f g now fresh inside once made before) in
    let grown : (recall_of g.recalls c).told ≡ (recall_of f.recalls c).told + length now = keeps.count ∙ last in (
      record {
        seqs = others ∙ ap (λ (n : ℕ). numbers_behind n (length (left_of g.talk c))) (sym grown);
        all = omega (arith, grown, size, size_now, both, count, all);
      },
      grown,
    )

-- ---- the beginning

pub if-so : {T E P : Type 0} (r : Result T E) → P → OnOk r P
if-so (Ok v) so = so
if-so (Err e) so = tt

pub begun-from : (h g : History Global) (states : List ClientState) (r t : Recalls) → g ≡ h → states ≡ g.opening.clients → ((c : ℕ) → c < length states → recall_of t c ≡ begun (slice_index_or states c unknown_client) (recall_of r c))
    → (c : ℕ) → c < clients h → recall_of t c ≡ begun (client_at h c) (recall_of r c)
begun-from h g states r t same is all =
    subst (λ (x : History Global). (c : ℕ) → c < clients x → recall_of t c ≡ begun (client_at x c) (recall_of r c)) same
    (subst (λ (l : List ClientState). (c : ℕ) → c < length l → recall_of t c ≡ begun (slice_index_or l c unknown_client) (recall_of r c)) is all)

pub recalled-from : (h g : History Global) (states : List ClientState) (t : Recalls) → g ≡ h → states ≡ g.opening.clients → AreFew t.most t.clients → length states ≤ length t.clients → (c : ℕ) → c < clients h → IsRecalled t c
recalled-from h g states t same is few wide c less =
    let many : length states ≡ clients h = ap length is ∙ ap (λ (x : History Global). clients x) same in
    let inside : c < length t.clients = omega (arith, less, many, wide) in
    (inside, few c nothing_told inside)

pub counted-begins : (c : ℕ) (f : FleetView) (r : Recalls) → f.talk.world.history.entries ≡ [] → left_of f.talk c ≡ [] → c < clients f.talk.world.history → AreBegun f.talk.world.history r f.recalls → AreNumberedOn c f
counted-begins c f r none quiet inside begun =
    let was : (recall_of f.recalls c).told ≡ (client_at f.talk.world.history c).noticed = ap (λ (x : Recall). x.told) (begun c inside) in
    let size : length (left_of f.talk c) ≡ 0 = ap length quiet in
    let made : noticed_count f.talk.world.history c ≡ (client_at f.talk.world.history c).noticed + 0 =
    ap (λ (es : List (Entry Global)). (client_at f.talk.world.history c).noticed + sum_by (told_count c) es) none in
    record {
      seqs = subst (λ (l : List Notice). map seq_of l ≡ numbers_behind (recall_of f.recalls c).told (length l)) (sym quiet) refl;
      all = omega (arith, was, size, made);
    }
