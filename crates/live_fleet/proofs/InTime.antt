-- The numbers of notices that can be told again.
use Rattle.std.proofs.Common.{◌≡◌, ℕ, zero, suc, ◌+◌, ◌-◌, ◌≤◌, ◌<◌, Bool, true, false, List, [], ◌∷◌, ◌++◌, length, drop, map, get_or, sym, ap, subst, arith}
use Rattle.std.proofs.Math.Nat.{min-le_left}
use Rattle.std.specs.Prelude.{◌^◌, if◌then◌else◌}
use Rattle.std.specs.List.{AllByRecursion}
use Rattle.std.specs.declared.alloc.Global.{Global}
use Rattle.fleet_book.specs.declared.notice.Notice.{Notice}
use Rattle.fleet_history.specs.History.{History, client_at, clients}
use Rattle.fleet_history.specs.Notices.{seq_of}
use Rattle.fleet_history.specs.Numbering.{numbers_behind}
use Rattle.live_parts.specs.Recalls.{Recall, Recalls, first_of, first_seq, is_numbered, last_notice, recall_of}
use Rattle.live_fleet.specs.Law.{AreInTime, AreKept, AreNumberedOn, left_of}
use Rattle.live_fleet.specs.Recalling.{AreBegun}
use Rattle.live_fleet.specs.Went.{FleetView}
use Rattle.live_fleet.proofs.Kept.{counted-on, numbered-on}
use Rattle.live_fleet.proofs.Made.{Made}

-- no number is above n
Below : ℕ → List Notice → Type 0
Below n xs = AllByRecursion (λ x. seq_of x ≤ n) xs

weaker : (xs : List Notice) (m n : ℕ) → m ≤ n → Below m xs → Below n xs
unfolding Below
weaker [] m n less all = tt
weaker (x ∷ xs) m n less (first, others) = (omega (arith, less, first), weaker xs m n less others)

joined : (xs ys : List Notice) (n : ℕ) → Below n xs → Below n ys → Below n (xs ++ ys)
unfolding Below
joined [] ys n all more = more
joined (x ∷ xs) ys n (first, others) more = (first, joined xs ys n others more)

dropped : (k : ℕ) (xs : List Notice) (n : ℕ) → Below n xs → Below n (drop k xs)
unfolding Below
dropped zero xs n all = all
dropped (suc k) [] n all = tt
dropped (suc k) (x ∷ xs) n (first, others) = dropped k xs n others

-- those that are numbered on from n
numbered : (xs ys : List Notice) (n : ℕ) → map seq_of (xs ++ ys) ≡ numbers_behind n (length (xs ++ ys)) → Below (n + length xs) xs
unfolding Below
numbered [] ys n seqs = tt
numbered (x ∷ xs) ys n seqs =
    let first : seq_of x ≡ n + 1 = ap (λ (l : List ℕ). get_or l 0 0) seqs in
    let e : (n + 1) + length xs ≡ n + length (x ∷ xs) = omega arith in
    (omega (arith, first), subst (λ (m : ℕ). AllByRecursion (λ y. seq_of y ≤ m) xs) e (numbered xs ys (n + 1) (ap (drop 1) seqs)))

first_low : (ns : List Notice) (told : ℕ) → Below told ns → first_seq ns told ≤ told + 1
unfolding Below
first_low [] told all = min-le_left (told + 1) (2 ^ 64 - 1)
first_low (n ∷ ns) told (low, others) = omega (arith, low)

pub in-time : (c : ℕ) (f g : FleetView) (now fresh : List Notice) → c < clients f.talk.world.history → now ++ left_of g.talk c ≡ left_of f.talk c ++ fresh → Made c f.talk.world.history g.talk.world.history fresh → AreKept c f.recalls now g.recalls → AreNumberedOn c f
    → AreInTime (recall_of f.recalls c) → AreInTime (recall_of g.recalls c) × (first_of (recall_of g.recalls c) ≤ (recall_of g.recalls c).told + 1)
unfolding Below
in-time c f g now fresh inside once made keeps before was =
    let old : Recall = recall_of f.recalls c in
    let new : Recall = recall_of g.recalls c in
    let (on, grown) = counted-on c f g now fresh inside once made keeps before in
    let fresh_low = numbered now (left_of g.talk c) old.told (numbered-on c f g now fresh inside once made before) in
    let old_low = weaker old.notices old.told (old.told + length now) (omega arith) was in
    let both = dropped (length (old.notices ++ now) - f.recalls.most) (old.notices ++ now) (old.told + length now) (joined old.notices now (old.told + length now) old_low fresh_low) in
    let all = subst (λ (l : List Notice). AllByRecursion (λ x. seq_of x ≤ old.told + length now) l) (sym keeps.kept) both in
    let done = subst (λ (m : ℕ). AllByRecursion (λ x. seq_of x ≤ m) new.notices) (sym grown) all in
    (done, first_low new.notices new.told done)

begun_case : (b : Bool) (n : ℕ) (xs : List Notice) → Below n xs → Below n (if b then xs else [])
unfolding Below
begun_case true n xs all = all
begun_case false n xs all = tt

pub begins-in-time : (h : History Global) (r t : Recalls) (c : ℕ) → c < clients h → AreBegun h r t → AllByRecursion (λ n. seq_of n ≤ (client_at h c).noticed) (recall_of r c).notices → AreInTime (recall_of t c)
unfolding Below
begins-in-time h r t c inside begun low =
    let noticed : ℕ = (client_at h c).noticed in
    subst (λ (x : Recall). AreInTime x) (sym (begun c inside)) (begun_case (is_numbered noticed (last_notice (recall_of r c).notices)) noticed (recall_of r c).notices low)
