-- What a state says of the rules, and how a trace is judged entry by entry.
use Rattle.std.proofs.Common.{◌≡◌, ℕ, zero, suc, ◌+◌, ◌^◌, ◌<◌, ◌≤◌, inl, inr, List, [], ◌∷◌, ◌++◌, length, get_or, map, take, drop, Option, Some, None, refl, sym, ap, subst, ◌∙◌, arith}
use Rattle.std.specs.Prelude.{MatchOption, All}
use Rattle.std.specs.List.{slice_index_or}
use Rattle.std.proofs.lemmas.List.{get_or-map, take_more}
use Rattle.std.proofs.lemmas.List.Sums.{count_by-le-length}
use Rattle.fleet_grid.specs.Floor.{Floor}
use Rattle.fleet_grid.specs.Step.{IsPlacement, IsConflictFree}
use Rattle.fleet_hooks.specs.Law.{IsStamp}
use Rattle.fleet_history.specs.declared.history.Arrival.{Arrival}
use Rattle.fleet_history.specs.declared.history.Bye.{Bye}
use Rattle.fleet_history.specs.declared.history.Entry.{Entry}
use Rattle.fleet_history.specs.declared.history.RobotState.{RobotState}
use Rattle.fleet_history.specs.declared.history.Entry.TheVariants.{Take, Tick, Shut}
use Rattle.fleet_history.specs.History.{History, with_entries, place, is_tick}
use Rattle.fleet_history.specs.Legal.{IsLegal, Fits, no_law}
use Rattle.fleet_history.proofs.Legal.{legal-placement, length-place, fits-at, legal-opening}
use Rattle.fleet_state.specs.State.{State, IsStateOf, robot_count}
use Rattle.fleet_state.specs.Follows.{Follows, MayFollow}
use Rattle.fleet_state.proofs.Parts.{cells-of, queue-count}
use Rattle.fleet_trace.specs.Judged.{ShowsDue, ShowsLeaving, AreStamps, ShownBreaks, Breaks, IsIllegalAt, IsFirstIllegal, IsJudgeFault, IsOf, JudgedBy}
use Rattle.fleet_trace.specs.declared.fault.JudgeFault.{JudgeFault}
use Rattle.fleet_trace.specs.declared.fault.JudgeFault.TheVariants.{Illegal, NoMemory}

-- ---- on a state

pub placed : {A : Type 0} {m : Floor} {h : History A} {s : State A} → IsStateOf m h s → IsPlacement m s.cells
placed {m = m} {h = h} k = subst (λ (cells : List ℕ). IsPlacement m cells) (sym (cells-of k)) (legal-placement m h k.legal)

pub as-many : {A : Type 0} {m : Floor} {h : History A} {s : State A} (to : List ℕ) → IsStateOf m h s → IsConflictFree m (place h) to → length to ≡ robot_count s
as-many {m = m} {h = h} to k step = step.same_length ∙ length-place m h k.legal ∙ sym (queue-count k)

pub same_at : {X Y : Type 0} (f : X → Y) (xs ys : List X) (i : ℕ) (d : X) → map f xs ≡ map f ys → i < length xs → length xs ≡ length ys → f (get_or xs i d) ≡ f (get_or ys i d)
same_at f xs ys i d e less same = sym (get_or-map f xs i d (f d) less) ∙ ap (λ (zs : List _). get_or zs i (f d)) e ∙ get_or-map f ys i d (f d) (omega (arith, less, same))

pub tick_judged : {A : Type 0} (m : Floor) (h : History A) (to : List ℕ) (arrived : List Arrival) (farewells : List Bye) → IsConflictFree m (place h) to → (rule : Option ℕ)
    → MatchOption rule (ShowsDue h to arrived × ShowsLeaving h to arrived farewells × AreStamps h arrived farewells) (λ n. ShownBreaks h to arrived farewells n)
    → MatchOption rule (Fits m h (Tick to arrived farewells)) (λ n. Breaks m h (Tick to arrived farewells) n)
tick_judged m h to arrived farewells step None shown = record { step = step; shows = shown.0; stamps = shown.2.0; leaves = shown.1; last_stamps = shown.2.1 }
tick_judged m h to arrived farewells step (Some n) shown = inr (step, shown)

pub same_tick : {A : Type 0} (to to2 : List ℕ) (arrived arrived2 : List Arrival) (farewells farewells2 : List Bye) (e : Entry A) → to ≡ to2 → arrived ≡ arrived2 → farewells ≡ farewells2 → e ≡ Tick to2 arrived2 farewells2
    → Tick to arrived farewells ≡ e
same_tick to to2 arrived arrived2 farewells farewells2 e a b c is = rw (a, b, c) (sym is)

-- the stamps of arrivals and farewells, by the laws of these robots
abbrev ArrivedBy : {A : Type 0} → List (RobotState A) → List Arrival → Type 0
ArrivedBy robots arrived = All (λ a. IsStamp (slice_index_or (map (λ x. x.arrival_law) robots) a.robot no_law) a.stamp) arrived

abbrev LeftBy : {A : Type 0} → List (RobotState A) → List Bye → Type 0
LeftBy robots farewells = All (λ b. IsStamp (slice_index_or (map (λ x. x.farewell_law) robots) b.robot no_law) b.stamp) farewells

module _ {A : Type 0} (h : History A) (robots : List (RobotState A)) (same : h.opening.robots ≡ robots) (arrived : List Arrival) (farewells : List Bye) where
  pub stamps_fine : ArrivedBy robots arrived → LeftBy robots farewells → AreStamps h arrived farewells
  stamps_fine came left = (subst (λ (xs : List (RobotState A)). ArrivedBy xs arrived) (sym same) came, subst (λ (xs : List (RobotState A)). LeftBy xs farewells) (sym same) left)

  pub arrivals_tested : AreStamps h arrived farewells → ArrivedBy robots arrived
  arrivals_tested fine = subst (λ (xs : List (RobotState A)). ArrivedBy xs arrived) same fine.0

  pub farewells_tested : AreStamps h arrived farewells → LeftBy robots farewells
  farewells_tested fine = subst (λ (xs : List (RobotState A)). LeftBy xs farewells) same fine.1

-- ---- an entry that breaks a rule does not fit

pub breaks_not : {A : Type 0} (m : Floor) (h : History A) (e : Entry A) (n : ℕ) → Breaks m h e n → Fits m h e → ⊥
breaks_not m h (Take client order v) n (inl b) fits = b.1 fits.0
breaks_not m h (Take client order v) n (inr b) fits = b.2 fits.1
breaks_not m h (Tick to arrived farewells) n (inl b) fits = b.1 fits.step
breaks_not m h (Tick to arrived farewells) n (inr (step, inl b)) fits = b.1 fits.shows
breaks_not m h (Tick to arrived farewells) n (inr (step, inr (inl b))) fits = b.2 fits.leaves
breaks_not m h (Tick to arrived farewells) n (inr (step, inr (inr b))) fits = b.3 (fits.stamps, fits.last_stamps)
breaks_not m h (Shut robot farewell) n (inl b) fits = b.1 (fits.known, fits.first)
breaks_not m h (Shut robot farewell) n (inr (inl b)) fits = b.2 fits.leaves
breaks_not m h (Shut robot farewell) n (inr (inr b)) fits = b.3 fits.stamp

pub illegal : {A : Type 0} (m : Floor) (h : History A) (at rule : ℕ) → IsFirstIllegal m h at rule → IsLegal m h → ⊥
illegal m h at rule (inl first) legal = first.2 (legal-opening m h legal)
illegal m h at rule (inr k) legal = breaks_not m (with_entries h k.before) k.entry rule k.breaks (fits-at m h k.before k.behind k.entry legal k.splits)

-- ---- entry by entry

length-take : {X : Type 0} (xs : List X) (i : ℕ) → i ≤ length xs → length (take i xs) ≡ i
length-take xs zero le = refl
length-take [] (suc i) le = absurd (omega (arith, le))
length-take (x ∷ xs) (suc i) le = ap suc (length-take xs i (omega (arith, le)))

split_at : {X : Type 0} (xs : List X) (i : ℕ) (d : X) → i < length xs → xs ≡ take i xs ++ get_or xs i d ∷ drop (suc i) xs
split_at [] i d less = absurd (omega (arith, less))
split_at (x ∷ xs) zero d less = refl
split_at (x ∷ xs) (suc i) d less = ap (λ (ys : List _). x ∷ ys) (split_at xs i d (omega (arith, less)))

take_whole : {X : Type 0} (xs : List X) (i : ℕ) → length xs ≤ i → take i xs ≡ xs
take_whole [] zero le = refl
take_whole [] (suc i) le = refl
take_whole (x ∷ xs) zero le = absurd (omega (arith, le))
take_whole (x ∷ xs) (suc i) le = ap (λ (ys : List _). x ∷ ys) (take_whole xs i (omega (arith, le)))

module _ {A : Type 0} (m : Floor) (h : History A) where
  -- the history up to an entry
  abbrev pub upto : ℕ → History A
  upto i = with_entries h (take i h.entries)

  module _ (i : ℕ) (e : Entry A) (s : State A) (k : IsStateOf m (upto i) s) (less : i < length h.entries) (is : get_or h.entries i e ≡ e) where
    of_robots : IsOf m h.opening.robots s (upto i)
    of_robots = record { is = k; same = refl }

    pub illegal_at : (n : ℕ) → JudgedBy m h.opening.robots s e (Some n) → IsIllegalAt m h (i + 1) n
    illegal_at n judged = record {
      before = take i h.entries;
      entry = e;
      behind = drop (suc i) h.entries;
      splits = split_at h.entries i e less ∙ ap (λ (x : Entry A). take i h.entries ++ x ∷ drop (suc i) h.entries) is;
      place = ap (λ (n : ℕ). n + 1) (sym (length-take h.entries i (omega (arith, less))));
      legal = k.legal;
      breaks = judged (upto i) of_robots;
    }

    pub may_follow : JudgedBy m h.opening.robots s e None → h.opening.tick + length h.entries < 2 ^ 63 → MayFollow s e
    may_follow judged early = record {
      floor = m;
      history = upto i;
      is = k;
      fits = judged (upto i) of_robots;
      early = omega (arith, early, count_by-le-length is_tick (take i h.entries), length-take h.entries i (omega (arith, less)), less);
      few = omega (arith, early, length-take h.entries i (omega (arith, less)), less);
    }

    pub goes_on : (t : State A) → JudgedBy m h.opening.robots s e None → Follows s e t → IsStateOf m (upto (i + 1)) t
    goes_on t judged follows =
        let more : take i h.entries ++ e ∷ [] ≡ take (i + 1) h.entries = sym (take_more h.entries i e less ∙ ap (λ (x : Entry A). take i h.entries ++ x ∷ []) is) in
        subst (λ (es : List (Entry A)). IsStateOf m (with_entries h es) t) more (follows m (upto i) k (judged (upto i) of_robots))

  -- the state after all entries
  pub all_entered : (i : ℕ) (s : State A) → IsStateOf m (upto i) s → length h.entries ≤ i → IsStateOf m h s
  all_entered i s k le = subst (λ (es : List (Entry A)). IsStateOf m (with_entries h es) s) (take_whole h.entries i le) k

-- a legal trace is refused for lack of memory alone
pub only_memory : {A : Type 0} (m : Floor) (h : History A) (fault : JudgeFault) → IsJudgeFault m h fault → IsLegal m h → fault ≡ NoMemory
only_memory m h (Illegal at rule) is legal = absurd (illegal m h at rule is legal)
only_memory m h NoMemory is legal = refl
