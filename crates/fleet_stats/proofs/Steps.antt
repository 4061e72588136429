-- Distances by steps down the ways that lead nearer.
use Rattle.std.proofs.Common.{◌≡◌, ◌≢◌, ℕ, suc, ◌+◌, ◌<◌, ◌≤◌, List, [], ◌∷◌, length, Option, Some, None, IsTrue, ◌↔◌, refl, sym, ap, subst, ◌∙◌, arith}
use Rattle.std.specs.Prelude.{MatchOption}
use Rattle.fleet_grid.specs.declared.dir.Dir.{Dir}
use Rattle.fleet_grid.specs.Floor.{Floor, IsFloor, IsNeighbour, IsNeighbourIn}
use Rattle.fleet_grid.specs.Walk.{Walks, IsDistance}
use Rattle.fleet_grid.specs.Distance.{distance}
use Rattle.fleet_grid.specs.Ways.{IsWay, IsLess, AreNearer}
use Rattle.fleet_grid.proofs.Shortest.{distance_is, is_distance, distance_below}
use Rattle.fleet_stats.specs.inside.Steps.{IsNoWay, IsOnWay, IsStep, after}

long : (c : ℕ) (cs : List ℕ) → length (c ∷ cs) ≡ length cs + 1
long c cs = grind arith

-- after its first edge a shortest walk is a shortest one
tail_is : (m : Floor) (a b c : ℕ) (cs : List ℕ) (d : ℕ) → IsNeighbour m a c → Walks (IsNeighbour m) c cs b → length (c ∷ cs) ≡ d → IsDistance (IsNeighbour m) a b d → IsDistance (IsNeighbour m) c b (length cs)
tail_is m a b c cs d e w n dist = record {
  walk = (cs, w, refl);
  least = λ ys v. let l = dist.least (c ∷ ys) (e, v) in omega (arith, l, n, long c cs, long c ys);
}

-- a neighbour that is nearer is nearer by one
one_less : (m : Floor) (dir : Dir) (a c b : ℕ) (x y : Option ℕ) → IsNeighbourIn m dir a c → distance m a b ≡ x → distance m c b ≡ y → IsLess y x → x ≡ after 1 y
one_less m dir a c b (Some d) (Some e) near from to less =
    let far = distance_is m a b d from in
    let close = distance_is m c b e to in
    let most = far.least (c ∷ close.walk.0) ((dir, near), close.walk.1) in
    ap Some (let same : d ≡ 1 + e = omega (arith, less, most, close.walk.2, long c close.walk.0) in same)
one_less m dir a c b None (Some e) near from to less = absurd less
one_less m dir a c b (Some d) None near from to less = absurd less
one_less m dir a c b None None near from to less = absurd less

module _ (m : Floor) (goal cell ways : ℕ) (floor : IsFloor m cell) (nearer : AreNearer m (λ c. distance m c goal) cell ways) where
  steps-down : (next : ℕ) → IsOnWay m ways cell next → IsStep m goal cell (Some next)
  steps-down next on = (on.1.to, one_less m on.0 cell next goal (distance m cell goal) (distance m next goal) on.1 refl refl ((nearer on.0 next on.1).0 on.2))

  stuck : (cs : List ℕ) (d : ℕ) → ((dir : Dir) → IsNoWay m ways cell dir) → cell ≢ goal → distance m cell goal ≡ Some d → Walks (IsNeighbour m) cell cs goal → length cs ≡ d → ⊥
  stuck [] d none other at walk len = other walk
  stuck (c ∷ cs) d none other at walk len =
      let near = walk.0 in
      let is = is_distance m c goal (length cs) near.1.to (tail_is m cell goal c cs d near walk.1 len (distance_is m cell goal d at)) in
      let less : IsLess (Some (length cs)) (Some d) = omega (arith, len, long c cs) in
      none near.0 c near.1 ((nearer near.0 c near.1).1 (rw (is, at) less))

  no-step : (o : Option ℕ) → ((dir : Dir) → IsNoWay m ways cell dir) → cell ≢ goal → distance m cell goal ≡ o → o ≡ None
  no-step None none other at = refl
  no-step (Some d) none other at =
      let walk = (distance_is m cell goal d at).walk in
      absurd (stuck walk.0 d none other at walk.1 walk.2)

  stays : ((dir : Dir) → IsNoWay m ways cell dir) → IsStep m goal cell None
  stays none = λ other. no-step (distance m cell goal) none other refl

  pub step-is : (o : Option ℕ) → MatchOption o ((dir : Dir) → IsNoWay m ways cell dir) (IsOnWay m ways cell) → IsStep m goal cell o
  step-is None none = stays none
  step-is (Some next) on = steps-down next on

-- ---- steps that are counted

pub at-goal : (m : Floor) (goal from taken : ℕ) → IsFloor m goal → after taken (distance m goal goal) ≡ distance m from goal → Some taken ≡ distance m from goal
at-goal m goal from taken floor same =
    let here : distance m goal goal ≡ Some 0 = is_distance m goal goal 0 floor (record { walk = ([], refl, refl); least = λ cs v. omega arith }) in
    let sum : after taken (distance m goal goal) ≡ Some taken = ap (after taken) here ∙ ap Some (let e : taken + 0 ≡ taken = omega arith in e) in
    sym sum ∙ same

after-more : (taken : ℕ) (o : Option ℕ) → after taken (after 1 o) ≡ after (taken + 1) o
after-more taken None = refl
after-more taken (Some d) = ap Some (let e : taken + (1 + d) ≡ taken + 1 + d = omega arith in e)

pub one-more : (m : Floor) (goal cell next taken : ℕ) (whole : Option ℕ) → distance m cell goal ≡ after 1 (distance m next goal) → after taken (distance m cell goal) ≡ whole → after (taken + 1) (distance m next goal) ≡ whole
one-more m goal cell next taken whole step same = sym (after-more taken (distance m next goal)) ∙ sym (ap (after taken) step) ∙ same

none-left : (m : Floor) (goal from taken : ℕ) (o : Option ℕ) → IsFloor m from → length m.letters ≤ taken → after taken o ≡ distance m from goal → None ≡ distance m from goal
none-left m goal from taken None floor all same = same
none-left m goal from taken (Some d) floor all same =
    let below = distance_below m from goal (taken + d) floor (distance_is m from goal (taken + d) (sym same)) in
    absurd (omega (arith, below, all))

-- a walk has fewer steps than there are cells
pub no-more : (m : Floor) (goal cell from taken : ℕ) → IsFloor m from → length m.letters ≤ taken → after taken (distance m cell goal) ≡ distance m from goal → None ≡ distance m from goal
no-more m goal cell from taken floor all same = none-left m goal from taken (distance m cell goal) floor all same
