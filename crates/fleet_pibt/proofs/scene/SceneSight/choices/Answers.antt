use Rattle.std.proofs.Common.{◌≡◌, ℕ, ◌<◌, Option, List, [], ◌∷◌, map, slice_index, refl, subst, arith, zero, suc}
use Rattle.std.specs.List.{All, Contains}
use Rattle.std.specs.List.Sorted.{IsPermutation}
use Rattle.fleet_pibt.specs.Door.{IsOpen}
use Rattle.fleet_pibt.specs.declared.door.Door.{Door}
use Rattle.fleet_pibt.specs.inside.Candidate.{IsCandidate, IsSmall, key_of}
use Rattle.fleet_grid.specs.Floor.{Floor, IsNeighbourIn}
use Rattle.fleet_pibt.specs.inside.Setting.{Setting, setting}
use Rattle.fleet_grid.specs.declared.dir.Dir.{Dir}
use Rattle.fleet_grid.specs.declared.dir.Dir.TheVariants.{North, East, South, West}
use Rattle.fleet_pibt.specs.declared.choice.Candidate.{Candidate}
use Rattle.fleet_grid.proofs.Forms.{wide}
use Rattle.fleet_pibt.proofs.Choices.{choices-from}
use Rattle.fleet_pibt.proofs.Seen.{seen-at}
use Rattle.fleet_pibt.proofs.scene.SceneSight.choices.Goals as goal

covers-from : (m : Floor) (door : Option Door) (from : ℕ) (own a b c d : Candidate) → ((w : ℕ) → IsNeighbourIn m North from w → IsOpen door from w → a.cell ≡ w) → ((w : ℕ) → IsNeighbourIn m East from w → IsOpen door from w → b.cell ≡ w) →
    ((w : ℕ) → IsNeighbourIn m South from w → IsOpen door from w → c.cell ≡ w) → ((w : ℕ) → IsNeighbourIn m West from w → IsOpen door from w → d.cell ≡ w) →
    (w : ℕ) → (dir : Dir) → IsNeighbourIn m dir from w → IsOpen door from w → (x : Candidate) × Contains (own ∷ a ∷ b ∷ c ∷ d ∷ []) x × (x.cell ≡ w)
covers-from m door from own a b c d n e f g w North h o = (a, (1, omega arith, refl), n w h o)
covers-from m door from own a b c d n e f g w East h o = (b, (2, omega arith, refl), e w h o)
covers-from m door from own a b c d n e f g w South h o = (c, (3, omega arith, refl), f w h o)
covers-from m door from own a b c d n e f g w West h o = (d, (4, omega arith, refl), g w h o)

all-five : (P : Candidate → Type 0) (a b c d e : Candidate) → P a → P b → P c → P d → P e → All P (a ∷ b ∷ c ∷ d ∷ e ∷ [])
all-five P a b c d e pa pb pc pd pe zero x l = pa
all-five P a b c d e pa pb pc pd pe (suc zero) x l = pb
all-five P a b c d e pa pb pc pd pe (suc (suc zero)) x l = pc
all-five P a b c d e pa pb pc pd pe (suc (suc (suc zero))) x l = pd
all-five P a b c d e pa pb pc pd pe (suc (suc (suc (suc zero)))) x l = pe
all-five P a b c d e pa pb pc pd pe (suc (suc (suc (suc (suc k))))) x l = absurd (omega arith)

keys-same : (a b c d e : Candidate) (u v x y z : ℕ) → u ≡ key_of a → v ≡ key_of b → x ≡ key_of c → y ≡ key_of d → z ≡ key_of e → u ∷ v ∷ x ∷ y ∷ z ∷ [] ≡ key_of a ∷ key_of b ∷ key_of c ∷ key_of d ∷ key_of e ∷ []
keys-same a b c d e u v x y z p q r s t = rw (p, q, r, s, t) refl

pub bounds-self-robot : goal.bounds-self-robot
bounds-self-robot g c = omega (arith, c.requires.known, c.requires.whole.gathered.same_length)

pub staying-requires-clause-whole : goal.staying-requires-clause-whole
staying-requires-clause-whole g c = c.requires.whole

pub staying-requires-clause-known : goal.staying-requires-clause-known
staying-requires-clause-known g c = c.requires.known

pub staying-requires-clause-seen : goal.staying-requires-clause-seen
staying-requires-clause-seen g c = seen-at c.args.self.now.arounds.now c.args.robot _ (omega (arith, c.requires.known, c.requires.whole.gathered.same_length))

pub moving-requires-clause-whole : goal.moving-requires-clause-whole
moving-requires-clause-whole g c = c.requires.whole

pub moving-requires-clause-known : goal.moving-requires-clause-known
moving-requires-clause-known g c = c.requires.known

pub moving-requires-clause-seen : goal.moving-requires-clause-seen
moving-requires-clause-seen g c = seen-at c.args.self.now.arounds.now c.args.robot _ (omega (arith, c.requires.known, c.requires.whole.gathered.same_length))

pub moving-requires-2-clause-whole : goal.moving-requires-2-clause-whole
moving-requires-2-clause-whole g c = c.requires.whole

pub moving-requires-2-clause-known : goal.moving-requires-2-clause-known
moving-requires-2-clause-known g c = c.requires.known

pub moving-requires-2-clause-seen : goal.moving-requires-2-clause-seen
moving-requires-2-clause-seen g c = seen-at c.args.self.now.arounds.now c.args.robot _ (omega (arith, c.requires.known, c.requires.whole.gathered.same_length))

pub moving-requires-3-clause-whole : goal.moving-requires-3-clause-whole
moving-requires-3-clause-whole g c = c.requires.whole

pub moving-requires-3-clause-known : goal.moving-requires-3-clause-known
moving-requires-3-clause-known g c = c.requires.known

pub moving-requires-3-clause-seen : goal.moving-requires-3-clause-seen
moving-requires-3-clause-seen g c = seen-at c.args.self.now.arounds.now c.args.robot _ (omega (arith, c.requires.known, c.requires.whole.gathered.same_length))

pub moving-requires-4-clause-whole : goal.moving-requires-4-clause-whole
moving-requires-4-clause-whole g c = c.requires.whole

pub moving-requires-4-clause-known : goal.moving-requires-4-clause-known
moving-requires-4-clause-known g c = c.requires.known

pub moving-requires-4-clause-seen : goal.moving-requires-4-clause-seen
moving-requires-4-clause-seen g c = seen-at c.args.self.now.arounds.now c.args.robot _ (omega (arith, c.requires.known, c.requires.whole.gathered.same_length))

pub returns : goal.returns
returns g c =
    let robot = c.args.robot in
    let self = c.args.self.now in
    let m = self.grid.now in
    let from = self.from.now in
    let s : Setting = setting m from (g.G.Guide.goal_of self.goals.now) (g.G.Guide.distance self.goals.now self.grid.now) (map (λ h. h.law) self.ties.now) self.door in
    let scene = c.requires.whole.scene in
    let small : 0 < m.width = wide m (slice_index from robot) scene.form (scene.placed.on_floor robot c.requires.known) in
    let old : List Candidate = c.staying.result ∷ c.moving.result ∷ c.moving-2.result ∷ c.moving-3.result ∷ c.moving-4.result ∷ [] in
    let keys : IsPermutation (map key_of old) c.in_order.result =
    subst (λ (ks : List ℕ). IsPermutation ks c.in_order.result) (keys-same _ _ _ _ _ _ _ _ _ _ c.key.ensures.value c.key-2.ensures.value c.key-3.ensures.value c.key-4.ensures.value c.key-5.ensures.value) c.in_order.ensures.permutation in
    rw c.cells.ensures (choices-from s small robot old c.in_order.result c.staying.result refl keys c.in_order.ensures.ascending
    (all-five IsSmall _ _ _ _ _ c.key.ensures.small c.key-2.ensures.small c.key-3.ensures.small c.key-4.ensures.small c.key-5.ensures.small)
    (all-five (IsCandidate s robot) _ _ _ _ _ c.staying.ensures.candidate c.moving.ensures.candidate c.moving-2.ensures.candidate c.moving-3.ensures.candidate c.moving-4.ensures.candidate)
    (0, omega arith, refl) c.staying.ensures.own c.staying.ensures.rank
    (λ w n. covers-from m self.door (slice_index from robot) c.staying.result c.moving.result c.moving-2.result c.moving-3.result c.moving-4.result c.moving.ensures.covers c.moving-2.ensures.covers c.moving-3.ensures.covers c.moving-4.ensures.covers w n.0.0 n.0.1 n.1))
