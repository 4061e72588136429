-- Texts that are shown where there is room.
use Rattle.std.proofs.Common.{◌≡◌, ◌∙◌, ℕ, ◌<◌, Bool, true, false, ◌&&◌, List, [], ◌∷◌, ◌++◌, length, refl, sym, ap, subst}
use Rattle.std.specs.declared.alloc.Global.{Global}
use Rattle.live_fleet.specs.Act.{Act, said}
use Rattle.live_fleet.specs.Out.{Out}
use Rattle.live_fleet.specs.Turning.{SaysIfRoom, SaysOrNot, SaysThat, ShowsWhere}
use Rattle.live_fleet.specs.Went.{At, FleetView}
use Rattle.live_fleet.proofs.Going.{went-said}
use Rattle.live_fleet.proofs.Steps.{at-same}

pub says-that : (is : Bool) (to : ℕ) (text : List ℕ) (a b : At) → to < length a.out.texts → b.fleet ≡ a.fleet → SaysOrNot to text is a.out b.out → (acts : List Act) × SaysThat is to text a acts b
says-that true to text a b inside same (fits, (texts, chapters)) = (said to text ∷ [], (fits, refl, went-said a b to text inside fits same texts chapters))
says-that false to text a b inside same (full, kept) =
    ([], (full, refl, at-same a b (ap (λ (f : FleetView). f.talk) same) (ap (λ (f : FleetView). f.met) same) (ap (λ (f : FleetView). f.recalls) same) (ap (λ (o : Out). o.texts) kept) (ap (λ (o : Out). o.chapters) kept)))

pub says-if-room : (is : Bool) (to : ℕ) (text : List ℕ) (a b : At) → to < length a.out.texts → b.fleet ≡ a.fleet → SaysOrNot to text is a.out b.out → (acts : List Act) × SaysIfRoom to text a acts b
says-if-room is to text a b inside same says = let (acts, that) = says-that is to text a b inside same says in (acts, (is, that))

pub shows-where : (watching open_now : Bool) (to : ℕ) (text : List ℕ) (a b : At) → watching ≡ true → open_now ≡ true → ((acts : List Act) × SaysIfRoom to text a acts b) → (acts : List Act) × ShowsWhere (watching && open_now) text to a acts b
shows-where true true to text a b w o (acts, shown) = (acts, shown)
shows-where false open_now to text a b w o shown = absurd (let bad : false ≡ true = w in cc)
shows-where true false to text a b w o shown = absurd (let bad : false ≡ true = o in cc)
