-- The closures that a script chooses, by their laws.
use Rattle.std.proofs.Common.{◌≡◌, ℕ, zero, suc, List, [], ◌∷◌, length, map, take, refl, ap, ◌∙◌}
use Rattle.fleet_hooks.specs.declared.law.StampLaw.{StampLaw}
use Rattle.fleet_hooks.specs.declared.law.TieLaw.{TieLaw}
use Rattle.fleet_core.specs.Hooks.{HookLaws}
use Rattle.fleet_text.specs.Kit.{KitLaws, cut_laws, chosen_laws, same_laws}
use Rattle.fleet_script.specs.Script.{Plan}
use Rattle.std.specs.Prelude.{if◌then◌else◌, replicate}

map_take : {X Y : Type 0} (f : X → Y) (n : ℕ) (xs : List X) → map f (take n xs) ≡ take n (map f xs)
map_take f zero xs = refl
map_take f (suc n) [] = refl
map_take f (suc n) (x ∷ xs) = ap (λ ys. f x ∷ ys) (map_take f n xs)

-- the laws of the first items
pub first_laws : {X Y : Type 0} (f : X → Y) (n : ℕ) (xs ys : List X) → ys ≡ take n xs → map f ys ≡ take n (map f xs)
first_laws f n xs ys e = ap (λ zs. map f zs) e ∙ map_take f n xs

-- three lists of laws, each cut
cut_is : (n : ℕ) (laws : HookLaws) (ties : List TieLaw) (arrivals farewells : List StampLaw) → ties ≡ take n laws.ties → arrivals ≡ take n laws.arrivals → farewells ≡ take n laws.farewells
    → record { ties = ties; arrivals = arrivals; farewells = farewells } ≡ cut_laws n laws
cut_is n laws ties arrivals farewells t a f = rw (t, a, f) refl

-- the laws of the closures that the script chooses
pub chosen_is : (kit : KitLaws) (p : Plan) (chosen : HookLaws) (n : ℕ) (ties : List TieLaw) (arrivals farewells : List StampLaw) → chosen ≡ (if p.south then kit.south else kit.plain) → n ≡ length p.starts
    → ties ≡ take n chosen.ties → arrivals ≡ take n chosen.arrivals → farewells ≡ take n chosen.farewells → record { ties = ties; arrivals = arrivals; farewells = farewells } ≡ chosen_laws kit p
chosen_is kit p chosen n ties arrivals farewells c l t a f = cut_is n chosen ties arrivals farewells t a f ∙ (ap (λ (k : ℕ). cut_laws k chosen) l ∙ ap (λ (laws : HookLaws). cut_laws (length p.starts) laws) c)

-- the laws of three lists, in each of which all hooks have one law
pub laws-are : {X Y Z : Type 0} (f : X → TieLaw) (g : Y → StampLaw) (h : Z → StampLaw) (n : ℕ) (ties : List X) (arrivals : List Y) (farewells : List Z)
    {tie tie' : TieLaw} {arrival arrival' farewell farewell' : StampLaw}
    → map f ties ≡ replicate n tie → tie ≡ tie' → map g arrivals ≡ replicate n arrival → arrival ≡ arrival' → map h farewells ≡ replicate n farewell → farewell ≡ farewell'
    → record { ties = map f ties; arrivals = map g arrivals; farewells = map h farewells } ≡ same_laws n tie' arrival' farewell'
laws-are f g h n ties arrivals farewells t tie a arrival l farewell = rw (t, a, l, tie, arrival, farewell) refl

-- the laws of a kit
pub kit-is : {plain plain' south south' : HookLaws} → plain ≡ plain' → south ≡ south' → ◌≡◌ {A = KitLaws} (record { plain = plain; south = south }) (record { plain = plain'; south = south' })
kit-is p s = rw (p, s) refl
