use Rattle.std.proofs.Common.{ℕ, ◌≡◌, ◌++◌, List, [], length, get_or, set, ap, ◌∙◌, arith, length-append}
use Rattle.std.specs.Prelude.{vec_capacity, Vec, slice_get, Some}
use Rattle.std.proofs.lemmas.Option.{get_or_from_slice_get, slice_get_within}
use Rattle.fleet_core.specs.Core.{pending}
use Rattle.fleet_office.specs.Hall.{handed}
use Rattle.fleet_office.proofs.leftovers.move_all.Goals as goal

-- the room that was read at the number is the one that is there
room_at : {X : Type 0} (rooms : List X) (number n : ℕ) (out v : X) → number ≡ n → out ≡ get_or rooms number out → slice_get rooms n ≡ Some v → out ≡ v
room_at rooms number n out v same read there = read ∙ ap (λ m. get_or rooms m out) same ∙ get_or_from_slice_get rooms n v out there

pub index_mut-out-requires : goal.index_mut-out-requires
index_mut-out-requires g c =
    let rooms = c.args.rooms.now in
    let room = c.requires.room in
    omega (arith, slice_get_within rooms.items c.args.client.now.number room.0 room.1, c.number-number.ensures, rooms.ok.0)

pub move_outlet-requires : goal.move_outlet-requires
move_outlet-requires g c =
    let room = c.requires.room in
    let out = c.index_mut-out.result.now in
    let same : out ≡ room.0 = room_at c.args.rooms.now.items c.number-number.result c.args.client.now.number out room.0 c.number-number.ensures c.index_mut-out.ensures.value room.1 in
    omega (arith, room.3, ap (λ (v : Vec _ _). vec_capacity v) same, ap (λ (v : Vec _ _). length v.items) same, ap length room.2, out.ok.0)

pub move_mailbox-requires-clause-known : goal.move_mailbox-requires-clause-known
move_mailbox-requires-clause-known g c = omega (arith, c.requires.known, c.number-number.ensures)

pub move_mailbox-requires-clause-there : goal.move_mailbox-requires-clause-there
move_mailbox-requires-clause-there g c = omega (arith, c.requires.there, c.number-number.ensures)

pub move_mailbox-requires-clause-room : goal.move_mailbox-requires-clause-room
move_mailbox-requires-clause-room g c =
    let room = c.requires.room in
    let out = c.index_mut-out.result.now in
    let known = c.args.client.now.known in
    let same : out ≡ room.0 = room_at c.args.rooms.now.items c.number-number.result c.args.client.now.number out room.0 c.number-number.ensures c.index_mut-out.ensures.value room.1 in
    omega (
      arith,
      room.3,
      ap (λ (v : Vec _ _). vec_capacity v) same,
      ap (λ (v : Vec _ _). length v.items) same,
      ap length room.2,
      ap length c.move_outlet.ensures.items,
      length-append out.items known,
      c.move_outlet.ensures.capacity,
      c.move_outlet.new.out.ok.0,
      ap (λ m. length (pending c.args.core.now m).notices) c.number-number.ensures,
    )

pub returns-clause-moved : goal.returns-clause-moved
returns-clause-moved g c =
    let room = c.requires.room in
    let n = c.number-number.ensures in
    let core = c.args.core.now in
    let known = c.args.client.now.known in
    let out = c.index_mut-out.result.now in
    let same : out ≡ room.0 = room_at c.args.rooms.now.items c.number-number.result c.args.client.now.number out room.0 n c.index_mut-out.ensures.value room.1 in
    let none : out.items ≡ [] = ap (λ (v : Vec _ _). v.items) same ∙ room.2 in
    let before : c.move_outlet.new.out.items ≡ known = c.move_outlet.ensures.items ∙ ap (λ xs. xs ++ known) none in (
      c.move_mailbox.new.out,
      ap (λ m. set c.args.rooms.now.items m c.move_mailbox.new.out) n,
      c.move_mailbox.ensures.items ∙ ap (λ xs. xs ++ (pending core c.number-number.result).notices) before ∙ ap (λ m. known ++ (pending core m).notices) n,
    )

pub returns-clause-core : goal.returns-clause-core
returns-clause-core g c = c.move_mailbox.ensures.core ∙ ap (λ m. handed c.args.core.now m []) c.number-number.ensures
