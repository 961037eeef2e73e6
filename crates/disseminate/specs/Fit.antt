-- How many gossip records a message has at most, by the least size of one: 64 of 18 bytes, so that 64 places and 64 rounds are enough.
-- Assumes nothing.
use Rattle.std.specs.Prelude.{◌≡◌, refl, Bool, true, false, ◌&&◌, List, ℕ, ◌+◌, ◌*◌, ◌/◌, ◌≤◌, ◌<◌, length, eqb, leb}
use Rattle.std.proofs.Common.{ap, sym, ◌∙◌, arith, eqb-true, le-leb}
use Rattle.model.specs.Bounds.{greatest_size}
use Rattle.model.specs.Rows.{every}
use Rattle.model.specs.Words.{Event, Nothing, Joined, Recovered, Suspected, Deceased, Gossip, Entry, parts_of}
use Rattle.model.specs.Size.{size_of}
use Rattle.address.specs.Here.{Addr, here}
use Rattle.model.specs.Choose.{Terms, rounds, begin, choose}
use Rattle.model.specs.declared.Kind.{Kind}
use Rattle.model.specs.declared.Kind.TheVariants as kind
use Rattle.model.specs.Sound.{of_kind, valid_gossip, sound_entry}
use Rattle.laws.specs.Bools.{and_split, every_weaken}
use Rattle.types.specs.SizeLaws.{size_over-here}
use Rattle.laws_choose.specs.GoodHeap.{GoodHeap}
use Rattle.laws_choose.specs.ChooseLaws.{at_least, rounds_enough, chosen_fit}

-- "From 18 to 111": no record that is held has fewer bytes
abbrev pub least_gossip : ℕ
least_gossip = 18

-- so many are chosen for a message at most
abbrev pub most_chosen : ℕ
most_chosen = greatest_size / least_gossip

-- a record of no event is of no heap's kind
no_kind : {B : Type 0} (k : Kind) → of_kind k 0 ≡ true → B
no_kind kind.Alive e = let z : ◌≡◌ {A = ℕ} 0 1 = cc in absurd (omega arith)
no_kind kind.Deceased e = let z : ◌≡◌ {A = ℕ} 0 1 = cc in absurd (omega arith)

sized : (k : Kind) (e : Event Addr) → of_kind k (parts_of here e).kind ≡ true → least_gossip ≤ size_of here (record { event = e })
unfolding parts_of size_of
sized k Nothing h = no_kind k h
sized k (Joined f s n) h = (size_over-here f s n).0
sized k (Recovered f s n) h = (size_over-here f s n).0
sized k (Suspected f s n) h = (size_over-here f s n).0
sized k (Deceased f s n) h = (size_over-here f s n).0

pub sound-least : (k : Kind) (e : Entry Addr) → sound_entry here k e ≡ true → at_least here least_gossip e ≡ true
unfolding sound_entry
sound-least k e s =
    let kind : Bool = of_kind k (parts_of here e.gossip.event).kind in
    let size : Bool = eqb e.size (size_of here e.gossip) in
    let p = and_split (kind && size && leb e.sends 22) (valid_gossip here e.gossip) s in
    let q = and_split (kind && size) (leb e.sends 22) p.0 in
    let r = and_split kind size q.0 in
    le-leb least_gossip e.size (omega (arith, sized k e.gossip.event r.0, eqb-true e.size (size_of here e.gossip) r.1))

pub heap_least : (k : Kind) (h : List (Entry Addr)) → GoodHeap here k h → every (at_least here least_gossip) h ≡ true
heap_least k h g = every_weaken (sound_entry here k) (at_least here least_gossip) (sound-least k) h g.entries

pub few_chosen : (t : Terms) (alive deceased : List (Entry Addr)) → t.max_size ≤ greatest_size → GoodHeap here kind.Alive alive → GoodHeap here kind.Deceased deceased
    → length (choose here t alive deceased).chosen ≤ most_chosen
few_chosen t alive deceased h g k =
    omega (arith, chosen_fit here least_gossip t alive deceased (heap_least kind.Alive alive g) (heap_least kind.Deceased deceased k))

-- so no round past as many changes anything: any number of rounds beyond gives the same choice
pub choose_enough : (t : Terms) (alive deceased : List (Entry Addr)) (f : ℕ) → most_chosen ≤ f → t.max_size ≤ greatest_size → GoodHeap here kind.Alive alive → GoodHeap here kind.Deceased deceased
    → rounds here f t (begin here alive deceased) ≡ choose here t alive deceased
unfolding choose
choose_enough t alive deceased f h s g k = enough f h ∙ sym (enough 64 (omega arith))
  where
    enough : (n : ℕ) → most_chosen ≤ n → rounds here n t (begin here alive deceased) ≡ rounds here most_chosen t (begin here alive deceased)
    enough n l =
        rounds_enough here least_gossip t most_chosen (λ c w. omega (arith, w.counted, w.fits)) most_chosen n (begin here alive deceased)
        (record { alive = heap_least kind.Alive alive g; deceased = heap_least kind.Deceased deceased k; counted = omega arith; fits = omega arith })
        (omega arith)
        l
