-- What is chosen for a message: the sizes of its gossip add up to `max_size` at most.
-- Assumes nothing.
use Rattle.std.specs.Prelude.{◌≡◌, refl, true, ◌&&◌, List, [], ◌∷◌, ◌++◌, ℕ, ◌+◌, ◌≤◌}
use Rattle.std.proofs.Math.Bool.{Bool}
use Rattle.std.proofs.Math.Option.{some}
use native.Mathlib.Omega.{arith}
use Rattle.std.proofs.Math.Dec.{eqb, leb}
use borrow.Author.Tests.{eqb-true}
use Rattle.model.specs.Words.{Address, Entry, parts_of}
use Rattle.model.specs.Rows.{every}
use Rattle.model.specs.Size.{size_of}
use Rattle.model.specs.Choose.{Terms, Choice, Taken, take_top, after_alive, after_deceased, begin, choose}
use Rattle.model.specs.Sound.{of_kind, valid_gossip, sound_entry}
use Rattle.model.specs.declared.Kind.{Kind}
use Rattle.model.specs.declared.Kind.TheVariants as kind
use Rattle.laws.specs.Bools.{and_split}
use Rattle.laws_choose.specs.GoodHeap.{GoodHeap}
use Rattle.laws_choose.specs.ChooseLaws.{Gave, GoodHeaps, taken_good, rounds_keep}
use Rattle.fits.specs.Sizes.{sizes}
use Rattle.fits.proofs.Sizes.{sizes-more}

module _ {A : Type 0} (address : Address A) where
  -- a held entry says its gossip's size
  sound_size : (k : Kind) (e : Entry A) → sound_entry address k e ≡ true → e.size ≡ size_of address e.gossip
  unfolding sound_entry
  sound_size k e s =
      let kind : Bool = of_kind k (parts_of address e.gossip.event).kind in
      let size : Bool = eqb e.size (size_of address e.gossip) in
      let p = and_split (kind && size && leb e.sends 22) (valid_gossip address e.gossip) s in
      let q = and_split (kind && size) (leb e.sends 22) p.0 in
      eqb-true e.size (size_of address e.gossip) (and_split kind size q.0).1

  taken_size : (k : Kind) (t : Terms) (size : ℕ) (h : List (Entry A)) (x : Taken A) → GoodHeap address k h → Gave address t size h x → x.size ≡ size_of address x.gossip
  unfolding take_top
  taken_size k t size h x g v =
      let g₁ : GoodHeap address k (v.top ∷ v.rest) = rw v.is at g in
      rw v.taken (sound_size k v.top (and_split (sound_entry address k v.top) (every (sound_entry address k) v.rest) g₁.entries).0)

  -- what each round keeps: the size that is counted is the sizes of what is chosen, added up
  record Added (t : Terms) (c : Choice A) : Type 0 where
    pub heaps : GoodHeaps address c
    pub sum : sizes address c.chosen ≡ c.size
    pub fits : c.size ≤ t.max_size

  one_more : (c : Choice A) (x : Taken A) → sizes address c.chosen ≡ c.size → x.size ≡ size_of address x.gossip → sizes address (c.chosen ++ (x.gossip ∷ [])) ≡ c.size + x.size
  one_more c x s e = omega (arith, sizes-more address c.chosen x.gossip)

  module _ (t : Terms) (limit : t.limit ≤ 23) where
    taken_fits : (size : ℕ) (h : List (Entry A)) (x : Taken A) → Gave address t size h x → size + x.size ≤ t.max_size
    unfolding take_top
    taken_fits size h x v = rw v.taken v.fits

    alive-added : (c : Choice A) (x : Taken A) → Added t c → Gave address t c.size c.alive x → Added t (after_alive address c (some x))
    alive-added c x p v =
        record {
          heaps = record { alive = taken_good address kind.Alive t c.size c.alive x limit p.heaps.alive v; deceased = p.heaps.deceased };
          sum = one_more c x p.sum (taken_size kind.Alive t c.size c.alive x p.heaps.alive v);
          fits = taken_fits c.size c.alive x v;
        }

    deceased-added : (c : Choice A) (x : Taken A) → Added t c → Gave address t c.size c.deceased x → Added t (after_deceased address c (some x))
    deceased-added c x p v =
        record {
          heaps = record { alive = p.heaps.alive; deceased = taken_good address kind.Deceased t c.size c.deceased x limit p.heaps.deceased v };
          sum = one_more c x p.sum (taken_size kind.Deceased t c.size c.deceased x p.heaps.deceased v);
          fits = taken_fits c.size c.deceased x v;
        }

    -- THE SIZES OF WHAT IS CHOSEN ADD UP TO `max_size` AT MOST
    pub chosen-sizes : (alive deceased : List (Entry A)) → GoodHeap address kind.Alive alive → GoodHeap address kind.Deceased deceased
        → sizes address (choose address t alive deceased).chosen ≤ t.max_size
    unfolding choose sizes
    chosen-sizes alive deceased g h =
        let a : Added t (choose address t alive deceased) =
        rounds_keep address t (Added t) alive-added deceased-added 64 (begin address alive deceased)
        (record { heaps = record { alive = g; deceased = h }; sum = refl; fits = omega arith }) in
        omega (arith, a.sum, a.fits)
