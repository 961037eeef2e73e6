-- DEMAND 3. Of every history from the node that creation or a restart gave (a fresh wait record at any tick, and whichever the host lends later) and of
-- every address, of any type of address: who is listed, and in which order. The replay starts at the inputs of creation or of the restart.
-- Assumes nothing.
use Rattle.std.specs.Prelude.{◌≡◌, true, false, List, ℕ, ◌+◌, ◌≤◌}
use Rattle.std.proofs.Math.Path.{ap}
use Rattle.std.proofs.Common.{sym, ◌∙◌, arith}
use Rattle.model.specs.Rows.{one, occurs}
use Rattle.model.specs.Words.{Address, Lawful}
use Rattle.model.specs.Members.{addrs}
use Rattle.model.specs.Lamps.{lamps_of}
use Rattle.model.specs.Node.{Node, Stored, loaded, stored, lists, numbered}
use Rattle.model.specs.Sound.{sound}
use Rattle.laws.specs.Counts.{has_is}
use Rattle.laws_node.specs.Good.{Good, good_sound, loaded-stored}
use Rattle.history.specs.Beginnings.{Beginning, own_of, Gave}
use Rattle.history.specs.Ledger.{Tally, begun}
use Rattle.history.specs.Did.{Kept}
use Rattle.history.specs.Worlds.{Stands, stands, Went}
use Rattle.history.proofs.Worlds.{walk, begins, first_good}
use Rattle.history.specs.Histories.{World, Call, trace, start}
use Rattle.history.specs.Next.{Known}
use Rattle.history.proofs.Next.{known_of}
use Rattle.history.specs.Demand3.{last, ledger}

module _ {A : Type 0} (address : Address A) (lawful : Lawful address) (b : Beginning A) (tick : ℕ) (node : Stored A) (gave : Gave address b node) (h : List (Call A)) (a : A) where
  -- the world after the history, and the ledger: of the beginning's inputs and the calls alone
  abbrev own : A
  own = own_of b

  went : Went address lawful a own (begun address a b) (trace address h (start address b tick)) (last address lawful b tick node gave h a)
  went = walk address lawful a own h (start address b tick) (begun address a b) (begins address lawful a b tick (first_good address lawful gave))

  pub stood : Stands address lawful a own (ledger address lawful b tick node gave h a) (last address lawful b tick node gave h a)
  stood = went.stands

  -- what a world that stands says of its node
  reads : {P : Node A → Type 0} {t : Tally} {w : World A} → ((s : Node A) → Good address s → Kept address a own s t → P s) → Stands address lawful a own t w → P (loaded w.node)
  reads f (stands s w g k) = rw (loaded-stored address lawful s g.whole) (f s g k)

  -- "an address's entries less departures is 1 where it is listed and 0 where not"
  pub counted : (ledger address lawful b tick node gave h a).entries ≡ (ledger address lawful b tick node gave h a).departures + one (lists address a (loaded (last address lawful b tick node gave h a).node))
  counted = reads {P = λ s. (ledger address lawful b tick node gave h a).entries ≡ (ledger address lawful b tick node gave h a).departures + one (lists address a s)} (λ s g k. k.count) stood

  -- "the probing order holds each listed address once and nothing more"
  pub ordered : occurs address.same a (loaded (last address lawful b tick node gave h a).node).members.order ≡ one (lists address a (loaded (last address lawful b tick node gave h a).node))
  ordered =
      reads {P = λ s. occurs address.same a s.members.order ≡ one (lists address a s)}
      (λ s g k. k.whole.counts a ∙ has_is address.same a (addrs s.members.table) (k.whole.once a))
      stood

  -- no number reported for a listed peer since its last entry is above the held one
  pub reported-held : lists address a (loaded (last address lawful b tick node gave h a).node) ≡ true → address.same own a ≡ false → (ledger address lawful b tick node gave h a).top ≤ numbered address a (loaded (last address lawful b tick node gave h a).node)
  reported-held = reads {P = λ s. lists address a s ≡ true → address.same own a ≡ false → (ledger address lawful b tick node gave h a).top ≤ numbered address a s} (λ s g k. k.low) stood

  -- "the three counts .. own address left out, true after every operation"
  pub lit : (last address lawful b tick node gave h a).node.lamps ≡ lamps_of address.same own (loaded (last address lawful b tick node gave h a).node).members.table
  unfolding stored
  lit = true_of stood
    where
      true_of : {t : Tally} {w : World A} → Stands address lawful a own t w → w.node.lamps ≡ lamps_of address.same own (loaded w.node).members.table
      true_of (stands s w g k) =
          (λ i. lamps_of address.same (k.mine i) s.members.table)
          ∙ ap (λ (x : Node A). lamps_of address.same own x.members.table) (sym (loaded-stored address lawful s g.whole))

  -- every node of a history is sound, so refusal 2 never meets one
  pub stays-sound : sound address (last address lawful b tick node gave h a).node ≡ true
  stays-sound = passes stood
    where
      passes : {t : Tally} {w : World A} → Stands address lawful a own t w → sound address w.node ≡ true
      passes (stands s w g k) = good_sound address lawful s g

  -- Whichever call comes next: its moments lead from the node before it to the node after it, say what it reports, and their deeds are its own. At each
  -- of them "while listed, its number never falls"; "a death notice that removes a peer carries a number no lower than any reported for it" (see `Fine`,
  -- with the ledger before it)
  pub known : (c : Call A) → Known address a own ((ledger address lawful b tick node gave h a)) c (last address lawful b tick node gave h a)
  known c = known_of address a lawful own _ c (last address lawful b tick node gave h a) stood
