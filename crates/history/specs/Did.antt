-- What a rule does to one address, and how the ledger keeps pace with it.
-- Assumes nothing.
use Rattle.std.specs.Prelude.{◌≡◌, ℕ, ◌+◌, ◌≤◌}
use Rattle.std.proofs.Common.{arith}
use Rattle.std.proofs.Math.Bool.{true, false, not}
use mathlib.Core.List.{[]}
use Rattle.model.specs.Rows.{one}
use Rattle.model.specs.Words.{Address, is_alive, Deceased}
use Rattle.model.specs.Node.{Node, Out, lists, numbered, state_of}
use Rattle.laws_list.specs.Whole.{Whole}
use Rattle.history.specs.Moments.{Deed, Told, Ended, Moment}
use Rattle.history.specs.Ledger.{Tally, inside, comes, goes, carried, reported, step}

module _ {A : Type 0} (address : Address A) (a : A) where
  -- what a rule did to the address, whatever the ledger says
  pub record Did (s : Node A) (d : Deed A) (o : Out A) : Type 0 where
    pub whole : Whole address.same o.node.members
    pub mine : o.node.own ≡ s.own
    pub was : lists address a s ≡ true → lists address a o.node ≡ not (goes address a d s)
    pub new : lists address a s ≡ false → lists address a o.node ≡ comes address a d
    pub rises : lists address a s ≡ true → lists address a o.node ≡ true → numbered address a s ≤ numbered address a o.node
    pub told : lists address a o.node ≡ true → address.same s.own a ≡ false → reported address a o.said ≤ numbered address a o.node

  -- what holds of a node with the ledger of the moments so far
  pub record Kept (own : A) (s : Node A) (t : Tally) : Type 0 where
    pub whole : Whole address.same s.members
    pub mine : s.own ≡ own
    pub count : t.entries ≡ t.departures + one (lists address a s)
    pub low : lists address a s ≡ true → address.same own a ≡ false → t.top ≤ numbered address a s

  -- what demand 3 says of a moment, with the ledger before it
  pub record Fine (own : A) (t : Tally) (m : Moment A) : Type 0 where
    -- while the address stays listed its number never falls
    pub rises : inside t ≡ true → inside (step address a m t) ≡ true → numbered address a m.before ≤ numbered address a m.after
    -- a Deceased gossip that removes a peer carries a number no lower than any reported for it
    pub bound : (f : A) (n : ℕ) → m.deed ≡ Told (Deceased f a n) → address.same own a ≡ false → inside t ≡ true → goes address a m.deed m.before ≡ true → t.top ≤ n
    -- nor lower than the held one: an older message removes nobody
    pub no_older : (f : A) (n : ℕ) → m.deed ≡ Told (Deceased f a n) → goes address a m.deed m.before ≡ true → numbered address a m.before ≤ n
    -- a peer that is Alive is removed by no timer, nor one whose number is greater than the timer's
    pub no_alive : (n : ℕ) → m.deed ≡ Ended a n → goes address a m.deed m.before ≡ true → is_alive (state_of address a m.before) ≡ false
    pub no_late : (n : ℕ) → m.deed ≡ Ended a n → goes address a m.deed m.before ≡ true → numbered address a m.before ≤ n
    -- so no departure carries a number below the held one
    pub no_lower : goes address a m.deed m.before ≡ true → numbered address a m.before ≤ carried address a m.deed
    -- an address that was listed leaves at a departure of the ledger, and at nothing else
    pub leaves : lists address a m.before ≡ true → lists address a m.after ≡ not (goes address a m.deed m.before)
    -- who is listed before and after it: the ledger says so
    pub before : inside t ≡ lists address a m.before
    pub after : inside (step address a m t) ≡ lists address a m.after
