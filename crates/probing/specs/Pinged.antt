-- Nobody is left unprobed, over histories: in a stretch in which nobody comes or goes and no ping request runs, 2n - 1 pings reach each of n peers.
-- Assumes nothing.
use Rattle.std.proofs.Math.Path.{◌≡◌}
use Rattle.std.proofs.Common.{arith}
use Rattle.std.specs.Prelude.{◌⊎◌, Bool, ◌&&◌, ℕ, ◌+◌, ◌≤◌, ◌<◌, drop}
use Rattle.std.proofs.Math.Bool.{true, false}
use mathlib.Core.List.{List, []}
use Rattle.model.specs.Rows.{one, has}
use Rattle.model.specs.Words.{Address, Lawful, Message, Wait, WaitState}
use Rattle.model.specs.Members.{Members}
use Rattle.model.specs.Node.{Node, Stored, loaded, stored}
use Rattle.model.specs.Calls.{StepOutcome}
use Rattle.laws_node.specs.Good.{Good}
use Rattle.history.specs.Beginnings.{Beginning, own_of, Gave}
use Rattle.history.specs.Histories.{Call, outcome}
use Rattle.probing.specs.Probed.{away, Ready}
use Rattle.probing.specs.Stretch.{has_run, is_ping}
use Rattle.probing.specs.Stretch as stretch

module _ {A : Type 0} (address : Address A) (lawful : Lawful address) (own b : A) (n : ℕ) (other : address.same own b ≡ false) where
  abbrev pub same : A → A → Bool
  same = address.same

  -- own and b are listed, with n peers in all
  abbrev pub At : Members A → Type 0
  At m = Ready same lawful.test address.blank own b n m

  -- how many pings it can take until b is pinged
  abbrev pub far : Members A → ℕ
  far m = away same lawful.test address.blank own b n (drop m.position m.order)

  -- what a call comes to, of a node before it and the members and messages after it: b was pinged, or it is nearer by as many pings as there were
  pub record Nears (m : Members A) (count : ℕ) (messages : List (Message A)) (m' : Members A) : Type 0 where
    pub at : At m'
    pub nearer : (has same b (stretch.pinged messages) ≡ true) ⊎ (far m' + count ≤ far m)

  -- ---- every call, on rows that hold a good node
  module _ (s : Node A) (w : Wait A) (g : Good address s) (mine : s.own ≡ own) (pos : 0 < n) where
    abbrev pub seen : Node A
    seen = loaded (stored address s)

    module _ (r : At seen.members) where
      -- a step, by the state of its wait record
      abbrev pub count : WaitState A → StepOutcome A → ℕ
      count st o = one (is_ping st && has_run o.outcome.reply)

module _ {A : Type 0} (address : Address A) (lawful : Lawful address) (begins : Beginning A) (tick : ℕ) (first : Stored A) (gave : Gave address begins first) (earlier : List (Call A)) where
  abbrev pub own : A
  own = own_of begins
