-- D in the ticket's own words, and what it does: the number at which an address stands after a Joined about it, listed or not, and after a Ping of it. Exactly, on any node, with the setting on or off.
-- Assumes nothing.
use Rattle.std.specs.Prelude.{◌≡◌, []}
use Rattle.std.proofs.Common.{arith}
use Rattle.std.proofs.Math.Option.{Option, none, some}
use Prim.Native.Nat.{ℕ, ◌+◌, max}
use Rattle.model.specs.Rows.{pick}
use Rattle.model.specs.Words.{Address, Event, Nothing, Joined, Recovered, Suspected, Deceased}
use Rattle.model.specs.Choose.{death}
use Rattle.model.specs.Departed.{look_up}
use Rattle.model.specs.Node.{Node, lists, numbered}
use Rattle.history.specs.Moments.{Deed, Told, Sender, Added, Ended, Other}

-- "where it has the address, else"
abbrev pub else : Option ℕ → Option ℕ → Option ℕ
else none y = y
else (some n) y = some n

-- "D + 1 or 0"
abbrev pub next : Option ℕ → ℕ
next none = 0
next (some d) = d + 1

module _ {A : Type 0} (address : Address A) where
  -- "D is taken from the row where it has the address, else from the heap", with the setting on; with it off from the heap
  abbrev pub dead : A → Node A → Option ℕ
  dead a s =
      pick s.settings.remember
      (else (look_up address.same a s.departed) (death address a s.disseminator.deceased))
      (death address a s.disseminator.deceased)

  -- the number after a Joined: the greatest of D + 1 or 0, what was joined and, of a listed address, what it stood at
  abbrev pub JoinedTo : Event A → Node A → Node A → Type 0
  JoinedTo Nothing s s' = Unit {0}
  JoinedTo (Joined f a n) s s' = numbered address a s' ≡ max (pick (lists address a s) (numbered address a s) 0) (max (next (dead a s)) n)
  JoinedTo (Recovered f a n) s s' = Unit {0}
  JoinedTo (Suspected f a n) s s' = Unit {0}
  JoinedTo (Deceased f a n) s s' = Unit {0}

  -- and after a Ping: of an unlisted sender D + 1 or 0
  abbrev pub Takes : Deed A → Node A → Node A → Type 0
  Takes (Told e) s s' = JoinedTo e s s'
  Takes (Sender a) s s' = numbered address a s' ≡ pick (lists address a s) (numbered address a s) (next (dead a s))
  Takes (Added a n) s s' = Unit {0}
  Takes (Ended a n) s s' = Unit {0}
  Takes Other s s' = Unit {0}
