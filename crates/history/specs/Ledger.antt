-- 01's ledger of one address: a fold over the moments. It reads of a moment what was asked and, of the replay, the held number and the held state; it never
-- reads who is listed.
-- Assumes nothing.
use Rattle.std.specs.Prelude.{Bool, false, not, ◌&&◌, List, [], ◌∷◌, ℕ, ◌+◌, max, ltb, leb}
use Rattle.model.specs.Rows.{one, pick, has}
use Rattle.model.specs.Words.{Address, is_alive, parts_of, Event, Nothing, Joined, Recovered, Suspected, Deceased, Gossip}
use Rattle.model.specs.Members.{addrs}
use Rattle.model.specs.Node.{Node, numbered, state_of}
use Rattle.history.specs.Beginnings.{Beginning, Creation, Restart}
use Rattle.history.specs.Moments.{Deed, Told, Sender, Added, Ended, Other, Moment}

pub record Tally : Type 0 where
  pub entries : ℕ
  pub departures : ℕ
  -- the greatest number reported since the last entry, that event included
  pub top : ℕ

-- "Here "listed" means that entries so far exceed departures"
abbrev pub inside : Tally → Bool
inside t = ltb t.departures t.entries

module _ {A : Type 0} (address : Address A) (a : A) where
  -- "Entries: .. an add, Joined gossip or Ping sender while not listed."
  abbrev pub tells : Event A → Bool
  tells Nothing = false
  tells (Joined f b n) = address.same a b
  tells (Recovered f b n) = false
  tells (Suspected f b n) = false
  tells (Deceased f b n) = false

  abbrev pub comes : Deed A → Bool
  comes (Told e) = tells e
  comes (Sender b) = address.same a b
  comes (Added b n) = address.same a b
  comes (Ended b n) = false
  comes Other = false

  -- "Departures: Deceased gossip while listed with a number ≥ the held one; an ended timer while listed", "not Alive, and its number is no greater than the timer's"
  abbrev pub kills : Event A → Node A → Bool
  kills Nothing s = false
  kills (Joined f b n) s = false
  kills (Recovered f b n) s = false
  kills (Suspected f b n) s = false
  kills (Deceased f b n) s = address.same a b && leb (numbered address a s) n

  abbrev pub goes : Deed A → Node A → Bool
  goes (Told e) s = kills e s
  goes (Sender b) s = false
  goes (Added b n) s = false
  goes (Ended b n) s = address.same a b && (not (is_alive (state_of address a s)) && leb (numbered address a s) n)
  goes Other s = false

  -- the number that a notice or a timer carries
  abbrev pub carried : Deed A → ℕ
  carried (Told e) = (parts_of address e).number
  carried (Sender b) = 0
  carried (Added b n) = n
  carried (Ended b n) = n
  carried Other = 0

  -- ""Reported" means the number in an event that a kept call reported for that address."
  abbrev pub about : Event A → ℕ
  about Nothing = 0
  about (Joined f b n) = pick (address.same a b) n 0
  about (Recovered f b n) = pick (address.same a b) n 0
  about (Suspected f b n) = pick (address.same a b) n 0
  about (Deceased f b n) = pick (address.same a b) n 0

  abbrev pub reported : List (Gossip A) → ℕ
  reported [] = 0
  reported (g ∷ gs) = max (about g.event) (reported gs)

  -- one moment: what it counts, and whether the bound starts anew
  abbrev pub step : Moment A → Tally → Tally
  step m t =
      record {
        entries = t.entries + one (comes m.deed && not (inside t));
        departures = t.departures + one (goes m.deed m.before && inside t);
        top = pick (comes m.deed && not (inside t)) (reported m.said) (max t.top (reported m.said));
      }

  abbrev pub tally : List (Moment A) → Tally → Tally
  tally [] t = t
  tally (m ∷ ms) t = tally ms (step m t)

  -- "Entries: the fresh node's own address"; "from a restored node with its listed addresses as first entries"
  abbrev pub begun : Beginning A → Tally
  begun (Creation settings own n) = record { entries = one (address.same a own); departures = 0; top = 0 }
  begun (Restart settings own rows position) = record { entries = one (has address.same a (addrs rows)); departures = 0; top = 0 }
