-- What a moment did to the list, in the ledger's own words; "listed" is that of the replay's node before it.
-- Assumes nothing.
use Rattle.std.specs.Prelude.{false, not, ◌&&◌, List, [], ◌∷◌, ◌++◌, ℕ, ◌+◌, length}
use Rattle.model.specs.declared.State.TheVariants.{Alive}
use Rattle.model.specs.Rows.{one, pad_to}
use Rattle.address.specs.Here.{Addr, here}
use Rattle.model.specs.Words as W
use Rattle.model.specs.Members as list
use Rattle.model.specs.Node.{lists, numbered, state_of}
use Rattle.history.specs.Moments.{Deed, Told, Sender, Added, Ended, Other, Moment}
use Rattle.history.specs.Ledger.{comes, goes, carried}
use Rattle.accounts.specs.declared.Change.{Change}
use Rattle.accounts.specs.declared.Account.{Account}

-- whom a rule was asked about
abbrev pub whom : Deed Addr → Addr
whom (Told e) = (W.parts_of here e).subject
whom (Sender b) = b
whom (Added b n) = b
whom (Ended b n) = b
whom Other = here.blank

-- "Entries: .. while not listed", "Departures: .. while listed": the ledger's tests of the address that the rule was asked about
abbrev pub change_of : Moment Addr → Change
change_of m =
    let a = whom m.deed in
    record {
      address = a;
      given = carried here a m.deed;
      enters = comes here a m.deed && not (lists here a m.before);
      leaves = goes here a m.deed m.before && lists here a m.before;
      listed = lists here a m.before;
      state = state_of here a m.before;
      held = numbered here a m.before;
      number = numbered here a m.after;
    }

-- a rule that was asked about nobody has no place: so a message's record k stands at place k, and a Ping's sender behind the records
abbrev pub placed : Deed Addr → Change → List Change
placed (Told e) c = c ∷ []
placed (Sender b) c = c ∷ []
placed (Added b n) c = c ∷ []
placed (Ended b n) c = c ∷ []
placed Other c = []

abbrev pub changes : List (Moment Addr) → List Change
changes [] = []
changes (m ∷ ms) = placed m.deed (change_of m) ++ changes ms

-- how often an address comes in and goes, among them
abbrev pub entries_in : Addr → List Change → ℕ
entries_in a [] = 0
entries_in a (c ∷ cs) = one (here.same a c.address && c.enters) + entries_in a cs

abbrev pub departures_in : Addr → List Change → ℕ
departures_in a [] = 0
departures_in a (c ∷ cs) = one (here.same a c.address && c.leaves) + departures_in a cs

-- an unused place
abbrev pub no_change : Change
no_change = record { address = here.blank; given = 0; enters = false; leaves = false; listed = false; state = Alive; held = 0; number = 0 }

-- the changes of a call in a row of 65 places
abbrev pub account_of : List Change → Account
account_of cs = record { changes = pad_to 65 no_change cs; count = length cs }

-- how an address stands in two lists
abbrev pub between : List (W.Member Addr) → List (W.Member Addr) → Addr → ℕ → Change
between t u a n =
    let same = here.same in
    record {
      address = a;
      given = n;
      enters = not (list.listed same a t) && list.listed same a u;
      leaves = list.listed same a t && not (list.listed same a u);
      listed = list.listed same a t;
      state = list.held_state same a t;
      held = list.held same a t;
      number = list.held same a u;
    }
