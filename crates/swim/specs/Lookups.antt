-- Lookups: what a collector asks of a node. "2 .. the handed node isn't sound", then "5 .. an address of 2^48 or more among the call's inputs".
-- Assumes nothing.
use Rattle.std.specs.Prelude.{Bool, not, [], ◌∷◌, ℕ, length, get_or, ltb}
use Rattle.model.specs.declared.Refusal.{Refusal}
use Rattle.model.specs.declared.Refusal.TheVariants.{Unsound, AddressRange}
use Rattle.model.specs.Answers.{number_of}
use Rattle.model.specs.Rows.{pick}
use Rattle.address.specs.Here.{Addr, here}
use Rattle.model.specs.Words as W
use Rattle.model.specs.Node as M
use Rattle.model.specs.Sound.{sound}
use Rattle.model.specs.Calls as calls
use Rattle.node.specs.declared.Node.{Node}
use Rattle.node.specs.Views.{stored_view}
use Rattle.swim.specs.declared.lookup.Lookup.{Lookup}
use Rattle.swim.specs.declared.lookup.Lookup.TheVariants as look
use Rattle.swim.specs.declared.lookup.Tally.{Tally}
use Rattle.swim.specs.declared.lookup.Tally.TheVariants as tally

-- the handed node, as the rules have it
abbrev pub handed : Node → M.Node Addr
handed node = M.loaded (stored_view node)

abbrev pub node_test : Node → Bool × Refusal
node_test node = (not (sound here (stored_view node)), Unsound)

abbrev pub address_test : Addr → Bool × Refusal
address_test a = (not (here.valid a), AddressRange)

-- an address: is it listed, and its state and its number as held
unfoldable pub look_up : Node → Addr → Lookup
look_up node a =
    calls.first_of (node_test node ∷ address_test a ∷ [])
    look.Refused
    (pick (M.lists here a (handed node)) (look.Listed a (M.state_of here a (handed node)) (M.numbered here a (handed node))) look.NotListed)

-- how many addresses are listed
unfoldable pub how_many : Node → Tally
how_many node = calls.first_of (node_test node ∷ []) tally.Refused (tally.Listed (length (handed node).members.table))

-- a record of the list
abbrev pub listed_as : W.Member Addr → Lookup
listed_as m = look.Listed m.addr m.state m.number

-- a place of the list: its record, and nobody at or past the count
unfoldable pub member_at : Node → ℕ → Lookup
member_at node place =
    let table = (handed node).members.table in
    calls.first_of (node_test node ∷ [])
    look.Refused
    (pick (ltb place (length table)) (listed_as (get_or table place (W.blank_member here))) look.NotListed)

-- "Where an answer is an enum, there is a definition that gives this paper's number": 0 for what the list says, the number of the table for a refusal
abbrev pub lookup_number : Lookup → ℕ
lookup_number look.NotListed = 0
lookup_number (look.Listed a state number) = 0
lookup_number (look.Refused r) = number_of r

abbrev pub tally_number : Tally → ℕ
tally_number (tally.Listed count) = 0
tally_number (tally.Refused r) = number_of r
