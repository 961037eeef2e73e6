-- WHAT A COLLECTOR SEES. A lookup of a sound node says of an address what the node's list says of it; and after every run of calls it is listed exactly if the ledger has one entry more of it than departures.
-- Assumes nothing.
use Rattle.std.specs.Prelude.{◌≡◌, refl, Bool, false, not, List, [], ◌∷◌, ℕ, ◌+◌, ◌≤◌, ◌<◌, ltb, length, get_or}
use Rattle.std.proofs.Common.{◌∙◌, arith, lt-ltb, le-ltb}
use Rattle.std.proofs.Math.Bool.{true}
use Rattle.model.specs.declared.Refusal.TheVariants.{Unsound, AddressRange}
use Rattle.model.specs.Rows.{pick, one}
use Rattle.model.specs.Words as W
use Rattle.model.specs.Node as M
use Rattle.model.specs.Sound.{sound}
use Rattle.model.specs.Calls.{first_of}
use Rattle.address.specs.Here.{Addr, here}
use Rattle.history.specs.Beginnings.{Beginning}
use Rattle.history.specs.Ledger.{Tally}
use Rattle.history.specs.Histories.{Call}
use Rattle.node.specs.declared.Node.{Node}
use Rattle.node.specs.Views.{stored_view, view_node}
use Rattle.node.specs.Rows.{loaded_view}
use Rattle.wait.specs.declared.Wait.{Wait}
use Rattle.swim.specs.declared.lookup.Lookup.{Lookup}
use Rattle.swim.specs.declared.lookup.Lookup.TheVariants as look
use Rattle.swim.specs.declared.lookup.Tally as counts
use Rattle.swim.specs.declared.lookup.Tally.TheVariants as tally
use Rattle.swim.specs.Lookups.{look_up, how_many, member_at, listed_as}
use Rattle.promises.specs.Begun.{Begun}
use Rattle.promises.specs.Runs.{Runs}
use Rattle.promises.specs.Demand3.{ledger}
use Rattle.promises.proofs.Demand3.{counted, stays-sound}

module _ (node : Node) (is_sound : sound here (stored_view node) ≡ true) where
  -- how many are listed
  pub how_many-says : how_many node ≡ tally.Listed (length (view_node node).members.table)
  unfolding how_many
  how_many-says =
      λ i. first_of {B = counts.Tally} ((not (is_sound i), Unsound) ∷ []) tally.Refused (tally.Listed (length (loaded_view node i).members.table))

  -- a place of the list, by the two tests
  abbrev at_place : Bool → Bool → M.Node Addr → ℕ → Lookup
  at_place u v s place =
      first_of ((not u, Unsound) ∷ []) look.Refused (pick v (listed_as (get_or s.members.table place (W.blank_member here))) look.NotListed)

  place_is : (place : ℕ) (v : Bool) → ltb place (length (view_node node).members.table) ≡ v → member_at node place ≡ at_place true v (view_node node) place
  unfolding member_at
  place_is place v e =
      (λ i. at_place (is_sound i) (ltb place (length (loaded_view node i).members.table)) (loaded_view node i) place) ∙ (λ i. at_place true (e i) (view_node node) place)

  -- the i-th member; at or past the count there is nobody
  pub member_at-says : (place : ℕ) → place < length (view_node node).members.table → member_at node place ≡ listed_as (get_or (view_node node).members.table place (W.blank_member here))
  member_at-says place h = place_is place true (lt-ltb place (length (view_node node).members.table) h)

  pub nobody-past : (place : ℕ) → length (view_node node).members.table ≤ place → member_at node place ≡ look.NotListed
  nobody-past place h = place_is place false (le-ltb place (length (view_node node).members.table) h)

  module _ (a : Addr) (valid : here.valid a ≡ true) where
    -- an address, by the three tests
    abbrev answer : Bool → Bool → Bool → M.Node Addr → Lookup
    answer u v w s =
        first_of ((not u, Unsound) ∷ (not v, AddressRange) ∷ []) look.Refused (pick w (look.Listed a (M.state_of here a s) (M.numbered here a s)) look.NotListed)

    by-listing : (w : Bool) → M.lists here a (view_node node) ≡ w → look_up node a ≡ answer true true w (view_node node)
    unfolding look_up
    by-listing w e =
        (λ i. answer (is_sound i) (valid i) (M.lists here a (loaded_view node i)) (loaded_view node i)) ∙ (λ i. answer true true (e i) (view_node node))

    -- "listed, state, number"
    pub sees_listed : M.lists here a (view_node node) ≡ true → look_up node a ≡ look.Listed a (M.state_of here a (view_node node)) (M.numbered here a (view_node node))
    sees_listed = by-listing true

    pub sees_nobody : M.lists here a (view_node node) ≡ false → look_up node a ≡ look.NotListed
    sees_nobody = by-listing false

module _ (b : Beginning Addr) (tick : ℕ) (first : Node) (first-wait : Wait) (begun-by : Begun b tick first first-wait)
    (cs : List (Call Addr)) (node : Node) (wait : Wait) (runs : Runs first first-wait cs node wait) (a : Addr) (valid : here.valid a ≡ true) where
  abbrev book : Tally
  book = ledger b tick first first-wait begun-by cs node wait runs a

  count_is : book.entries ≡ book.departures + one (M.lists here a (view_node node))
  count_is = counted b tick first first-wait begun-by cs node wait runs a

  is_sound : sound here (stored_view node) ≡ true
  is_sound = stays-sound b tick first first-wait begun-by cs node wait runs a

  listed_by : (w : Bool) → book.entries ≡ book.departures + one w → book.entries ≡ book.departures + 1 → w ≡ true
  listed_by true e h = refl
  listed_by false e h = absurd (omega (arith, e, h))

  gone-by : (w : Bool) → book.entries ≡ book.departures + one w → book.entries ≡ book.departures → w ≡ false
  gone-by true e h = absurd (omega (arith, e, h))
  gone-by false e h = refl

  -- after every run: one entry more than departures, and the collector sees it listed; as many of both, and it sees nobody
  pub collector_sees : book.entries ≡ book.departures + 1 → look_up node a ≡ look.Listed a (M.state_of here a (view_node node)) (M.numbered here a (view_node node))
  collector_sees h = sees_listed node is_sound a valid (listed_by (M.lists here a (view_node node)) count_is h)

  pub collector_sees_nobody : book.entries ≡ book.departures → look_up node a ≡ look.NotListed
  collector_sees_nobody h = sees_nobody node is_sound a valid (gone-by (M.lists here a (view_node node)) count_is h)
