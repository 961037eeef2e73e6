-- Lookups: each way out.
-- Assumes nothing.
use mathlib.Core.Path.{◌≡◌, ap, sym, ◌∙◌}
use mathlib.Core.Bool.{Bool, true, false, not}
use mathlib.Core.List.{[], ◌∷◌}
use Prim.Native.Nat.{ℕ, ◌≤◌, ◌<◌}
use lib.ListN.{length, get_or}
use lib.Dec.{ltb}
use borrow.Author.Tests.{lt-ltb, le-ltb}
use Rattle.model.specs.declared.Refusal.TheVariants.{Unsound, AddressRange}
use Rattle.model.specs.Rows.{pick}
use Rattle.address.specs.Here.{Addr, here}
use Rattle.model.specs.Words as W
use Rattle.model.specs.Node as M
use Rattle.model.specs.Sound.{sound}
use Rattle.node.specs.declared.Node.{Node}
use Rattle.node.specs.Views.{view_node, stored_view}
use Rattle.node.specs.Rows.{loaded_view}
use Rattle.node.specs.Ends.{test_fails, test_passes}
use Rattle.swim.specs.declared.lookup.Lookup.{Lookup}
use Rattle.swim.specs.declared.lookup.Lookup.TheVariants as look
use Rattle.swim.specs.declared.lookup.Tally.{Tally}
use Rattle.swim.specs.declared.lookup.Tally.TheVariants as tally
use Rattle.swim.specs.Lookups.{handed, node_test, address_test, listed_as, look_up, how_many, member_at}

-- what is answered of the node that the rows hold
abbrev of_address : Addr → M.Node Addr → Lookup
of_address a s = pick (M.lists here a s) (look.Listed a (M.state_of here a s) (M.numbered here a s)) look.NotListed

abbrev of_all : M.Node Addr → Tally
of_all s = tally.Listed (length s.members.table)

abbrev of_place : ℕ → M.Node Addr → Lookup
of_place place s = pick (ltb place (length s.members.table)) (listed_as (get_or s.members.table place (W.blank_member here))) look.NotListed

module _ (n : Node) where
  pub look_unsound : (a : Addr) → sound here (stored_view n) ≡ false → look.Refused Unsound ≡ look_up n a
  unfolding look_up
  look_unsound a e = sym (test_fails (node_test n) (address_test a ∷ []) look.Refused (of_address a (handed n)) (ap not e))

  pub many_unsound : sound here (stored_view n) ≡ false → tally.Refused Unsound ≡ how_many n
  unfolding how_many
  many_unsound e = sym (test_fails (node_test n) [] tally.Refused (of_all (handed n)) (ap not e))

  pub at_unsound : (place : ℕ) → sound here (stored_view n) ≡ false → look.Refused Unsound ≡ member_at n place
  unfolding member_at
  at_unsound place e = sym (test_fails (node_test n) [] look.Refused (of_place place (handed n)) (ap not e))

  module _ (e : sound here (stored_view n) ≡ true) where
    pub many-listed : tally.Listed (length (view_node n).members.table) ≡ how_many n
    unfolding how_many
    many-listed = ap of_all (sym (loaded_view n)) ∙ sym (test_passes (node_test n) [] tally.Refused (of_all (handed n)) (ap not e))

    reached : (place : ℕ) → of_place place (view_node n) ≡ member_at n place
    unfolding member_at
    reached place = ap (of_place place) (sym (loaded_view n)) ∙ sym (test_passes (node_test n) [] look.Refused (of_place place (handed n)) (ap not e))

    pub at-nobody : (place : ℕ) → length (view_node n).members.table ≤ place → look.NotListed ≡ member_at n place
    at-nobody place l =
        let m : W.Member Addr = get_or (view_node n).members.table place (W.blank_member here) in
        ap (λ (u : Bool). pick u (listed_as m) look.NotListed) (sym (le-ltb place (length (view_node n).members.table) l)) ∙ reached place

    pub at_listed : (place : ℕ) → place < length (view_node n).members.table
        → listed_as (get_or (view_node n).members.table place (W.blank_member here)) ≡ member_at n place
    at_listed place l =
        let m : W.Member Addr = get_or (view_node n).members.table place (W.blank_member here) in
        ap (λ (u : Bool). pick u (listed_as m) look.NotListed) (sym (lt-ltb place (length (view_node n).members.table) l)) ∙ reached place

    module _ (a : Addr) where
      pub look_address : here.valid a ≡ false → look.Refused AddressRange ≡ look_up n a
      unfolding look_up
      look_address v =
          sym
          (test_passes (node_test n) (address_test a ∷ []) look.Refused (of_address a (handed n)) (ap not e)
          ∙ test_fails (address_test a) [] look.Refused (of_address a (handed n)) (ap not v))

      module _ (v : here.valid a ≡ true) where
        passed : of_address a (view_node n) ≡ look_up n a
        unfolding look_up
        passed =
            ap (of_address a) (sym (loaded_view n))
            ∙ sym
            (test_passes (node_test n) (address_test a ∷ []) look.Refused (of_address a (handed n)) (ap not e)
            ∙ test_passes (address_test a) [] look.Refused (of_address a (handed n)) (ap not v))

        -- the answer where the list has said whether it lists the address
        pub look-says : (u : Bool) → M.lists here a (view_node n) ≡ u
            → pick u (look.Listed a (M.state_of here a (view_node n)) (M.numbered here a (view_node n))) look.NotListed ≡ look_up n a
        look-says u l =
            ap (λ (w : Bool). pick w (look.Listed a (M.state_of here a (view_node n)) (M.numbered here a (view_node n))) look.NotListed) (sym l) ∙ passed
