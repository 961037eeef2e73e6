-- Creation: each way out.
-- Assumes nothing.
use mathlib.Core.Path.{◌≡◌, refl, ap, sym, ◌∙◌}
use mathlib.Core.Bool.{Bool, true, false, not}
use mathlib.Core.List.{List, [], ◌∷◌}
use Prim.Native.Nat.{ℕ}
use Rattle.model.specs.declared.Settings.{Settings}
use Rattle.model.specs.declared.Refusal.TheVariants.{Setting, AddressRange}
use Rattle.model.specs.declared.Reply.TheVariants.{Done, Refused}
use Rattle.address.specs.Here.{Addr, here}
use Rattle.model.specs.Node as M
use Rattle.model.specs.Sound.{in_range}
use Rattle.model.specs.Calls.{Created, created, not_created, create}
use Rattle.node.specs.declared.Node.{Node}
use Rattle.node.specs.declared.Answer.{Answer}
use Rattle.node.specs.Views.{pack_node, nobody, plain_answer, created_of}
use Rattle.node.specs.Rows.{unstored_pack}
use Rattle.node.specs.Ends.{test_fails, test_passes}

module _ (settings : Settings) (own : Addr) (number : ℕ) where
  abbrev fresh : Created Addr
  fresh = created (M.stored here (M.fresh settings own number))

  abbrev first : Bool × Rattle.model.specs.declared.Refusal.Refusal
  first = (not (here.valid own), AddressRange)

  abbrev second : Bool × Rattle.model.specs.declared.Refusal.Refusal
  second = (not (in_range settings), Setting)

  pub create_address : (n : Node) → n ≡ pack_node nobody → here.valid own ≡ false → plain_answer (Refused AddressRange) n ≡ created_of (create here settings own number)
  unfolding create created_of
  create_address n e v = ap (plain_answer (Refused AddressRange)) e ∙ sym (ap created_of (test_fails first (second ∷ []) not_created fresh (ap not v)))

  pub create_setting : (n : Node) → n ≡ pack_node nobody → here.valid own ≡ true → in_range settings ≡ false → plain_answer (Refused Setting) n ≡ created_of (create here settings own number)
  unfolding create created_of
  create_setting n e v w =
      ap (plain_answer (Refused Setting)) e
      ∙ sym (ap created_of (test_passes first (second ∷ []) not_created fresh (ap not v) ∙ test_fails second [] not_created fresh (ap not w)))

  pub create-kept : (n : Node) → n ≡ pack_node (M.fresh settings own number) → here.valid own ≡ true → in_range settings ≡ true → plain_answer (Done 0) n ≡ created_of (create here settings own number)
  unfolding create created_of
  create-kept n e v w =
      ap (plain_answer (Done 0)) (e ∙ sym (unstored_pack (M.fresh settings own number)))
      ∙ sym (ap created_of (test_passes first (second ∷ []) not_created fresh (ap not v) ∙ test_passes second [] not_created fresh (ap not w)))
