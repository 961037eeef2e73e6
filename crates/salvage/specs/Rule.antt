-- RECORD BY RECORD. The word for a place is given exactly if its rule holds: a rule reads the bytes of its place and the places before it that are kept.
-- Assumes nothing.
use Rattle.std.proofs.Math.Path.{◌≡◌}
use Rattle.std.proofs.Common.{arith}
use Rattle.std.specs.Prelude.{length}
use Rattle.std.proofs.Math.Bool.{true, false}
use mathlib.Core.List.{List, []}
use Prim.Native.Nat.{ℕ, ◌+◌, ◌*◌, ◌-◌, ◌≤◌, ◌<◌}
use Rattle.model.specs.Words.{Address}
use Rattle.image.specs.Image.{Form, head, entry, addr_in, address_in_rule, state_in_rule}
use Rattle.salvage.specs.Salvage.{stands_at, word_at}
use Rattle.salvage.specs.declared.Word.{Word}
use Rattle.salvage.specs.declared.Word.TheVariants as word

module _ {A : Type 0} (address : Address A) (f : Form A) where
  abbrev pub addr_at : List ℕ → ℕ → A
  addr_at bytes i = addr_in (stands_at address f bytes i)

  -- "complete": every byte of the place is there
  abbrev pub Complete : List ℕ → ℕ → Type 0
  Complete bytes i = (head f).width + i * (entry f).width + (entry f).width ≤ length bytes

  -- an earlier place with that address was kept
  pub record KeptBefore (a : A) (bytes : List ℕ) (i : ℕ) : Type 0 where
    pub place : ℕ
    pub earlier : place < i
    pub is-kept : word_at address f bytes place ≡ word.Kept
    pub alike : address.same a (addr_at bytes place) ≡ true

  -- no kept earlier place has that address
  abbrev pub Fresh : A → List ℕ → ℕ → Type 0
  Fresh a bytes i = (j : ℕ) → j < i → word_at address f bytes j ≡ word.Kept → address.same a (addr_at bytes j) ≡ false

  -- "kept, dropped for address, for state, as a repeat of a kept one (the first that holds), or cut short"
  abbrev pub Rule : Word → List ℕ → ℕ → Type 0
  Rule word.Cut bytes i = length bytes < (head f).width + i * (entry f).width + (entry f).width
  Rule word.Address bytes i = Complete bytes i × (address_in_rule address (stands_at address f bytes i) ≡ false)
  Rule word.State bytes i =
      Complete bytes i × (address_in_rule address (stands_at address f bytes i) ≡ true) × (state_in_rule address (stands_at address f bytes i) ≡ false)
  Rule word.Repeat bytes i =
      Complete bytes i × (address_in_rule address (stands_at address f bytes i) ≡ true) × (state_in_rule address (stands_at address f bytes i) ≡ true) × KeptBefore (addr_at bytes i) bytes i
  Rule word.Kept bytes i =
      Complete bytes i × (address_in_rule address (stands_at address f bytes i) ≡ true) × (state_in_rule address (stands_at address f bytes i) ≡ true) × Fresh (addr_at bytes i) bytes i
