-- Whom a pick gives is listed, and neither the own address nor the one that is left out.
-- Assumes nothing.
use Rattle.std.specs.Prelude.{◌≡◌, Bool}
use Rattle.std.proofs.Math.Bool.{true, false}
use mathlib.Core.List.{List}
use Rattle.std.proofs.Math.Option.{Option}
use Rattle.model.specs.Rows.{Test}
use Rattle.model.specs.Words.{Member}
use Rattle.model.specs.Members.{listed, passed}

module _ {A : Type 0} (same : A → A → Bool) (test : Test same) (blank own : A) where
  -- on the list, and not passed over
  abbrev pub Peer : Option A → List (Member A) → A → Type 0
  Peer e t x = (listed same x t ≡ true) × (passed same blank own e x ≡ false)
