-- Addresses that are numbers, for what is shown by computation.
-- Assumes nothing.
use Rattle.std.specs.Prelude.{true, List, [], ◌∷◌, ◌++◌, ℕ, zero, suc, eqb}
use Rattle.model.specs.declared.State.TheVariants.{Alive}
use Rattle.model.specs.Words.{Address, Member}

abbrev pub numbers : Address ℕ
numbers = record { same = eqb; blank = 0; valid = λ _. true; chars = λ _. 9 }

abbrev pub up_to : ℕ → List ℕ
up_to zero = []
up_to (suc n) = up_to n ++ (suc n ∷ [])

abbrev pub listed : ℕ → Member ℕ
listed a = record { addr = a; state = Alive; number = 0 }
