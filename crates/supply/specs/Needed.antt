-- The numbers of draws are no greater than they must be: for each, a sound node and an input that take so many, and that are refused 8 with one less.
-- Addresses are numbers here. The own address is 1, and of n listed the addresses are 1 to n.
-- Assumes nothing.
use Rattle.std.specs.Prelude.{◌≡◌, [], ℕ, ◌-◌}
use Rattle.model.specs.declared.Reply.{Reply}
use Rattle.model.specs.declared.Reply.TheVariants.{Done}

-- a call that takes n draws, is kept with n, and is refused 8 with one less, where `bound` says n
pub record Takes (n : ℕ) (bound : ℕ) (call : ℕ → Reply) (short : Reply) : Type 0 where
  pub says : bound ≡ n
  pub enough : call n ≡ Done n
  pub less : call (n - 1) ≡ short
