-- A record is passed on with its address and its number, whoever it is from.
-- Assumes nothing.
use Rattle.std.specs.Prelude.{ℕ}
use Rattle.model.specs.Words.{Joined, Recovered, Suspected, Deceased}
use Rattle.cabinet.specs.Cabinets.{Topic, deaths, suspicions, About}

module _ {A : Type 0} (P : A → ℕ → Type 0) where
  -- records that are on neither topic
  pub joined_free : (k : Topic) (f x : A) (n : ℕ) → About k P (Joined f x n)
  joined_free deaths f x n = tt
  joined_free suspicions f x n = tt

  pub recovered_free : (k : Topic) (f x : A) (n : ℕ) → About k P (Recovered f x n)
  recovered_free deaths f x n = tt
  recovered_free suspicions f x n = tt

  -- a record is passed on with its address and its number, whoever it is from
  pub suspected-on : (k : Topic) (f g x : A) (n : ℕ) → About k P (Suspected f x n) → About k P (Suspected g x n)
  suspected-on deaths f g x n p = tt
  suspected-on suspicions f g x n p = p

  pub deceased-on : (k : Topic) (f g x : A) (n : ℕ) → About k P (Deceased f x n) → About k P (Deceased g x n)
  deceased-on deaths f g x n p = p
  deceased-on suspicions f g x n p = tt
