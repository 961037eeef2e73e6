-- "Send limit": how often a gossip is sent.
-- Assumes nothing.
use Rattle.std.specs.Prelude.{true, false, ℕ, zero, suc, ◌+◌, ◌*◌, ◌^◌, leb}

-- the least number from k on whose power of ten reaches x, among the next f, else the one after those
unfoldable pub least_from : ℕ → ℕ → ℕ → ℕ
least_from zero x k = k
least_from (suc f) x k = elim (leb x (10 ^ k)) [ true ↦ k | false ↦ least_from f x (suc k) ]

-- "the least k with 10^k ≥ n^c": n · c is such a number
unfoldable pub least_power : ℕ → ℕ → ℕ
least_power n c = least_from (n * c) (n ^ c) 0

-- "For n members and constant c: 0 if n = 0, else c plus the least k with 10^k ≥ n^c."
unfoldable pub limit_of : ℕ → ℕ → ℕ
limit_of zero c = 0
limit_of (suc n) c = c + least_power (suc n) c
