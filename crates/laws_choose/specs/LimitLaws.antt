-- The send limit: what `least_power` gives is the least number whose power of ten reaches n ^ c, and no limit passes 23.
-- Assumes nothing.
use Rattle.std.specs.Prelude.{◌≡◌, refl, Bool, true, false, ℕ, zero, suc, ◌+◌, ◌*◌, ◌^◌, ◌≤◌, ◌<◌, leb}
use Rattle.std.proofs.Math.Nat.{pow-zero, pow-le-pow_left, pow-le-pow_right, one-le-pow}
use Rattle.std.proofs.Common.{pow-suc, le_trans, add-zero, zero-add, suc-add, add-suc, eq-or-lt_of_le, lt_irrefl, lt_of_lt_of_le, mul-le-mul, mul-suc, mul-zero, arith, lit<, lit≤, ⊎_elim, pow-add, leb-true, leb-false}
use Rattle.model.specs.Limit.{least_from, least_power, limit_of}

by_test : (P : ℕ → Type 0) (b : Bool) (x y : ℕ) → (b ≡ true → P x) → (b ≡ false → P y) → P (elim b [ true ↦ x | false ↦ y ])
by_test P true x y f g = f refl
by_test P false x y f g = g refl

reaches : (f x k : ℕ) → x ≤ 10 ^ (k + f) → x ≤ 10 ^ least_from f x k
unfolding least_from
reaches zero x k h = rw add-zero at h
reaches (suc f) x k h = by_test (λ (r : ℕ). x ≤ 10 ^ r) (leb x (10 ^ k)) k (least_from f x (suc k)) (λ e. leb-true _ _ e) (λ e. reaches f x (suc k) (rw (suc-add, ← add-suc) h))

-- where 10^k is too small and 10^j is not, j is more than k
beyond : (x k j : ℕ) → 10 ^ k < x → x ≤ 10 ^ j → k ≤ j → k < j
beyond x k j h g l = ⊎_elim (λ e. absurd (lt_irrefl (10 ^ k) (lt_of_lt_of_le h (rw e g)))) (λ m. m) (eq-or-lt_of_le l)

least : (f x k j : ℕ) → k ≤ j → x ≤ 10 ^ j → least_from f x k ≤ j
unfolding least_from
least zero x k j h g = h
least (suc f) x k j h g = by_test (λ (r : ℕ). r ≤ j) (leb x (10 ^ k)) k (least_from f x (suc k)) (λ e. h) (λ e. least f x (suc k) j (beyond x k j (leb-false _ _ e) g h) g)

-- n · c is such a number, whatever n and c are
under : (n : ℕ) → n ≤ 10 ^ n
under zero = omega arith
under (suc n) = let h : n ≤ 10 ^ n = under n in rw pow-suc (omega (arith, one-le-pow n 10 (lit< tt)))

far : (n c : ℕ) → n ^ c ≤ 10 ^ (n * c)
far n zero = rw (mul-zero, pow-zero n, pow-zero 10) (lit≤ tt)
far n (suc c) = rw (pow-suc, mul-suc, pow-add) (mul-le-mul (far n c) (under n))

pub least_power_reaches : (n c : ℕ) → n ^ c ≤ 10 ^ least_power n c
unfolding least_power
least_power_reaches n c = reaches (n * c) (n ^ c) 0 (rw zero-add (far n c))

pub least_power-least : (n c j : ℕ) → n ^ c ≤ 10 ^ j → least_power n c ≤ j
unfolding least_power
least_power-least n c j h = least (n * c) (n ^ c) 0 j (omega arith) h

-- 64 members and the constant 8 are the most: 64^8 is 2^48, below 10^15
pub limit_most : (n c : ℕ) → n ≤ 64 → c ≤ 8 → limit_of n c ≤ 23
unfolding limit_of
limit_most zero c h k = omega arith
limit_most (suc n) c h k =
    let p : suc n ^ c ≤ 64 ^ 8 = le_trans (pow-le-pow_left h c) (pow-le-pow_right (lit< tt) k) in
    let q : least_power (suc n) c ≤ 15 = least_power-least (suc n) c 15 (le_trans p (lit≤ tt)) in
    omega arith
