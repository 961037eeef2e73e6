-- The varint loop: how far it is and what is left come to the whole.
-- Assumes nothing.
use mathlib.Core.Path.{◌≡◌, refl, ap}
use mathlib.Core.Bool.{Bool, true, false}
use Prim.Native.Nat.{ℕ, zero, suc, ◌+◌, ◌-◌, ◌/◌, ◌≤◌, ◌<◌}
use native.Mathlib.Omega.{arith}
use borrow.Author.Tests.{lt-ltb, le-ltb}
use Rattle.model.specs.Size.{varint_from, varint_length}

last : (f n : ℕ) → n < 128 → varint_from f n ≡ 1
unfolding varint_from
last zero n h = refl
last (suc f) n h = ap (λ (u : Bool). elim u [ true ↦ 1 | false ↦ suc (varint_from f (n / 128)) ]) (lt-ltb n 128 h)

more : (f n : ℕ) → 128 ≤ n → varint_from (suc f) n ≡ suc (varint_from f (n / 128))
unfolding varint_from
more f n h = ap (λ (u : Bool). elim u [ true ↦ 1 | false ↦ suc (varint_from f (n / 128)) ]) (le-ltb n 128 h)

-- len bytes are counted, the last of them not passed yet, and rest is left
unfoldable pub Counted : ℕ → ℕ → ℕ → Type 0
Counted n rest len = varint_length n + 1 ≡ len + varint_from (10 - len) rest

pub counted_none : (n : ℕ) → Counted n n 1
unfolding Counted varint_length
counted_none n = omega arith

pub counted-ends : (n rest len : ℕ) → rest < 128 → Counted n rest len → len ≡ varint_length n
unfolding Counted
counted-ends n rest len h e = omega (arith, last (10 - len) rest h)

pub counted-more : (n rest len : ℕ) → 128 ≤ rest → len < 10 → Counted n rest len → Counted n (rest / 128) (len + 1)
unfolding Counted
counted-more n rest len h k e =
    let s : 10 - len ≡ suc (10 - (len + 1)) = omega arith in
    omega (arith, ap (λ (f : ℕ). varint_from f rest) s, more (10 - (len + 1)) rest h)

pub counted-out : (n rest len : ℕ) → len ≡ 10 → Counted n rest len → 10 ≡ varint_length n
unfolding Counted varint_from
counted-out n rest len h e =
    let s : 10 - len ≡ 0 = omega arith in
    omega (arith, ap (λ (f : ℕ). varint_from f rest) s)
