-- How many bytes a varint takes, and that one that was read took no fewer.
-- Assumes nothing.
use Rattle.std.specs.Prelude.{◌≡◌, refl, true, false, List, [], ◌∷◌, ℕ, zero, suc, ◌+◌, ◌*◌, ◌-◌, ◌/◌, ◌^◌, ◌≤◌, ◌<◌, ltb, length, take, drop}
use Rattle.std.proofs.Common.{ap, sym, subst, arith, pow-suc, lit<, ltb-false, ltb-true}
use Rattle.model.specs.Rows.{pick}
use Rattle.varint.specs.declared.Number.{Number}
use Rattle.varint.specs.declared.Number.TheVariants.{Stopped, Found}
use Rattle.varint.specs.Varint.{above, number_in, below64, number_at}
use Rattle.varint.specs.VarintLaws.{varint-last, varint-more, varint-some, number_bounds}
use Rattle.datagram_promises.specs.Lengths.{Octets, long, none, octet}

pub octets_drop : (n : ℕ) {bytes : List ℕ} → Octets bytes → Octets (drop n bytes)
octets_drop zero o = o
octets_drop (suc n) none = none
octets_drop (suc n) (octet h o) = octets_drop n o

pub octets_take : (n : ℕ) {bytes : List ℕ} → Octets bytes → Octets (take n bytes)
octets_take zero o = none
octets_take (suc n) none = none
octets_take (suc n) (octet h o) = octet h (octets_take n o)

long-last : (n : ℕ) → n < 128 → long n ≡ 1
long-last n h = ap (λ (l : List ℕ). length l) (varint-last n h)

long-more : (n : ℕ) → 128 ≤ n → long n ≡ suc (long (n / 128))
long-more n h = ap (λ (l : List ℕ). length l) (varint-more n h)

seventh : (n m : ℕ) → n < m * 128 → n / 128 < m
seventh n m h = omega arith

eighth : (n m : ℕ) → n / 128 < m → n < m * 128
eighth n m h = omega arith

-- k bytes are enough for a number below 128^k
enough : (f n : ℕ) → n < 128 ^ suc f → long n ≤ suc f
enough zero n h = let z = long-last n h in omega arith
enough (suc f) n h =
    (elim (ltb n 128) as (λ u. ltb n 128 ≡ u → long n ≤ suc (suc f)) [
      | true ↦ λ e. let z = long-last n (ltb-true n 128 e) in omega arith
      | false ↦ λ e.
          let z = long-more n (ltb-false n 128 e) in
          let i = enough f (n / 128) (seventh n (128 ^ suc f) (rw pow-suc at h)) in
          omega arith
    ]) refl

within : (n k : ℕ) → 1 ≤ k → n < 128 ^ k → long n ≤ k
within n zero l h = absurd (omega arith)
within n (suc f) l h = enough f n h

-- and no fewer
holds_in : (f n : ℕ) → n < 128 ^ suc f → n < 128 ^ long n
holds_in zero n h = subst (λ (k : ℕ). n < 128 ^ k) (sym (long-last n h)) h
holds_in (suc f) n h =
    (elim (ltb n 128) as (λ u. ltb n 128 ≡ u → n < 128 ^ long n) [
      | true ↦ λ e. subst (λ (k : ℕ). n < 128 ^ k) (sym (long-last n (ltb-true n 128 e))) (ltb-true n 128 e)
      | false ↦ λ e.
          let i = holds_in f (n / 128) (seventh n (128 ^ suc f) (rw pow-suc at h)) in
          subst (λ (k : ℕ). n < 128 ^ k) (sym (long-more n (ltb-false n 128 e))) (rw pow-suc (eighth n (128 ^ long (n / 128)) i))
    ]) refl

under : (n : ℕ) → n < 128 ^ suc n
under zero = lit< tt
under (suc n) = rw pow-suc (omega (arith, under n))

holds : (n : ℕ) → n < 128 ^ long n
holds n = holds_in n n (under n)

below : (a b m : ℕ) → a ≤ b → b < m → a < m
below a b m h k = omega arith

pub long-more_for_more : (a b : ℕ) → a ≤ b → long a ≤ long b
long-more_for_more a b h = within a (long b) (varint-some b) (below a b (128 ^ long b) h (holds b))

twice : (a b m : ℕ) → a ≤ b → b < m → a + b < m * 128
twice a b m h k = omega arith

less-and_more : (a b : ℕ) → a ≤ b → long (a + b) ≤ long a + long b
less-and_more a b h =
    let w = within (a + b) (suc (long b)) (omega arith) (rw pow-suc (twice a b (128 ^ long b) h (holds b))) in
    let s = varint-some a in
    omega arith

-- a sum takes no more than its parts
pub long-sum : (a b : ℕ) → long (a + b) ≤ long a + long b
long-sum a b =
    (elim (ltb b a) as (λ u. ltb b a ≡ u → long (a + b) ≤ long a + long b) [
      | true ↦ λ e.
          let l : b < a = ltb-true b a e in
          let c : b + a ≡ a + b = omega arith in
          let w : long (b + a) ≤ long b + long a = less-and_more b a (omega arith) in
          let s : long (b + a) ≡ long (a + b) = ap long c in
          omega arith
      | false ↦ λ e. less-and_more a b (ltb-false b a e)
    ]) refl

-- what is read of s bytes is below 128^s
above_in : (r : Number) (low v s : ℕ) → ((x y : ℕ) → r ≡ Found x y → x < 128 ^ y) → low < 128 → above low r ≡ Found v s → v < 128 ^ s
unfolding above
above_in Stopped low v s i h e = let z : ◌≡◌ {A = ℕ} 0 1 = cc in absurd (omega arith)
above_in (Found x y) low v s i h e =
    let a : low + 128 * x ≡ v = cc in
    let b : suc y ≡ s = cc in
    subst (λ (k : ℕ). v < 128 ^ k) b (rw pow-suc (joined low x v (128 ^ y) h (i x y refl) a))
  where
    joined : (low x v m : ℕ) → low < 128 → x < m → low + 128 * x ≡ v → v < m * 128
    joined low x v m h k e = omega arith

number-in : (f : ℕ) (bytes : List ℕ) → Octets bytes → (v s : ℕ) → number_in f bytes ≡ Found v s → v < 128 ^ s
unfolding number_in
number-in zero bytes o v s e = let z : ◌≡◌ {A = ℕ} 0 1 = cc in absurd (omega arith)
number-in (suc f) [] o v s e = let z : ◌≡◌ {A = ℕ} 0 1 = cc in absurd (omega arith)
number-in (suc f) (b ∷ bytes) (octet h o) v s e =
    (elim (ltb b 128) as (λ u. ltb b 128 ≡ u → (elim u [ true ↦ Found b 1 | false ↦ above (b - 128) (number_in f bytes) ]) ≡ Found v s → v < 128 ^ s) [
      | true ↦ λ t q.
          let x : b ≡ v = cc in
          let y : 1 ≡ s = cc in
          let l : b < 128 = ltb-true b 128 t in
          subst (λ (k : ℕ). v < 128 ^ k) y (below v b 128 (omega arith) l)
      | false ↦ λ t q.
          let l : 128 ≤ b = ltb-false b 128 t in
          above_in (number_in f bytes) (b - 128) v s (λ x y w. number-in f bytes o x y w) (omega arith) q
    ]) refl e

limited : (r : Number) (v s : ℕ) → below64 r ≡ Found v s → r ≡ Found v s
unfolding below64
limited Stopped v s e = e
limited (Found x y) v s e =
    elim (ltb x (2 ^ 64)) as (λ u. pick u (Found x y) Stopped ≡ Found v s → Found x y ≡ Found v s) [
      | true ↦ λ q. q
      | false ↦ λ q. let z : ◌≡◌ {A = ℕ} 0 1 = cc in absurd (omega arith)
    ] e

-- A NUMBER THAT IS READ TOOK NO FEWER BYTES THAN IT IS WRITTEN IN
pub number-long : (bytes : List ℕ) → Octets bytes → (v s : ℕ) → number_at bytes ≡ Found v s → long v ≤ s
unfolding number_at
number-long bytes o v s e = within v s (number_bounds bytes v s e).some (number-in 10 bytes o v s (limited (number_in 10 bytes) v s e))
