-- The loop that reads a varint: what the bytes passed say and what is left come to the whole.
-- Assumes nothing.
use mathlib.Core.Path.{◌≡◌, refl, ap, sym, ◌∙◌}
use mathlib.Core.Bool.{Bool, true, false}
use mathlib.Core.List.{List, ◌∷◌}
use Prim.Native.Nat.{ℕ, suc, ◌+◌, ◌*◌, ◌-◌, ◌^◌, ◌≤◌, ◌<◌}
use native.Mathlib.Omega.{arith}
use native.Mathlib.Numerals.{add-one}
use native.Mathlib.Nat.{pow-suc, pow-le-pow_right, mul-le-mul_right, mul_assoc, mul_comm, add-mul}
use lib.Dec.{ltb, lit<, lit≤}
use lib.ListN.{length, get_or, drop, drop_of_length-le}
use lib.Seq.{drop-cons}
use borrow.Author.Tests.{lt-ltb, le-ltb, ltb-true, ltb-false}
use Rattle.model.specs.Rows.{pick}
use Rattle.varint.specs.declared.Number.{Number}
use Rattle.varint.specs.declared.Number.TheVariants.{Stopped, Found}
use Rattle.varint.specs.Varint.{above, number_in, below64, number_at}
use Rattle.varint.specs.VarintLaws.{number-last, number_more}

-- a number that stands above a value of i bytes
unfoldable pub raised : ℕ → ℕ → ℕ → Number → Number
raised value scale i Stopped = Stopped
raised value scale i (Found v n) = Found (value + v * scale) (i + n)

pub record Going (bytes : List ℕ) (value scale i : ℕ) : Type 0 where
  pub few : i ≤ 9
  pub power : scale ≡ 128 ^ i
  pub small : value < scale
  pub says : number_in 10 bytes ≡ raised value scale i (number_in (suc (9 - i)) (drop i bytes))

raised-none : (x : Number) → x ≡ raised 0 1 0 x
unfolding raised
raised-none Stopped = refl
raised-none (Found v n) = let a : v ≡ 0 + v * 1 = omega arith in let b : n ≡ 0 + n = omega arith in cc

pub going_none : (bytes : List ℕ) → Going bytes 0 1 0
going_none bytes = record { few = lit≤ tt; power = refl; small = lit< tt; says = raised-none (number_in 10 bytes) }

power_small : (i : ℕ) → i < 9 → 128 ^ i ≤ 128 ^ 8
power_small i h = let h' : i ≤ 8 = omega arith in pow-le-pow_right (lit< tt) h'

raised-above : (value scale i low : ℕ) (x : Number) → raised value scale i (above low x) ≡ raised (value + low * scale) (scale * 128) (i + 1) x
unfolding raised above
raised-above value scale i low Stopped = refl
raised-above value scale i low (Found v n) =
    let a : (low + 128 * v) * scale ≡ low * scale + v * (scale * 128) =
    add-mul low (128 * v) scale ∙ ap (λ (k : ℕ). low * scale + k) (ap (λ (k : ℕ). k * scale) (mul_comm 128 v) ∙ mul_assoc v 128 scale ∙ ap (λ (k : ℕ). v * k) (mul_comm 128 scale)) in
    let b : value + (low + 128 * v) * scale ≡ value + low * scale + v * (scale * 128) = omega arith in
    let d : i + suc n ≡ i + 1 + n = omega arith in
    cc

-- at nine bytes or fewer
module _ (bytes : List ℕ) (value scale i : ℕ) (g : Going bytes value scale i) where
  at_byte : i < length bytes → number_in 10 bytes ≡ raised value scale i (number_in (suc (9 - i)) (get_or bytes i 0 ∷ drop (suc i) bytes))
  at_byte h = g.says ∙ ap (λ (l : List ℕ). raised value scale i (number_in (suc (9 - i)) l)) (drop-cons bytes i 0 h)

  pub room : i < 9 → scale * 128 ≤ 2 ^ 63
  room h =
      let p = power_small i h in
      let q = g.power in
      let r : 128 ^ 8 ≡ 2 ^ 56 = refl in
      omega arith

  pub bits : (k b : ℕ) → b ≤ k → b * scale ≤ k * scale
  bits k b h = mul-le-mul_right scale h

  pub going_short : length bytes ≤ i → Stopped ≡ number_at bytes
  unfolding number_at below64 number_in raised
  going_short h =
      sym (ap below64 (g.says ∙ ap (λ (l : List ℕ). raised value scale i (number_in (suc (9 - i)) l)) (drop_of_length-le bytes h)))

  last_says : (b : ℕ) → i < length bytes → b ≡ get_or bytes i 0 → b < 128 → number_in 10 bytes ≡ Found (value + b * scale) (i + 1)
  unfolding raised
  last_says b h e k =
      at_byte h
      ∙ ap (λ (x : ℕ). raised value scale i (number_in (suc (9 - i)) (x ∷ drop (suc i) bytes))) (sym e)
      ∙ ap (raised value scale i) (number-last (9 - i) b (drop (suc i) bytes) k)

  pub going_last : (b : ℕ) → i < length bytes → b ≡ get_or bytes i 0 → b < 128 → value + b * scale < 2 ^ 64 → Found (value + b * scale) (i + 1) ≡ number_at bytes
  unfolding number_at below64
  going_last b h e k f =
      sym (ap below64 (last_says b h e k)
      ∙ ap (λ (u : Bool). pick u (Found (value + b * scale) (i + 1)) Stopped) (lt-ltb (value + b * scale) (2 ^ 64) f))

  pub going_over : (b : ℕ) → i < length bytes → b ≡ get_or bytes i 0 → b < 128 → 2 ^ 64 ≤ value + b * scale → Stopped ≡ number_at bytes
  unfolding number_at below64
  going_over b h e k f =
      sym (ap below64 (last_says b h e k)
      ∙ ap (λ (u : Bool). pick u (Found (value + b * scale) (i + 1)) Stopped) (le-ltb (value + b * scale) (2 ^ 64) f))

  more-says : (b : ℕ) → i < length bytes → b ≡ get_or bytes i 0 → 128 ≤ b
      → number_in 10 bytes ≡ raised (value + (b - 128) * scale) (scale * 128) (i + 1) (number_in (9 - i) (drop (suc i) bytes))
  more-says b h e k =
      at_byte h
      ∙ ap (λ (x : ℕ). raised value scale i (number_in (suc (9 - i)) (x ∷ drop (suc i) bytes))) (sym e)
      ∙ ap (raised value scale i) (number_more (9 - i) b (drop (suc i) bytes) k)
      ∙ raised-above value scale i (b - 128) (number_in (9 - i) (drop (suc i) bytes))

  pub going_more : (b : ℕ) → i < length bytes → b ≡ get_or bytes i 0 → b < 256 → 128 ≤ b → i < 9
      → Going bytes (value + (b - 128) * scale) (scale * 128) (i + 1)
  going_more b h e s k l = record {
    few = omega arith;
    power = ap (λ (x : ℕ). x * 128) g.power ∙ sym (pow-suc 128 i) ∙ ap (λ (n : ℕ). 128 ^ n) (sym (add-one i));
    small = omega (arith, bits 127 (b - 128) (omega arith), g.small);
    says =
        more-says b h e k
        ∙ ap (λ (n : ℕ). raised (value + (b - 128) * scale) (scale * 128) (i + 1) (number_in n (drop (suc i) bytes))) (omega arith)
        ∙ ap (λ (n : ℕ). raised (value + (b - 128) * scale) (scale * 128) (i + 1) (number_in (suc (9 - (i + 1))) (drop n bytes))) (sym (add-one i));
  }

  -- the tenth byte
  pub tenth_scale : i ≡ 9 → scale ≡ 2 ^ 63
  tenth_scale h = g.power ∙ ap (λ (n : ℕ). 128 ^ n) h

  tenth_long : (b : ℕ) → i ≡ 9 → i < length bytes → b ≡ get_or bytes i 0 → 128 ≤ b → Stopped ≡ number_at bytes
  unfolding number_at below64 number_in raised
  tenth_long b h l e q =
      let z : 9 - i ≡ 0 = omega arith in
      sym (ap below64 (more-says b l e q
      ∙ ap (λ (n : ℕ). raised (value + (b - 128) * scale) (scale * 128) (i + 1) (number_in n (drop (suc i) bytes))) z))

  pub tenth_over : (b : ℕ) → i ≡ 9 → 9 < length bytes → b ≡ get_or bytes 9 0 → 1 < b → Stopped ≡ number_at bytes
  tenth_over b h l e k =
      let e' : b ≡ get_or bytes i 0 = e ∙ ap (λ (n : ℕ). get_or bytes n 0) (sym h) in
      (elim (ltb b 128) as (λ u. ltb b 128 ≡ u → Stopped ≡ number_at bytes) [
        | true ↦ λ q. going_over b (omega arith) e' (ltb-true b 128 q) (omega (arith, mul-le-mul_right scale k, tenth_scale h))
        | false ↦ λ q. tenth_long b h (omega arith) e' (ltb-false b 128 q)
      ]) refl

  pub tenth_fits : (b : ℕ) → i ≡ 9 → b ≤ 1 → value + b * scale < 2 ^ 64
  tenth_fits b h k = omega (arith, bits 1 b k, tenth_scale h, g.small)

  pub tenth_last : (b : ℕ) → i ≡ 9 → 9 < length bytes → b ≡ get_or bytes 9 0 → b ≤ 1 → Found (value + b * scale) 10 ≡ number_at bytes
  tenth_last b h l e k =
      ap (λ (n : ℕ). Found (value + b * scale) (n + 1)) (sym h)
      ∙ going_last b (omega arith) (e ∙ ap (λ (n : ℕ). get_or bytes n 0) (sym h)) (omega arith) (tenth_fits b h k)

  -- seven bits more fit
  pub fits : (b : ℕ) → i < 9 → b < 128 → value + b * scale < 2 ^ 64
  fits b h k = omega (arith, bits 127 b (omega arith), room h, g.small)
