-- The text of an address has bytes below 128 only, so it is UTF-8.
-- Assumes nothing.
use Rattle.std.specs.Prelude.{◌≡◌, refl, true, false, [], ◌∷◌, ◌++◌, ℕ, zero, suc, ◌+◌, ◌*◌, ◌/◌, ◌%◌, ◌^◌, ◌<◌, ltb}
use Rattle.std.proofs.Common.{arith, pow-suc, lit<, ltb-true}
use Rattle.address.specs.IPv4.{octet, port}
use Rattle.address.specs.Text.{decimal_in, decimal, text}
use Rattle.utf8.specs.Utf8.{utf8}
use Rattle.utf8.specs.Ascii.{Ascii, none, byte, ascii_append, ascii_utf8}

digit_ascii : (n : ℕ) → n < 10 → Ascii ((n + 48) ∷ [])
digit_ascii n h = let k : n + 48 < 128 = omega arith in byte k none

decimal_ascii : (f n : ℕ) → n < 10 ^ suc f → Ascii (decimal_in f n)
unfolding decimal_in
decimal_ascii zero n h = digit_ascii n h
decimal_ascii (suc f) n h =
    (elim (ltb n 10) as (λ u. ltb n 10 ≡ u → Ascii (elim u [ true ↦ (n + 48) ∷ [] | false ↦ decimal_in f (n / 10) ++ ((n % 10 + 48) ∷ []) ])) [
      | true ↦ λ e. digit_ascii n (ltb-true n 10 e)
      | false ↦ λ e. ascii_append (decimal_ascii f (n / 10) (tenth n (10 ^ suc f) (rw pow-suc at h))) (digit_ascii (n % 10) (omega arith))
    ]) refl
  where
    tenth : (n m : ℕ) → n < m * 10 → n / 10 < m
    tenth n m h = omega arith

pub text_ascii : (a : ℕ) → Ascii (text a)
text_ascii a =
    let number : (n : ℕ) → n < 100000 → Ascii (decimal n) = λ n h. decimal_ascii 4 n h in
    let dot : (n : ℕ) → n < 100000 → Ascii (46 ∷ decimal n) = λ n h. byte (lit< tt) (number n h) in
    ascii_append
    (ascii_append (ascii_append (ascii_append (number (octet a 3) (omega arith)) (dot (octet a 2) (omega arith))) (dot (octet a 1) (omega arith))) (dot (octet a 0) (omega arith)))
    (byte (lit< tt) (number (port a) (omega arith)))

pub text-utf8 : (a : ℕ) → utf8 (text a) ≡ true
text-utf8 a = ascii_utf8 (text_ascii a)
