-- An address of IPv6 from its two numbers and its port; and one of IPv4 from its number.
-- Assumes nothing.
use Rattle.std.specs.Prelude.{◌≡◌, refl, Bool, true, false, ◌&&◌, ℕ, ◌+◌, ◌*◌, ◌/◌, ◌%◌, ◌^◌, ◌<◌, eqb, ltb}
use Rattle.std.proofs.Common.{ap, sym, ◌∙◌, arith, mod-eq_of_lt, lt-ltb}
use Rattle.address.specs.Here.{Addr, here, here_text}
use Rattle.address.specs.Text.{text}
use Rattle.address.specs.Families.{number, numbered, Six, in_range-six, in_range_other, text_of-six, text_of_other}
use Rattle.ip6.specs.Text6.{text6}

unfoldable pub parted : ℕ → ℕ → ℕ → Addr
parted high low port = record { family = 6; port = port % 65536; high = high; low = low }

pub parted-back : (a : Addr) → Six a → parted a.high a.low a.port ≡ a
unfolding parted
parted-back a s = let p : a.port % 65536 ≡ a.port = mod-eq_of_lt s.port in λ i. record { family = sym s.family i; port = p i; high = a.high; low = a.low }

pub parted_is : (high low port : ℕ) → high < 2 ^ 64 → low < 2 ^ 64 → port < 65536
    → (here.valid (parted high low port) ≡ true) × (here_text (parted high low port) ≡ text6 high low port)
unfolding parted
parted_is high low port h l p =
    let a : Addr = record { family = 6; port = port % 65536; high = high; low = low } in
    (sym (in_range-six a (omega arith) h l refl), text_of-six a refl ∙ ap (λ (x : ℕ). text6 high low x) (mod-eq_of_lt p))

number_of : (n : ℕ) → n < 2 ^ 48 → number (numbered n) ≡ n
unfolding number numbered
number_of n h = omega arith

pub numbered_is : (n : ℕ) → n < 2 ^ 48 → (here.valid (numbered n) ≡ true) × (here_text (numbered n) ≡ text n)
unfolding numbered
numbered_is n h =
    let a : Addr = record { family = 4; port = n % 65536; high = 0; low = n / 65536 } in
    let other : ◌≡◌ {A = ℕ} 4 6 → ⊥ = λ q. absurd (omega arith) in
    let few : ltb (n / 65536) (2 ^ 32) ≡ true = lt-ltb (n / 65536) (2 ^ 32) (omega arith) in
    (sym (in_range_other a true true (omega arith) other (sym few) refl), text_of_other a other ∙ ap text (number_of n h))
