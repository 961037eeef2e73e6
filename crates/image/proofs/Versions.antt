-- The versions of a saved list: the bytes of an address in each, and which addresses need the second.
-- Assumes nothing.
use Rattle.std.specs.Prelude.{◌≡◌, refl, true, false, List, [], ◌∷◌, ◌++◌, ℕ, ◌+◌, ◌*◌, ◌/◌, ◌%◌, ◌^◌, ◌<◌}
use Rattle.std.proofs.Common.{ap, sym, ◌∙◌, append_assoc, arith, lit<, eq-eqb}
use Rattle.address.specs.Here.{Addr, here}
use Rattle.address.specs.Families.{Four, in_range_is}
use Rattle.numbers.specs.Numbers.{big_endian}
use Rattle.numbers.specs.NumberLaws.{big_none, big_more}
use Rattle.numbers.specs.Codec.{Exact, number, number-exact, both, both-exact, via-exact}
use Rattle.image.specs.Image.{opening}
use Rattle.image.specs.Forms.{form, Fits, Sure}
use Rattle.image.specs.Versions.{eight, of4, to4, v1, nineteen, of6, to6, v2, versions}

-- M, B, R, 0, and the version
pub opens_with : (big_endian 5 (opening v1) ≡ 77 ∷ 66 ∷ 82 ∷ 0 ∷ 1 ∷ []) × (big_endian 5 (opening v2) ≡ 77 ∷ 66 ∷ 82 ∷ 0 ∷ 2 ∷ [])
unfolding big_endian
opens_with = (refl, refl)

-- the 8 bytes of version 1 are one number
pub one_number : (a : Addr) → a.port < 65536 → v1.address.put a ≡ big_endian 8 (a.low * 65536 + a.port)
one_number a h =
    let l : (a.low * 65536 + a.port) / 256 / 256 ≡ a.low = omega arith in
    let q : (a.low * 65536 + a.port) / 256 % 256 ≡ a.port / 256 % 256 = omega arith in
    let r : (a.low * 65536 + a.port) % 256 ≡ a.port % 256 = omega arith in
    ap (λ (t : List ℕ). big_endian 6 a.low ++ t)
    (big_more 1 a.port ∙ ap (λ (t : List ℕ). t ++ (a.port % 256 ∷ [])) (big_more 0 (a.port / 256) ∙ ap (λ (t : List ℕ). t ++ (a.port / 256 % 256 ∷ [])) (big_none (a.port / 256 / 256))))
    ∙ sym
    (big_more 7 (a.low * 65536 + a.port)
    ∙ ap (λ (t : List ℕ). t ++ ((a.low * 65536 + a.port) % 256 ∷ [])) (big_more 6 ((a.low * 65536 + a.port) / 256))
    ∙ append_assoc (big_endian 6 ((a.low * 65536 + a.port) / 256 / 256)) ((a.low * 65536 + a.port) / 256 % 256 ∷ []) ((a.low * 65536 + a.port) % 256 ∷ [])
    ∙ (λ i. big_endian 6 (l i) ++ (q i ∷ r i ∷ [])))

-- every address in range has its bytes in version 2, and one of IPv4 in version 1 too
fits1 : (a : Addr) → Fits here versions false a → Four a
fits1 a h =
    in_range_is a (Four a) h.0
    (λ six. let z : ◌≡◌ {A = ℕ} 0 1 = absurd_by (sym (eq-eqb a.family 6 six.family) ∙ h.1 refl) in absurd (omega arith))
    (λ four. four)
  where
    absurd_by : true ≡ false → ◌≡◌ {A = ℕ} 0 1
    absurd_by e = cc

exact1 : Exact v1.address (Fits here versions false)
exact1 =
    via-exact eight of4 to4 (Fits here versions false) (both-exact (number 6) (number 2) (number-exact 6) (number-exact 2))
    (λ a h. let f = fits1 a h in (omega (arith, f.low), f.port))
    (λ a h. let f = fits1 a h in λ i. record { family = sym f.family i; port = a.port; high = sym f.high i; low = a.low })
    (λ p. refl)

-- each field has its bytes
record Small (a : Addr) : Type 0 where
  pub family : a.family < 256
  pub high : a.high < 256 ^ 8
  pub low : a.low < 256 ^ 8
  pub port : a.port < 256 ^ 2

fits2 : (a : Addr) → here.valid a ≡ true → Small a
fits2 a h =
    in_range_is a (Small a) h
    (λ s. record { family = omega (arith, s.family); high = s.high; low = s.low; port = s.port })
    (λ f. record { family = omega (arith, f.family); high = omega (arith, f.high); low = omega (arith, f.low); port = f.port })

exact2 : Exact v2.address (Fits here versions true)
exact2 =
    via-exact nineteen of6 to6 (Fits here versions true)
    (both-exact (number 1) (both (number 8) (both (number 8) (number 2))) (number-exact 1)
    (both-exact (number 8) (both (number 8) (number 2)) (number-exact 8) (both-exact (number 8) (number 2) (number-exact 8) (number-exact 2))))
    (λ a h. let f = fits2 a h.0 in (f.family, (f.high, (f.low, f.port))))
    (λ a h. refl)
    (λ p. refl)

pub sure : Sure here versions
sure = record {
  exact = λ w. elim w as (λ u. Exact (form versions u).address (Fits here versions u)) [ true ↦ exact2 | false ↦ exact1 ];
  small = λ w. elim w as (λ u. opening (form versions u) < 256 ^ 5) [ true ↦ lit< tt | false ↦ lit< tt ];
  differ = λ e. omega (arith, e);
}
