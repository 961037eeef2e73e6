-- The address that a text says.
-- Assumes nothing.
use Rattle.std.specs.Prelude.{◌≡◌, refl, Bool, true, false, ◌&&◌, List, [], ◌∷◌, ℕ, ◌<◌, ◌%◌, ◌^◌, eqb}
use Rattle.std.proofs.Common.{ap, sym, ◌∙◌, arith, mod-eq_of_lt, mod-lt, lit<, eqb-true, eq-eqb}
use Rattle.ip6.specs.Text6.{text6}
use Rattle.ip6text.specs.Parsing.{run, none}
use Rattle.ip6text.specs.declared.Seen.{Seen}
use Rattle.ip6text.specs.declared.Said.{Said}
use Rattle.ip6text.specs.declared.Said.TheVariants.{Malformed, Given}

-- are two texts the same, to the letter?
unfoldable pub text_alike : List ℕ → List ℕ → Bool
text_alike [] [] = true
text_alike [] (y ∷ ys) = false
text_alike (x ∷ xs) [] = false
text_alike (x ∷ xs) (y ∷ ys) = eqb x y && text_alike xs ys

-- what a text is taken for, if that is written so: two numbers of 64 bits and one of 16
unfoldable pub said : ℕ → ℕ → ℕ → List ℕ → Said
said high low port bytes = elim (text_alike bytes (text6 high low port)) [ true ↦ Given high low port | false ↦ Malformed ]

unfoldable pub said6 : List ℕ → Said
said6 bytes = said ((run none bytes).high % 2 ^ 64) ((run none bytes).low % 2 ^ 64) ((run none bytes).decimal % 65536) bytes

and_both : (a b : Bool) → a ≡ true → b ≡ true → (a && b) ≡ true
and_both true b e f = f
and_both false b e f = e

and_left : (a b : Bool) → (a && b) ≡ true → a ≡ true
and_left true b e = refl
and_left false b e = e

and_right : (a b : Bool) → (a && b) ≡ true → b ≡ true
and_right true b e = e
and_right false b e = let z : ◌≡◌ {A = ℕ} 0 1 = cc in absurd (omega arith)

same_refl : (l : List ℕ) → text_alike l l ≡ true
unfolding text_alike
same_refl [] = refl
same_refl (x ∷ l) = and_both (eqb x x) (text_alike l l) (eq-eqb x x refl) (same_refl l)

same_text : (a b : List ℕ) → text_alike a b ≡ true → a ≡ b
unfolding text_alike
same_text [] [] e = refl
same_text [] (y ∷ ys) e = let z : ◌≡◌ {A = ℕ} 0 1 = cc in absurd (omega arith)
same_text (x ∷ xs) [] e = let z : ◌≡◌ {A = ℕ} 0 1 = cc in absurd (omega arith)
same_text (x ∷ xs) (y ∷ ys) e =
    let p = eqb-true x y (and_left (eqb x y) (text_alike xs ys) e) in
    let q = same_text xs ys (and_right (eqb x y) (text_alike xs ys) e) in
    λ i. p i ∷ q i

said_yes : (high low port : ℕ) (bytes : List ℕ) → bytes ≡ text6 high low port → said high low port bytes ≡ Given high low port
unfolding said
said_yes high low port bytes e =
    ap (λ (u : Bool). elim u [ true ↦ Given high low port | false ↦ Malformed ]) (ap (λ (l : List ℕ). text_alike l (text6 high low port)) e ∙ same_refl (text6 high low port))

said_no : (high low port : ℕ) (bytes : List ℕ) (u : Bool) → (bytes ≡ text6 high low port → u ≡ true) → u ≡ false → said high low port bytes ≡ Malformed
unfolding said
said_no high low port bytes u f e =
    (elim (text_alike bytes (text6 high low port)) as (λ v. text_alike bytes (text6 high low port) ≡ v → elim v [ true ↦ Given high low port | false ↦ Malformed ] ≡ Malformed) [
      | true ↦ λ q. let y : u ≡ true = f (same_text bytes (text6 high low port) q) in let z : ◌≡◌ {A = ℕ} 0 1 = cc in absurd (omega arith)
      | false ↦ λ q. refl
    ]) refl

-- the numbers that code guesses are of 64 bits by their types
guessed : (bytes : List ℕ) (s : Seen) → s ≡ run none bytes → s.high < 2 ^ 64 → s.low < 2 ^ 64 → said6 bytes ≡ said s.high s.low (s.decimal % 65536) bytes
unfolding said6
guessed bytes s f h l =
    ap (λ (x : Seen). said (x.high % 2 ^ 64) (x.low % 2 ^ 64) (x.decimal % 65536) bytes) (sym f)
    ∙ ap (λ (x : ℕ). said x (s.low % 2 ^ 64) (s.decimal % 65536) bytes) (mod-eq_of_lt h)
    ∙ ap (λ (x : ℕ). said s.high x (s.decimal % 65536) bytes) (mod-eq_of_lt l)

pub given_so : (bytes : List ℕ) (s : Seen) → s ≡ run none bytes → s.high < 2 ^ 64 → s.low < 2 ^ 64 → bytes ≡ text6 s.high s.low (s.decimal % 65536)
    → Given s.high s.low (s.decimal % 65536) ≡ said6 bytes
given_so bytes s f h l e = sym (guessed bytes s f h l ∙ said_yes s.high s.low (s.decimal % 65536) bytes e)

pub none_so : (bytes : List ℕ) (s : Seen) (u : Bool) → s ≡ run none bytes → s.high < 2 ^ 64 → s.low < 2 ^ 64
    → (bytes ≡ text6 s.high s.low (s.decimal % 65536) → u ≡ true) → u ≡ false → Malformed ≡ said6 bytes
none_so bytes s u f h l e n = sym (guessed bytes s f h l ∙ said_no s.high s.low (s.decimal % 65536) bytes u e n)

-- what reads as an address is its text, to the letter, and its numbers are of 64 bits and of 16
pub record Only (bytes : List ℕ) (high low port : ℕ) : Type 0 where
  pub says : bytes ≡ text6 high low port
  pub high_small : high < 2 ^ 64
  pub low_small : low < 2 ^ 64
  pub port-small : port < 65536

only : (bytes : List ℕ) (a b c high low port : ℕ) → a < 2 ^ 64 → b < 2 ^ 64 → c < 65536 → said a b c bytes ≡ Given high low port → Only bytes high low port
unfolding said
only bytes a b c high low port x y z =
    (elim (text_alike bytes (text6 a b c)) as (λ v. text_alike bytes (text6 a b c) ≡ v → elim v [ true ↦ Given a b c | false ↦ Malformed ] ≡ Given high low port → Only bytes high low port) [
      | true ↦ λ q e.
          let ea : a ≡ high = cc in
          let eb : b ≡ low = cc in
          let ec : c ≡ port = cc in
          record {
            says = same_text bytes (text6 a b c) q ∙ ap (λ (k : ℕ). text6 k b c) ea ∙ ap (λ (k : ℕ). text6 high k c) eb ∙ ap (λ (k : ℕ). text6 high low k) ec;
            high_small = rw (sym ea) x;
            low_small = rw (sym eb) y;
            port-small = rw (sym ec) z;
          }
      | false ↦ λ q e. let w : ◌≡◌ {A = ℕ} 0 1 = cc in absurd (omega arith)
    ]) refl

pub said-only : (bytes : List ℕ) (high low port : ℕ) → said6 bytes ≡ Given high low port → Only bytes high low port
unfolding said6
said-only bytes high low port e =
    only bytes ((run none bytes).high % 2 ^ 64) ((run none bytes).low % 2 ^ 64) ((run none bytes).decimal % 65536) high low port
    (mod-lt (run none bytes).high (lit< tt)) (mod-lt (run none bytes).low (lit< tt)) (mod-lt (run none bytes).decimal (lit< tt)) e

-- where the guess inverts the text, the text of an address reads back
pub read_back : (high low port : ℕ) → high < 2 ^ 64 → low < 2 ^ 64 → port < 65536
    → (run none (text6 high low port)).high ≡ high → (run none (text6 high low port)).low ≡ low → (run none (text6 high low port)).decimal ≡ port
    → said6 (text6 high low port) ≡ Given high low port
unfolding said6
read_back high low port x y z a b c =
    let t : List ℕ = text6 high low port in
    ap (λ (k : ℕ). said k ((run none t).low % 2 ^ 64) ((run none t).decimal % 65536) t) (ap (λ (k : ℕ). k % 2 ^ 64) a ∙ mod-eq_of_lt x)
    ∙ ap (λ (k : ℕ). said high k ((run none t).decimal % 65536) t) (ap (λ (k : ℕ). k % 2 ^ 64) b ∙ mod-eq_of_lt y)
    ∙ ap (λ (k : ℕ). said high low k t) (ap (λ (k : ℕ). k % 65536) c ∙ mod-eq_of_lt z)
    ∙ said_yes high low port t refl
