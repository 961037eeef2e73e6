-- The text of an address reads as the address, nothing else reads as it, and it is ASCII.
-- Assumes nothing.
use Rattle.std.specs.Prelude.{◌≡◌, refl, Bool, true, false, List, ℕ, ◌^◌, ◌<◌}
use Rattle.std.proofs.Common.{ap, sym, ◌∙◌}
use Rattle.ip6.specs.Text6.{mapped, text6}
use Rattle.ip6text.specs.Parsing.{run, none}
use Rattle.ip6text.specs.Reading.{said6, read_back, Only, said-only}
use Rattle.ip6text.specs.Back.{Guessed, plain_back, mapped-back}
use Rattle.ip6text.specs.declared.Said.TheVariants.{Given}

pub guess_back : (high low port : ℕ) → high < 2 ^ 64 → low < 2 ^ 64 → port < 65536 → Guessed high low port (run none (text6 high low port))
guess_back high low port h l p =
    (elim (mapped high low) as (λ u. mapped high low ≡ u → Guessed high low port (run none (text6 high low port))) [
      | true ↦ λ m. mapped-back high low port p m
      | false ↦ λ m. plain_back high low port h l p m
    ]) refl

-- what is written reads back
pub text-back : (high low port : ℕ) → high < 2 ^ 64 → low < 2 ^ 64 → port < 65536 → said6 (text6 high low port) ≡ Given high low port
text-back high low port h l p =
    let g = guess_back high low port h l p in
    read_back high low port h l p g.high_is g.low_is g.port_is

-- only canonical texts are read
pub text-only : (bytes : List ℕ) (high low port : ℕ) → said6 bytes ≡ Given high low port → bytes ≡ text6 high low port
text-only bytes high low port e = (said-only bytes high low port e).says

-- so no two addresses have one text
pub text-one : (a b c d e f : ℕ) → a < 2 ^ 64 → b < 2 ^ 64 → c < 65536 → d < 2 ^ 64 → e < 2 ^ 64 → f < 65536
    → text6 a b c ≡ text6 d e f → (a ≡ d) × (b ≡ e) × (c ≡ f)
text-one a b c d e f ha hb hc hd he hf q =
    let g = guess_back a b c ha hb hc in
    let h = guess_back d e f hd he hf in
    let s = ap (run none) q in
    (sym g.high_is ∙ ap (λ x. x.high) s ∙ h.high_is, sym g.low_is ∙ ap (λ x. x.low) s ∙ h.low_is, sym g.port_is ∙ ap (λ x. x.decimal) s ∙ h.port_is)
