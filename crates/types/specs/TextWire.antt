-- The size of a gossip is the length of its encoding, with each address as its text.
-- Assumes nothing.
use Rattle.std.specs.Prelude.{◌≡◌, ℕ, ◌^◌, ◌<◌, length}
use Rattle.std.proofs.Common.{ap, ◌∙◌, arith}
use Rattle.address.specs.Here.{Addr, here, here_text, here_text-long, here_chars}
use Rattle.model.specs.Size.{size_over}
use Rattle.types.specs.Wire.{Fields, Small, gossip_bytes, wire_size}

-- so the size of an event about two addresses is the length of its bytes
pub here_size :
    (k : Fields) (f s : Addr) (n : ℕ) →
    Small k →
    n < 2 ^ 64 →
    length (gossip_bytes k (here_text f) (here_text s) n) ≡ size_over (here.chars f) (here.chars s) n
here_size k f s n small h =
    let a = here_chars f in
    let b = here_chars s in
    let c = here_text-long f in
    let d = here_text-long s in
    wire_size k (here_text f) (here_text s) n small (omega arith) (omega arith) (omega arith) (omega arith) h
    ∙ ap (λ (x : ℕ). size_over x (length (here_text s)) n) c
    ∙ ap (λ (x : ℕ). size_over (here.chars f) x n) d
