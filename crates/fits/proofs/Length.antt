-- How long a datagram is, by the sizes of its gossip.
-- Assumes nothing.
use Rattle.std.specs.Prelude.{◌≡◌, refl, Bool, true, false, List, [], ◌∷◌, ◌++◌, ℕ, ◌+◌, ◌*◌, ◌/◌, ◌≤◌, ◌<◌, ltb, length}
use Rattle.std.proofs.Common.{ap, arith, lit≤, length-append, ltb-true, ltb-false}
use Rattle.address.specs.Here.{Addr, here, here_text as text, here_text-long, here_chars}
use Rattle.types.specs.declared.Action.{Action}
use Rattle.types.specs.declared.Action.TheVariants.{Ping, PingReq, Ack}
use Rattle.types.specs.declared.Event.{Event}
use Rattle.types.specs.declared.Event.TheVariants.{Nothing, Joined, Recovered, Suspected, Deceased}
use Rattle.types.specs.declared.Gossip.{Gossip}
use Rattle.types.specs.declared.Optional.{Optional}
use Rattle.types.specs.declared.Optional.TheVariants as optional
use Rattle.types.specs.Views.{to_gossip}
use Rattle.types.specs.Wire.{varint, varint-one, delimited, string}
use Rattle.types.specs.TextWire.{here_size}
use Rattle.types.specs.SizeLaws.{size_over-here}
use Rattle.model.specs.Size.{size_of}
use Rattle.varint.specs.VarintLaws.{varint-more}
use Rattle.fields.specs.FieldLaws.{delimited-long}
use Rattle.iptext.specs.Texts.{text-long}
use Rattle.events.specs.Back.{kind, string-some}
use Rattle.gossips.specs.Gossip.{gossip_bytes_of}
use Rattle.gossips.specs.Back.{kinds_small}
use Rattle.incoming.specs.Back.{Fit, Fits, none, more, short}
use Rattle.incoming.specs.Encode.{other_bytes, gossip_fields, fields_of, encode}
use Rattle.fits.specs.Sizes.{sizes, length_of}
use Rattle.fits.specs.Length.{sizes_of}

-- a gossip has as many bytes as its size says, and no more than 111
bytes_size : (e : Event) → Fit e → (length (gossip_bytes_of (record { event = e })) ≡ size_of here (to_gossip (record { event = e }))) × (size_of here (to_gossip (record { event = e })) ≤ 111)
unfolding Fit gossip_bytes_of size_of
bytes_size Nothing f = (refl, lit≤ tt)
bytes_size (Joined f s n) (hf, hs, hn) = (here_size (kind 1) f s n (kinds_small 1 (lit≤ tt)) hn, (size_over-here f s n).1)
bytes_size (Recovered f s n) (hf, hs, hn) = (here_size (kind 2) f s n (kinds_small 2 (lit≤ tt)) hn, (size_over-here f s n).1)
bytes_size (Suspected f s n) (hf, hs, hn) = (here_size (kind 3) f s n (kinds_small 3 (lit≤ tt)) hn, (size_over-here f s n).1)
bytes_size (Deceased f s n) (hf, hs, hn) = (here_size (kind 4) f s n (kinds_small 4 (lit≤ tt)) hn, (size_over-here f s n).1)

-- each gossip stands there with two bytes more
pub gossip-size : (gs : List Gossip) → Fits gs → length (gossip_fields gs) ≡ sizes_of gs + 2 * length gs
unfolding gossip_fields sizes
gossip-size [] none = refl
gossip-size (g ∷ gs) (more f fs) =
    let b = bytes_size g.event f in
    let k : length (gossip_bytes_of g) < 128 = omega (arith, b.0, b.1) in
    omega (arith, b.0, length-append (delimited 3 (gossip_bytes_of g)) (gossip_fields gs), short 3 (gossip_bytes_of g) (lit≤ tt) k, gossip-size gs fs)

text_size : (n : ℕ) (a : Addr) → n ≤ 15 → length (string n (text a)) ≤ 49
text_size n a h =
    let t : length (text a) ≤ 47 = omega (arith, here_chars a, here_text-long a) in
    let k : length (text a) < 128 = omega arith in
    omega (arith, ap (λ (l : List ℕ). length l) (string-some n (text a) (text-long a)), short n (text a) h k)

other_size : (o : Optional) → length (other_bytes o) ≤ 49
unfolding other_bytes
other_size optional.Absent = omega arith
other_size (optional.Given b) = text_size 2 b (lit≤ tt)

-- a length below 2^14 has two bytes at most
varint-two : (n : ℕ) → n < 16384 → length (varint n) ≤ 2
varint-two n h = by (ltb n 128) refl
  where
    by : (u : Bool) → ltb n 128 ≡ u → length (varint n) ≤ 2
    by true e = omega (arith, varint-one n (ltb-true n 128 e))
    by false e = omega (arith, ap (λ (l : List ℕ). length l) (varint-more n (ltb-false n 128 e)), varint-one (n / 128) (omega arith))

fields_size : (from : Addr) (o : Optional) (gs : List Gossip) → Fits gs → length (fields_of from o gs) ≤ 98 + sizes_of gs + 2 * length gs
unfolding fields_of
fields_size from o gs fs =
    omega (
      arith,
      length-append (string 1 (text from)) (other_bytes o ++ gossip_fields gs),
      length-append (other_bytes o) (gossip_fields gs),
      text_size 1 from (lit≤ tt),
      other_size o,
      gossip-size gs fs,
    )

whole_size : (k : ℕ) (from : Addr) (o : Optional) (gs : List Gossip) → k ≤ 3 → Fits gs → length_of (length gs) (sizes_of gs) < 16384
    → length (delimited k (fields_of from o gs)) ≤ length_of (length gs) (sizes_of gs)
whole_size k from o gs h fs s =
    let f = fields_size from o gs fs in
    omega (arith, f, delimited-long k (fields_of from o gs), varint-one (k * 8 + 2) (omega arith), varint-two (length (fields_of from o gs)) (omega (arith, f)))

-- A DATAGRAM IS NO LONGER THAN ITS GOSSIP, TWO BYTES AROUND EACH, AND 101
pub encode_size : (a : Action) (gs : List Gossip) → Fits gs → length_of (length gs) (sizes_of gs) < 16384 → length (encode a gs) ≤ length_of (length gs) (sizes_of gs)
unfolding encode
encode_size (Ping from o) gs fs h = whole_size 1 from o gs (lit≤ tt) fs h
encode_size (PingReq from b) gs fs h = whole_size 2 from (optional.Given b) gs (lit≤ tt) fs h
encode_size (Ack from o) gs fs h = whole_size 3 from o gs (lit≤ tt) fs h
