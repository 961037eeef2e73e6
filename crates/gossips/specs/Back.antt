-- A gossip that was written reads back.
-- Assumes nothing.
use Rattle.std.specs.Prelude.{◌≡◌, refl, true, false, List, [], ◌++◌, ℕ, ◌+◌, ◌^◌, ◌≤◌, ◌<◌, eqb, length}
use Rattle.std.proofs.Common.{ap, sym, ◌∙◌, append-nil, arith, lit≤}
use Rattle.model.specs.Rows.{pick}
use Rattle.model.specs.Size.{size_over}
use Rattle.types.specs.SizeLaws.{number_size}
use Rattle.address.specs.Here.{Addr, here, here_text as text, here_chars}
use Rattle.types.specs.Wire.{delimited, event_bytes, gossip_bytes, Small}
use Rattle.types.specs.TextWire.{here_size}
use Rattle.fields.specs.FieldLaws.{head_of, delimited-long, next-delimited, content-delimited}
use Rattle.fields.specs.Walk.{read, walk}
use Rattle.fields.specs.Walks.{walk_end, walk_field}
use Rattle.iptext.specs.declared.Text.TheVariants.{Given}
use Rattle.events.specs.declared.Said.{Said}
use Rattle.events.specs.Event.{event_step, unsaid}
use Rattle.events.specs.Back.{kind, delimited_field, delimited-some, event-back}
use Rattle.gossips.specs.Gossip.{unheld, started, gossip_step}
use Rattle.gossips.specs.Stepping.{inner_read}

pub kinds_small : (k : ℕ) → k ≤ 4 → Small (kind k)
kinds_small k h = record { event = omega arith; from = lit≤ tt; subject = lit≤ tt; number = lit≤ tt }

-- a gossip takes fewer than 128 bytes, so one is enough for their count
pub gossip-long : (k : ℕ) (f s : Addr) (n : ℕ) → k ≤ 4 → n < 2 ^ 64 → length (gossip_bytes (kind k) (text f) (text s) n) < 128
unfolding size_over
gossip-long k f s n h l =
    omega (arith, here_size (kind k) f s n (kinds_small k h) l, here_chars f, here_chars s, number_size n)

started-unheld : (k : ℕ) → unsaid ≡ started unheld k
unfolding started
started-unheld k = elim (eqb 0 k) as (λ u. unsaid ≡ pick u unsaid unsaid) [ true ↦ refl | false ↦ refl ]

pub gossip-back : (place k : ℕ) (from subject : Addr) (n : ℕ) → 1 ≤ k → k ≤ 4 → here.valid from ≡ true → here.valid subject ≡ true → n < 2 ^ 64
    → walk gossip_step place (gossip_bytes (kind k) (text from) (text subject) n) unheld
    ≡ read (record { kind = k; said = record { from = Given from; subject = Given subject; number = n } })
gossip-back place k from subject n h₁ h₂ hf hs hn =
    let inside : List ℕ = event_bytes (kind k) (text from) (text subject) n in
    let long : length inside < 2 ^ 64 = omega (arith, gossip-long k from subject n h₂ hn, delimited-long k inside) in
    let said : Said = record { from = Given from; subject = Given subject; number = n } in
    ap (λ (l : List ℕ). walk gossip_step place l unheld) (sym (append-nil (delimited k inside)))
    ∙ walk_field gossip_step place (delimited k inside) [] unheld (record { kind = k; said = said }) (delimited_field k inside)
    (delimited-some k inside) (sym (delimited-long k inside)) (next-delimited k inside [] h₁ (omega arith) long)
    (sym (inner_read unheld place (delimited k inside ++ []) (delimited_field k inside) h₂ refl unsaid (started-unheld k) said
    (sym (ap (λ (l : List ℕ). walk event_step (place + head_of k inside) l unsaid) (content-delimited k inside []) ∙ event-back (place + head_of k inside) k from subject n hf hs hn))))
    ∙ walk_end gossip_step (place + length (delimited k inside)) [] (record { kind = k; said = said }) refl
