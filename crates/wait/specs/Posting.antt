-- Messages and their gossip: one more is posted behind the last.
-- Assumes nothing.
use Rattle.std.specs.Prelude.{◌≡◌, refl, List, [], ◌∷◌, ◌++◌, map, ℕ, ◌+◌, ◌-◌, ◌≤◌, ◌<◌, length, get_or, set, take, replicate}
use Rattle.std.proofs.Common.{ap, sym, ◌∙◌, append-nil, append_assoc, arith, add-one, length-append, take_at, take-suc, length-take-le}
use Rattle.std.proofs.lemmas.List.{length-map}
use Rattle.address.specs.Here.{Addr}
use Rattle.model.specs.Rows.{pad_to}
use Rattle.laws.specs.Pad.{length-pad_to}
use Rattle.laws.specs.Padded.{pad_snoc}
use Rattle.laws.specs.Packing.{PackedRow, packed_pack, used_length}
use Rattle.model.specs.Words as W
use Rattle.model.specs.Calls.{packed}
use Rattle.types.specs.declared.Gossip.{Gossip}
use Rattle.types.specs.Views.{from_action, to_gossip, from_gossip, no_gossip, to_from_gossips}
use Rattle.node.specs.Views.{no_letter, from_message}
use Rattle.wait.specs.declared.mail.Mail.{Mail}
use Rattle.wait.specs.Views.{mail_of, PackedMail, posted}

-- the next record of a row goes behind those that are written
pub append-start : (row : List Gossip) (at : ℕ) (rows : List Gossip) → PackedRow 256 no_gossip row at → row ≡ pad_to 256 no_gossip (take at row ++ take 0 rows)
append-start row at rows p = p.is ∙ ap (pad_to 256 no_gossip) (sym (append-nil (take at row)))

pub append-next : (row : List Gossip) (at : ℕ) (rows : List Gossip) (i : ℕ) → PackedRow 256 no_gossip row at → i < length rows → at + i < 256
    → set (pad_to 256 no_gossip (take at row ++ take i rows)) (at + i) (get_or rows i no_gossip) ≡ pad_to 256 no_gossip (take at row ++ take (i + 1) rows)
append-next row at rows i p h k =
    let long : length (take at row ++ take i rows) ≡ at + i =
    omega (arith, length-append (take at row) (take i rows), used_length 256 no_gossip row at p, length-take-le i rows (omega arith)) in
    let v = get_or rows i no_gossip in
    ap (λ (j : ℕ). set (pad_to 256 no_gossip (take at row ++ take i rows)) j v) (sym long)
    ∙ pad_snoc 256 no_gossip (take at row ++ take i rows) v (omega arith)
    ∙ ap (pad_to 256 no_gossip) (append_assoc (take at row) (take i rows) (v ∷ []) ∙ ap (λ (l : List Gossip). take at row ++ l) (sym (take-suc rows i no_gossip h)))
    ∙ ap (λ (j : ℕ). pad_to 256 no_gossip (take at row ++ take j rows)) (sym (add-one i))

map-append : {B C : Type 0} (f : B → C) (l m : List B) → map f (l ++ m) ≡ map f l ++ map f m
map-append f [] m = refl
map-append f (b ∷ l) m = ap (λ (x : List _). f b ∷ x) (map-append f l m)

-- the gossip of one more message stands behind the others'
pub packed_more : (ms : List (W.Message Addr)) (x : W.Message Addr) → packed (ms ++ (x ∷ [])) ≡ packed ms ++ x.gossip
packed_more [] x = append-nil x.gossip
packed_more (m ∷ ms) x = ap (λ (l : List (W.Gossip Addr)). m.gossip ++ l) (packed_more ms x) ∙ sym (append_assoc m.gossip (packed ms) x.gossip)

-- mail is packed
pub mail-packed : (ms : List (W.Message Addr)) → length ms ≤ 4 → length (packed ms) ≤ 256 → PackedMail (mail_of ms)
unfolding mail_of
mail-packed ms h k =
    record {
      letters = length-pad_to 4 no_letter (map from_message ms) (omega (arith, length-map ms from_message));
      gossip = packed_pack to_gossip from_gossip 256 no_gossip (packed ms) k;
    }

pub post_is : (ms : List (W.Message Addr)) (x : W.Message Addr) (m : Mail) (rows : List Gossip) (count : ℕ) → m ≡ mail_of ms → take count rows ≡ map from_gossip x.gossip → count ≡ length x.gossip
    → length ms < 4 → posted m x.target (from_action x.action) rows count ≡ mail_of (ms ++ (x ∷ []))
unfolding mail_of posted
post_is ms x m rows count e f k h =
    ap (λ (y : Mail). posted y x.target (from_action x.action) rows count) e
    ∙ (λ i. record { letters = letters i; sent = sent i; gossip = gossip i; written = written i })
  where
    letters : set (pad_to 4 no_letter (map from_message ms)) (length ms) (record { target = x.target; action = from_action x.action; count = count }) ≡ pad_to 4 no_letter (map from_message (ms ++ (x ∷ [])))
    letters =
        (λ i. set (pad_to 4 no_letter (map from_message ms)) (sym (length-map ms from_message) i) (record { target = x.target; action = from_action x.action; count = k i }))
        ∙ pad_snoc 4 no_letter (map from_message ms) (from_message x) (omega (arith, length-map ms from_message))
        ∙ ap (pad_to 4 no_letter) (sym (map-append from_message ms (x ∷ [])))

    sent : length ms + 1 ≡ length (ms ++ (x ∷ []))
    sent = sym (length-append ms (x ∷ []))

    gossip : pad_to 256 no_gossip (take (length (packed ms)) (pad_to 256 no_gossip (map from_gossip (packed ms))) ++ take count rows) ≡ pad_to 256 no_gossip (map from_gossip (packed (ms ++ (x ∷ []))))
    gossip =
        (λ i. pad_to 256 no_gossip (take_at (map from_gossip (packed ms)) (replicate (256 - length (map from_gossip (packed ms))) no_gossip) (length (packed ms)) (length-map (packed ms) from_gossip) i ++ f i))
        ∙ ap (pad_to 256 no_gossip) (sym (map-append from_gossip (packed ms) x.gossip) ∙ ap (map from_gossip) (sym (packed_more ms x)))

    written : length (packed ms) + count ≡ length (packed (ms ++ (x ∷ [])))
    written = ap (λ (j : ℕ). length (packed ms) + j) k ∙ sym (length-append (packed ms) x.gossip) ∙ ap length (sym (packed_more ms x))

-- a row of gossip read back
pub row-taken : (gs : List (W.Gossip Addr)) → take (length gs) (pad_to 64 no_gossip (map from_gossip gs)) ≡ map from_gossip gs
row-taken gs = take_at (map from_gossip gs) (replicate (64 - length (map from_gossip gs)) no_gossip) (length gs) (length-map gs from_gossip)

pub row_read : (gs : List (W.Gossip Addr)) → map to_gossip (take (length gs) (pad_to 64 no_gossip (map from_gossip gs))) ≡ gs
row_read gs = ap (map to_gossip) (row-taken gs) ∙ to_from_gossips gs
