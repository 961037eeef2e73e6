-- From the calls by value, in arrays, to the calls over lent rows.
-- Assumes nothing.
use Rattle.std.specs.Prelude.{◌≡◌, refl, Bool, true, false, not, ◌&&◌, List, [], ◌∷◌, ◌++◌, map, ℕ, ◌-◌, ◌≤◌, length, take, drop, replicate, ltb}
use Rattle.std.proofs.Math.Path.{sym, ap}
use Rattle.std.proofs.Common.{◌∙◌, subst, take_all, ltb-true, ltb-false}
use Rattle.std.proofs.Math.Seq.{take-append_seam}
use Rattle.model.specs.declared.Refusal.TheVariants.{ManyRecords, AddressRange, NoRoom}
use Rattle.model.specs.Bounds.{message_records}
use Rattle.model.specs.Rows.{pad_to, every}
use Rattle.model.specs.Sound.{valid_gossip}
use Rattle.model.specs.Calls.{first_of, valid_action}
use Rattle.address.specs.Here.{here}
use Rattle.types.specs.declared.Action.{Action}
use Rattle.types.specs.declared.Gossip.{Gossip}
use Rattle.types.specs.Views.{to_gossip, to_action, no_gossip}
use Rattle.incoming.specs.declared.Taken.{Taken}
use Rattle.incoming.specs.Datagram.{Takes}
use Rattle.incoming.specs.Encode.{encode}
use Rattle.outgoing.specs.declared.Writing.{Writing}
use Rattle.outgoing.specs.declared.Writing.TheVariants.{Whole, Refused}
use Rattle.outgoing.specs.Outgoing.{writing_of, row_after, Sends}
use Rattle.datagram.specs.Promises.{Reads, Writes}

-- the records that were taken, written over the first places of the lent row
pub reads-taken : (bytes : List ℕ) (lent ws : List Gossip) (t : Taken) → Takes bytes (length lent) t → ws ≡ take t.count t.row ++ drop t.count lent → Reads bytes lent t.answer ws
reads-taken bytes lent ws t h e = record { answer = h.says; row = e ∙ (λ i. h.hands i ++ drop (h.counts i) lent) }

module _ (a : Action) (ys : List Gossip) (out out' : List ℕ) (r : Writing) where
  writes_many : ltb message_records (length ys) ≡ true → r ≡ Refused ManyRecords → out' ≡ out → Writes a ys out r out'
  unfolding writing_of row_after
  writes_many e q k =
      let w : writing_of a ys out ≡ Refused ManyRecords =
      ap (λ (u : Bool). first_of ((u, ManyRecords) ∷ (not (valid_action here (to_action a) && every (valid_gossip here) (map to_gossip ys)), AddressRange) ∷ (ltb (length out) (length (encode a ys)), NoRoom) ∷ []) Refused (Whole (length (encode a ys)))) e in
      record { answer = q ∙ sym w; row = k ∙ ap (λ (x : Writing). row_after x (encode a ys) out) (sym w) }

  by_count : (t : Bool) → ltb message_records (length ys) ≡ t → Sends a (pad_to 64 no_gossip (take 64 ys)) (length ys) out r out' → Writes a ys out r out'
  by_count true e s = let m = s.many (ltb-true message_records (length ys) e) in writes_many e m.0 m.1
  by_count false e s =
      let few : length ys ≤ 64 = ltb-false message_records (length ys) e in
      let all : take (length ys) (pad_to 64 no_gossip (take 64 ys)) ≡ ys =
      ap (λ (l : List Gossip). take (length ys) (pad_to 64 no_gossip l)) (take_all 64 ys few) ∙ take-append_seam ys (replicate (64 - length ys) no_gossip) in
      let m = s.few few in
      record {
        answer = m.0 ∙ ap (λ (gs : List Gossip). writing_of a gs out) all;
        row = m.1 ∙ ap (λ (gs : List Gossip). row_after (writing_of a gs out) (encode a gs) out) all;
      }

  -- the first 64 records of the lent row are all that matters of it
  pub writes_sent : (rs : List Gossip) → rs ≡ pad_to 64 no_gossip (take 64 ys) → Sends a rs (length ys) out r out' → Writes a ys out r out'
  writes_sent rs e s = by_count (ltb message_records (length ys)) refl (subst (λ (l : List Gossip). Sends a l (length ys) out r out') e s)
