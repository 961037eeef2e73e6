-- WHAT A ROW OF FIELDS SPELLS, WHATEVER THEIR LENGTHS AND SPELLING AND HOWEVER MANY: at each level of the schema a field of a text sets it, so that the last of a repeated one counts; a message of the kind that is held
-- goes on with it, and one of another kind begins anew; each record is one more; and a field of another number, of any wire type and any length, says nothing.
-- Assumes nothing.
use Rattle.std.specs.Prelude.{◌≡◌, List, [], ◌∷◌, ◌++◌, ℕ, ◌^◌, ◌≤◌, ◌<◌, length}
use Rattle.std.proofs.Math.Bool.{true}
use Rattle.types.specs.Views.{no_gossip}
use Rattle.utf8.specs.Utf8.{utf8}
use Rattle.iptext.specs.Reading.{text_of}
use Rattle.events.specs.declared.Said.{Said}
use Rattle.events.specs.Event.{unsaid}
use Rattle.gossips.specs.declared.Held.{Held}
use Rattle.gossips.specs.declared.Settled.{Settled}
use Rattle.gossips.specs.declared.Settled.TheVariants.{Missing, Whole}
use Rattle.gossips.specs.Gossip.{unheld, settled}
use Rattle.actions.specs.Action.{Acting, silent}
use Rattle.incoming.specs.Datagram.{Message}
use Rattle.datagram_promises.specs.AnyField.{Holds, Numbers, OfAnyWire}

-- a number that a field can have, and bytes that its count can tell
pub record Fits (n : ℕ) (bytes : List ℕ) : Type 0 where
  pub some : 1 ≤ n
  pub key : n < 2 ^ 29
  pub count : length bytes < 2 ^ 64

-- ---- an event: its two texts, each UTF-8, and its number
pub data EventSays : List ℕ → Said → Said → Type 0 where
  event_end : {s : Said} → EventSays [] s s
  event-from-by : {s s' : Said} {rest : List ℕ} (field bytes : List ℕ) → Holds 1 field bytes → utf8 bytes ≡ true
      → EventSays rest (record { from = text_of bytes; subject = s.subject; number = s.number }) s' → EventSays (field ++ rest) s s'
  event-subject-by : {s s' : Said} {rest : List ℕ} (field bytes : List ℕ) → Holds 2 field bytes → utf8 bytes ≡ true
      → EventSays rest (record { from = s.from; subject = text_of bytes; number = s.number }) s' → EventSays (field ++ rest) s s'
  event-number-by : {s s' : Said} {rest : List ℕ} (field : List ℕ) (v : ℕ) → Numbers 3 field v
      → EventSays rest (record { from = s.from; subject = s.subject; number = v }) s' → EventSays (field ++ rest) s s'
  event_unknown : {s s' : Said} {rest : List ℕ} (n : ℕ) (field : List ℕ) → n < 2 ^ 29 → OfAnyWire n field → 3 < n → EventSays rest s s' → EventSays (field ++ rest) s s'

-- ---- a gossip: an event of the kind that is held goes on with it, one of another kind begins anew
pub data GossipSays : List ℕ → Held → Held → Type 0 where
  gossip_end : {h : Held} → GossipSays [] h h
  gossip-on-by : {h h' : Held} {rest : List ℕ} (k : ℕ) (field bytes : List ℕ) (s : Said) → Holds k field bytes → 1 ≤ k → k ≤ 4 → h.kind ≡ k → EventSays bytes h.said s
      → GossipSays rest (record { kind = k; said = s }) h' → GossipSays (field ++ rest) h h'
  gossip_anew_by : {h h' : Held} {rest : List ℕ} (k : ℕ) (field bytes : List ℕ) (s : Said) → Holds k field bytes → 1 ≤ k → k ≤ 4 → (h.kind ≡ k → ⊥) → EventSays bytes unsaid s
      → GossipSays rest (record { kind = k; said = s }) h' → GossipSays (field ++ rest) h h'
  gossip_unknown : {h h' : Held} {rest : List ℕ} (n : ℕ) (field : List ℕ) → n < 2 ^ 29 → OfAnyWire n field → 4 < n → GossipSays rest h h' → GossipSays (field ++ rest) h h'

-- one more record, behind those that were there; one that lacks an address spoils the whole
abbrev pub with_record : Acting → Settled → Acting
with_record a (Whole g) = record { from = a.from; other = a.other; bad = a.bad; gossip = a.gossip ++ (g ∷ []) }
with_record a Missing = record { from = a.from; other = a.other; bad = true; gossip = a.gossip ++ (no_gossip ∷ []) }

-- ---- an action: its two texts, and its records
pub data ActionSays : List ℕ → Acting → Acting → Type 0 where
  action_end : {a : Acting} → ActionSays [] a a
  action_from-by : {a a' : Acting} {rest : List ℕ} (field bytes : List ℕ) → Holds 1 field bytes → utf8 bytes ≡ true
      → ActionSays rest (record { from = text_of bytes; other = a.other; bad = a.bad; gossip = a.gossip }) a' → ActionSays (field ++ rest) a a'
  action_other_by : {a a' : Acting} {rest : List ℕ} (field bytes : List ℕ) → Holds 2 field bytes → utf8 bytes ≡ true
      → ActionSays rest (record { from = a.from; other = text_of bytes; bad = a.bad; gossip = a.gossip }) a' → ActionSays (field ++ rest) a a'
  action_record_by : {a a' : Acting} {rest : List ℕ} (field bytes : List ℕ) (h : Held) → Holds 3 field bytes → GossipSays bytes unheld h
      → ActionSays rest (with_record a (settled h)) a' → ActionSays (field ++ rest) a a'
  action_unknown : {a a' : Acting} {rest : List ℕ} (n : ℕ) (field : List ℕ) → n < 2 ^ 29 → OfAnyWire n field → 3 < n → ActionSays rest a a' → ActionSays (field ++ rest) a a'

-- ---- a datagram: an action of the kind that is held goes on with it, one of another kind begins anew
pub data DatagramSays : List ℕ → Message → Message → Type 0 where
  datagram_end : {m : Message} → DatagramSays [] m m
  datagram_on-by : {m m' : Message} {rest : List ℕ} (k : ℕ) (field bytes : List ℕ) (a : Acting) → Holds k field bytes → 1 ≤ k → k ≤ 3 → m.kind ≡ k → ActionSays bytes m.acting a
      → DatagramSays rest (record { kind = k; acting = a }) m' → DatagramSays (field ++ rest) m m'
  datagram_anew_by : {m m' : Message} {rest : List ℕ} (k : ℕ) (field bytes : List ℕ) (a : Acting) → Holds k field bytes → 1 ≤ k → k ≤ 3 → (m.kind ≡ k → ⊥) → ActionSays bytes silent a
      → DatagramSays rest (record { kind = k; acting = a }) m' → DatagramSays (field ++ rest) m m'
  datagram_unknown : {m m' : Message} {rest : List ℕ} (n : ℕ) (field : List ℕ) → n < 2 ^ 29 → OfAnyWire n field → 3 < n → DatagramSays rest m m' → DatagramSays (field ++ rest) m m'
