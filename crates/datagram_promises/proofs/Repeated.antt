-- THE LAST OF A REPEATED TEXT OR NUMBER COUNTS, AND A MESSAGE THAT COMES IN PIECES IS ONE: an action, an event in a record, each read as if it had come once. Of the call.
-- Assumes nothing.
use Rattle.std.specs.Prelude.{◌≡◌, refl, true, List, ◌++◌, ℕ, ◌^◌, ◌≤◌, ◌<◌, length}
use Rattle.std.proofs.Common.{subst, sym, append_assoc, arith}
use Rattle.types.specs.Wire.{tag, varint, delimited}
use Rattle.utf8.specs.Utf8.{utf8}
use Rattle.iptext.specs.Reading.{text_of}
use Rattle.events.specs.declared.Said.{Said}
use Rattle.events.specs.Event.{unsaid}
use Rattle.gossips.specs.declared.Held.{Held}
use Rattle.gossips.specs.Gossip.{unheld, settled}
use Rattle.actions.specs.Action.{Acting, silent}
use Rattle.incoming.specs.Datagram.{Message, unsent}
use Rattle.datagram_promises.specs.AnyLength.{Fits, EventSays, event_end, event-from-by, event-subject-by, event-number-by, event_unknown, GossipSays, ActionSays, with_record, DatagramSays}
use Rattle.datagram_promises.proofs.AnyLength.{event-number, gossip-on, gossip_anew, action_from, action_other, action_record, datagram_on, datagram_anew, read_alike}
use Rattle.datagram_promises.proofs.Skipped.{action_joined}
use Rattle.datagram_promises.specs.Repeated.{Alike}

-- ---- an action that begins the datagram, spelled in two ways
module _ (k : ℕ) (few : k ≤ 3) (rest : List ℕ) (c : Acting) (m : Message) (more : DatagramSays rest (record { kind = k; acting = c }) m) where
  none_yet : (x : List ℕ) → Fits k x → unsent.kind ≡ k → ⊥
  none_yet x fits e = absurd (omega (arith, e, fits.some))

  anew : (x : List ℕ) → Fits k x → ActionSays x silent c → DatagramSays (delimited k x ++ rest) unsent m
  anew x fits says = datagram_anew k x c fits few (none_yet x fits) says more

  pub alike_actions : (x y : List ℕ) → Fits k x → Fits k y → ActionSays x silent c → ActionSays y silent c → Alike (delimited k x ++ rest) (delimited k y ++ rest)
  alike_actions x y fx fy sx sy = read_alike (delimited k x ++ rest) (delimited k y ++ rest) m (anew x fx sx) (anew y fy sy)

  -- the last of a repeated sender counts, and so the last of the other address
  pub last_sender : (first last x : List ℕ) → length first < 2 ^ 64 → length last < 2 ^ 64 → utf8 first ≡ true → utf8 last ≡ true
      → ActionSays x (record { from = text_of last; other = silent.other; bad = silent.bad; gossip = silent.gossip }) c
      → Fits k (delimited 1 last ++ x) → Fits k (delimited 1 first ++ (delimited 1 last ++ x)) → Alike (delimited k (delimited 1 last ++ x) ++ rest) (delimited k (delimited 1 first ++ (delimited 1 last ++ x)) ++ rest)
  last_sender first last x l l' u u' says f f' =
      alike_actions (delimited 1 last ++ x) (delimited 1 first ++ (delimited 1 last ++ x)) f f' (action_from last l' u' says) (action_from first l u (action_from last l' u' says))

  pub last_other : (first last x : List ℕ) → length first < 2 ^ 64 → length last < 2 ^ 64 → utf8 first ≡ true → utf8 last ≡ true
      → ActionSays x (record { from = silent.from; other = text_of last; bad = silent.bad; gossip = silent.gossip }) c
      → Fits k (delimited 2 last ++ x) → Fits k (delimited 2 first ++ (delimited 2 last ++ x)) → Alike (delimited k (delimited 2 last ++ x) ++ rest) (delimited k (delimited 2 first ++ (delimited 2 last ++ x)) ++ rest)
  last_other first last x l l' u u' says f f' =
      alike_actions (delimited 2 last ++ x) (delimited 2 first ++ (delimited 2 last ++ x)) f f' (action_other last l' u' says) (action_other first l u (action_other last l' u' says))

  -- an action in two pieces is that action in one
  pub two_pieces : (x y : List ℕ) (b : Acting) → ActionSays x silent b → ActionSays y b c → Fits k x → Fits k y → Fits k (x ++ y) → Alike (delimited k (x ++ y) ++ rest) (delimited k x ++ (delimited k y ++ rest))
  two_pieces x y b sx sy fx fy f =
      read_alike (delimited k (x ++ y) ++ rest) (delimited k x ++ (delimited k y ++ rest)) m (anew (x ++ y) f (action_joined sx sy))
      (datagram_anew k x b fx few (none_yet x fx) sx (datagram_on k y c fy few refl sy more))

  -- a record that is spelled in two ways, among others
  pub alike-records : (x y : List ℕ) (b : Acting) (g g' : List ℕ) (h : Held) → GossipSays g unheld h → GossipSays g' unheld h → length g < 2 ^ 64 → length g' < 2 ^ 64
      → ActionSays x silent b → ActionSays y (with_record b (settled h)) c → Fits k (x ++ (delimited 3 g ++ y)) → Fits k (x ++ (delimited 3 g' ++ y))
      → Alike (delimited k (x ++ (delimited 3 g ++ y)) ++ rest) (delimited k (x ++ (delimited 3 g' ++ y)) ++ rest)
  alike-records x y b g g' h s s' l l' sx sy f f' =
      alike_actions (x ++ (delimited 3 g ++ y)) (x ++ (delimited 3 g' ++ y)) f f' (action_joined sx (action_record g h l s sy)) (action_joined sx (action_record g' h l' s' sy))

-- ---- an event, in a record that begins with it
event-joined : {x y : List ℕ} {s t u : Said} → EventSays x s t → EventSays y t u → EventSays (x ++ y) s u
event-joined event_end h = h
event-joined {y = y} {s = s} {u = u} (event-from-by {rest = rest} field bytes l v more) h = subst (λ (z : List ℕ). EventSays z s u) (sym (append_assoc field rest y)) (event-from-by field bytes l v (event-joined more h))
event-joined {y = y} {s = s} {u = u} (event-subject-by {rest = rest} field bytes l v more) h = subst (λ (z : List ℕ). EventSays z s u) (sym (append_assoc field rest y)) (event-subject-by field bytes l v (event-joined more h))
event-joined {y = y} {s = s} {u = u} (event-number-by {rest = rest} field v l more) h = subst (λ (z : List ℕ). EventSays z s u) (sym (append_assoc field rest y)) (event-number-by field v l (event-joined more h))
event-joined {y = y} {s = s} {u = u} (event_unknown {rest = rest} n field k w b more) h = subst (λ (z : List ℕ). EventSays z s u) (sym (append_assoc field rest y)) (event_unknown n field k w b (event-joined more h))

-- the last of a repeated number counts; of a text likewise
pub last_number : (v w : ℕ) (rest : List ℕ) (s t : Said) → v < 2 ^ 64 → w < 2 ^ 64 → EventSays rest (record { from = s.from; subject = s.subject; number = w }) t
    → EventSays ((tag 3 0 ++ varint w) ++ rest) s t × EventSays ((tag 3 0 ++ varint v) ++ ((tag 3 0 ++ varint w) ++ rest)) s t
last_number v w rest s t l l' says = (event-number w l' says, event-number v l (event-number w l' says))

-- an event in two pieces is that event in one
pub two_parts : (k : ℕ) (x y rest : List ℕ) (s t : Said) (h : Held) → k ≤ 4 → EventSays x unsaid s → EventSays y s t → Fits k x → Fits k y → Fits k (x ++ y) → GossipSays rest (record { kind = k; said = t }) h
    → GossipSays (delimited k (x ++ y) ++ rest) unheld h × GossipSays (delimited k x ++ (delimited k y ++ rest)) unheld h
two_parts k x y rest s t h few sx sy fx fy f more =
    let new : unheld.kind ≡ k → ⊥ = λ e. absurd (omega (arith, e, fx.some)) in
    (gossip_anew k (x ++ y) t f few new (event-joined sx sy) more, gossip_anew k x s fx few new sx (gossip-on k y t fy few refl sy more))
