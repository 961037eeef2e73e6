-- What a host reads off an answer: its messages, from the letters and the row for gossip, and its events, from the row for events. They are those of the rules.
-- Assumes nothing.
use Rattle.std.specs.Prelude.{◌≡◌, refl, List, [], ◌∷◌, ◌++◌, map, ℕ, length, take, drop}
use Rattle.std.proofs.Common.{sym, ◌∙◌, ap, append_assoc}
use Rattle.std.proofs.Math.Option.{Option, none, some}
use Rattle.std.proofs.lemmas.List.{length-map}
use Rattle.std.proofs.Math.Seq.{take-append_seam, drop-append_seam}
use Rattle.laws.specs.Lists.{map-append}
use Rattle.address.specs.Here.{Addr, here}
use Rattle.model.specs.Words as W
use Rattle.model.specs.Calls as calls
use Rattle.history.specs.Histories.{Call, outcome}
use Rattle.cabinet.proofs.Calls.{add-sends, timer_sends}
use Rattle.types.specs.declared.Gossip.{Gossip}
use Rattle.types.specs.Views.{to_gossip, from_gossip, to_optional, from_optional, to_action, from_action, to_from_gossips}
use Rattle.node.specs.declared.Letter.{Letter}
use Rattle.node.specs.Views.{stored_view, from_message}
use Rattle.swim.specs.Promises.{row_after}
use Rattle.promises.specs.Made.{Held, Said, Made, adds, receives, steps, ends_timer, lends}
use Rattle.promises.specs.Runs.{seen}
use Rattle.promises.proofs.Runs.{made_is}
use Rattle.cabinet_promises.specs.Mail.{letters, mail, told}

to_from_optional : (o : Option Addr) → to_optional (from_optional o) ≡ o
to_from_optional none = refl
to_from_optional (some a) = refl

pub to_from_action : (a : W.Action Addr) → to_action (from_action a) ≡ a
to_from_action (W.Ping f o) = ap (W.Ping f) (to_from_optional o)
to_from_action (W.PingReq f s) = refl
to_from_action (W.Ack f o) = ap (W.Ack f) (to_from_optional o)

-- what is read is what was sent
letters-back : (ms : List (W.Message Addr)) (rest : List Gossip) → letters (map from_message ms) (map from_gossip (calls.packed ms) ++ rest) ≡ ms
letters-back [] rest = refl
letters-back (m ∷ ms) rest =
    let gs = map from_gossip m.gossip in
    let more = map from_gossip (calls.packed ms) ++ rest in
    let row : map from_gossip (m.gossip ++ calls.packed ms) ++ rest ≡ gs ++ more =
    ap (λ (l : List Gossip). l ++ rest) (map-append from_gossip m.gossip (calls.packed ms)) ∙ append_assoc gs (map from_gossip (calls.packed ms)) rest in
    let n : length m.gossip ≡ length gs = sym (length-map m.gossip from_gossip) in
    let t : take (length m.gossip) (gs ++ more) ≡ gs = ap (λ (k : ℕ). take k (gs ++ more)) n ∙ take-append_seam gs more in
    let d : drop (length m.gossip) (gs ++ more) ≡ more = ap (λ (k : ℕ). drop k (gs ++ more)) n ∙ drop-append_seam gs more in
    ap (letters (from_message m ∷ map from_message ms)) row
    ∙ (λ i. record { target = m.target; action = to_from_action m.action i; gossip = (ap (map to_gossip) t ∙ to_from_gossips m.gossip) i } ∷ (ap (letters (map from_message ms)) d ∙ letters-back ms rest) i)

mail_is : (ms : List (W.Message Addr)) (ls : List Letter) (lent row : List Gossip) → ls ≡ map from_message ms → row ≡ row_after (calls.packed ms) lent → letters ls row ≡ ms
unfolding row_after
mail_is ms ls lent row e q =
    (λ i. letters (e i) (q i))
    ∙ (λ i. letters (map from_message ms) (map-append from_gossip (calls.packed ms) (drop (length (calls.packed ms)) (map to_gossip lent)) i))
    ∙ letters-back ms _

none_mailed : (ms : List (W.Message Addr)) (ls : List Letter) (row : List Gossip) → ls ≡ map from_message ms → ms ≡ [] → letters ls row ≡ ms
none_mailed ms ls row e n = (λ i. letters ((e ∙ ap (map from_message) n) i) row) ∙ sym n

pub mailed_is : (h : Held) (c : Call Addr) (s : Said) (h' : Held) → Made h c s h' → mail s h' ≡ (outcome here c (seen h)).outcome.messages
mailed_is h _ _ _ (adds a number draws r met) = none_mailed _ _ h.gossip (made_is h _ _ _ (adds a number draws r met)).letters (add-sends here (stored_view h.node) a number draws)
mailed_is h _ _ _ (receives action rows draws r gossip events met) = mail_is _ _ h.gossip gossip (made_is h _ _ _ (receives action rows draws r gossip events met)).letters met.ends.spoken
mailed_is h _ _ _ (steps tick draws r wait gossip events met) = mail_is _ _ h.gossip gossip (made_is h _ _ _ (steps tick draws r wait gossip events met)).letters met.ends.spoken
mailed_is h _ _ _ (ends_timer tick r events met) = none_mailed _ _ h.gossip (made_is h _ _ _ (ends_timer tick r events met)).letters (timer_sends here tick _ (stored_view h.node))
mailed_is h _ _ _ (lends wait) = refl

row_front : (gs : List (W.Gossip Addr)) (lent : List Gossip) → map to_gossip (take (length gs) (row_after gs lent)) ≡ gs
unfolding row_after
row_front gs lent =
    let rest = map from_gossip (drop (length gs) (map to_gossip lent)) in
    ap (map to_gossip)
    (ap (take (length gs)) (map-append from_gossip gs (drop (length gs) (map to_gossip lent)))
    ∙ ap (λ (k : ℕ). take k (map from_gossip gs ++ rest)) (sym (length-map gs from_gossip))
    ∙ take-append_seam (map from_gossip gs) rest)
    ∙ to_from_gossips gs

pub told_is : (h : Held) (c : Call Addr) (s : Said) (h' : Held) → Made h c s h' → told s h' ≡ (outcome here c (seen h)).outcome.events
told_is h c s h' m =
    let v = made_is h c s h' m in
    (λ i. map to_gossip (take (v.reported i) (v.events i))) ∙ row_front (outcome here c (seen h)).outcome.events h.events
