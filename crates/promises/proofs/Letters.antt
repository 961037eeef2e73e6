-- WHAT EACH LETTER SAYS AND HOW MANY RECORDS GO WITH IT: the actions and the counts of the letters in use, and what stands in the row for gossip.
-- Assumes nothing.
use Rattle.std.specs.Prelude.{◌≡◌, refl, List, [], ◌∷◌, ◌++◌, map, ℕ, ◌+◌, length, take, drop}
use Rattle.std.proofs.Common.{sym, ◌∙◌, ap, length-append, take_at, drop_at}
use Rattle.std.proofs.Math.Option.{Option, none, some}
use Rattle.std.proofs.lemmas.List.{length-map}
use Rattle.address.specs.Here.{Addr}
use Rattle.model.specs.Words as W
use Rattle.model.specs.Calls as calls
use Rattle.types.specs.declared.Gossip.{Gossip}
use Rattle.types.specs.Views.{from_gossip, to_optional, from_optional, to_action, from_action}
use Rattle.node.specs.declared.Letter.{Letter}
use Rattle.node.specs.Views.{answer_of, from_message}
use Rattle.swim.specs.declared.Outcome.{Outcome}
use Rattle.swim.specs.Promises.{outcome_of, row_after, Ends}
use Rattle.swim.specs.Laws.{row-after}
use Rattle.promises.specs.Letters.{counts_of, actions_of, total, Written}

counts_are : (ms : List (W.Message Addr)) → map (λ (l : Letter). l.count) (map from_message ms) ≡ calls.counts ms
counts_are [] = refl
counts_are (m ∷ ms) = ap (λ (ns : List ℕ). length m.gossip ∷ ns) (counts_are ms)

to_from_optional : (o : Option Addr) → to_optional (from_optional o) ≡ o
to_from_optional none = refl
to_from_optional (some a) = refl

to_from_action : (a : W.Action Addr) → to_action (from_action a) ≡ a
to_from_action (W.Ping f o) = ap (W.Ping f) (to_from_optional o)
to_from_action (W.PingReq f s) = refl
to_from_action (W.Ack f o) = ap (W.Ack f) (to_from_optional o)

actions_are : (ms : List (W.Message Addr)) → map (λ (l : Letter). to_action l.action) (map from_message ms) ≡ map (λ (m : W.Message Addr). m.action) ms
actions_are [] = refl
actions_are (m ∷ ms) = λ i. to_from_action m.action i ∷ actions_are ms i

counts-total : (ms : List (W.Message Addr)) → total (calls.counts ms) ≡ length (calls.packed ms)
unfolding total
counts-total [] = refl
counts-total (m ∷ ms) = ap (λ (n : ℕ). length m.gossip + n) (counts-total ms) ∙ sym (length-append m.gossip (calls.packed ms))

row_is : (gs : List (W.Gossip Addr)) (lent : List Gossip) → row_after gs lent ≡ map from_gossip gs ++ drop (length gs) lent
row_is gs lent = sym (row-after 0 gs lent) ∙ ap (λ (l : List Gossip). l ++ drop (length gs) lent) (take_at (map from_gossip gs) _ (length gs) (length-map gs from_gossip))

pub written : (o : calls.Outcome Addr) (gossip events : List Gossip) (r : Outcome) (g e : List Gossip) → Ends o gossip events r g e → Written o.messages r.answer gossip g
unfolding outcome_of answer_of
written o gossip events r g e met =
    let ms = o.messages in
    let spoken : List Gossip = map from_gossip (calls.packed ms) in
    let long : length spoken ≡ length (calls.packed ms) = length-map (calls.packed ms) from_gossip in
    let counts : counts_of r.answer ≡ calls.counts ms =
    (λ i. counts_of (met.answer i).answer) ∙ ap (map (λ (l : Letter). l.count)) (take_at (map from_message ms) _ (length ms) (length-map ms from_message)) ∙ counts_are ms in
    let sum : total (counts_of r.answer) ≡ length (calls.packed ms) = ap total counts ∙ counts-total ms in
    let row : g ≡ spoken ++ drop (length (calls.packed ms)) gossip = met.spoken ∙ row_is (calls.packed ms) gossip in
    record {
      actions =
          (λ i. actions_of (met.answer i).answer)
          ∙ ap (map (λ (l : Letter). to_action l.action)) (take_at (map from_message ms) _ (length ms) (length-map ms from_message))
          ∙ actions_are ms;
      counts = counts;
      records = (λ i. take (sum i) (row i)) ∙ take_at spoken _ (length (calls.packed ms)) long;
      others = (λ i. drop (sum i) (row i)) ∙ drop_at spoken _ (length (calls.packed ms)) long ∙ (λ i. drop (sym sum i) gossip);
    }
