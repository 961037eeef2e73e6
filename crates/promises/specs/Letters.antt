-- WHAT EACH LETTER SAYS AND HOW MANY RECORDS GO WITH IT: the actions and the counts of the letters in use, and what stands in the row for gossip.
-- Assumes nothing.
use Rattle.std.specs.Prelude.{◌≡◌, List, [], ◌∷◌, map, ℕ, ◌+◌, take, drop}
use Rattle.address.specs.Here.{Addr}
use Rattle.model.specs.Words as W
use Rattle.model.specs.Calls as calls
use Rattle.types.specs.declared.Gossip.{Gossip}
use Rattle.types.specs.Views.{from_gossip, to_action}
use Rattle.node.specs.declared.Letter.{Letter}
use Rattle.node.specs.declared.Answer.{Answer}

-- the counts of the letters in use
abbrev pub counts_of : Answer → List ℕ
counts_of a = map (λ (l : Letter). l.count) (take a.sent a.letters)

-- what they say
abbrev pub actions_of : Answer → List (W.Action Addr)
actions_of a = map (λ (l : Letter). to_action l.action) (take a.sent a.letters)

unfoldable pub total : List ℕ → ℕ
total [] = 0
total (n ∷ ns) = n + total ns

-- what goes out says what the rules say, and "the gossip of several messages is packed in sending order, each with its count; places past the last written stay as lent"
pub record Written (ms : List (W.Message Addr)) (a : Answer) (lent row : List Gossip) : Type 0 where
  pub actions : actions_of a ≡ map (λ (m : W.Message Addr). m.action) ms
  pub counts : counts_of a ≡ calls.counts ms
  pub records : take (total (counts_of a)) row ≡ map from_gossip (calls.packed ms)
  pub others : drop (total (counts_of a)) row ≡ drop (total (counts_of a)) lent
