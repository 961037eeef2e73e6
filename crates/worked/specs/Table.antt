-- 01's worked numbers: what is computed, and what 01 says it is.
-- Assumes nothing.
use Rattle.std.specs.Prelude.{◌≡◌, false, List, [], ◌∷◌, map, ℕ, ◌-◌, ◌^◌, length, get_or, eqb}
use Rattle.std.proofs.Math.Option.{none, some}
use Rattle.model.specs.declared.State.TheVariants as state
use Rattle.model.specs.Answers.{Answer, done}
use Rattle.model.specs.Limit.{limit_of}
use Rattle.model.specs.Size.{size_of}
use Rattle.address.specs.Here.{Addr, here}
use Rattle.worked.specs.Numbered.{ipv4}
use Rattle.model.specs.Words.{Joined, Suspected, Deceased, Gossip, Entry}
use Rattle.model.specs.Choose.{choose, terms_of}
use Rattle.model.specs.Members as list
use Rattle.model.specs.Node.{lists, numbered, state_of}
use Rattle.model.specs.Detector.{send_ping, Stepped}
use Rattle.worked.specs.Cabinet.{own, B, C, host, says, member, members, order, node, with_b, heap_of, of_given, rule_of}

-- a case: a value and what it is
pub data Case : Type 1 where
  ◌is◌ : {W : Type 0} → W → W → Case

infix 10 ◌is◌
abbrev pub Holds : Case → Type 0
Holds (x is y) = x ≡ y

-- a, b, c, d of 01's orders
abbrev a : ℕ
a = host 11

abbrev b : ℕ
b = host 12

abbrev c : ℕ
c = host 13

abbrev d : ℕ
d = host 14

-- the shortest and the longest text of IPv6
abbrev shortest : Addr
shortest = record { family = 6; port = 0; high = 0; low = 0 }

abbrev furthest : Addr
furthest = record { family = 6; port = 65535; high = 2 ^ 64 - 1; low = 2 ^ 64 - 1 }

-- x, y, z of 01's tie, pushed in that order
abbrev x : Gossip ℕ
x = says Joined a 0

abbrev y : Gossip ℕ
y = says Joined b 0

abbrev z : Gossip ℕ
z = says Joined c 0

-- own alone is listed, and x is to be spread
abbrev alone_before : List (Entry ℕ)
alone_before = heap_of (x ∷ []) []

abbrev alone : Answer (Stepped ℕ)
alone = send_ping ipv4 20 (node (members (member own state.Alive 0 ∷ []) (own ∷ []) 0) alone_before []) []

abbrev pub table : List Case
table =
    -- "limits: (0,3) 0; (1,3) 3; (10,3) 6; (11,3) 7; (64,8) 23"
    (limit_of 0 3 is 0)
    ∷ (limit_of 1 3 is 3)
    ∷ (limit_of 10 3 is 6)
    ∷ (limit_of 11 3 is 7)
    ∷ (limit_of 64 8 is 23)
    -- "sizes, 10.0.0.1:7000 twice: number 0 gives 32, 127 gives 34, 128 gives 35"
    ∷ (size_of ipv4 (says Joined own 0) is 32)
    ∷ (size_of ipv4 (says Joined own 127) is 34)
    ∷ (size_of ipv4 (says Joined own 128) is 35)
    -- of IPv6 the shortest and the longest: [::]:0 twice at number 0, and [ffff:..:ffff]:65535 twice at 2^64 − 1
    ∷ (size_of here (record { event = Joined shortest shortest 0 }) is 18)
    ∷ (size_of here (record { event = Joined furthest furthest (2 ^ 64 - 1) }) is 111)
    -- "shuffle a,b,c with draws 0,0: b,c,a"
    ∷ (list.shuffle 0 (a ∷ b ∷ c ∷ []) (0 ∷ 0 ∷ []) is done (b ∷ c ∷ a ∷ []) [])
    -- "order a,b,c,d at 2, remove a: position 2, now d"
    ∷ (list.remove eqb a (order (a ∷ b ∷ c ∷ d ∷ []) 2) is order (b ∷ c ∷ d ∷ []) 2)
    ∷ (get_or (list.remove eqb a (order (a ∷ b ∷ c ∷ d ∷ []) 2)).order 2 0 is d)
    -- "order B,C,own at 1, pick 2 with draws 2,0: C, C"; and the trap "forgetting that a pick may give one peer twice"
    ∷ (of_given (λ p. p.picks) (list.pick_from eqb 0 own none 2 (order (B ∷ C ∷ own ∷ []) 1) (2 ∷ 0 ∷ [])) is some (C ∷ C ∷ []))
    -- "tie: push x,y,z, all alive; limit 3, max_selected 6, no deaths held, all fit: sent x,z,y"; and the trap "first in, first out"
    ∷ ((choose ipv4 (terms_of 6 1169 3) (heap_of (x ∷ y ∷ z ∷ []) []) []).chosen is (x ∷ z ∷ y ∷ []))
    -- "One heap may pass its share while the other is short": no deaths are held, and three of the living go out at a share of 1
    ∷ ((terms_of 2 1169 3).alive_share is 1)
    ∷ ((choose ipv4 (terms_of 2 1169 3) (heap_of (x ∷ y ∷ z ∷ []) []) []).from-alive is 3)
    -- "B Pending 4, Suspected 4: nothing; 5: Suspected 5"
    ∷ (rule_of Suspected B 4 (with_b state.Pending 4) [] is done (record { node = with_b state.Pending 4; said = []; collected = 0 }) [])
    ∷ (of_given (λ o. numbered ipv4 B o.node) (rule_of Suspected B 5 (with_b state.Pending 4) []) is some 5)
    ∷ (of_given (λ o. state_of ipv4 B o.node) (rule_of Suspected B 5 (with_b state.Pending 4) []) is some state.Suspected)
    ∷ (of_given (λ o. o.said) (rule_of Suspected B 5 (with_b state.Pending 4) []) is some (says Suspected B 5 ∷ []))
    -- "B at 4, Deceased 3: kept; 4: gone"
    ∷ (rule_of Deceased B 3 (with_b state.Alive 4) [] is done (record { node = with_b state.Alive 4; said = []; collected = 0 }) [])
    ∷ (of_given (λ o. lists ipv4 B o.node) (rule_of Deceased B 4 (with_b state.Alive 4) []) is some false)
    -- the trap "moving the position when an add lands before it": C comes in at place 0, and the position stays
    ∷ (of_given (λ m. m.position) (list.add eqb C 0 (order (own ∷ B ∷ []) 1) (0 ∷ [])) is some 1)
    ∷ (of_given (λ m. m.order) (list.add eqb C 0 (order (own ∷ B ∷ []) 1) (0 ∷ [])) is some (C ∷ own ∷ B ∷ []))
    -- the trap "keeping the gossip unspent when no target is found": own alone is listed, and the gossip's one send is spent
    ∷ (map (λ e. e.sends) alone_before is (0 ∷ []))
    ∷ (of_given (λ s. map (λ e. e.sends) s.effect.node.disseminator.alive) alone is some (1 ∷ []))
    ∷ (of_given (λ s. length s.effect.messages) alone is some 0)
    ∷ []
