-- NO FORGED SUSPICION. Where each Suspected record that a message brings has stood, by address and number, in some message that some controller sent (and everything else,
-- deaths too, is free): whoever holds, sends or reports that x is suspected at number n does so after, or at, a ping-request step of some controller at that number, which
-- had pinged x, listed at n, in the same round of its wait record, and found it silent when ping_timeout had gone by.
-- Assumes nothing.
use Rattle.std.specs.Prelude.{List, ◌∷◌, ℕ}
use Rattle.model.specs.Words.{Address, Lawful}
use Rattle.history.specs.Histories.{World}
use Rattle.cabinet.specs.Cabinets.{suspicions, Turn, InGossip, InHeap, InMessages, Brings, Fresh, nodes, given, sent, Honest, AskedFor}
use Rattle.cabinet.specs.Calls.{Tells}
use Rattle.cabinet.specs.Standing.{Standing}
use Rattle.cabinet.proofs.Standing.{standing, brought, turn_gives}

module _ {A : Type 0} (address : Address A) (lawful : Lawful address) (begins : ℕ → World A) (fresh : (j : ℕ) → Fresh address (begins j))
    (h : List (Turn A)) (honest : Honest address begins suspicions h) where
  stands : Standing address lawful begins fresh suspicions h
  stands = standing address lawful begins fresh suspicions h honest

  -- each suspicion in a controller's heaps, and in a message that was ever sent
  pub held : (j : ℕ) → InHeap suspicions (AskedFor address begins h) (nodes address begins h j).disseminator.alive
  held j = (stands.all j).node.alive

  pub held-deceased : (j : ℕ) → InHeap suspicions (AskedFor address begins h) (nodes address begins h j).disseminator.deceased
  held-deceased j = (stands.all j).node.deceased

  pub on_its_way : InMessages suspicions (AskedFor address begins h) (sent address begins h)
  on_its_way = stands.sent

  module _ (t : Turn A) (brings : Brings suspicions t.call (sent address begins h)) where
    learned : Tells suspicions (AskedFor address begins h) t.call
    learned = brought suspicions (AskedFor address begins h) t.call (sent address begins h) brings on_its_way

    -- each that the next turn sends, and each that it reports
    pub sends : InMessages suspicions (AskedFor address begins (t ∷ h)) (given address begins t h).messages
    sends = (turn_gives address lawful begins fresh suspicions t.who h (stands.all t.who) t.call brings learned).messages

    pub reports : InGossip suspicions (AskedFor address begins (t ∷ h)) (given address begins t h).events
    reports = (turn_gives address lawful begins fresh suspicions t.who h (stands.all t.who) t.call brings learned).events
