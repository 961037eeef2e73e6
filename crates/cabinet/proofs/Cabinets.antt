-- A cabinet: any number of controllers, each with its node and its wait record, and a network that may lose, delay, repeat, reorder and forge, but for the records of one topic.
-- Assumes nothing.
use Rattle.std.specs.Prelude.{◌≡◌, refl, List, [], ◌∷◌}
use Rattle.std.proofs.Common.{ap, sym, subst}
use Rattle.model.specs.Words.{Event, Nothing, Joined, Recovered, Suspected, Deceased, Gossip, Action, Message}
use Rattle.cabinet.specs.Each.{nil, cons, Among, here, there}
use Rattle.cabinet.proofs.Each.{among-map}
use Rattle.cabinet.specs.Cabinets.{Topic, About, InGossip, Said, sent, deaths, suspicions}

module _ {A : Type 0} where
  -- so a network that brings whole messages as they were sent, to anyone, at any time and any number of times, will do
  pub delivered : (k : Topic) (action : Action A) (gs : List (Gossip A)) (sent : List (Message A)) → Among (λ m. (m.action ≡ action) × (m.gossip ≡ gs)) sent → InGossip k (Said k sent) gs
  delivered k action gs sent a = all gs (λ g i. among-map (λ m e. subst (Among (λ g'. g' ≡ g)) (sym e.1) i) a)
    where
      one : (k : Topic) (e : Event A) → Among (λ m. Among (λ g. g.event ≡ e) m.gossip) sent → About k (Said k sent) e
      one deaths Nothing b = tt
      one deaths (Joined f x n) b = tt
      one deaths (Recovered f x n) b = tt
      one deaths (Suspected f x n) b = tt
      one deaths (Deceased f x n) b = among-map (λ m c. among-map (λ g q. (f, q)) c) b
      one suspicions Nothing b = tt
      one suspicions (Joined f x n) b = tt
      one suspicions (Recovered f x n) b = tt
      one suspicions (Suspected f x n) b = among-map (λ m c. among-map (λ g q. (f, q)) c) b
      one suspicions (Deceased f x n) b = tt

      all : (hs : List (Gossip A)) → ((g : Gossip A) → Among (λ g'. g' ≡ g) hs → Among (λ m. Among (λ g'. g' ≡ g) m.gossip) sent) → InGossip k (Said k sent) hs
      all [] f = nil
      all (g ∷ hs) f = cons (one k g.event (among-map (λ m c. among-map (λ g' q. ap (λ (y : Gossip A). y.event) q) c) (f g (here refl)))) (all hs (λ g' i. f g' (there i)))
