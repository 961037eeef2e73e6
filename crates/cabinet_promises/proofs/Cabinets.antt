-- NO FORGED DEATH, OF THE PROGRAMS. Any number of controllers, each a program that makes calls of `swim` from the node that creation or a restart handed back and a fresh wait record. What is said of the
-- nodes is of those that the calls handed back; the messages are what hosts read off the answers, a letter and its place in the row for gossip, and the reports what stands in the rows for events. TimedOut
-- and AskedFor are of the calls alone, by the rules.
-- Assumes nothing.
use Rattle.std.specs.Prelude.{◌≡◌, refl, true, false, List, [], ◌∷◌, ◌++◌, ℕ, eqb}
use Rattle.std.proofs.Common.{sym, ◌∙◌, ap, subst, eqb-true}
use Rattle.address.specs.Here.{Addr, here, here_lawful}
use Rattle.model.specs.Rows.{pick}
use Rattle.model.specs.Words as W
use Rattle.model.specs.Node as M
use Rattle.history.specs.Histories.{World, Call, outcome, world_of}
use Rattle.cabinet.specs.Cabinets.{Topic, deaths, suspicions, Turn, InGossip, InHeap, InMessages, Brings, Fresh, fresh, worlds, given, sent, Mute, Pinging, Unheard, Asking, StillUnheard, TimedOut, AskedFor}
use Rattle.cabinet.proofs.NoForgedDeath as death
use Rattle.cabinet.specs.NoForgedDeath.{Struck}
use Rattle.cabinet.proofs.NoForgedSuspicion as suspicion
use Rattle.cabinet.proofs.Hearing as hearing
use Rattle.types.specs.declared.Gossip.{Gossip}
use Rattle.node.specs.Views.{stored_view, view_node}
use Rattle.node.specs.Rows.{loaded_view}
use Rattle.wait.specs.declared.Wait.{Wait}
use Rattle.wait.specs.Views.{to_wait}
use Rattle.promises.proofs.Begun.{begun-gave, begun-wait}
use Rattle.promises.specs.Made.{Held, Said, Made}
use Rattle.promises.specs.Runs.{world, seen}
use Rattle.promises.proofs.Runs.{made_is}
use Rattle.cabinet_promises.specs.Mail.{mail, told}
use Rattle.cabinet_promises.proofs.Mail.{mailed_is, told_is}
use Rattle.cabinet_promises.specs.Cabinets.{Seat, lending, seat_of, Began, Goes, begins, Same, rests, makes}

module _ (first : ℕ → Seat) where
  pub goes_is : {k : Topic} {h : List (Turn Addr)} {seats : ℕ → Seat} {ms : List (W.Message Addr)} → Goes k first h seats ms → (Same first) k h seats ms
  goes_is rests = record { worlds_are = λ j. refl; sent_is = refl; honest = tt }
  goes_is {k} (makes {h = h} {seats = seats} {ms = ms} g j gossip events c s after b m) =
      let q = goes_is g in
      let held = lending (seats j) gossip events in
      let w : world after.node after.wait ≡ world_of here (outcome here c (seen held)) = (made_is held c s after m).world in
      record {
        worlds_are = λ i.
            (elim (eqb j i) as (λ u. eqb j i ≡ u → let x = pick u (seat_of after) (seats i) in world x.node x.wait ≡ pick u (world_of here (outcome here c (worlds here (begins first) h i))) (worlds here (begins first) h i)) [
              | true ↦ λ e. w ∙ ap (λ (x : World Addr). world_of here (outcome here c x)) (q.worlds_are j ∙ ap (worlds here (begins first) h) (eqb-true j i e))
              | false ↦ λ e. q.worlds_are i
            ]) refl;
        sent_is = (λ i. (mailed_is held c s after m ∙ ap (λ (x : World Addr). (outcome here c x).outcome.messages) (q.worlds_are j)) i ++ q.sent_is i);
        honest = (subst (Brings k c) q.sent_is b, q.honest);
      }

  begun_fresh : (j : ℕ) → Began (first j) → Fresh here ((begins first) j)
  begun_fresh j b =
      subst (λ (x : Wait). Fresh here (record { node = stored_view (first j).node; wait = to_wait x })) (sym (begun-wait b.begun))
      (fresh b.beginning (stored_view (first j).node) b.tick (begun-gave b.begun))

  module _ (began : (j : ℕ) → Began (first j)) where
    all_fresh : (j : ℕ) → Fresh here ((begins first) j)
    all_fresh j = begun_fresh j (began j)

    -- whom a controller found silent when a wait was over has not answered it since the ping, nor since the ping requests
    pub unanswered : (j : ℕ) (x : Addr) (n now : ℕ) (t : Turn Addr) (h : List (Turn Addr)) (u : Unheard here (begins first) j x n now t h) → Mute here (begins first) j x (Pinging here (begins first) j x n u.entered) h
    unanswered j x = hearing.unanswered here here_lawful (begins first) all_fresh j x

    pub still_unanswered : (j : ℕ) (x : Addr) (n now : ℕ) (t : Turn Addr) (h : List (Turn Addr)) (u : StillUnheard here (begins first) j x n now t h) → Mute here (begins first) j x (Asking here (begins first) j x n u.entered) h
    still_unanswered j x = hearing.still_unanswered here here_lawful (begins first) all_fresh j x

    module _ {k : Topic} {h : List (Turn Addr)} {seats : ℕ → Seat} {ms : List (W.Message Addr)} (g : Goes k first h seats ms) where
      same : (Same first) k h seats ms
      same = goes_is g

      at : (j : ℕ) → M.loaded (worlds here (begins first) h j).node ≡ view_node (seats j).node
      at j = (λ i. M.loaded (sym (same.worlds_are j) i).node) ∙ loaded_view (seats j).node

      -- a further call, as the program sees it
      module _ (j : ℕ) (gossip events : List Gossip) (c : Call Addr) (s : Said) (after : Held) (m : Made (lending (seats j) gossip events) c s after) where
        abbrev turn : Turn Addr
        turn = record { who = j; call = c }

        after_is : M.loaded (given here (begins first) turn h).node ≡ view_node after.node
        after_is =
            (λ i. M.loaded (outcome here c (sym (same.worlds_are j) i)).outcome.node) ∙ (λ i. M.loaded (sym (made_is (lending (seats j) gossip events) c s after m).world i).node) ∙ loaded_view after.node

        mail-given : (given here (begins first) turn h).messages ≡ mail s after
        mail-given = (λ i. (outcome here c (sym (same.worlds_are j) i)).outcome.messages) ∙ sym (mailed_is (lending (seats j) gossip events) c s after m)

        told-given : (given here (begins first) turn h).events ≡ told s after
        told-given = (λ i. (outcome here c (sym (same.worlds_are j) i)).outcome.events) ∙ sym (told_is (lending (seats j) gossip events) c s after m)

    module _ {h : List (Turn Addr)} {seats : ℕ → Seat} {ms : List (W.Message Addr)} (g : Goes deaths first h seats ms) where
      -- each death in the heap of a controller's node has timed out
      pub held : (j : ℕ) → InHeap deaths (TimedOut here (begins first) h) (view_node (seats j).node).disseminator.deceased
      held j = subst (λ (x : M.Node Addr). InHeap deaths (TimedOut here (begins first) h) x.disseminator.deceased) (at g j) (death.held here here_lawful (begins first) all_fresh h (same g).honest j)

      -- each death in a message that a host has read off an answer has timed out
      pub on_its_way : InMessages deaths (TimedOut here (begins first) h) ms
      on_its_way = subst (InMessages deaths (TimedOut here (begins first) h)) (sym (same g).sent_is) (death.on_its_way here here_lawful (begins first) all_fresh h (same g).honest)

      module _ (j : ℕ) (gossip events : List Gossip) (c : Call Addr) (s : Said) (after : Held) (b : Brings deaths c ms) (m : Made (lending (seats j) gossip events) c s after) where
        brings : Brings deaths c (sent here (begins first) h)
        brings = subst (Brings deaths c) (same g).sent_is b

        -- each death in a message that is read off a further answer had timed out before that call
        pub sends : InMessages deaths (TimedOut here (begins first) h) (mail s after)
        sends =
            subst (InMessages deaths (TimedOut here (begins first) h)) (mail-given g j gossip events c s after m)
            (death.sends here here_lawful (begins first) all_fresh h (same g).honest (record { who = j; call = c }) brings)

        -- each death in the row for events that it handed back has timed out, at it or before it
        pub reports : InGossip deaths (TimedOut here (begins first) (record { who = j; call = c } ∷ h)) (told s after)
        reports =
            subst (InGossip deaths (TimedOut here (begins first) (record { who = j; call = c } ∷ h))) (told-given g j gossip events c s after m)
            (death.reports here here_lawful (begins first) all_fresh h (same g).honest (record { who = j; call = c }) brings)

        -- whoever is listed in the node before it and isn't in the node that it handed back: by this controller's own timer, or by a death that it was brought and that had timed out before
        pub struck : (a : Addr) → M.lists here a (view_node (seats j).node) ≡ true → M.lists here a (view_node after.node) ≡ false → Struck here (begins first) a (record { who = j; call = c }) h
        struck a p q =
            death.struck here here_lawful (begins first) all_fresh h (same g).honest (record { who = j; call = c }) brings a
            (ap (M.lists here a) (at g j) ∙ p) (ap (M.lists here a) (after_is g j gossip events c s after m) ∙ q)

        pub strikes : (a : Addr) → M.lists here a (view_node (seats j).node) ≡ true → M.lists here a (view_node after.node) ≡ false
            → (n : ℕ) × TimedOut here (begins first) (record { who = j; call = c } ∷ h) a n
        strikes a p q =
            death.strikes here here_lawful (begins first) all_fresh h (same g).honest (record { who = j; call = c }) brings a
            (ap (M.lists here a) (at g j) ∙ p) (ap (M.lists here a) (after_is g j gossip events c s after m) ∙ q)

    -- and of suspicions, where none of them is forged
    module _ {h : List (Turn Addr)} {seats : ℕ → Seat} {ms : List (W.Message Addr)} (g : Goes suspicions first h seats ms) where
      pub suspicions_held : (j : ℕ) → InHeap suspicions (AskedFor here (begins first) h) (view_node (seats j).node).disseminator.alive
      suspicions_held j = subst (λ (x : M.Node Addr). InHeap suspicions (AskedFor here (begins first) h) x.disseminator.alive) (at g j) (suspicion.held here here_lawful (begins first) all_fresh h (same g).honest j)

      pub suspicions_on_their_way : InMessages suspicions (AskedFor here (begins first) h) ms
      suspicions_on_their_way = subst (InMessages suspicions (AskedFor here (begins first) h)) (sym (same g).sent_is) (suspicion.on_its_way here here_lawful (begins first) all_fresh h (same g).honest)

      module _ (j : ℕ) (gossip events : List Gossip) (c : Call Addr) (s : Said) (after : Held) (b : Brings suspicions c ms) (m : Made (lending (seats j) gossip events) c s after) where
        pub suspicions_reported : InGossip suspicions (AskedFor here (begins first) (record { who = j; call = c } ∷ h)) (told s after)
        suspicions_reported =
            subst (InGossip suspicions (AskedFor here (begins first) (record { who = j; call = c } ∷ h))) (told-given g j gossip events c s after m)
            (suspicion.reports here here_lawful (begins first) all_fresh h (same g).honest (record { who = j; call = c }) (subst (Brings suspicions c) (same g).sent_is b))
