-- THE TIE. A program that makes calls of `swim`, one after the other, from a created node: whatever it makes of their answers, the node and the wait record
-- are those of the model's history of the same calls, since each result meets its contract.
-- Assumes nothing.
use Rattle.std.specs.Prelude.{◌≡◌, refl, true, false, List, [], ◌∷◌, map, ℕ, length, take}
use Rattle.std.proofs.Common.{sym, ◌∙◌, ap}
use Rattle.std.proofs.lemmas.List.{length-map}
use Rattle.address.specs.Here.{Addr, here}
use Rattle.model.specs.Answers.{Answer, done, refused, and_then}
use Rattle.model.specs.Members as list
use Rattle.model.specs.Rows.{pad_to}
use Rattle.laws.specs.Pad.{take_pad}
use Rattle.model.specs.Node as M
use Rattle.model.specs.Calls as calls
use Rattle.history.proofs.Worlds.{first_cases}
use Rattle.history.specs.Histories.{Call, run}
use Rattle.heap.specs.Views.{to_from_entries}
use Rattle.member.specs.Views.{to_member, from_member}
use Rattle.timers.specs.Views.{to_timer, from_timer}
use Rattle.departed.specs.Views.{to_departed, from_departed}
use Rattle.node.specs.declared.Node.{Node}
use Rattle.node.specs.Views.{stored_view, unstored, answer_of, from_message, no_letter}
use Rattle.wait.specs.declared.Wait.{Wait}
use Rattle.wait.specs.Views.{to_wait, to_from_wait}
use Rattle.swim.specs.Promises.{outcome_of, row_after, add_of, message_of, step_of, timer_of}
use Rattle.promises.specs.Made.{letters_of, Held, Said, Made, adds, receives, steps, ends_timer, lends}
use Rattle.promises.proofs.Refused.{nothing_written}
use Rattle.promises.specs.Runs.{world, MadeAs, Runs, rests, makes}

there_and_back : {B C : Type 0} (f : B → C) (g : C → B) → ((b : B) → g (f b) ≡ b) → (l : List B) → map g (map f l) ≡ l
there_and_back f g back [] = refl
there_and_back f g back (b ∷ l) = λ i. back b i ∷ there_and_back f g back l i

-- the rows that a call hands back are those of its outcome
pub stored-unstored : (s : M.Stored Addr) → stored_view (unstored s) ≡ s
unfolding stored_view unstored
stored-unstored s =
    let t = there_and_back from_member to_member (λ m. refl) s.table in
    let m = there_and_back from_timer to_timer (λ x. refl) s.timers.places in
    let e = there_and_back from_departed to_departed (λ x. refl) s.departed.places in
    λ i. record {
      settings = s.settings;
      own = s.own;
      table = t i;
      order = s.order;
      listed = s.listed;
      position = s.position;
      lamps = s.lamps;
      alive = record { places = to_from_entries s.alive.places i; used = s.alive.used };
      deceased = record { places = to_from_entries s.deceased.places i; used = s.deceased.used };
      timers = record { places = m i; used = s.timers.used };
      departed = record { places = e i; used = s.departed.used };
    }

-- an add reports nothing
add-silent : (s : M.Stored Addr) (a : Addr) (n : ℕ) (ds : List ℕ) → (calls.add_peer here s a n ds).events ≡ []
unfolding calls.add_peer
add-silent s a n ds =
    first_cases (λ (o : calls.Outcome Addr). o.events ≡ []) (calls.add_tests here s a) (calls.refuses s) _ (λ r. refl)
    (λ p.
    elim (M.lists here a (M.loaded s)) as (λ t. (calls.or_already t s (calls.kept here s ds (calls.joins here a n (M.loaded s) ds))).events ≡ []) [
      | true ↦ refl
      | false ↦ added (list.add here.same a n (M.loaded s).members ds)
    ])
  where
    added : (x : Answer (list.Members Addr)) → (calls.kept here s ds (and_then x λ m rest. done (record { node = M.with_members (M.loaded s) m; messages = []; events = []; collected = 0 }) rest)).events ≡ []
    added (refused r) = refl
    added (done m rest) = refl

-- the letters in use are the messages
letters_are : (o : calls.Outcome Addr) → letters_of (answer_of o) ≡ map from_message o.messages
unfolding answer_of
letters_are o = ap (λ (n : ℕ). take n (pad_to 4 no_letter (map from_message o.messages))) (sym (length-map o.messages from_message)) ∙ take_pad 4 no_letter (map from_message o.messages)

pub made_is : (h : Held) (c : Call Addr) (s : Said) (h' : Held) → Made h c s h' → MadeAs h c s h'
unfolding answer_of outcome_of
made_is h _ _ _ (adds a number draws r met) =
    let silent = add-silent (stored_view h.node) a number draws in
    record {
      world = λ i. record { node = ((λ j. stored_view (met.answer j).node) ∙ stored-unstored _) i; wait = to_wait h.wait };
      reply = λ i. (met.answer i).reply;
      letters = ap letters_of met.answer ∙ letters_are (add_of h.node a number draws);
      events = sym ((λ i. row_after (silent i) h.events) ∙ nothing_written h.events);
      reported = sym (ap length silent);
    }
made_is h _ _ _ (receives action rows draws r gossip events met) =
    record {
      world = λ i. record { node = ((λ j. stored_view (met.ends.answer j).answer.node) ∙ stored-unstored _) i; wait = to_wait h.wait };
      reply = λ i. (met.ends.answer i).answer.reply;
      letters = (λ i. letters_of (met.ends.answer i).answer) ∙ letters_are (message_of h.node action rows draws h.gossip h.events);
      events = met.ends.told;
      reported = λ i. (met.ends.answer i).reported;
    }
made_is h _ _ _ (steps tick draws r wait gossip events met) =
    record {
      world = λ i. record { node = ((λ j. stored_view (met.ends.answer j).answer.node) ∙ stored-unstored _) i; wait = (ap to_wait met.waits ∙ to_from_wait (step_of h.node h.wait tick draws h.gossip h.events).wait) i };
      reply = λ i. (met.ends.answer i).answer.reply;
      letters = (λ i. letters_of (met.ends.answer i).answer) ∙ letters_are (step_of h.node h.wait tick draws h.gossip h.events).outcome;
      events = met.ends.told;
      reported = λ i. (met.ends.answer i).reported;
    }
made_is h _ _ _ (ends_timer tick r events met) =
    record {
      world = λ i. record { node = ((λ j. stored_view (met.answer j).answer.node) ∙ stored-unstored _) i; wait = to_wait h.wait };
      reply = λ i. (met.answer i).answer.reply;
      letters = (λ i. letters_of (met.answer i).answer) ∙ letters_are (timer_of h.node tick h.events);
      events = met.told;
      reported = λ i. (met.answer i).reported;
    }
made_is h _ _ _ (lends wait) = record { world = refl; reply = refl; letters = refl; events = sym (nothing_written h.events); reported = refl }

-- every run of the program is the model's history of its calls
pub runs_is : {n n' : Node} {w w' : Wait} {cs : List (Call Addr)} → Runs n w cs n' w' → run here cs (world n w) ≡ world n' w'
runs_is (rests n w) = refl
runs_is (makes {cs = cs} h c s h' m rest) = ap (run here cs) (sym (made_is h c s h' m).world) ∙ runs_is rest
