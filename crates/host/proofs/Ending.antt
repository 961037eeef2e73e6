-- How a call over words ends: what it touched where it was kept, and what it left where it wasn't.
-- Assumes nothing.
use mathlib.Core.Path.{◌≡◌, refl, ap, sym, ◌∙◌, subst}
use mathlib.Core.List.{List, [], ◌∷◌, ◌++◌, map}
use Prim.Native.Nat.{ℕ}
use lib.ListN.{length, get_or, take, length-map}
use Rattle.model.specs.declared.Reply.{Reply}
use Rattle.model.specs.declared.State.{State}
use Rattle.model.specs.declared.Refusal.{Refusal}
use Rattle.model.specs.declared.Settings.{Settings}
use Rattle.model.specs.Answers.{number_of}
use Rattle.model.specs.Rows.{pad_to}
use Rattle.model.specs.Calls as calls
use Rattle.address.specs.Here.{Addr, here}
use Rattle.types.specs.declared.Gossip.{Gossip}
use Rattle.types.specs.declared.Action.{Action}
use Rattle.types.specs.Views.{to_gossip, to_action, no_gossip}
use Rattle.disseminate.specs.declared.Found.{Found}
use Rattle.disseminate.specs.declared.Found.TheVariants.{Missing, At}
use Rattle.node.specs.declared.Node.{Node}
use Rattle.node.specs.declared.Answer.{Answer}
use Rattle.node.specs.Views.{stored_view, answer_of, created_of}
use Rattle.message.specs.declared.Received.{Received}
use Rattle.message.specs.Answers.{received_of, lent_rows}
use Rattle.wait.specs.declared.Wait.{Wait}
use Rattle.wait.specs.declared.Stepped.{Stepped}
use Rattle.wait.specs.Views.{to_wait, stepped_of}
use Rattle.timer_call.specs.declared.Ended.{Ended}
use Rattle.timer_call.specs.Views.{ended_of}
use Rattle.swim.specs.declared.lookup.Lookup.{Lookup}
use Rattle.swim.specs.declared.lookup.Lookup.TheVariants as look
use Rattle.swim.specs.declared.lookup.Tally.{Tally}
use Rattle.swim.specs.declared.lookup.Tally.TheVariants as tally
use Rattle.swim.specs.Laws.{lent-message}
use Rattle.why.specs.declared.Reason.{Reason}
use Rattle.why.specs.declared.Grounds.{Grounds}
use Rattle.why.specs.declared.Grounds.TheVariants as grounds
use Rattle.why.specs.Why as asked
use Rattle.cwords.specs.Reading.{Rows, address_in, settings_of, gossip_of, action_of, wait_of, node_of, members_of}
use Rattle.cwords.specs.Writing.{Narrow, first_word, gossip_words, member_words, letter_words, wait_words, state_word, rows_of, code_of, used_of, fate_of}
use Rattle.cwords.specs.Back.{Puts}
use Rattle.cwords.specs.Leaving.{kept_not, kept_so, stays, goes}
use Rattle.host.specs.Promised.{none, over, created_at, Creates, added_at, add_counts, Adds, received_at, receive_counts, Receives, stepped_at, step_counts, Steps, ended_in, end_counts, EndsTimer, look_code, look_words, Looks, tally_code, tally_words, Tallies, reason_word, found_words, why_at, grounds_code, grounds_words, Explains, lamp_words, Shows}

-- creation
pub created-at : (s o : List ℕ) (number : ℕ) (d : Answer) (set : Settings) (own : Addr) → d ≡ created_of (calls.create here set own number) → set ≡ settings_of s → own ≡ address_in o
    → d ≡ created_at s o number
unfolding created_at
created-at s o number d set own e es eo = e ∙ (λ i. created_of (calls.create here (es i) (eo i) number))

module _ (D d : Answer) (e : d ≡ D) (before : Rows) (code : ℕ) (coded : code ≡ code_of d.reply) where
  pub not-created : (code ≡ 0 → ⊥) → Creates D before code before
  not-created h =
      subst (λ (z : Answer). Creates z before code before) e
      (record { coded = coded; node = stays d.reply d.node before (λ z. h (coded ∙ z)) })

  pub created : (after : Rows) → code ≡ 0 → Puts d.node after → Creates D before 0 after
  created after h p =
      let y : code_of d.reply ≡ 0 = sym coded ∙ h in
      subst (λ (z : Answer). Creates z before 0 after) e (record { coded = sym y; node = goes d.reply d.node before after y p })

  pub not_added : (code ≡ 0 → ⊥) → Adds D before code before none
  not_added h =
      let n : code_of d.reply ≡ 0 → ⊥ = λ z. h (coded ∙ z) in
      subst (λ (z : Answer). Adds z before code before none) e
      (record { coded = coded; node = stays d.reply d.node before n; counted = kept_not d.reply (add_counts d) none n })

  pub added : (after : Rows) (u : ℕ) → code ≡ 0 → Puts d.node after → u ≡ used_of d.reply → Adds D before 0 after (u ∷ 0 ∷ 0 ∷ 0 ∷ 0 ∷ 0 ∷ [])
  added after u h p w =
      let y : code_of d.reply ≡ 0 = sym coded ∙ h in
      subst (λ (z : Answer). Adds z before 0 after (u ∷ 0 ∷ 0 ∷ 0 ∷ 0 ∷ 0 ∷ [])) e
      (record {
        coded = sym y;
        node = goes d.reply d.node before after y p;
        counted = ap (λ (x : ℕ). x ∷ 0 ∷ 0 ∷ 0 ∷ 0 ∷ 0 ∷ []) w ∙ kept_so d.reply (add_counts d) none y;
      })

-- adding a peer
pub added-at : (w : Rows) (p : List ℕ) (number : ℕ) (ds : List ℕ) (d : Answer) (n : Node) (a : Addr) → d ≡ answer_of (calls.add_peer here (stored_view n) a number ds) → n ≡ node_of w
    → a ≡ address_in p → d ≡ added_at w p number ds
unfolding added_at
added-at w p number ds d n a e en ea = e ∙ (λ i. answer_of (calls.add_peer here (stored_view (en i)) (ea i) number ds))

-- the message
pub received-at : (w : Rows) (a : List ℕ) (rs : List (List ℕ)) (ds : List ℕ) (g e : ℕ) (d : Received) (n : Node) (act : Action) (recs : List Gossip)
    → d ≡ received_of (calls.message here (stored_view n) (to_action act) (lent_rows recs (length rs)) ds (record { gossip = g; events = e }))
    → n ≡ node_of w → act ≡ action_of a → recs ≡ pad_to 64 no_gossip (take 64 (map gossip_of rs)) → d ≡ received_at w a rs ds g e
unfolding received_at
received-at w a rs ds g e d n act recs ed en ea er =
    ed
    ∙ (λ i. received_of (calls.message here (stored_view (en i)) (to_action (ea i)) (lent_rows (er i) (sym (length-map rs gossip_of) i)) ds (record { gossip = g; events = e })))
    ∙ ap received_of (lent-message (stored_view (node_of w)) (to_action (action_of a)) ds (record { gossip = g; events = e }) (map gossip_of rs))

module _ (D d : Received) (e : d ≡ D) (before : Rows) (gossip events letters : List (List ℕ)) (code : ℕ) (coded : code ≡ code_of d.answer.reply) where
  abbrev received_counts : ℕ → List ℕ
  received_counts u = u ∷ d.answer.sent ∷ d.written ∷ d.reported ∷ d.answer.collected ∷ 0 ∷ []

  pub not_received : (code ≡ 0 → ⊥) → Receives D before gossip events letters code before gossip events letters none
  not_received h =
      let r = d.answer.reply in
      let n : code_of r ≡ 0 → ⊥ = λ z. h (coded ∙ z) in
      subst (λ (z : Received). Receives z before gossip events letters code before gossip events letters none) e
      (record {
        coded = coded;
        node = stays r d.answer.node before n;
        spoken = kept_not r (over d.written d.gossip gossip) gossip n;
        told = kept_not r (over d.reported d.events events) events n;
        sent = kept_not r (map letter_words d.answer.letters) letters n;
        counted = kept_not r (receive_counts d) none n;
      })

  pub received : (after : Rows) (gossip' events' letters' : List (List ℕ)) (u : ℕ) → code ≡ 0 → Puts d.answer.node after → gossip' ≡ over d.written d.gossip gossip
      → events' ≡ over d.reported d.events events → letters' ≡ map letter_words d.answer.letters → u ≡ used_of d.answer.reply
      → Receives D before gossip events letters 0 after gossip' events' letters' (received_counts u)
  received after gossip' events' letters' u h p g' e' l' w =
      let r = d.answer.reply in
      let y : code_of r ≡ 0 = sym coded ∙ h in
      subst (λ (z : Received). Receives z before gossip events letters 0 after gossip' events' letters' (received_counts u)) e
      (record {
        coded = sym y;
        node = goes r d.answer.node before after y p;
        spoken = g' ∙ kept_so r (over d.written d.gossip gossip) gossip y;
        told = e' ∙ kept_so r (over d.reported d.events events) events y;
        sent = l' ∙ kept_so r (map letter_words d.answer.letters) letters y;
        counted = ap received_counts w ∙ kept_so r (receive_counts d) none y;
      })

-- the detector step
pub stepped-at : (w : Rows) (a : List ℕ) (tick : ℕ) (ds : List ℕ) (g e : ℕ) (d : Stepped) (n : Node) (t : Wait)
    → d ≡ stepped_of (calls.detect here (stored_view n) (to_wait t) tick ds (record { gossip = g; events = e })) → n ≡ node_of w → t ≡ wait_of a → d ≡ stepped_at w a tick ds g e
unfolding stepped_at
stepped-at w a tick ds g e d n t ed en et =
    ed ∙ (λ i. stepped_of (calls.detect here (stored_view (en i)) (to_wait (et i)) tick ds (record { gossip = g; events = e })))

module _ (D d : Stepped) (e : d ≡ D) (before : Rows) (wait : List ℕ) (gossip events letters : List (List ℕ)) (code : ℕ) (coded : code ≡ code_of d.answer.reply) where
  abbrev stepped_counts : ℕ → List ℕ
  stepped_counts u = u ∷ d.answer.sent ∷ d.written ∷ d.reported ∷ d.answer.collected ∷ 0 ∷ []

  pub not_stepped : (code ≡ 0 → ⊥) → Steps D before wait gossip events letters code before wait gossip events letters none
  not_stepped h =
      let r = d.answer.reply in
      let n : code_of r ≡ 0 → ⊥ = λ z. h (coded ∙ z) in
      subst (λ (z : Stepped). Steps z before wait gossip events letters code before wait gossip events letters none) e
      (record {
        coded = coded;
        node = stays r d.answer.node before n;
        waits = kept_not r (wait_words d.wait) wait n;
        waits_again = kept_not r d.wait (wait_of wait) n;
        spoken = kept_not r (over d.written d.gossip gossip) gossip n;
        told = kept_not r (over d.reported d.events events) events n;
        sent = kept_not r (map letter_words d.answer.letters) letters n;
        counted = kept_not r (step_counts d) none n;
      })

  pub stepped : (after : Rows) (wait' : List ℕ) (gossip' events' letters' : List (List ℕ)) (u : ℕ) → code ≡ 0 → Puts d.answer.node after
      → (wait' ≡ wait_words d.wait) × (wait_of wait' ≡ d.wait) → gossip' ≡ over d.written d.gossip gossip → events' ≡ over d.reported d.events events
      → letters' ≡ map letter_words d.answer.letters → u ≡ used_of d.answer.reply
      → Steps D before wait gossip events letters 0 after wait' gossip' events' letters' (stepped_counts u)
  stepped after wait' gossip' events' letters' u h p t' g' e' l' w =
      let r = d.answer.reply in
      let y : code_of r ≡ 0 = sym coded ∙ h in
      subst (λ (z : Stepped). Steps z before wait gossip events letters 0 after wait' gossip' events' letters' (stepped_counts u)) e
      (record {
        coded = sym y;
        node = goes r d.answer.node before after y p;
        waits = t'.0 ∙ kept_so r (wait_words d.wait) wait y;
        waits_again = t'.1 ∙ kept_so r d.wait (wait_of wait) y;
        spoken = g' ∙ kept_so r (over d.written d.gossip gossip) gossip y;
        told = e' ∙ kept_so r (over d.reported d.events events) events y;
        sent = l' ∙ kept_so r (map letter_words d.answer.letters) letters y;
        counted = ap stepped_counts w ∙ kept_so r (step_counts d) none y;
      })

-- the timer call
pub ended_at : (w : Rows) (tick e : ℕ) (d : Ended) (n : Node) → d ≡ ended_of (calls.end_timer here (stored_view n) tick (record { gossip = 0; events = e })) → n ≡ node_of w
    → d ≡ ended_in w tick e
unfolding ended_in
ended_at w tick e d n ed en = ed ∙ (λ i. ended_of (calls.end_timer here (stored_view (en i)) tick (record { gossip = 0; events = e })))

module _ (D d : Ended) (e : d ≡ D) (before : Rows) (events : List (List ℕ)) (code : ℕ) (coded : code ≡ code_of d.answer.reply) where
  abbrev ended_counts : ℕ → List ℕ
  ended_counts f = 0 ∷ 0 ∷ 0 ∷ d.reported ∷ d.answer.collected ∷ f ∷ []

  pub not_ended : (code ≡ 0 → ⊥) → EndsTimer D before events code before events none
  not_ended h =
      let r = d.answer.reply in
      let n : code_of r ≡ 0 → ⊥ = λ z. h (coded ∙ z) in
      subst (λ (z : Ended). EndsTimer z before events code before events none) e
      (record {
        coded = coded;
        node = stays r d.answer.node before n;
        told = kept_not r (over d.reported d.events events) events n;
        counted = kept_not r (end_counts d) none n;
      })

  pub ended : (after : Rows) (events' : List (List ℕ)) (f : ℕ) → code ≡ 0 → Puts d.answer.node after → events' ≡ over d.reported d.events events
      → f ≡ fate_of d.answer.reply → EndsTimer D before events 0 after events' (ended_counts f)
  ended after events' f h p e' w =
      let r = d.answer.reply in
      let y : code_of r ≡ 0 = sym coded ∙ h in
      subst (λ (z : Ended). EndsTimer z before events 0 after events' (ended_counts f)) e
      (record {
        coded = sym y;
        node = goes r d.answer.node before after y p;
        told = e' ∙ kept_so r (over d.reported d.events events) events y;
        counted = ap ended_counts w ∙ kept_so r (end_counts d) none y;
      })

-- look-ups
module _ (L : Lookup) (found : List ℕ) where
  pub looked_not : look.NotListed ≡ L → Looks L found 22 found
  looked_not e = subst (λ (z : Lookup). Looks z found 22 found) e (record { coded = refl; shown = refl })

  pub looked_listed : (a : Addr) (n x w : ℕ) (s : State) → look.Listed a s n ≡ L → (x ≡ first_word a) × Narrow a → w ≡ state_word s
      → Looks L found 0 (x ∷ a.high ∷ a.low ∷ w ∷ n ∷ [])
  unfolding member_words
  looked_listed a n x w s e h k =
      subst (λ (z : Lookup). Looks z found 0 (x ∷ a.high ∷ a.low ∷ w ∷ n ∷ [])) e
      (record { coded = refl; shown = λ i. h.0 i ∷ a.high ∷ a.low ∷ k i ∷ n ∷ [] })

  pub looked_refused : (r : Refusal) (k : ℕ) → look.Refused r ≡ L → k ≡ number_of r → Looks L found k found
  looked_refused r k e h = subst (λ (z : Lookup). Looks z found k found) e (record { coded = h; shown = refl })

module _ (T : Tally) (count : List ℕ) where
  pub tallied : (n : ℕ) → tally.Listed n ≡ T → Tallies T count 0 (n ∷ [])
  tallied n e = subst (λ (z : Tally). Tallies z count 0 (n ∷ [])) e (record { coded = refl; shown = refl })

  pub not_tallied : (r : Refusal) (k : ℕ) → tally.Refused r ≡ T → k ≡ number_of r → Tallies T count k count
  not_tallied r k e h = subst (λ (z : Tally). Tallies z count k count) e (record { coded = h; shown = refl })

-- why
pub why-at : (w : Rows) (v ds : List ℕ) (g : Grounds) (n : Node) (x : Gossip) → g ≡ asked.why here (stored_view n) (to_gossip x) ds → n ≡ node_of w → x ≡ gossip_of v → g ≡ why_at w v ds
unfolding why_at
why-at w v ds g n x e en ex = e ∙ (λ i. asked.why here (stored_view (en i)) (to_gossip (ex i)) ds)

abbrev two : List ℕ → List ℕ → List ℕ
two w l = get_or w 0 0 ∷ get_or w 1 0 ∷ l

two-words : (f : Found) (l : List ℕ) → two (found_words f) l ≡ found_words f ++ l
two-words Missing l = refl
two-words (At n) l = refl

two-last : (f : Found) → two (found_words f) [] ≡ found_words f
two-last Missing = refl
two-last (At n) = refl

module _ (G : Grounds) (row : List ℕ) where
  pub explained : (s : Reason) (h n d : Found) (x : ℕ) (wh wn wd : List ℕ) → grounds.Because s h n d ≡ G → x ≡ reason_word s → wh ≡ found_words h → wn ≡ found_words n → wd ≡ found_words d
      → Explains G row 0 (x ∷ two wh (two wn (two wd [])))
  explained s h n d x wh wn wd e ex eh en ed =
      subst (λ (z : Grounds). Explains z row 0 (x ∷ two wh (two wn (two wd [])))) e
      (record {
        coded = refl;
        shown =
            (λ i. ex i ∷ two (eh i) (two (en i) (two (ed i) [])))
            ∙ (λ i. reason_word s ∷ two (found_words h) (two (found_words n) (two-last d i)))
            ∙ (λ i. reason_word s ∷ two (found_words h) (two-words n (found_words d) i))
            ∙ (λ i. reason_word s ∷ two-words h (found_words n ++ found_words d) i);
      })

  pub not_explained : (r : Refusal) (k : ℕ) → grounds.Refused r ≡ G → k ≡ number_of r → Explains G row k row
  not_explained r k e h = subst (λ (z : Grounds). Explains z row k row) e (record { coded = h; shown = refl })

-- the lamps
pub shows : (head : List ℕ) → Shows head (get_or head 15 0 ∷ get_or head 16 0 ∷ get_or head 17 0 ∷ [])
unfolding node_of members_of
shows head = record { shown = λ r e. λ i. get_or (sym e i) 15 0 ∷ get_or (sym e i) 16 0 ∷ get_or (sym e i) 17 0 ∷ [] }

-- what was looked up is what the words say
pub looks-at : (L l : Lookup) (found : List ℕ) (code : ℕ) (found' : List ℕ) → l ≡ L → Looks l found code found' → Looks L found code found'
looks-at L l found code found' e h = subst (λ (z : Lookup). Looks z found code found') e h
