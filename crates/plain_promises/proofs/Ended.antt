-- A TIME-OUT THAT TAKES NOBODY OUT, answered "refuted" or "gone": the node is the one handed in without that timer, no event, no letter, the row as lent, no draw.
-- Assumes nothing.
use Rattle.std.specs.Prelude.{◌≡◌, ◌⊎◌, Bool, false, List, [], ◌∷◌, ◌++◌, ℕ, zero, suc, ◌≤◌, ◌<◌, get_or}
use Rattle.std.proofs.Math.Path.{refl, ap}
use Rattle.std.proofs.Common.{sym, ◌∙◌, subst, arith}
use Rattle.std.proofs.Math.Logic.{inl, inr}
use Rattle.std.proofs.Math.Bool.{true}
use Rattle.std.proofs.Math.Option.{Option, none, some}
use borrow.Author.Tests.{not-false, leb-true, leb-false}
use Rattle.std.proofs.Math.ListN.{length}
use Rattle.model.specs.declared.Refusal.{Refusal}
use Rattle.model.specs.declared.Fate.{Fate}
use Rattle.model.specs.declared.Fate.TheVariants.{Stays, Absent}
use Rattle.model.specs.declared.Reply.TheVariants.{Refuted, Gone}
use Rattle.model.specs.Rows.{remove_at}
use Rattle.model.specs.Words as W
use Rattle.model.specs.Node as M
use Rattle.model.specs.Detector as D
use Rattle.model.specs.Sound.{sound}
use Rattle.model.specs.Calls as calls
use Rattle.laws.specs.Bools.{none-some}
use Rattle.laws_node.specs.Good.{FullRows}
use Rattle.address.specs.Here.{Addr, here}
use Rattle.history.specs.Tells.{At}
use Rattle.types.specs.declared.Gossip.{Gossip}
use Rattle.timers.specs.Views.{pack_timers}
use Rattle.node.specs.declared.Node.{Node}
use Rattle.node.specs.Views.{stored_view, view_node, pack_node, answer_of}
use Rattle.node.specs.Rows.{loaded_view, unstored_pack, sound_pack}
use Rattle.swim.specs.declared.Outcome.{Outcome}
use Rattle.swim.specs.Promises.{outcome_of, row_after, timer_of, EndsTimer}
use Rattle.promises.specs.Firsts.{Passed}
use Rattle.promises.specs.Stops.{Refutes, IsGone}
use Rattle.promises.proofs.Plainly.{end_refuted, end_gone}
use Rattle.promises.proofs.Given.{timer_refutes, timer_finds_gone}
use Rattle.promises.specs.Made.{letters_of}
use Rattle.promises.proofs.Refused.{nothing_written}
use Rattle.plain_promises.specs.Ended.{ticks_from, FirstOver, TookNobodyOut, s, wait}

-- ---- the first timer that is over, by its place
record Cut (wait tick : ℕ) (ts : List (W.Timer Addr)) (i : ℕ) : Type 0 where
  pub first : FirstOver wait tick ts
  pub this : get_or ts i (W.no_timer here) ≡ first.ended
  pub rest : remove_at ts i ≡ first.earlier ++ first.later

is-over : (wait tick since : ℕ) → D.is_over wait tick since ≡ true → wait ≤ ticks_from since tick
unfolding D.is_over
is-over wait tick since e = leb-true wait (ticks_from since tick) e

not_over : (wait tick since : ℕ) → D.is_over wait tick since ≡ false → ticks_from since tick < wait
unfolding D.is_over
not_over wait tick since e = leb-false wait (ticks_from since tick) e

cut : (wait tick : ℕ) (ts : List (W.Timer Addr)) (i : ℕ) → D.first_over here wait tick ts ≡ some i → Cut wait tick ts i
unfolding D.first_over
cut wait tick [] i e = none-some e
cut wait tick (t ∷ ts) i e =
    (elim (D.is_over wait tick t.since) as (λ u. D.is_over wait tick t.since ≡ u → (elim u [ true ↦ some 0 | false ↦ D.later (D.first_over here wait tick ts) ]) ≡ some i → Cut wait tick (t ∷ ts) i) [
      | true ↦ λ o q. here_it i o q
      | false ↦ λ o q. further (D.first_over here wait tick ts) i o q (cut wait tick ts)
    ]) refl e
  where
    here_it : (j : ℕ) → D.is_over wait tick t.since ≡ true → ◌≡◌ {A = Option ℕ} (some 0) (some j) → Cut wait tick (t ∷ ts) j
    here_it zero o q = record { first = record { earlier = []; ended = t; later = ts; running = refl; waiting = λ i x p. absurd p; over = is-over wait tick t.since o }; this = refl; rest = refl }
    here_it (suc j) o q = let z : ◌≡◌ {A = ℕ} 0 (suc j) = cc in absurd (omega arith)

    still : ticks_from t.since tick < wait → (l : List (W.Timer Addr)) → ((i : ℕ) (x : W.Timer Addr) → At l i x → ticks_from x.since tick < wait)
        → (i : ℕ) (x : W.Timer Addr) → At (t ∷ l) i x → ticks_from x.since tick < wait
    still b l h zero x p = subst (λ (y : W.Timer Addr). ticks_from y.since tick < wait) p b
    still b l h (suc i) x p = h i x p

    further : (x : Option ℕ) (j : ℕ) → D.is_over wait tick t.since ≡ false → D.later x ≡ some j → ((k : ℕ) → x ≡ some k → Cut wait tick ts k) → Cut wait tick (t ∷ ts) j
    further none j o q c = none-some q
    further (some k) zero o q c = let z : ◌≡◌ {A = ℕ} (suc k) 0 = cc in absurd (omega arith)
    further (some k) (suc j) o q c =
        let same : k ≡ j = cc in
        let d = c j (ap some same) in
        record {
          first =
              record {
                earlier = t ∷ d.first.earlier;
                ended = d.first.ended;
                later = d.first.later;
                running = ap (λ (l : List (W.Timer Addr)). t ∷ l) d.first.running;
                waiting = still (not_over wait tick t.since o) d.first.earlier d.first.waiting;
                over = d.first.over;
              };
          this = d.this;
          rest = ap (λ (l : List (W.Timer Addr)). t ∷ l) d.rest;
        }

-- ---- the call
passed-goes : {B : Type 0} (ts : List (Bool × Refusal)) (refuse : Refusal → B) (go : B) → Passed ts → calls.first_of ts refuse go ≡ go
passed-goes [] refuse go p = refl
passed-goes (t ∷ ts) refuse go p = rw p.0 (passed-goes ts refuse go p.1)

module _ (node : Node) (full : FullRows (stored_view node)) (tick : ℕ) (events : List Gossip) (r : Outcome) (events' : List Gossip) (met : EndsTimer node tick events r events') where
  -- a fate at which nothing is emitted
  abbrev Silent : Fate → Type 0
  Silent v = (t : W.Timer Addr) (n : M.Node Addr) → D.by_fate here v t n [] ≡ M.quiet n []

  -- what the rules give where the first timer that is over stands at place i
  abbrev freed : ℕ → Fate → calls.Outcome Addr
  freed i v = record { reply = calls.fate_reply v; node = M.stored here (D.freed here i (M.loaded (s node full tick events r events' met))); messages = []; events = []; collected = 0 }

  gives : (i : ℕ) (v : Fate) → Silent v → Passed (calls.timer_tests here (s node full tick events r events' met) (record { gossip = 0; events = length events }))
      → D.first_over here (wait node full tick events r events' met) tick (M.loaded (s node full tick events r events' met)).timers ≡ some i → D.fate_at here i (M.loaded (s node full tick events r events' met)) ≡ v → timer_of node tick events ≡ freed i v
  unfolding calls.end_timer D.end_at M.quiet
  gives i v silent p o f =
      passed-goes (calls.timer_tests here (s node full tick events r events' met) (record { gossip = 0; events = length events })) (calls.refuses (s node full tick events r events' met)) _ p
      ∙ ap (calls.ends_at here (s node full tick events r events' met)) o
      ∙ (λ j. calls.kept_end here (s node full tick events r events' met) (f j) (calls.reports here (D.by_fate here (f j) (D.timer_at here i (M.loaded (s node full tick events r events' met))) (D.freed here i (M.loaded (s node full tick events r events' met))) [])))
      ∙ ap (λ x. calls.kept_end here (s node full tick events r events' met) v (calls.reports here x)) (silent (D.timer_at here i (M.loaded (s node full tick events r events' met))) (D.freed here i (M.loaded (s node full tick events r events' met))))

  leaves : (i : ℕ) (v : Fate) → calls.draws_used (calls.fate_reply v) ≡ 0 → Silent v → Passed (calls.timer_tests here (s node full tick events r events' met) (record { gossip = 0; events = length events }))
      → D.first_over here (wait node full tick events r events' met) tick (M.loaded (s node full tick events r events' met)).timers ≡ some i → D.fate_at here i (M.loaded (s node full tick events r events' met)) ≡ v
      → ((t : W.Timer Addr) (n : M.Node Addr) → D.fate_of here t n.members.table ≡ v → Refutes here t n ⊎ IsGone here t n) → TookNobodyOut node tick events r events'
  unfolding outcome_of answer_of pack_node stored_view
  leaves i v none-used silent p o f plainly =
      let viewed : M.loaded (s node full tick events r events' met) ≡ view_node node = loaded_view node in
      let is_sound : sound here (s node full tick events r events' met) ≡ true = not-false _ p.0 in
      let o' : D.first_over here node.settings.suspect_timeout tick (view_node node).timers ≡ some i = rw viewed at o in
      let c = cut node.settings.suspect_timeout tick (view_node node).timers i o' in
      let told : timer_of node tick events ≡ freed i v = gives i v silent p o f in
      let answered : r ≡ outcome_of (freed i v) = met.answer ∙ ap outcome_of told in
      let packed : r.answer.node ≡ pack_node (D.freed here i (view_node node)) =
      (λ j. (answered j).answer.node) ∙ unstored_pack (D.freed here i (M.loaded (s node full tick events r events' met))) ∙ ap (λ (n : M.Node Addr). pack_node (D.freed here i n)) viewed in
      let back : pack_node (view_node node) ≡ node = sound_pack node full is_sound in
      let f' : D.fate_of here (D.timer_at here i (view_node node)) (view_node node).members.table ≡ v = rw viewed at f in
      record {
        first = c.first;
        spared = plainly c.first.ended (view_node node) (rw c.this at f');
        timers = (λ j. (packed j).timers) ∙ ap pack_timers c.rest;
        settings = (λ j. (packed j).settings) ∙ (λ j. (back j).settings);
        own = (λ j. (packed j).own) ∙ (λ j. (back j).own);
        members = (λ j. (packed j).members) ∙ (λ j. (back j).members);
        disseminator = (λ j. (packed j).disseminator) ∙ (λ j. (back j).disseminator);
        departed = (λ j. (packed j).departed) ∙ (λ j. (back j).departed);
        letters = λ j. letters_of (answered j).answer;
        reported = λ j. (answered j).reported;
        collected = λ j. (answered j).answer.collected;
        draws = (λ j. calls.draws_used (answered j).answer.reply) ∙ none-used;
        row = met.told ∙ (λ j. row_after (told j).events events) ∙ nothing_written events;
      }

  -- "refuted"
  pub refuted_takes_nobody : r.answer.reply ≡ Refuted → TookNobodyOut node tick events r events'
  unfolding outcome_of answer_of D.by_fate
  refuted_takes_nobody e =
      let h = (timer_refutes here (s node full tick events r events' met) tick (record { gossip = 0; events = length events })).0 (sym (λ j. (met.answer j).answer.reply) ∙ e) in
      leaves h.1.0 Stays refl (λ t n. refl) h.0 h.1.1 h.1.2 (λ t n q. inl ((end_refuted here t n).0 q))

  -- "gone"
  pub gone_takes_nobody : r.answer.reply ≡ Gone → TookNobodyOut node tick events r events'
  unfolding outcome_of answer_of D.by_fate
  gone_takes_nobody e =
      let h = (timer_finds_gone here (s node full tick events r events' met) tick (record { gossip = 0; events = length events })).0 (sym (λ j. (met.answer j).answer.reply) ∙ e) in
      leaves h.1.0 Absent refl (λ t n. refl) h.0 h.1.1 h.1.2 (λ t n q. inr ((end_gone here t n).0 q))
