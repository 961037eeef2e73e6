-- The timer call: where its rules ran, one timer ended.
-- Assumes nothing.
use Rattle.std.proofs.Math.Path.{◌≡◌, refl, ap, sym, subst}
use Rattle.std.proofs.Common.{◌∙◌, arith, get_or-take}
use Rattle.std.specs.Prelude.{List, [], ℕ, ◌<◌, take}
use Rattle.std.proofs.Math.Bool.{true, false}
use Rattle.std.proofs.Math.Option.{Option, none, some}
use Rattle.std.proofs.Math.ListN.{get_or, get_or-map}
use Rattle.std.proofs.lemmas.Bool.{not-false}
use Rattle.model.specs.declared.Fate.{Fate}
use Rattle.model.specs.declared.Fate.TheVariants.{Leaves, Stays, Absent}
use Rattle.model.specs.Bounds.{Room}
use Rattle.model.specs.Rows.{one}
use Rattle.model.specs.Answers.{Answer, done, refused}
use Rattle.laws.specs.After.{After, gives}
use Rattle.laws.specs.Packing.{view_length}
use Rattle.address.specs.Here.{Addr, here, here_lawful}
use Rattle.model.specs.Words as W
use Rattle.model.specs.Node as M
use Rattle.model.specs.Detector as D
use Rattle.model.specs.Sound.{sound}
use Rattle.model.specs.Calls as calls
use Rattle.laws_node.specs.Good.{Good, FullRows, sound_good}
use Rattle.laws_rules.specs.Keeps.{Keeps}
use Rattle.laws_rules.specs.KeepsCalls.{end_keeps, first_over_in}
use Rattle.history.specs.Moments.{Moment, moment, ended_deed}
use Rattle.history.specs.Did.{Did}
use Rattle.history.proofs.Rules.{timer_did}
use Rattle.history.proofs.Worlds.{first_cases}
use Rattle.history.specs.Histories.{Timer, ending_at, moments_by, moments}
use Rattle.timers.specs.declared.Ending.TheVariants.{Nothing, At}
use Rattle.timers.specs.Views.{to_timer, from_timer, no_timer, timers_view, ending_of}
use Rattle.node.specs.declared.Node.{Node}
use Rattle.node.specs.Views.{view_node, stored_view, unstored}
use Rattle.node.specs.Rows.{Ready, loaded_view, unstored_pack}
use Rattle.accounts.specs.Changes.{changes}
use Rattle.accounts.specs.Audits.{has_run, resting}
use Rattle.accounts.specs.Once.{Once}

-- which timer ends
pub ending-some : (x : Option ℕ) (i : ℕ) → ending_of x ≡ At i → x ≡ some i
ending-some none i e = cc
ending-some (some j) i e = let z : j ≡ i = cc in ap some z

pub ending-none : (x : Option ℕ) → ending_of x ≡ Nothing → x ≡ none
ending-none none e = refl
ending-none (some j) e = cc

fate_runs : (v : Fate) → has_run (calls.fate_reply v) ≡ true
fate_runs Leaves = refl
fate_runs Stays = refl
fate_runs Absent = refl

fate-moments : (v : Fate) (ms : List (Moment Addr)) → moments_by here (calls.fate_reply v) ms [] ≡ ms
fate-moments Leaves ms = refl
fate-moments Stays ms = refl
fate-moments Absent ms = refl

module _ (n : Node) (full : FullRows (stored_view n)) (tick : ℕ) (lent : Room) where
  abbrev s : M.Stored Addr
  s = stored_view n

  abbrev t : M.Node Addr
  t = M.loaded s

  abbrev pub over : Option ℕ
  over = D.first_over here t.settings.suspect_timeout tick t.timers

  abbrev out : calls.Outcome Addr
  out = calls.end_timer here s tick lent

  -- what the rule on a timer gives
  abbrev ended : ℕ → Answer (M.Out Addr) → calls.Outcome Addr
  ended i x = calls.kept_end here s (D.fate_at here i t) (calls.reports here x)

  abbrev traced : ℕ → Answer (M.Out Addr) → List (Moment Addr)
  traced i x = moments_by here (ended i x).reply (moment (ended_deed here (D.timer_at here i t)) t x) []

  idle_by : (o : Option ℕ) → has_run (calls.ends_at here s o).reply ≡ false → changes (moments_by here (calls.ends_at here s o).reply (ending_at here o t) []) ≡ []
  idle_by none e = refl
  idle_by (some i) e = by (D.end_at here i t []) e
    where
      by : (x : Answer (M.Out Addr)) → has_run (ended i x).reply ≡ false → changes (traced i x) ≡ []
      by (refused u) e = refl
      by (done o rest) e = let z : ◌≡◌ {A = ℕ} 1 0 = ap one (sym (fate_runs (D.fate_at here i t)) ∙ e) in absurd (omega arith)

  pub timer_idle : has_run out.reply ≡ false → changes (moments here (Timer tick lent) (resting n)) ≡ []
  unfolding calls.end_timer M.loaded
  timer_idle =
      first_cases (λ (o : calls.Outcome Addr). has_run o.reply ≡ false → changes (moments_by here o.reply (ending_at here over t) []) ≡ []) (calls.timer_tests here s lent) (calls.refuses s) _
      (λ r e. refl)
      (λ p. idle_by over)

  -- the timer that ended, and its moment
  pub record Timed (o : calls.Outcome Addr) (ms : List (Moment Addr)) : Type 0 where
    pub sounds : sound here s ≡ true
    pub at : ℕ
    pub is : over ≡ some at
    pub once : Once t (unstored o.node) ms (D.timer_at here at t).addr (D.timer_at here at t).number

  once_by : (i : ℕ) (x : Answer (M.Out Addr)) → After (λ (o : M.Out Addr). Keeps here t o.node) x
      → After (Did here (D.timer_at here i t).addr t (ended_deed here (D.timer_at here i t))) x → has_run (ended i x).reply ≡ true
      → Once t (unstored (ended i x).node) (traced i x) (D.timer_at here i t).addr (D.timer_at here i t).number
  once_by i (refused u) g f e = let z : ◌≡◌ {A = ℕ} 0 1 = ap one e in absurd (omega arith)
  once_by i (done o rest) (gives g) (gives f) e =
      record {
        deed = ended_deed here (D.timer_at here i t);
        out = o;
        is = fate-moments (D.fate_at here i t) _;
        place = λ c. refl;
        whose = refl;
        given = refl;
        node = unstored_pack o.node;
        good = g.good;
        did = f;
      }

  timed-by : (o : Option ℕ) → over ≡ o → sound here s ≡ true → has_run (calls.ends_at here s o).reply ≡ true
      → Timed (calls.ends_at here s o) (moments_by here (calls.ends_at here s o).reply (ending_at here o t) [])
  timed-by none q sounds e = let z : ◌≡◌ {A = ℕ} 0 1 = ap one e in absurd (omega arith)
  timed-by (some i) q sounds e =
      let good : Good here t = sound_good here here_lawful s full sounds in
      record {
        sounds = sounds;
        at = i;
        is = q;
        once =
            once_by i (D.end_at here i t []) (end_keeps here here_lawful i t [] good (first_over_in here here_lawful t.settings.suspect_timeout tick t.timers i q))
            (timer_did here here_lawful (D.timer_at here i t).addr i t [] good.whole) e;
      }

  pub timer_once : has_run out.reply ≡ true → Timed out (moments here (Timer tick lent) (resting n))
  unfolding calls.end_timer M.loaded
  timer_once =
      first_cases (λ (o : calls.Outcome Addr). has_run o.reply ≡ true → Timed o (moments_by here o.reply (ending_at here over t) [])) (calls.timer_tests here s lent) (calls.refuses s) _
      (λ r e. let z : ◌≡◌ {A = ℕ} 0 1 = ap one e in absurd (omega arith))
      (λ p e. timed-by over refl (not-false (sound here s) p.0) e)

  module _ (r : Ready n) where
    over_is : D.first_over here n.settings.suspect_timeout tick (timers_view n.timers) ≡ over
    unfolding view_node
    over_is = ap (λ (m : M.Node Addr). D.first_over here m.settings.suspect_timeout tick m.timers) (sym (loaded_view n))

    -- a timer ended where the rules ran
    pub none_over : (o : calls.Outcome Addr) (ms : List (Moment Addr)) → Timed o ms → D.first_over here n.settings.suspect_timeout tick (timers_view n.timers) ≡ none → ◌≡◌ {A = ℕ} 0 1
    none_over o ms q e = let z : ◌≡◌ {A = Option ℕ} (some q.at) none = sym q.is ∙ sym over_is ∙ e in let y : ◌≡◌ {A = ℕ} 0 1 = cc in y

    -- its place in the row
    pub over_in : (i : ℕ) → D.first_over here n.settings.suspect_timeout tick (timers_view n.timers) ≡ some i → i < n.timers.len
    over_in i e =
        omega (arith, first_over_in here here_lawful n.settings.suspect_timeout tick (timers_view n.timers) i e, view_length to_timer from_timer (λ b. refl) 16 no_timer n.timers.entries n.timers.len r.timers)

    -- and its moment, as the code has the timer
    pub timed_once : (o : calls.Outcome Addr) (ms : List (Moment Addr)) → Timed o ms → (i : ℕ) → D.first_over here n.settings.suspect_timeout tick (timers_view n.timers) ≡ some i
        → Once t (unstored o.node) ms (get_or n.timers.entries i no_timer).addr (get_or n.timers.entries i no_timer).number
    unfolding view_node
    timed_once o ms q i e =
        let same : q.at ≡ i = let z : ◌≡◌ {A = Option ℕ} (some q.at) (some i) = sym q.is ∙ sym over_is ∙ e in cc in
        let row : get_or (timers_view n.timers) i (W.no_timer here) ≡ to_timer (get_or n.timers.entries i no_timer) =
        get_or-map to_timer (take n.timers.len n.timers.entries) i no_timer ∙ ap to_timer (get_or-take n.timers.len n.timers.entries i no_timer (over_in i e)) in
        let timer : D.timer_at here q.at t ≡ to_timer (get_or n.timers.entries i no_timer) =
        (λ j. D.timer_at here (same j) (loaded_view n j)) ∙ row in
        subst (λ (w : W.Timer Addr). Once t (unstored o.node) ms w.addr w.number) timer q.once
