-- A node that is full comes back: lend its steps a fresh wait record. Such a step is refused by no full heap, and after so many of them the alive heap has room.
-- Assumes nothing.
use Rattle.std.specs.Prelude.{◌≡◌, refl, Bool, false, List, [], ◌∷◌, ℕ, suc, ◌+◌, ◌-◌, ◌*◌, ◌≤◌, ◌<◌, max}
use Rattle.std.proofs.Math.Path.{ap, subst}
use Rattle.std.proofs.Common.{sym, ◌∙◌, arith}
use Rattle.std.proofs.Math.Bool.{true, not}
use Rattle.std.proofs.Math.Option.{some}
use Rattle.std.proofs.Math.Decide.{ℕ_discrete}
use Rattle.std.proofs.Math.ListN.{length}
use Rattle.std.proofs.lemmas.Bool.{not-false}
use Rattle.model.specs.declared.Settings.{Settings}
use Rattle.model.specs.declared.Kind.TheVariants as kind
use Rattle.model.specs.declared.Refusal.{Refusal}
use Rattle.model.specs.declared.Refusal.TheVariants.{Unsound, ShortRow, AddressRange}
use Rattle.model.specs.declared.Reply.{Reply}
use Rattle.model.specs.Bounds.{Room, step_room}
use Rattle.model.specs.Answers.{Answer, done}
use Rattle.model.specs.Words.{Address, Lawful, Wait, SendingPing, blank_member, no_timer, no_departed, Entry, unused}
use Rattle.model.specs.Limit.{limit_of}
use Rattle.model.specs.Node.{Node, Stored, loaded, stored}
use Rattle.model.specs.Detector.{Stepped, due, step}
use Rattle.model.specs.Sound.{sound}
use Rattle.model.specs.Calls.{StepOutcome, reply_number, first_of, short, refuses, kept, step_of_kept, when_due, valid_state, detect}
use Rattle.laws.specs.Pad.{length-pad_to}
use Rattle.laws.specs.Ranges.{ranges}
use Rattle.laws_choose.specs.LimitLaws.{limit_most}
use Rattle.laws_pick.specs.Picks.{Drawn, drawn}
use Rattle.laws_pick.specs.Picks as picks
use Rattle.laws_node.specs.Good.{Good, FullRows, sound_good, good_sound, loaded-stored, stored_loaded}
use Rattle.laws_rules.specs.Keeps.{Keeps}
use Rattle.supply.specs.Supplied.{Supplied, stops}
use Rattle.supply.proofs.Lending.{listed_is, step_supplied}
use Rattle.supply.specs.Owed.{owed}
use Rattle.supply.proofs.Owed.{owed-least, owed-full}
use Rattle.supply.specs.Drains.{limit_at, Drained}
use Rattle.supply.proofs.Drains.{used-of, fresh_drains}
use Rattle.supply.specs.Remedy.{fresh_wait, Afresh, Turn, Ready, ReadyAll, takes_turn, after, Counted, Kept, unsound, short_row, short-draws, not_due, kept_step}

-- in numbers: no heap is too full for it, and no row of timers
pub afresh_numbers : (r : Reply) → Afresh r → (reply_number r ≡ 9 → ⊥) × (reply_number r ≡ 13 → ⊥) × (reply_number r ≡ 10 → ⊥)
afresh_numbers _ unsound = (λ e. omega (arith, e), λ e. omega (arith, e), λ e. omega (arith, e))
afresh_numbers _ short_row = (λ e. omega (arith, e), λ e. omega (arith, e), λ e. omega (arith, e))
afresh_numbers _ short-draws = (λ e. omega (arith, e), λ e. omega (arith, e), λ e. omega (arith, e))
afresh_numbers _ not_due = (λ e. omega (arith, e), λ e. omega (arith, e), λ e. omega (arith, e))
afresh_numbers _ (kept_step used) = (λ e. omega (arith, e), λ e. omega (arith, e), λ e. omega (arith, e))

-- the tests of such a step: the last one passes
three : {B : Type 0} (P : B → Type 0) (u v : Bool) (refuse : Refusal → B) (go : B) → P (refuse Unsound) → P (refuse ShortRow) → (u ≡ false → P go)
    → P (first_of ((u, Unsound) ∷ (v, ShortRow) ∷ (false, AddressRange) ∷ []) refuse go)
three P true v refuse go p q r = p
three P false true refuse go p q r = q
three P false false refuse go p q r = r refl

passed-go : {B : Type 0} (u : Bool) (refuse : Refusal → B) (go : B) → u ≡ false → first_of ((u, Unsound) ∷ (false, ShortRow) ∷ (false, AddressRange) ∷ []) refuse go ≡ go
passed-go true refuse go e = let z : ◌≡◌ {A = ℕ} 0 1 = cc in absurd (omega arith)
passed-go false refuse go e = refl

module _ {A : Type 0} (address : Address A) (lawful : Lawful address) (texts : (a : A) → address.valid a ≡ true → address.chars a ≤ 47) where
  -- rows of a good node have all their places
  stored-full : (s : Node A) → Good address s → FullRows (stored address s)
  unfolding stored
  stored-full s g =
      record {
        table = length-pad_to 64 (blank_member address) s.members.table g.whole.few;
        order = length-pad_to 64 address.blank s.members.order (omega (arith, g.whole.long, g.whole.few));
        alive = length-pad_to 128 unused s.disseminator.alive (g.heaps kind.Alive).few;
        deceased = length-pad_to 128 unused s.disseminator.deceased (g.heaps kind.Deceased).few;
        timers = length-pad_to 16 (no_timer address) s.timers g.few;
        departed = length-pad_to 128 (no_departed address) s.departed g.departed.few;
      }

  -- ---- what such a step answers
  pub fresh_answers : (s : Stored A) (since now : ℕ) (ds : List ℕ) (lent : Room) → FullRows s → Afresh (detect address s (fresh_wait since) now ds lent).outcome.reply
  unfolding detect valid_state
  fresh_answers s since now ds lent f =
      three (λ (o : StepOutcome A). Afresh o.outcome.reply) (not (sound address s)) (short step_room lent) (λ r. record { outcome = refuses s r; wait = fresh_wait since })
      (when_due (due s.settings (fresh_wait since) now) s (fresh_wait since) (step_of_kept address s (fresh_wait since) ds (step address SendingPing now (loaded s) ds)))
      unsound short_row (λ p. when-due (due s.settings (fresh_wait since) now) (sound_good address lawful s f (not-false (sound address s) p)))
    where
      answered : (x : Answer (Stepped A)) → Drawn (λ e. Drained address (loaded s) e × Keeps address (loaded s) e.effect.node) x
          → Afresh (step_of_kept address s (fresh_wait since) ds x).outcome.reply
      answered _ picks.short = short-draws
      answered _ (drawn {ds = rest} p) = kept_step (length ds - length rest)

      when-due : (u : Bool) → Good address (loaded s) → Afresh (when_due u s (fresh_wait since) (step_of_kept address s (fresh_wait since) ds (step address SendingPing now (loaded s) ds))).outcome.reply
      when-due true g = answered (step address SendingPing now (loaded s) ds) (fresh_drains address texts lawful now (loaded s) ds g)
      when-due false g = not_due

  -- "a step from a fresh wait record is never refused by 9 or 13", nor by 10
  pub never_full : (s : Stored A) (since now : ℕ) (ds : List ℕ) (lent : Room) → FullRows s
      → (reply_number (detect address s (fresh_wait since) now ds lent).outcome.reply ≡ 9 → ⊥)
      × (reply_number (detect address s (fresh_wait since) now ds lent).outcome.reply ≡ 13 → ⊥)
      × (reply_number (detect address s (fresh_wait since) now ds lent).outcome.reply ≡ 10 → ⊥)
  never_full s since now ds lent f = afresh_numbers _ (fresh_answers s since now ds lent f)

  -- what is refused for want of draws alone, and not for that, is given
  given_all : (s : Stored A) (x : Node A) (w : Wait A) (ds : List ℕ) (y : Answer (Stepped A)) → Drawn (λ e. Drained address x e × Keeps address x e.effect.node) y
      → Supplied (λ _ _. Unit {0}) y
      → (e : Stepped A) × (rest : List ℕ) × (step_of_kept address s w ds y ≡ record { outcome = kept address s ds (done e.effect rest); wait = e.wait }) × Drained address x e
      × Keeps address x e.effect.node
  given_all s x w ds _ picks.short (stops n) = absurd (n refl)
  given_all s x w ds _ (drawn {b = e} {ds = rest} p) h = (e, rest, refl, p.0, p.1)

  settled : (x : Node A) (t : Turn) → Ready x.settings (length x.members.table) t → due (stored address x).settings (fresh_wait {A = A} t.since) t.now ≡ true
  unfolding due stored
  settled x t r = r.over

  pub turn-kept : (x : Node A) (t : Turn) → Good address x → Ready x.settings (length x.members.table) t → (Kept address lawful texts) x t
  unfolding detect valid_state
  turn-kept x t g r =
      let s = stored address x in
      let w : Wait A = fresh_wait t.since in
      let refuse : Refusal → StepOutcome A = λ q. record { outcome = refuses s q; wait = w } in
      let at : Node A → StepOutcome A = λ y. step_of_kept address s w t.draws (step address SendingPing t.now y t.draws) in
      let given = given_all s x w t.draws (step address SendingPing t.now x t.draws) (fresh_drains address texts lawful t.now x t.draws g)
      (step_supplied address lawful SendingPing t.now x t.draws g.whole r.supplied) in
      let passed : detect address s w t.now t.draws step_room ≡ when_due (due s.settings w t.now) s w (at (loaded s)) =
      passed-go (not (sound address s)) refuse (when_due (due s.settings w t.now) s w (at (loaded s))) (ap not (good_sound address lawful x g)) in
      let is-due : due s.settings w t.now ≡ true = settled x t r in
      record {
        gave = given.0;
        rest = given.1;
        is = passed ∙ ap (λ (u : Bool). when_due u s w (at (loaded s))) is-due ∙ ap at (loaded-stored address lawful x g.whole) ∙ given.2;
        drained = given.3;
        keeps = given.4;
      }

  -- ---- one after another
  owed_none : (limit : ℕ) (h : List (Entry A)) → length h ≡ 0 → owed limit h ≡ 0
  owed_none limit [] e = refl
  owed_none limit (x ∷ h) e = absurd (omega arith)

  -- one send at least
  falls : (limit l : ℕ) (h h' : List (Entry A)) (n : ℕ) → owed limit h' + n ≡ owed limit h → (0 < length h → 1 ≤ n) → owed limit h ≤ suc (127 + l) → owed limit h' ≤ 127 + l
  falls limit l h h' n e k b =
      elim (ℕ_discrete (length h) 0) [
        | yes z ↦ omega (arith, owed_none limit h z)
        | no z ↦ omega (arith, k (omega arith))
      ]

  drains_on : (ts : List Turn) (x : Node A) → Good address x → ReadyAll x.settings (length x.members.table) ts
      → owed (limit_at address x) x.disseminator.alive ≤ 127 + length ts → (after address ts (stored address x)).alive.used ≤ 127
  drains_on [] x g r b = omega (arith, used-of address x, owed-least (limit_at address x) x.disseminator.alive)
  drains_on (t ∷ ts) x g r b =
      let k = turn-kept x t g r.0 in
      let y = k.gave.effect.node in
      let d = k.drained in
      let same-limit : limit_at address y ≡ limit_at address x =
      ap (λ (n : ℕ). limit_of n y.settings.send_constant) d.listed ∙ ap (λ (c : Settings). limit_of (length x.members.table) c.send_constant) k.keeps.settings in
      let ready : ReadyAll y.settings (length y.members.table) ts =
      subst (λ (c : Settings). ReadyAll c (length y.members.table) ts) (sym k.keeps.settings) (subst (λ (n : ℕ). ReadyAll x.settings n ts) (sym d.listed) r.1) in
      let less : owed (limit_at address x) y.disseminator.alive ≤ 127 + length ts =
      falls (limit_at address x) (length ts) x.disseminator.alive y.disseminator.alive d.from-alive d.alive d.some (omega arith) in
      subst (λ (o : StepOutcome A). (after address ts o.outcome.node).alive.used ≤ 127) (sym k.is)
      (drains_on ts y k.keeps.good ready (subst (λ (n : ℕ). owed n y.disseminator.alive ≤ 127 + length ts) (sym same-limit) less))

  -- ---- of a sound node
  counts : (x : Node A) (t : Turn) → Good address x → Ready x.settings (length x.members.table) t → Counted address (stored address x) (takes_turn address (stored address x) t).outcome
  counts x t g r =
      let k = turn-kept x t g r in
      let d = k.drained in
      let y = k.gave.effect.node in
      let lx : loaded (stored address x) ≡ x = loaded-stored address lawful x g.whole in
      let ly : loaded (stored address y) ≡ y = loaded-stored address lawful y k.keeps.good.whole in
      rw k.is (record {
        used = length t.draws - length k.rest;
        from-alive = d.from-alive;
        from-deceased = d.from-deceased;
        reply = refl;
        alive = rw (lx, ly) d.alive;
        deceased = rw (lx, ly) d.deceased;
        some = rw lx d.some;
        shorter = rw lx (omega (arith, d.shorter, used-of address y));
        message = d.message;
        target = rw lx d.target;
      })

  -- "each such step counts a send for every record it takes"
  pub turn-counts : (s : Stored A) (t : Turn) → FullRows s → sound address s ≡ true → Ready s.settings s.listed t → Counted address s (takes_turn address s t).outcome
  unfolding loaded
  turn-counts s t f p r =
      let n : length (loaded s).members.table ≡ s.listed = listed_is address lawful s f p in
      subst (λ (x : Stored A). Counted address x (takes_turn address x t).outcome) (stored_loaded address lawful s f p)
      (counts (loaded s) t (sound_good address lawful s f p) (subst (λ (k : ℕ). Ready s.settings k t) (sym n) r))

  pub room-by-owed : (s : Stored A) (ts : List Turn) → FullRows s → sound address s ≡ true → ReadyAll s.settings (length (loaded s).members.table) ts
      → owed (limit_at address (loaded s)) (loaded s).disseminator.alive ≤ 127 + length ts → (after address ts s).alive.used < 128
  unfolding loaded
  room-by-owed s ts f p r b =
      let h : (after address ts (stored address (loaded s))).alive.used ≤ 127 = drains_on ts (loaded s) (sound_good address lawful s f p) r b in
      let e : stored address (loaded s) ≡ s = stored_loaded address lawful s f p in
      omega (arith, subst (λ (x : Stored A). (after address ts x).alive.used ≤ 127) e h)

  -- "after a stated number of steps the heap has room again": 128 for each send but one that an entry may have, and one more
  pub room_again : (s : Stored A) (ts : List Turn) → FullRows s → sound address s ≡ true → ReadyAll s.settings s.listed ts
      → 128 * (max 1 (limit_of s.listed s.settings.send_constant) - 1) < length ts → (after address ts s).alive.used < 128
  unfolding loaded
  room_again s ts f p r b =
      let n : length (loaded s).members.table ≡ s.listed = listed_is address lawful s f p in
      let g = sound_good address lawful s f p in
      let limit : limit_at address (loaded s) ≡ limit_of s.listed s.settings.send_constant = ap (λ (k : ℕ). limit_of k s.settings.send_constant) n in
      room-by-owed s ts f p (subst (λ (k : ℕ). ReadyAll s.settings k ts) (sym n) r)
      (omega (arith, owed-full (limit_at address (loaded s)) (loaded s).disseminator.alive (g.heaps kind.Alive).few, limit))

  -- whatever the list and the settings: 2817 steps
  pub room_most : (s : Stored A) (ts : List Turn) → FullRows s → sound address s ≡ true → ReadyAll s.settings s.listed ts → 2817 ≤ length ts → (after address ts s).alive.used < 128
  unfolding loaded
  room_most s ts f p r b =
      let g = sound_good address lawful s f p in
      let n : length (loaded s).members.table ≡ s.listed = listed_is address lawful s f p in
      room_again s ts f p r
      (omega (arith, limit_most s.listed s.settings.send_constant (omega (arith, g.whole.few)) (ranges s.settings g.settings).constant))
