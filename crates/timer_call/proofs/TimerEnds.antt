-- An ended timer, and the timer call: each way out.
-- Assumes nothing.
use mathlib.Core.Path.{◌≡◌, refl, ap, sym, ◌∙◌}
use mathlib.Core.Bool.{Bool, true, false, not, ◌&&◌, ◌||◌}
use mathlib.Core.List.{List, [], ◌∷◌}
use mathlib.Core.Option.{Option, none, some}
use Prim.Native.Nat.{ℕ, ◌≤◌, ◌<◌}
use native.Mathlib.Omega.{arith}
use lib.ListN.{get_or, take, replicate, get_or-map}
use lib.Seq.{get_or-take}
use lib.Dec.{ltb, leb}
use borrow.Author.Tests.{lt-ltb, le-ltb, lt-leb, le-leb}
use Rattle.model.specs.declared.Kind.TheVariants as kind
use Rattle.model.specs.declared.Refusal.{Refusal}
use Rattle.model.specs.declared.Refusal.TheVariants.{Unsound, ShortRow, DeceasedFull}
use Rattle.model.specs.declared.Reply.{Reply}
use Rattle.model.specs.declared.Reply.TheVariants.{Done, NotDue, Refuted, Gone, Refused}
use Rattle.model.specs.declared.Fate.{Fate}
use Rattle.model.specs.declared.Fate.TheVariants.{Leaves, Stays, Absent}
use Rattle.model.specs.Rows.{pick, remove_at}
use Rattle.model.specs.Bounds.{Room, timer_room}
use Rattle.model.specs.Answers.{Answer}
use Rattle.address.specs.Here.{Addr, here, here_lawful}
use Rattle.model.specs.Words as W
use Rattle.model.specs.Words.{is_alive}
use Rattle.model.specs.Members as list
use Rattle.model.specs.Departed.{departs}
use Rattle.model.specs.Node as M
use Rattle.model.specs.Detector as D
use Rattle.model.specs.Sound.{sound}
use Rattle.model.specs.Calls.{Outcome, unchanged, refuses, short, kept_end, reports, ends_at, end_timer}
use Rattle.laws_node.specs.Good.{Good}
use Rattle.laws_rules.specs.Keeps.{leave-keeps}
use Rattle.laws_rules.specs.KeepsCalls.{every_in, freed_good, first_over_in}
use Rattle.laws_rules.specs.Judged.{Fated, fated_leaves, fated_alive, fated_greater, fated_absent, fated}
use Rattle.laws.specs.Packing.{view_length}
use Rattle.types.specs.declared.Gossip.{Gossip}
use Rattle.types.specs.declared.Event.{Event}
use Rattle.types.specs.declared.Event.TheVariants.{Deceased}
use Rattle.types.specs.Views.{to_event, to_gossip, no_gossip, from-to_gossip}
use Rattle.timers.specs.declared.Timer.{Timer}
use Rattle.timers.specs.declared.Timers.{Timers}
use Rattle.timers.specs.Views.{to_timer, from_timer, no_timer, timers_view, pack_timers, ending_of}
use Rattle.timers.specs.declared.Ending.TheVariants.{Nothing, At}
use Rattle.model.specs.Collect.{collects}
use Rattle.heap.specs.declared.Heap.{Heap}
use Rattle.heap.specs.Views.{heap_view}
use Rattle.disseminate.specs.declared.Grown.{Grown}
use Rattle.disseminate.specs.Views.{grown, cleared_by, cleared_heap, Pushes}
use Rattle.disseminate.proofs.Pushing.{deceased-pushes}
use Rattle.member.specs.declared.Members.{Members}
use Rattle.member.specs.declared.Standing.{Standing}
use Rattle.member.specs.Views.{pack_members, view_members, standing_of}
use Rattle.node.specs.declared.Node.{Node}
use Rattle.departed.specs.declared.DepartedRow.{DepartedRow}
use Rattle.departed.specs.Views.{departed_view, pack_departed}
use Rattle.node.specs.Views.{view_node, pack_node, stored_view, with_lists, with_disseminator, with_timers, silent_answer, answer_of}
use Rattle.node.specs.Rows.{Ready, ready_pack, loaded_view, view_pack}
use Rattle.node.specs.Parts.{part-lists, part_timers}
use Rattle.node.specs.Emitting.{emit-full, emit-kept}
use Rattle.node.specs.Ends.{test_fails, test_passes, unchanged_is, kept_is}
use Rattle.timer_call.specs.declared.Ended.{Ended}
use Rattle.timer_call.specs.Views.{ended_of, ended_by, end_plain}

-- a call that hands everything back as it came
pub plain_end : (reply : Reply) (n : Node) → end_plain reply n ≡ ended_of (unchanged reply (stored_view n))
unfolding ended_of
plain_end reply n = λ i. record { answer = sym (unchanged_is reply n) i; events = replicate 1 no_gossip; reported = 0 }

-- the timer at a used place
abbrev pub timer_at : Node → ℕ → Timer
timer_at n i = get_or n.timers.entries i no_timer

timer-at : (t : Timers) (i : ℕ) → i < t.len → get_or (timers_view t) i (W.no_timer here) ≡ to_timer (get_or t.entries i no_timer)
timer-at t i h = get_or-map to_timer (take t.len t.entries) i no_timer ∙ ap to_timer (get_or-take t.len t.entries i no_timer h)

-- an event was reported
abbrev pub said_end : Node → Gossip → ℕ → Ended
said_end n g collected = record { answer = silent_answer (Done 0) n collected; events = g ∷ []; reported = 1 }

said-end : (s : M.Node Addr) (n : Node) (g : Gossip) (collected : ℕ) → n ≡ pack_node s
    → said_end n g collected ≡ ended_of (record { reply = Done 0; node = M.stored here s; messages = []; events = to_gossip g ∷ []; collected = collected })
unfolding ended_of
said-end s n g collected e = λ i. record { answer = kept_is (Done 0) s n (to_gossip g ∷ []) collected e i; events = sym (from-to_gossip g) i ∷ []; reported = 1 }

-- nothing was, and the node is another
quiet_end : (reply : Reply) (s : M.Node Addr) (n : Node) → n ≡ pack_node s → end_plain reply n ≡ ended_of (record { reply = reply; node = M.stored here s; messages = []; events = []; collected = 0 })
unfolding ended_of
quiet_end reply s n e = λ i. record { answer = kept_is reply s n [] 0 e i; events = replicate 1 no_gossip; reported = 0 }

-- the timer at a used place of a ready node
module _ (n : Node) (r : Ready n) (i : ℕ) where
  -- one timer less
  abbrev fewer : M.Node Addr
  fewer = D.freed here i (view_node n)

  fewer_good : Good here fewer
  fewer_good = freed_good here here_lawful i (view_node n) r.good

  fewer_is : (ts : Timers) → ts ≡ pack_timers (remove_at (timers_view n.timers) i) → with_timers n ts ≡ pack_node fewer
  unfolding view_node
  fewer_is ts e = part_timers n r (remove_at (view_node n).timers i) ts e

  abbrev only_ended : Reply → Ended
  only_ended reply = end_plain reply (with_timers n (pack_timers (remove_at (timers_view n.timers) i)))

  -- its address stays, or is absent
  pub end_stays : only_ended Refuted ≡ ended_by Stays n i
  unfolding D.by_fate M.quiet
  end_stays = quiet_end Refuted fewer _ (fewer_is _ refl)

  pub end_absent : only_ended Gone ≡ ended_by Absent n i
  unfolding D.by_fate M.quiet
  end_absent = quiet_end Gone fewer _ (fewer_is _ refl)

  module _ (h : i < n.timers.len) where
    pub timer_is : D.timer_at here i (view_node n) ≡ to_timer (timer_at n i)
    unfolding view_node
    timer_is = timer-at n.timers i h

    -- what the code judged is the timer's fate
    pub fate_is : (v : Fate) → v ≡ D.fate_of here (to_timer (timer_at n i)) (view_members n.members).table → v ≡ D.fate_at here i (view_node n)
    unfolding view_node
    fate_is v e = e ∙ ap (λ (x : W.Timer Addr). D.fate_of here x (view_node n).members.table) (sym timer_is)

-- what the code found of a timer's address, and its fate by that
module _ (t : W.Timer Addr) (m : Members) (h : Standing) (e : h ≡ standing_of m t.addr) where
  abbrev fate : Fate
  fate = D.fate_of here t (view_members m).table

  abbrev fate_by : Bool → Bool → Bool → Fate
  fate_by l a g = pick l (pick (not a && g) Leaves Stays) Absent

  found : fate_by h.listed (is_alive h.state) (leb h.number t.number) ≡ fate
  unfolding D.fate_of
  found = ap (λ (x : Standing). fate_by x.listed (is_alive x.state) (leb x.number t.number)) e

  pub found_absent : h.listed ≡ false → Absent ≡ fate
  found_absent l = sym (ap (λ (u : Bool). fate_by u (is_alive h.state) (leb h.number t.number)) l) ∙ found

  module _ (l : h.listed ≡ true) where
    listed_found : fate_by true (is_alive h.state) (leb h.number t.number) ≡ fate
    listed_found = sym (ap (λ (u : Bool). fate_by u (is_alive h.state) (leb h.number t.number)) l) ∙ found

    pub found_alive : is_alive h.state ≡ true → Stays ≡ fate
    found_alive a = sym (ap (λ (u : Bool). fate_by true u (leb h.number t.number)) a) ∙ listed_found

    module _ (a : is_alive h.state ≡ false) where
      by_number : (u : Bool) → leb h.number t.number ≡ u → pick u Leaves Stays ≡ fate
      by_number u g = sym (λ i. fate_by true (a i) (g i)) ∙ listed_found

      pub found_greater : t.number < h.number → Stays ≡ fate
      found_greater g = by_number false (lt-leb h.number t.number g)

      pub found_leaves : h.number ≤ t.number → Leaves ≡ fate
      found_leaves g = by_number true (le-leb h.number t.number g)

pub only-ended : (reply : Reply) (n m : Node) (ts us : Timers) (r : Ended) → r ≡ end_plain reply m → m ≡ with_timers n ts → ts ≡ us → r ≡ end_plain reply (with_timers n us)
only-ended reply n m ts us r e f g = e ∙ ap (end_plain reply) (f ∙ ap (with_timers n) g)

-- one that leaves is listed
leaves-listed : (t : W.Timer Addr) (m : List (W.Member Addr)) (v : Fate) → Fated here t m v → v ≡ Leaves → list.listed here.same t.addr m ≡ true
leaves-listed t m _ (fated_leaves l a h) e = l
leaves-listed t m _ (fated_alive l a) e = l
leaves-listed t m _ (fated_greater l h) e = l
leaves-listed t m _ (fated_absent l) e = let z : ◌≡◌ {A = ℕ} 0 1 = cc in absurd (omega arith)

pub leaves-there : (i : ℕ) (s : M.Node Addr) → D.fate_at here i s ≡ Leaves → M.lists here (D.timer_at here i s).addr s ≡ true
leaves-there i s e = leaves-listed (D.timer_at here i s) s.members.table _ (fated here (D.timer_at here i s) s.members.table) e

-- a death was pushed: what the code has of it
pub record Death : Type 0 where
  pub node : Node
  pub ready : Ready node
  pub place : ℕ
  pub within : place < node.timers.len
  pub there : M.lists here (D.timer_at here place (view_node node)).addr (view_node node) ≡ true
  pub timers : Timers
  pub timers_is : timers ≡ pack_timers (remove_at (timers_view node.timers) place)
  pub members : Members
  pub members_is : members ≡ pack_members node.own (list.remove here.same (timer_at node place).addr (view_members node.members))
  pub gossip : Gossip
  pub named : gossip.event ≡ Deceased node.own (timer_at node place).addr (timer_at node place).number
  pub pushed : Grown
  pub pushed_is : pushed ≡ grown node.disseminator.deceased (to_gossip gossip)

module _ (q : Death) where
  abbrev dead : Addr
  dead = (timer_at q.node q.place).addr

  -- the node with one timer less, and without that timer's address
  abbrev less : M.Node Addr
  less = fewer q.node q.ready q.place

  abbrev gone : M.Node Addr
  gone = M.leave here dead (timer_at q.node q.place).number less

  dead_is : D.timer_at here q.place (view_node q.node) ≡ to_timer (timer_at q.node q.place)
  dead_is = timer_is q.node q.ready q.place q.within

  dead_valid : here.valid dead ≡ true
  unfolding view_node
  dead_valid =
      ap (λ (x : W.Timer Addr). here.valid x.addr) (sym dead_is)
      ∙ every_in (λ (x : W.Timer Addr). here.valid x.addr) (W.no_timer here) (timers_view q.node.timers) q.place
      (omega (arith, q.within, view_length to_timer from_timer (λ b. refl) 16 no_timer q.node.timers.entries q.node.timers.len q.ready.timers)) q.ready.good.timers

  gone_good : Good here gone
  gone_good =
      (leave-keeps here here_lawful dead (timer_at q.node q.place).number less (fewer_good q.node q.ready q.place) dead_valid
      (ap (λ (x : W.Timer Addr). M.lists here x.addr less) (sym dead_is) ∙ q.there)).good

  -- of which the code makes the timers, the list and the row beside it
  abbrev left : DepartedRow → Node
  left r = with_lists (with_timers q.node q.timers) q.members r

  abbrev pub remembered : DepartedRow
  remembered = pack_departed (departs here.same dead (timer_at q.node q.place).number (view_members q.node.members).table (departed_view q.node.departed))

  gone_is : (r : DepartedRow) → r ≡ remembered → left r ≡ pack_node gone
  unfolding view_node M.leave
  gone_is r remembers =
      let m = with_timers q.node q.timers in
      let is = fewer_is q.node q.ready q.place q.timers q.timers_is in
      let good = fewer_good q.node q.ready q.place in
      part-lists m (rw is (ready_pack less good)) (list.remove here.same dead (view_node m).members) _ q.members r q.members_is remembers
      ∙ ap (λ (x : M.Node Addr). pack_node (M.leave here dead (timer_at q.node q.place).number x)) (ap view_node is ∙ view_pack less good.whole)

  abbrev outcome : Answer (M.Out Addr) → Ended
  outcome x = ended_of (kept_end here (stored_view q.node) Leaves (reports here x))

  ends : D.by_fate here Leaves (D.timer_at here q.place (view_node q.node)) less [] ≡ M.emit here kind.Deceased (to_gossip q.gossip) gone []
  unfolding D.by_fate view_node
  ends =
      ap (λ (x : W.Timer Addr). D.by_fate here Leaves x less []) dead_is
      ∙ ap (λ (x : Event). M.emit here kind.Deceased (record { event = to_event x }) gone []) (sym q.named)

  abbrev on : Bool
  on = q.node.settings.collect

  abbrev living : Heap
  living = q.node.disseminator.alive

  -- both heaps after the push, by what the alive heap became
  pushes : (h : Heap) → h ≡ cleared_heap on kind.Deceased (to_gossip q.gossip) living
      → Pushes on kind.Deceased (to_gossip q.gossip) q.node.disseminator (record { alive = h; deceased = q.pushed.heap }) q.pushed.full
  pushes h e = deceased-pushes q.node.disseminator q.ready.heaps (to_gossip q.gossip) on h q.pushed e q.pushed_is

  pub end_full : q.pushed.full ≡ true → end_plain (Refused DeceasedFull) q.node ≡ ended_by Leaves q.node q.place
  unfolding view_node M.leave
  end_full h =
      plain_end (Refused DeceasedFull) q.node
      ∙ sym (ap outcome (ends ∙ emit-full kind.Deceased (to_gossip q.gossip) [] gone_good (gone_is remembered refl) (pushes _ refl) h))

  module _ (old : ℕ) (alive : Heap) (old-is : old ≡ collects here on kind.Deceased (to_gossip q.gossip) (heap_view living)) (alive-is : alive ≡ cleared_by old kind.Deceased (to_gossip q.gossip) living)
      (r : DepartedRow) (remembers : r ≡ remembered) where
    abbrev after : Node
    after = with_disseminator (left r) (record { alive = alive; deceased = q.pushed.heap })

    pub end_kept : q.pushed.full ≡ false → said_end after q.gossip old ≡ ended_by Leaves q.node q.place
    unfolding view_node M.leave
    end_kept h =
        let e = alive-is ∙ ap (λ (n : ℕ). cleared_by n kind.Deceased (to_gossip q.gossip) living) old-is in
        let k = emit-kept kind.Deceased (to_gossip q.gossip) [] gone_good (gone_is r remembers) (pushes alive e) h in
        ap (said_end after q.gossip) old-is ∙ said-end k.after after q.gossip _ k.node ∙ sym (ap outcome (ends ∙ k.is))

-- "a timer call 0 and 1": the row of events alone can be short
pub timer_short : (lent : Room) → lent.events < 1 → short timer_room lent ≡ true
timer_short lent h = ap (λ (u : Bool). u || ltb lent.events 1) (le-ltb lent.gossip 0 (omega arith)) ∙ lt-ltb lent.events 1 h

pub timer_room-there : (lent : Room) → 1 ≤ lent.events → short timer_room lent ≡ false
timer_room-there lent h = ap (λ (u : Bool). u || ltb lent.events 1) (le-ltb lent.gossip 0 (omega arith)) ∙ le-ltb lent.events 1 h

-- which timer ends
pub ending-some : (x : Option ℕ) (i : ℕ) → ending_of x ≡ At i → x ≡ some i
ending-some none i e = cc
ending-some (some j) i e = let z : j ≡ i = cc in ap some z

pub ending-none : (x : Option ℕ) → ending_of x ≡ Nothing → x ≡ none
ending-none none e = refl
ending-none (some j) e = cc

pub over_in : (n : Node) (r : Ready n) (wait tick i : ℕ) → D.first_over here wait tick (timers_view n.timers) ≡ some i → i < n.timers.len
over_in n r wait tick i e =
    omega (arith, first_over_in here here_lawful wait tick (timers_view n.timers) i e, view_length to_timer from_timer (λ b. refl) 16 no_timer n.timers.entries n.timers.len r.timers)

-- the timer call, and what is lent to it
pub record Call : Type 0 where
  pub node : Node
  pub tick : ℕ
  pub lent : Room

module _ (q : Call) where
  abbrev s : M.Stored Addr
  s = stored_view q.node

  abbrev pub called : Ended
  called = ended_of (end_timer here s q.tick q.lent)

  abbrev over : M.Node Addr → Option ℕ
  over m = D.first_over here q.node.settings.suspect_timeout q.tick m.timers

  abbrev go : Outcome Addr
  go = ends_at here s (D.first_over here s.settings.suspect_timeout q.tick (M.loaded s).timers)

  abbrev first : Bool × Refusal
  first = (not (sound here s), Unsound)

  abbrev second : Bool × Refusal
  second = (short timer_room q.lent, ShortRow)

  pub end_unsound : sound here s ≡ false → end_plain (Refused Unsound) q.node ≡ called
  unfolding end_timer
  end_unsound e = plain_end (Refused Unsound) q.node ∙ sym (ap ended_of (test_fails first (second ∷ []) (refuses s) go (ap not e)))

  module _ (e : sound here s ≡ true) where
    pub end_short : short timer_room q.lent ≡ true → end_plain (Refused ShortRow) q.node ≡ called
    unfolding end_timer
    end_short v =
        plain_end (Refused ShortRow) q.node
        ∙ sym (ap ended_of (test_passes first (second ∷ []) (refuses s) go (ap not e) ∙ test_fails second [] (refuses s) go v))

    module _ (v : short timer_room q.lent ≡ false) where
      passed : end_timer here s q.tick q.lent ≡ ends_at here s (over (view_node q.node))
      unfolding end_timer stored_view
      passed =
          test_passes first (second ∷ []) (refuses s) go (ap not e)
          ∙ test_passes second [] (refuses s) go v
          ∙ ap (λ (m : M.Node Addr). ends_at here s (over m)) (loaded_view q.node)

      pub end_not_due : over (view_node q.node) ≡ none → end_plain NotDue q.node ≡ called
      end_not_due z = plain_end NotDue q.node ∙ sym (ap ended_of (passed ∙ ap (ends_at here s) z))

      pub end_due : {i : ℕ} → over (view_node q.node) ≡ some i → ended_by (D.fate_at here i (view_node q.node)) q.node i ≡ called
      unfolding D.end_at
      end_due {i} z =
          ap (λ (m : M.Node Addr). ended_of (kept_end here s (D.fate_at here i m) (reports here (D.end_at here i m [])))) (sym (loaded_view q.node))
          ∙ sym (ap ended_of (passed ∙ ap (ends_at here s) z))
