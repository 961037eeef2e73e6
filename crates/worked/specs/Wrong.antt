-- Wrong programs: each has its rule's own type, and slips at the one point that its comment names.
-- `Differs` runs each beside its rule on a small input.
-- Assumes nothing.
use Rattle.std.specs.Prelude.{Bool, true, false, not, ◌&&◌, List, [], ◌∷◌, ◌++◌, ℕ, zero, suc, ◌+◌, ◌-◌, ◌*◌, ◌%◌, ◌^◌, min, max, length, get_or, set, replicate, take, drop, eqb, ltb, leb}
use Rattle.std.proofs.Math.Option.{Option, none, some}
use Rattle.model.specs.declared.Kind.{Kind}
use Rattle.model.specs.declared.Kind.TheVariants as kind
use Rattle.model.specs.declared.State.{State}
use Rattle.model.specs.declared.State.TheVariants as state
use Rattle.model.specs.declared.Lamps.{Lamps}
use Rattle.model.specs.declared.Cause.{Cause}
use Rattle.model.specs.declared.Cause.TheVariants.{Record, Sender}
use Rattle.model.specs.declared.Refusal.TheVariants.{Unsound, ShortRow, ManyRecords, AddressRange, NumberEnd, ListFull, AliveFull, TimersFull, DeceasedFull}
use Rattle.model.specs.declared.Reply.TheVariants.{NotDue}
use Rattle.model.specs.Rows.{pick, every, has, swap}
use Rattle.model.specs.Bounds.{list_places, heap_places, timer_places, message_records, most_sends, Room, message_room, timer_room}
use Rattle.model.specs.Answers.{Answer, done, refused, and_then, when, draw}
use Rattle.worked.specs.Numbered.{ipv4}
use Rattle.model.specs.Words.{Event, Nothing, nothing, Joined, Recovered, Suspected, Deceased, Gossip, Entry, unused, sends_of, Member, Wait, WaitState, SendingPing, Declaring, Action, Ping, PingReq, Ack, Message, parts_of}
use Rattle.model.specs.Heap.{parent, sink}
use Rattle.model.specs.Choose.{Terms, Choice, choose, death_in}
use Rattle.model.specs.Members as list
use Rattle.model.specs.Lamps.{count_of, lamps_of, same_lamps}
use Rattle.model.specs.Node.{Node, Out, Effect, Stored, loaded, with_members, with_timers, quiet, and_more, one_added, death_plus_one, emit, lists, numbered, state_of, held_death, change, leave}
use Rattle.model.specs.Handler.{Enter, joined_at, suspected_other, act, item, gossip, through, stops_at, admit, ack_target, answer_to, handle}
use Rattle.model.specs.Detector.{Stepped, due, step, enters, moves, pinged, pick_group, suspect, asked, first_over, timer_at, freed, end_at}
use Rattle.model.specs.Sound.{of_kind, distinct, positioned, permutes, valid_gossip, sound_entry, is_no_member, sound}
use Rattle.model.specs.Calls.{Outcome, StepOutcome, first_of, short, unchanged, refuses, or_already, when_due, written, valid_action, kept, kept_message, joins, step_of_kept, step_tests, ends_at}
use Rattle.worked.specs.Seen.{state_number}

-- where a number plus one is needed
abbrev or_stop : Option ℕ → (ℕ → Answer (Out ℕ)) → Answer (Out ℕ)
or_stop none k = refused NumberEnd
or_stop (some n) k = k n

-- The calls.

-- 5 is tested before 4
abbrev pub addresses_before_the_count : Stored ℕ → Action ℕ → List (Gossip ℕ) → List ℕ → Room → Outcome ℕ
addresses_before_the_count s action gs ds lent =
    first_of
    ((not (sound ipv4 s), Unsound)
    ∷ (short message_room lent, ShortRow)
    ∷ (not (valid_action ipv4 action && every (valid_gossip ipv4) gs), AddressRange)
    ∷ (ltb message_records (length gs), ManyRecords)
    ∷ [])
    (refuses s)
    (kept_message ipv4 s (stops_at ipv4 gs (loaded s) ds) ds (handle ipv4 action gs (loaded s) ds))

-- 2 is not tested
abbrev pub soundness_forgotten : Stored ℕ → ℕ → ℕ → List ℕ → Outcome ℕ
soundness_forgotten s a n ds =
    first_of ((not (ipv4.valid a), AddressRange) ∷ [])
    (refuses s)
    (or_already (lists ipv4 a (loaded s)) s (kept ipv4 s ds (joins ipv4 a n (loaded s) ds)))

-- 3 is tested before 2
abbrev pub room_before_soundness : Stored ℕ → ℕ → Room → Outcome ℕ
room_before_soundness s now lent =
    first_of ((short timer_room lent, ShortRow) ∷ (not (sound ipv4 s), Unsound) ∷ [])
    (refuses s)
    (ends_at ipv4 s (first_over ipv4 s.settings.suspect_timeout now (loaded s).timers))

-- a step that isn't due enters its state anew
abbrev pub tick_renewed : Stored ℕ → Wait ℕ → ℕ → List ℕ → Room → StepOutcome ℕ
tick_renewed s w now ds lent =
    first_of (step_tests ipv4 s w lent)
    (λ r. record { outcome = refuses s r; wait = w })
    (pick (due s.settings w now)
    (step_of_kept ipv4 s w ds (step ipv4 w.state now (loaded s) ds))
    (record { outcome = unchanged NotDue s; wait = enters w.state now }))

-- what is due is tested before 2, 3 and 5
abbrev pub due_tested_first : Stored ℕ → Wait ℕ → ℕ → List ℕ → Room → StepOutcome ℕ
due_tested_first s w now ds lent =
    when_due (due s.settings w now) s w
    (first_of (step_tests ipv4 s w lent)
    (λ r. record { outcome = refuses s r; wait = w })
    (step_of_kept ipv4 s w ds (step ipv4 w.state now (loaded s) ds)))

-- the gossip of each message is written from the row's beginning
abbrev pub written_from_the_beginning : List (Message ℕ) → List (Gossip ℕ)
written_from_the_beginning [] = []
written_from_the_beginning (m ∷ ms) = written (written_from_the_beginning ms) m.gossip

-- The refusals of the rules.

-- 2^64 − 1 plus one comes round to 0
abbrev pub number_comes_round : ℕ → ℕ → Node ℕ → List ℕ → Answer (Out ℕ)
number_comes_round a n s ds =
    when (eqb s.own a)
    (emit ipv4 kind.Alive (record { event = Recovered s.own s.own ((n + 1) % 2 ^ 64) }) s ds)
    (act ipv4 (suspected_other ipv4 a n s.members.table) s ds)

-- 9 is given for a full deceased heap too
abbrev pub nine_for_any_heap : Gossip ℕ → Node ℕ → List ℕ → Answer (Out ℕ)
nine_for_any_heap g s ds = when (leb heap_places (length s.disseminator.deceased)) (refused AliveFull) (emit ipv4 kind.Deceased g s ds)

-- Where a message stopped.

-- records are numbered from 1
abbrev pub records_from_one : List (Gossip ℕ) → Node ℕ → List ℕ → Cause
records_from_one gs s ds = let k = through ipv4 gs s ds in pick (ltb k (length gs)) (Record (suc k)) Sender

-- only records that hold an event are counted
abbrev held_events : List (Gossip ℕ) → ℕ
held_events [] = 0
held_events (g ∷ gs) = elim g.event [
  | Nothing ↦ held_events gs
  | Joined f a n ↦ suc (held_events gs)
  | Recovered f a n ↦ suc (held_events gs)
  | Suspected f a n ↦ suc (held_events gs)
  | Deceased f a n ↦ suc (held_events gs)
]

abbrev pub events_counted : List (Gossip ℕ) → Node ℕ → List ℕ → Cause
events_counted gs s ds = let k = through ipv4 gs s ds in pick (ltb k (length gs)) (Record (held_events (take k gs))) Sender

-- the last record is told
abbrev pub last_record_told : List (Gossip ℕ) → Node ℕ → List ℕ → Cause
last_record_told gs s ds = pick (ltb (through ipv4 gs s ds) (length gs)) (Record (length gs - 1)) Sender

-- a record about the sender a is told as its admission
abbrev pub sender_for_its_record : ℕ → List (Gossip ℕ) → Node ℕ → List ℕ → Cause
sender_for_its_record a gs s ds = pick (eqb a (parts_of ipv4 (get_or gs (through ipv4 gs s ds) nothing).event).subject) Sender (stops_at ipv4 gs s ds)

-- a 17th declaration ends the first
abbrev pub oldest_ends : ℕ → ℕ → ℕ → Node ℕ → List ℕ → Answer (Stepped ℕ)
oldest_ends a n now s ds =
    let kept = pick (leb timer_places (length s.timers)) (drop 1 s.timers) s.timers in
    done (moves ipv4 SendingPing now (with_timers s (kept ++ (record { addr = a; number = n; since = now } ∷ [])))) ds

-- a place is looked for before D + 1 is: 7 before 6
abbrev pub room_before_number : ℕ → ℕ → Node ℕ → List ℕ → Answer (Out ℕ)
room_before_number a n s ds =
    when (not (lists ipv4 a s) && leb list_places (length s.members.table)) (refused ListFull) (item ipv4 (Joined s.own a n) s ds)

-- the event is pushed before the address is added: 9 before 7 and 8
abbrev pub pushed_before_added : ℕ → ℕ → Node ℕ → List ℕ → Answer (Out ℕ)
pushed_before_added a n s ds =
    and_then (emit ipv4 kind.Alive (record { event = Joined s.own a n }) s ds) λ o rest.
    and_then (list.add eqb a n o.node.members rest) λ m rest₂.
    done (record { node = with_members o.node m; said = o.said; collected = o.collected }) rest₂

-- the draw is read before a place is looked for: 8 before 7
abbrev pub drawn_before_room : ℕ → ℕ → list.Members ℕ → List ℕ → Answer (list.Members ℕ)
drawn_before_room a n m ds =
    draw ds λ d rest. when (leb list_places (length m.table)) (refused ListFull) (done (list.added eqb a n d m) rest)

-- The lamps.

-- the own address is counted
abbrev pub own_counted : ℕ → List (Member ℕ) → Lamps
own_counted own t = lamps_of (λ a b. false) own t

-- Pending is counted as Alive
abbrev pub pending_lit_alive : ℕ → List (Member ℕ) → Lamps
pending_lit_alive own t =
    record { alive = count_of eqb state.Alive own t + count_of eqb state.Pending own t; pending = 0; suspected = count_of eqb state.Suspected own t }

-- Soundness.

-- of the order only the length is tested
abbrev pub order_only_counted : ℕ → List (Member ℕ) → List ℕ → ℕ → ℕ → Lamps → Bool
order_only_counted own table order n position lamps =
    leb n list_places
    && distinct eqb (list.addrs (take n table))
    && eqb (length (take n order)) (length (take n table))
    && positioned position n
    && every ipv4.valid (list.addrs (take n table))
    && every (is_no_member ipv4) (drop n table)
    && every (λ a. eqb a 0) (drop n order)
    && same_lamps lamps (lamps_of eqb own (take n table))

-- a position below the length is asked of an empty list too
abbrev pub emptied_list_refused : ℕ → List (Member ℕ) → List ℕ → ℕ → ℕ → Lamps → Bool
emptied_list_refused own table order n position lamps =
    leb n list_places
    && distinct eqb (list.addrs (take n table))
    && permutes eqb (take n order) (list.addrs (take n table))
    && ltb position n
    && every ipv4.valid (list.addrs (take n table))
    && every (is_no_member ipv4) (drop n table)
    && every (λ a. eqb a 0) (drop n order)
    && same_lamps lamps (lamps_of eqb own (take n table))

-- of the lamps only their sum is compared
abbrev pub only_the_sum : ℕ → List (Member ℕ) → List ℕ → ℕ → ℕ → Lamps → Bool
only_the_sum own table order n position lamps =
    let l = lamps_of eqb own (take n table) in
    leb n list_places
    && distinct eqb (list.addrs (take n table))
    && permutes eqb (take n order) (list.addrs (take n table))
    && positioned position n
    && every ipv4.valid (list.addrs (take n table))
    && every (is_no_member ipv4) (drop n table)
    && every (λ a. eqb a 0) (drop n order)
    && eqb (lamps.alive + lamps.pending + lamps.suspected) (l.alive + l.pending + l.suspected)

-- any size from 18 to 111 passes
abbrev pub any_size_in_bounds : Kind → Entry ℕ → Bool
any_size_in_bounds k e =
    of_kind k (parts_of ipv4 e.gossip.event).kind
    && leb 18 e.size
    && leb e.size 111
    && leb e.sends most_sends
    && valid_gossip ipv4 e.gossip

-- 22 sends are one too many
abbrev pub sent22_refused : Kind → Entry ℕ → Bool
sent22_refused k e = sound_entry ipv4 k e && ltb e.sends most_sends

-- of an event's two addresses only the second is tested
abbrev pub sender_not_tested : Gossip ℕ → Bool
sender_not_tested g =
    let p = parts_of ipv4 g.event in
    pick (eqb p.kind 0) true (ipv4.valid p.subject)

-- The heap and choosing.

-- an entry doesn't climb to the top
abbrev pub climbs_below_the_top : ℕ → List (Entry ℕ) → ℕ → List (Entry ℕ)
climbs_below_the_top zero es p = es
climbs_below_the_top (suc n) es p =
    pick (eqb (parent p) 0)
    es
    (pick (ltb (sends_of (get_or es p unused)) (sends_of (get_or es (parent p) unused)))
    (climbs_below_the_top n (swap unused es p (parent p)) (parent p))
    es)

abbrev pub stops_a_place_early : List (Entry ℕ) → Entry ℕ → List (Entry ℕ)
stops_a_place_early es e = climbs_below_the_top (length es) (es ++ (e ∷ [])) (length es)

-- the last entry, at the top, sinks with the stop
abbrev pub last_stops_at_an_equal : List (Entry ℕ) → List (Entry ℕ)
last_stops_at_an_equal es =
    sink unused sends_of (take (length es - 1) (set es 0 (get_or es (length es - 1) unused))) (length es - 1) 0

-- each heap may give as many as are selected in all
abbrev pub shares_of_the_whole : ℕ → ℕ → ℕ → Terms
shares_of_the_whole max-selected max_size limit =
    record { alive_share = max-selected; deceased_share = max-selected; max_size = max_size; limit = limit }

-- no size is too great
abbrev pub size_not_tested : Terms → List (Entry ℕ) → List (Entry ℕ) → Choice ℕ
size_not_tested t alive deceased =
    choose ipv4
    (record { alive_share = t.alive_share; deceased_share = t.deceased_share; max_size = 2 ^ 64; limit = t.limit })
    alive
    deceased

-- what was chosen past the shares is spent, but dropped
abbrev pub last_ones_dropped : Terms → List (Entry ℕ) → List (Entry ℕ) → Choice ℕ
last_ones_dropped t alive deceased =
    let c = choose ipv4 t alive deceased in
    record {
      alive = c.alive;
      deceased = c.deceased;
      chosen = take (t.alive_share + t.deceased_share) c.chosen;
      noted = c.noted;
      from-alive = c.from-alive;
      from-deceased = c.from-deceased;
      size = c.size;
    }

-- D is the greatest of the numbers
abbrev pub greater_of : Option ℕ → Option ℕ → Option ℕ
greater_of none y = y
greater_of (some n) none = some n
greater_of (some n) (some m) = some (max n m)

abbrev pub greatest_death : ℕ → List (Entry ℕ) → Option ℕ
greatest_death a [] = none
greatest_death a (e ∷ es) = greater_of (death_in ipv4 a e.gossip.event) (greatest_death a es)

-- List and order.

-- an update adds whom it doesn't find
abbrev pub update_adds : Member ℕ → list.Members ℕ → list.Members ℕ
update_adds k m =
    pick (list.listed eqb k.addr m.table)
    (list.update eqb k m)
    (record { table = m.table ++ (k ∷ []); order = m.order ++ (k.addr ∷ []); position = m.position })

-- an update that puts k's address at a state and a number of its own choice
abbrev put_at : Member ℕ → State → ℕ → list.Members ℕ → list.Members ℕ
put_at k st n m = record { table = list.put eqb (record { addr = k.addr; state = st; number = n }) m.table; order = m.order; position = m.position }

-- the smaller of the held and the given number is kept
abbrev pub keeps_the_smaller : Member ℕ → list.Members ℕ → list.Members ℕ
keeps_the_smaller k m = put_at k k.state (min (list.held eqb k.addr m.table) k.number) m

-- where the number is kept, the state is kept too
abbrev pub keeps_the_state_too : Member ℕ → list.Members ℕ → list.Members ℕ
keeps_the_state_too k m =
    pick (ltb (list.held eqb k.addr m.table) k.number) (list.update eqb k m)
    (put_at k (list.held_state eqb k.addr m.table) (list.held eqb k.addr m.table) m)

-- an equal number is raised
abbrev pub raises_an_equal : Member ℕ → list.Members ℕ → list.Members ℕ
raises_an_equal k m = pick (eqb (list.held eqb k.addr m.table) k.number) (put_at k k.state (k.number + 1) m) (list.update eqb k m)

-- a look at the one in hand: `over` says whom a look passes over, given those picked so far
abbrev pub seek_over : (List ℕ → ℕ → Bool) → ℕ → ℕ → List ℕ → list.Members ℕ → List ℕ → Answer (list.Picked ℕ)
seek_over over f zero got m ds = done (record { picks = got; members = m }) ds
seek_over over zero (suc k) got m ds = done (record { picks = got; members = m }) ds
seek_over over (suc f) (suc k) got m ds =
    let x = get_or m.order m.position 0 in
    and_then (list.advance 0 m ds) λ m' rest.
    elim (over got x) [
      | true ↦ seek_over over f (suc k) got m' rest
      | false ↦ seek_over over f k (got ++ (x ∷ [])) m' rest
    ]

-- whom a pick has given it passes over
abbrev pub each_picked_once : ℕ → Option ℕ → ℕ → list.Members ℕ → List ℕ → Answer (list.Picked ℕ)
each_picked_once own e wanted m ds =
    let k = list.cap eqb 0 own e wanted (length m.order) in
    seek_over (λ got x. pick (has eqb x got) true (list.passed eqb 0 own e x)) (list.looks eqb 0 own e * k) k [] m ds

-- a look stays where it is: at own it would look for ever, and stopped after its looks it has given nobody
abbrev pub never_advances : ℕ → Option ℕ → ℕ → list.Members ℕ → List ℕ → Answer (list.Picked ℕ)
never_advances own e wanted m ds =
    let x = get_or m.order m.position 0 in
    let k = list.cap eqb 0 own e wanted (length m.order) in
    done (record { picks = pick (list.passed eqb 0 own e x) [] (replicate k x); members = m }) ds

-- two looks for each one wanted, and no more
abbrev pub gives_up_after_two_looks : ℕ → Option ℕ → ℕ → list.Members ℕ → List ℕ → Answer (list.Picked ℕ)
gives_up_after_two_looks own e wanted m ds =
    let k = list.cap eqb 0 own e wanted (length m.order) in
    list.seek eqb 0 own (2 * k) e k [] m ds

-- Handler.

-- D plays no part: what was joined is taken as it is
abbrev pub death_forgotten : ℕ → ℕ → Node ℕ → List ℕ → Answer (Out ℕ)
death_forgotten a n s ds = act ipv4 (joined_at ipv4 a n s.members.table) s ds

-- a raised number makes Alive
abbrev pub raised_to_alive : ℕ → ℕ → Node ℕ → List ℕ → Answer (Out ℕ)
raised_to_alive a n s ds =
    or_stop (death_plus_one (held_death ipv4 a s)) λ least.
    let raised = max least n in
    when (lists ipv4 a s)
    (when (ltb (numbered ipv4 a s) raised)
    (emit ipv4 kind.Alive (record { event = Joined s.own a raised }) (change ipv4 a state.Alive raised s) ds)
    (quiet s ds))
    (act ipv4 (Enter a raised) s ds)

-- an equal number recovers
abbrev pub recovered_at_an_equal : ℕ → ℕ → Node ℕ → List ℕ → Answer (Out ℕ)
recovered_at_an_equal a n s ds =
    when (lists ipv4 a s && leb (numbered ipv4 a s) n)
    (emit ipv4 kind.Alive (record { event = Recovered s.own a n }) (change ipv4 a state.Alive n s) ds)
    (quiet s ds)

-- any number recovers
abbrev pub older_recovery_taken : ℕ → ℕ → Node ℕ → List ℕ → Answer (Out ℕ)
older_recovery_taken a n s ds =
    when (lists ipv4 a s)
    (emit ipv4 kind.Alive (record { event = Recovered s.own a n }) (change ipv4 a state.Alive n s) ds)
    (quiet s ds)

-- the number is raised, and the state kept
abbrev pub recovered_keeps_the_state : ℕ → ℕ → Node ℕ → List ℕ → Answer (Out ℕ)
recovered_keeps_the_state a n s ds =
    when (lists ipv4 a s && ltb (numbered ipv4 a s) n)
    (emit ipv4 kind.Alive (record { event = Recovered s.own a n }) (change ipv4 a (state_of ipv4 a s) n s) ds)
    (quiet s ds)

-- the own record takes the number that is spread
abbrev pub own_record_moved : ℕ → ℕ → Node ℕ → List ℕ → Answer (Out ℕ)
own_record_moved a n s ds =
    when (eqb s.own a)
    (or_stop (one_added n) λ next. emit ipv4 kind.Alive (record { event = Recovered s.own s.own next }) (change ipv4 s.own state.Alive next s) ds)
    (act ipv4 (suspected_other ipv4 a n s.members.table) s ds)

-- the own address is never removed
abbrev pub own_is_spared : ℕ → ℕ → Node ℕ → List ℕ → Answer (Out ℕ)
own_is_spared a n s ds =
    when (lists ipv4 a s && leb (numbered ipv4 a s) n && not (eqb s.own a))
    (emit ipv4 kind.Deceased (record { event = Deceased s.own a n }) (leave ipv4 a n s) ds)
    (quiet s ds)

-- the records behind one of no event are not read
abbrev pub stops_at_no_event : List (Gossip ℕ) → Node ℕ → List ℕ → Answer (Out ℕ)
stops_at_no_event [] s ds = quiet s ds
stops_at_no_event (g ∷ gs) s ds =
    pick (eqb (parts_of ipv4 g.event).kind 0) (quiet s ds) (and_more (item ipv4 g.event s ds) (stops_at_no_event gs))

-- a record of no event is read as Joined, with zeros
abbrev pub no_event_taken_for_joined : Event ℕ → Node ℕ → List ℕ → Answer (Out ℕ)
no_event_taken_for_joined e s ds =
    let p = parts_of ipv4 e in
    pick (eqb p.kind 0) (item ipv4 (Joined p.from p.subject p.number) s ds) (item ipv4 e s ds)

-- the sender is admitted before the gossip is heard
abbrev pub admitted_before_the_gossip : Action ℕ → List (Gossip ℕ) → Node ℕ → List ℕ → Answer (Effect ℕ)
admitted_before_the_gossip (Ping from by) gs s ds =
    and_then (and_more (admit ipv4 from s ds) (gossip ipv4 gs)) λ o rest.
    done (answer_to ipv4 (ack_target ipv4 from by) (Ack s.own by) o) rest
admitted_before_the_gossip (PingReq from suspect) gs s ds = handle ipv4 (PingReq from suspect) gs s ds
admitted_before_the_gossip (Ack from to) gs s ds = handle ipv4 (Ack from to) gs s ds

-- a PingReq's asker is added like a Ping's sender
abbrev pub asker_added : Action ℕ → List (Gossip ℕ) → Node ℕ → List ℕ → Answer (Effect ℕ)
asker_added (Ping from by) gs s ds = handle ipv4 (Ping from by) gs s ds
asker_added (PingReq from suspect) gs s ds =
    and_then (and_more (gossip ipv4 gs s ds) (admit ipv4 from)) λ o rest.
    done (answer_to ipv4 suspect (Ping s.own (some from)) o) rest
asker_added (Ack from to) gs s ds = handle ipv4 (Ack from to) gs s ds

-- Detector.

-- the gossip goes out though nobody was picked
abbrev pub spent_gossip_written : ℕ → List (Gossip ℕ) → Node ℕ → List ℕ → Stepped ℕ
spent_gossip_written now gs s [] =
    record {
      effect = record { node = s; messages = record { target = s.own; action = Ping s.own none; gossip = gs } ∷ []; events = []; collected = 0 };
      wait = enters SendingPing now;
    }
spent_gossip_written now gs s (a ∷ rest) = pinged ipv4 now gs s (a ∷ rest)

-- Pending counts as an answer
abbrev pub pending_has_answered : ℕ → WaitState ℕ → ℕ → Node ℕ → List ℕ → Answer (Stepped ℕ)
pending_has_answered a next now s ds =
    done (moves ipv4 (pick (lists ipv4 a s && eqb (state_number (state_of ipv4 a s)) 2) next SendingPing) now s) ds

-- the held number in place of the remembered one
abbrev pub suspected_at_the_held_number : ℕ → ℕ → ℕ → Node ℕ → List ℕ → Answer (Stepped ℕ)
suspected_at_the_held_number a n now s ds =
    and_then (suspect ipv4 a (numbered ipv4 a s) s ds) λ o rest.
    and_then (pick_group ipv4 a o.node rest) λ p rest₂.
    done (asked ipv4 a n now o p) rest₂

-- a declaration that started stays to be started
abbrev pub stays_in_declaring : ℕ → ℕ → ℕ → Node ℕ → List ℕ → Answer (Stepped ℕ)
stays_in_declaring a n now s ds =
    when (leb timer_places (length s.timers))
    (refused TimersFull)
    (done (moves ipv4 (Declaring a n) now (with_timers s (s.timers ++ (record { addr = a; number = n; since = now } ∷ [])))) ds)

-- An ended timer.

-- a Pending peer is spared
abbrev pub pending_spared : ℕ → Node ℕ → List ℕ → Answer (Out ℕ)
pending_spared i s ds = when (eqb (state_number (state_of ipv4 (timer_at ipv4 i s).addr s)) (state_number state.Pending)) (quiet (freed ipv4 i s) ds) (end_at ipv4 i s ds)

-- Deceased is emitted though the address is gone already
abbrev pub gone_is_told : ℕ → Node ℕ → List ℕ → Answer (Out ℕ)
gone_is_told i s ds =
    let t = timer_at ipv4 i s in
    when (lists ipv4 t.addr s) (end_at ipv4 i s ds) (emit ipv4 kind.Deceased (record { event = Deceased s.own t.addr t.number }) (freed ipv4 i s) ds)

-- 13 is given though nothing would be removed
abbrev pub full_anyway : ℕ → Node ℕ → List ℕ → Answer (Out ℕ)
full_anyway i s ds = when (leb heap_places (length s.disseminator.deceased)) (refused DeceasedFull) (end_at ipv4 i s ds)

-- What demand 3 shuts out.

-- an address that comes in at place 0 stands in the order twice
abbrev pub entered_twice : ℕ → ℕ → ℕ → list.Members ℕ → list.Members ℕ
entered_twice a n d m =
    let after = list.added eqb a n d m in
    record {
      table = after.table;
      order = pick (eqb (d % suc (length m.order)) 0) (a ∷ after.order) after.order;
      position = after.position;
    }

-- the ping-request step writes the remembered number back, below the held one
abbrev pub writes_back : ℕ → ℕ → Node ℕ → List ℕ → Answer (Out ℕ)
writes_back a n s ds = emit ipv4 kind.Alive (record { event = Suspected s.own a n }) (with_members s (put_at (record { addr = a; state = state.Suspected; number = n }) state.Suspected n s.members)) ds

-- the ping goes to another than the wait record names
abbrev pub pinged_elsewhere : ℕ → List (Gossip ℕ) → Node ℕ → List ℕ → Stepped ℕ
pinged_elsewhere now gs s [] = pinged ipv4 now gs s []
pinged_elsewhere now gs s (a ∷ rest) =
    let e = pinged ipv4 now gs s (a ∷ rest) in
    record {
      effect =
          record {
            node = e.effect.node;
            messages = record { target = s.own; action = Ping s.own none; gossip = gs } ∷ [];
            events = [];
            collected = 0;
          };
      wait = e.wait;
    }

-- a suspicion takes its peer out
abbrev pub suspicion_removes : ℕ → ℕ → Node ℕ → List ℕ → Answer (Out ℕ)
suspicion_removes a n s ds =
    when (lists ipv4 a s && leb (numbered ipv4 a s) n)
    (emit ipv4 kind.Alive (record { event = Suspected s.own a n }) (leave ipv4 a n s) ds)
    (quiet s ds)

-- a death notice takes a peer out at a number one too low, or at any number
abbrev pub older_death_taken : ℕ → ℕ → Node ℕ → List ℕ → Answer (Out ℕ)
older_death_taken a n s ds =
    when (lists ipv4 a s && leb (numbered ipv4 a s) (n + 1))
    (emit ipv4 kind.Deceased (record { event = Deceased s.own a n }) (leave ipv4 a n s) ds)
    (quiet s ds)

abbrev pub any_death_taken : ℕ → ℕ → Node ℕ → List ℕ → Answer (Out ℕ)
any_death_taken a n s ds =
    when (lists ipv4 a s) (emit ipv4 kind.Deceased (record { event = Deceased s.own a n }) (leave ipv4 a n s) ds) (quiet s ds)
