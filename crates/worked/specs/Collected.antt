-- Collecting at numbers: what a push takes, what it leaves, and how it stands then; and each rule that pushes, on a node that collects.
-- Assumes nothing.
use Rattle.std.specs.Prelude.{refl, Bool, true, false, List, [], ◌∷◌, ℕ, replicate}
use Rattle.std.proofs.Math.Option.{Option, some}
use Rattle.model.specs.declared.Kind.TheVariants as kind
use Rattle.model.specs.declared.State.{State}
use Rattle.model.specs.declared.State.TheVariants as state
use Rattle.model.specs.declared.Settings.{Settings}
use Rattle.model.specs.declared.Refusal.TheVariants.{AliveFull, DeceasedFull}
use Rattle.model.specs.Answers.{Answer, refused, when}
use Rattle.model.specs.Rows.{swap, count, those}
use Rattle.model.specs.Words.{Event, Joined, Recovered, Suspected, Deceased, Gossip, Entry, parts_of}
use Rattle.model.specs.Heap.{climb_in, climb, push, push_all}
use Rattle.model.specs.Choose.{entry_of, death, or_else}
use Rattle.model.specs.Members.{added, add, remove, update}
use Rattle.model.specs.Collect.{is_old, collects, rebuilt, cleared}
use Rattle.model.specs.Departed.{look_up, death_of}
use Rattle.model.specs.Node.{Node, Disseminator, Out, quiet, and_more, pushed, emit, change, leave}
use Rattle.model.specs.Handler.{believed, suspected_other, suspected, deceased, list_after, news_of, act, item, admit, judge_sender, gossip}
use Rattle.model.specs.Detector.{suspect, fate_of, end_at, by_fate}
use Rattle.worked.specs.Numbered.{ipv4}
use Rattle.worked.specs.Cabinet.{own, B, C, says, settings, member, members, of_given, rule_of}
use Rattle.worked.specs.Table.{Case, ◌is◌}
use Rattle.worked.specs.Worked.{All, end, ◌and◌}

-- an event held, sent so often; sizes play no part
abbrev held : (ℕ → ℕ → ℕ → Event ℕ) → ℕ → ℕ → ℕ → Entry ℕ
held kind a n sends = record { gossip = says kind a n; sends = sends; size = 32 }

-- of B a Joined at 1 and a Suspected at 2, and one of C
abbrev flapping : List (Entry ℕ)
flapping = held Joined C 5 0 ∷ held Joined B 1 2 ∷ held Suspected B 2 1 ∷ []

-- the top is of B, and of the others the last was sent less often
abbrev topped : List (Entry ℕ)
topped = held Joined B 1 0 ∷ held Joined C 5 3 ∷ held Joined own 0 2 ∷ []

-- those that are not of B were sent 3, 2 and 1 times, in array order
abbrev between : List (Entry ℕ)
between =
    held Joined B 1 0 ∷ held Joined C 5 3 ∷ held Suspected B 1 1 ∷ held Recovered B 0 3 ∷ held Joined B 0 4 ∷ held Joined own 0 2 ∷ held Suspected C 5 1 ∷ []

-- of B one of each kind, told by C
abbrev heard : (ℕ → ℕ → ℕ → Event ℕ) → Entry ℕ
heard kind = record { gossip = record { event = kind C B 1 }; sends = 0; size = 32 }

abbrev told : List (Entry ℕ)
told = heard Joined ∷ heard Recovered ∷ heard Suspected ∷ []

abbrev pub table : List Case
table =
    -- "every event about X with a lower number": an equal one stays, and so does another's
    (collects ipv4 true kind.Alive (says Recovered B 2) flapping is 1)
    ∷ (cleared ipv4 true kind.Alive (says Recovered B 2) flapping is (held Joined C 5 0 ∷ held Suspected B 2 1 ∷ []))
    -- "a push of a death takes those with a number no higher"
    ∷ (collects ipv4 true kind.Deceased (says Deceased B 2) flapping is 2)
    ∷ (cleared ipv4 true kind.Deceased (says Deceased B 2) flapping is (held Joined C 5 0 ∷ []))
    ∷ (collects ipv4 true kind.Deceased (says Deceased B 1) flapping is 1)
    -- "put, in array order, into an empty heap by 01's climb": the last climbs, and each keeps its sends
    ∷ (cleared ipv4 true kind.Alive (says Joined B 2) topped is (held Joined own 0 2 ∷ held Joined C 5 3 ∷ []))
    ∷ (cleared ipv4 true kind.Alive (says Joined B 2) between is (held Suspected C 5 1 ∷ held Joined C 5 3 ∷ held Joined own 0 2 ∷ []))
    -- "About X" is the subject, whoever told it and whatever its kind
    ∷ (collects ipv4 true kind.Alive (says Joined B 2) told is 3)
    ∷ (collects ipv4 true kind.Deceased (says Deceased B 1) told is 3)
    ∷ (collects ipv4 true kind.Deceased (says Deceased C 1) told is 0)
    -- "where any was taken": else the heap is as it was
    ∷ (collects ipv4 true kind.Alive (says Recovered B 1) flapping is 0)
    ∷ (cleared ipv4 true kind.Alive (says Recovered B 1) flapping is flapping)
    -- off
    ∷ (collects ipv4 false kind.Deceased (says Deceased B 2) flapping is 0)
    ∷ (cleared ipv4 false kind.Deceased (says Deceased B 2) flapping is flapping)
    ∷ []

pub collected : All table
unfolding swap count those parts_of climb_in climb push push_all is_old collects rebuilt cleared
collected = refl and refl and refl and refl and refl and refl and refl and refl and refl and refl and refl and refl and refl and refl and end

-- the cabinet's settings but for this one
abbrev collecting : Bool → Settings
collecting on =
    record {
      ping_interval = settings.ping_interval;
      ping_timeout = settings.ping_timeout;
      ping_req_timeout = settings.ping_req_timeout;
      suspect_timeout = settings.suspect_timeout;
      ping_req_group_size = settings.ping_req_group_size;
      send_constant = settings.send_constant;
      max_selected = settings.max_selected;
      max_size = settings.max_size;
      collect = on;
      remember = false;
    }

-- own and B, with a timer of B at 2, and heaps
abbrev spreads : Bool → State → List (Entry ℕ) → List (Entry ℕ) → Node ℕ
spreads on st alive deceased =
    record {
      settings = collecting on;
      own = own;
      members = members (member own state.Alive 0 ∷ member B st 2 ∷ []) (own ∷ B ∷ []) 0;
      disseminator = record { alive = alive; deceased = deceased };
      timers = record { addr = B; number = 2; since = 0 } ∷ [];
      departed = [];
    }

-- B has left
abbrev without : List (Entry ℕ) → List (Entry ℕ) → Node ℕ
without alive deceased =
    record {
      settings = collecting true;
      own = own;
      members = members (member own state.Alive 0 ∷ []) (own ∷ []) 0;
      disseminator = record { alive = alive; deceased = deceased };
      timers = [];
      departed = [];
    }

-- deaths of B, sent once
abbrev buried : ℕ → List (Entry ℕ)
buried n = held Deceased B n 1 ∷ []

-- an entry as it comes in
abbrev comes : (ℕ → ℕ → ℕ → Event ℕ) → ℕ → ℕ → Entry ℕ
comes kind a n = entry_of ipv4 (says kind a n)

-- both heaps that a rule leaves, and what it tells
abbrev leaves : Answer (Out ℕ) → Option (Disseminator ℕ × ℕ)
leaves = of_given (λ o. (o.node.disseminator, o.collected))

abbrev left : List (Entry ℕ) → List (Entry ℕ) → ℕ → Option (Disseminator ℕ × ℕ)
left alive deceased n = some (record { alive = alive; deceased = deceased }, n)

-- 128 places in use
abbrev full : (ℕ → ℕ → ℕ → Event ℕ) → ℕ → List (Entry ℕ)
full kind a = replicate 128 (held kind a 3 0)

abbrev pub rules : List Case
rules =
    -- "a push of an event about X first takes from the alive heap": by gossip, by a refutation, by the detector and by an admission. Deaths stay
    (leaves (rule_of Suspected B 2 (spreads true state.Alive flapping (buried 0)) []) is left (held Joined C 5 0 ∷ held Suspected B 2 1 ∷ comes Suspected B 2 ∷ []) (buried 0) 1)
    ∷ (leaves (rule_of Suspected own 1 (spreads true state.Alive (held Recovered own 1 0 ∷ flapping) (buried 0)) []) is left (held Joined C 5 0 ∷ comes Recovered own 2 ∷ held Suspected B 2 1 ∷ held Joined B 1 2 ∷ []) (buried 0) 1)
    ∷ (leaves (suspect ipv4 B 3 (spreads true state.Pending flapping (buried 0)) []) is left (held Joined C 5 0 ∷ comes Suspected B 3 ∷ []) (buried 0) 2)
    ∷ (leaves (admit ipv4 B (without flapping (buried 2)) (0 ∷ [])) is left (held Joined C 5 0 ∷ comes Joined B 3 ∷ []) (buried 2) 2)
    -- "and a push of a death takes those with a number no higher": by gossip and by a timer
    ∷ (leaves (rule_of Deceased B 2 (spreads true state.Alive flapping (buried 0)) []) is left (held Joined C 5 0 ∷ []) (comes Deceased B 2 ∷ buried 0) 2)
    ∷ (leaves (end_at ipv4 0 (spreads true state.Suspected flapping (buried 0)) []) is left (held Joined C 5 0 ∷ []) (comes Deceased B 2 ∷ buried 0) 2)
    -- "at each push": the second takes what the first put in
    ∷ (leaves (gossip ipv4 (says Suspected B 2 ∷ says Deceased B 2 ∷ []) (spreads true state.Alive flapping []) []) is left (held Joined C 5 0 ∷ []) (comes Deceased B 2 ∷ []) 3)
    -- "Freed places are used before 9 is given", and 13 is given as it was
    ∷ (leaves (rule_of Suspected own 3 (spreads true state.Alive (full Recovered own) []) []) is left (comes Recovered own 4 ∷ []) [] 128)
    ∷ (rule_of Suspected B 2 (spreads true state.Alive (full Recovered own) []) [] is refused AliveFull)
    ∷ (rule_of Deceased B 3 (spreads true state.Alive flapping (full Deceased C)) [] is refused DeceasedFull)
    -- off
    ∷ (rule_of Suspected own 3 (spreads false state.Alive (full Recovered own) []) [] is refused AliveFull)
    ∷ (leaves (end_at ipv4 0 (spreads false state.Suspected flapping (buried 0)) []) is left flapping (comes Deceased B 2 ∷ buried 0) 0)
    ∷ []

pub by-each-rule : All rules
unfolding when swap count those parts_of climb_in climb push push_all added add remove update is_old collects rebuilt cleared quiet and_more pushed emit change leave believed suspected_other suspected deceased list_after news_of act item admit judge_sender suspect fate_of end_at by_fate death or_else look_up death_of
by-each-rule = refl and refl and refl and refl and refl and refl and refl and refl and refl and refl and refl and refl and end
