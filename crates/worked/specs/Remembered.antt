-- Remembering at numbers: what a removal makes of the row, where D is taken from, and the rules that remove and admit, on a node that remembers or not.
-- Assumes nothing.
use Rattle.std.specs.Prelude.{refl, Bool, true, false, List, [], ◌∷◌, ◌++◌, ℕ, zero, suc, ◌+◌}
use Rattle.std.proofs.Math.Option.{Option, none, some}
use Rattle.model.specs.declared.State.{State}
use Rattle.model.specs.declared.State.TheVariants as state
use Rattle.model.specs.declared.Settings.{Settings}
use Rattle.model.specs.Answers.{Answer, when}
use Rattle.model.specs.Rows.{swap}
use Rattle.model.specs.Words.{Joined, Deceased, Entry, Departed, parts_of}
use Rattle.model.specs.Heap.{climb_in, climb, push}
use Rattle.model.specs.Choose.{death, or_else}
use Rattle.model.specs.Members.{Members, added, add, remove, update}
use Rattle.model.specs.Collect.{collects, cleared}
use Rattle.model.specs.Departed.{make_room, look_up, without, depart, departs, death_of}
use Rattle.model.specs.Node.{Node, Out, with_disseminator, quiet, and_more, pushed, emit, numbered, change, leave}
use Rattle.model.specs.Handler.{joined_at, joined, deceased, list_after, row_after, news_of, act, item, admit, judge_sender, gossip}
use Rattle.model.specs.Detector.{fate_of, end_at, by_fate}
use Rattle.worked.specs.Numbered.{ipv4}
use Rattle.worked.specs.Cabinet.{own, B, C, says, settings, member, members, of_given, rule_of}
use Rattle.worked.specs.Table.{Case, ◌is◌}
use Rattle.worked.specs.Worked.{All, end, ◌and◌}

abbrev gone : ℕ → ℕ → Departed ℕ
gone a n = record { addr = a; number = n }

abbrev removed : ℕ → ℕ → List (Departed ℕ) → List (Departed ℕ)
removed = depart ipv4.same

-- so many others
abbrev crowd : ℕ → List (Departed ℕ)
crowd zero = []
crowd (suc k) = gone (1000 + k) 0 ∷ crowd k

-- deaths of B, sent once
abbrev buried : ℕ → List (Entry ℕ)
buried n = record { gossip = says Deceased B n; sends = 1; size = 32 } ∷ []

abbrev pub table : List Case
table =
    (removed B 5 [] is (gone B 5 ∷ []))
    -- "the oldest last removal first"
    ∷ (removed C 1 (gone B 5 ∷ []) is (gone B 5 ∷ gone C 1 ∷ []))
    -- "a removal of an address that is in the row moves it to the end with the greater of its number and the new ones"
    ∷ (removed B 3 (gone B 5 ∷ gone C 1 ∷ []) is (gone C 1 ∷ gone B 5 ∷ []))
    ∷ (removed B 9 (gone B 5 ∷ gone C 1 ∷ []) is (gone C 1 ∷ gone B 9 ∷ []))
    -- from the midst of it, with the others where they are
    ∷ (removed C 0 (gone B 5 ∷ gone C 1 ∷ gone own 3 ∷ []) is (gone B 5 ∷ gone own 3 ∷ gone C 1 ∷ []))
    -- "When the row is full the first makes room": 128 others, 127 others, and 127 others with B among them
    ∷ (removed B 7 (crowd 128) is (crowd 127 ++ (gone B 7 ∷ [])))
    ∷ (removed B 7 (crowd 127) is (crowd 127 ++ (gone B 7 ∷ [])))
    ∷ (removed B 7 (gone B 8 ∷ crowd 127) is (crowd 127 ++ (gone B 8 ∷ [])))
    -- "the held number and the remover's number both counted"
    ∷ (departs ipv4.same B 2 (member B state.Alive 7 ∷ []) [] is (gone B 7 ∷ []))
    ∷ (departs ipv4.same B 9 (member B state.Alive 7 ∷ []) [] is (gone B 9 ∷ []))
    -- "D is taken from the row where it has the address, else from the heap": also where the heap holds a greater one
    ∷ (death_of ipv4 true B (gone B 1 ∷ []) (buried 9) is some 1)
    ∷ (death_of ipv4 true B (gone C 1 ∷ []) (buried 9) is some 9)
    ∷ (death_of ipv4 true B [] [] is none)
    ∷ (death_of ipv4 false B (gone B 1 ∷ []) (buried 9) is some 9)
    ∷ (death_of ipv4 false B (gone B 1 ∷ []) [] is none)
    ∷ []

pub remembered : All table
unfolding make_room look_up without depart departs death_of or_else death
remembered = refl and refl and refl and refl and refl and refl and refl and refl and refl and refl and refl and refl and refl and refl and refl and end

-- the cabinet's settings but for this one
abbrev remembering : Bool → Settings
remembering on =
    record {
      ping_interval = settings.ping_interval;
      ping_timeout = settings.ping_timeout;
      ping_req_timeout = settings.ping_req_timeout;
      suspect_timeout = settings.suspect_timeout;
      ping_req_group_size = settings.ping_req_group_size;
      send_constant = settings.send_constant;
      max_selected = settings.max_selected;
      max_size = settings.max_size;
      collect = false;
      remember = on;
    }

-- own and, where it is listed, B at 2 with a timer of it at 4; no death is held
abbrev listing : Bool → List (Departed ℕ) → Node ℕ
listing on row =
    record {
      settings = remembering on;
      own = own;
      members = members (member own state.Alive 0 ∷ member B state.Suspected 2 ∷ []) (own ∷ B ∷ []) 0;
      disseminator = record { alive = []; deceased = [] };
      timers = record { addr = B; number = 4; since = 0 } ∷ [];
      departed = row;
    }

abbrev alone : Bool → List (Departed ℕ) → Node ℕ
alone on row =
    record {
      settings = remembering on;
      own = own;
      members = members (member own state.Alive 0 ∷ []) (own ∷ []) 0;
      disseminator = record { alive = []; deceased = [] };
      timers = [];
      departed = row;
    }

-- a node that holds B's death at 9
abbrev burying : Node ℕ → Node ℕ
burying s = with_disseminator s (record { alive = []; deceased = buried 9 })

-- the row that a rule leaves, and the number at which B stands then
abbrev row_of : Answer (Out ℕ) → Option (List (Departed ℕ))
row_of = of_given (λ o. o.node.departed)

abbrev stands_at : Answer (Out ℕ) → Option ℕ
stands_at = of_given (λ o. numbered ipv4 B o.node)

abbrev pub rules : List Case
rules =
    -- "a notice's number; a timer's number", whatever the setting says
    (row_of (rule_of Deceased B 3 (listing false []) []) is some (gone B 3 ∷ []))
    ∷ (row_of (end_at ipv4 0 (listing false []) []) is some (gone B 4 ∷ []))
    ∷ (row_of (end_at ipv4 0 (listing true (gone B 6 ∷ gone C 1 ∷ [])) []) is some (gone C 1 ∷ gone B 6 ∷ []))
    -- a notice that removes nobody leaves the row
    ∷ (row_of (rule_of Deceased B 1 (listing true (gone C 1 ∷ [])) []) is some (gone C 1 ∷ []))
    ∷ (row_of (rule_of Deceased B 9 (alone true (gone C 1 ∷ [])) []) is some (gone C 1 ∷ []))
    -- "an address that is listed again stays in the row"
    ∷ (row_of (rule_of Joined B 0 (alone true (gone B 5 ∷ [])) (0 ∷ [])) is some (gone B 5 ∷ []))
    -- "everywhere D plays a part": a Joined, and a Ping's sender; and nowhere with the setting off
    ∷ (stands_at (rule_of Joined B 0 (alone true (gone B 5 ∷ [])) (0 ∷ [])) is some 6)
    ∷ (stands_at (admit ipv4 B (alone true (gone B 5 ∷ [])) (0 ∷ [])) is some 6)
    ∷ (stands_at (rule_of Joined B 0 (alone false (gone B 5 ∷ [])) (0 ∷ [])) is some 0)
    ∷ (stands_at (admit ipv4 B (alone false (gone B 5 ∷ [])) (0 ∷ [])) is some 0)
    -- also of one that is listed: it is raised above D, and nothing is asked of the row with the setting off
    ∷ (stands_at (rule_of Joined B 0 (listing true (gone B 6 ∷ [])) []) is some 7)
    ∷ (stands_at (rule_of Joined B 0 (listing false (gone B 6 ∷ [])) []) is some 2)
    -- "else from the heap": the row has another
    ∷ (stands_at (rule_of Joined B 0 (burying (alone true (gone C 1 ∷ []))) (0 ∷ [])) is some 10)
    ∷ (stands_at (admit ipv4 B (burying (alone true (gone C 1 ∷ []))) (0 ∷ [])) is some 10)
    -- within one message: removed by the first record, and back above it by the second
    ∷ (stands_at (gossip ipv4 (says Deceased B 7 ∷ says Joined B 0 ∷ []) (listing true []) (0 ∷ [])) is some 8)
    ∷ []

pub by-each-rule : All rules
unfolding when swap parts_of climb_in climb push added add remove update collects cleared quiet and_more pushed emit change leave joined_at joined deceased list_after row_after news_of act item admit judge_sender fate_of end_at by_fate death or_else make_room look_up without depart departs death_of
by-each-rule = refl and refl and refl and refl and refl and refl and refl and refl and refl and refl and refl and refl and refl and refl and refl and end
