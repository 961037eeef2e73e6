-- NO FORGED DEATH, DOWN TO THE BYTES. Hosts send what our writer wrote of the messages that they read off the answers, when and as often as they like or never; what a message call brings is what our reader gave of
-- some bytes, whoever made them. Of those bytes it is asked alone that each death they say, by address and number, is said by some bytes that a host sent: the network may lose, delay, repeat and reorder
-- datagrams, and make up any others. All that holds of the programs' cabinets holds of these.
-- Assumes nothing.
use Rattle.std.specs.Prelude.{◌≡◌, refl, true, false, ◌&&◌, List, [], ◌∷◌, ◌++◌, map, ℕ, ◌≤◌, length, take, drop, replicate}
use Rattle.std.proofs.Common.{sym, ◌∙◌, ap, subst, arith, lit≤, take_at}
use Rattle.std.proofs.lemmas.List.{length-map, length-replicate}
use Rattle.address.specs.Here.{Addr, here}
use Rattle.model.specs.Bounds.{message_records}
use Rattle.model.specs.Rows.{every}
use Rattle.model.specs.Sound.{valid_gossip}
use Rattle.model.specs.Calls.{valid_action}
use Rattle.model.specs.Words as W
use Rattle.model.specs.Node as M
use Rattle.history.specs.Histories.{Call, Add, Receive, Step, Timer, Lends}
use Rattle.cabinet.specs.Each.{Each, nil, cons, Among, here as at_first, there}
use Rattle.cabinet.proofs.Each.{among-map, each_map, each_at}
use Rattle.cabinet.specs.Cabinets.{Topic, deaths, suspicions, Turn, About, Names, Said as SaidIn, InGossip, Brings, TimedOut}
use Rattle.cabinet.proofs.Rules.{about-map}
use Rattle.types.specs.declared.Gossip.{Gossip}
use Rattle.types.specs.declared.Action.{Action}
use Rattle.types.specs.Views.{to_gossip, from_gossip, to_action, from_action, no_gossip, to_from_gossips}
use Rattle.incoming.specs.Datagram.{decode, reading_of, records_of}
use Rattle.incoming.specs.Encode.{encode}
use Rattle.outgoing.specs.Outgoing.{writing_of, row_after}
use Rattle.datagram.specs.Promises.{Reads, Writes}
use Rattle.datagram_promises.specs.Back.{AllWide}
use Rattle.datagram_promises.proofs.Back.{read_back}
use Rattle.datagram_promises.proofs.Exactly.{read_whole, read_row, write_whole}
use Rattle.node.specs.Views.{view_node}
use Rattle.promises.specs.Made.{Held, Said, Made}
use Rattle.cabinet_promises.specs.Mail.{mail}
use Rattle.cabinet_promises.proofs.Mail.{to_from_action}
use Rattle.cabinet_promises.specs.Cabinets.{Seat, lending, Began, Goes}
use Rattle.cabinet_promises.specs.Cabinets as programs
use Rattle.cabinet_promises.proofs.Cabinets as programs_proved
use Rattle.cabinet_promises.specs.Datagrams.{said_by, SaidBy, Wrote, Read, BringsBytes, Wires, rests, makes, writes}

-- ---- what was written is read
-- the records that accepted bytes say are those that the reader gave
read_is : (bytes : List ℕ) (action : Action) (records : List Gossip) → Read bytes action records → records ≡ (decode bytes).gossip
read_is bytes action records r =
    let v = (read_whole bytes r.row r.answer r.row' r.reads action r.count).0 r.whole in
    r.records_are
    ∙ (λ i. take (v.3 i) (read_row bytes r.row r.answer r.row' r.reads action r.count r.whole i))
    ∙ take_at (decode bytes).gossip _ (length (decode bytes).gossip) refl

blank_row : List Gossip
blank_row = replicate message_records no_gossip

-- whatever a host wrote our reader accepts, and gives back
pub can_read : (m : W.Message Addr) (bytes : List ℕ) (w : Wrote m bytes) → Read bytes w.action w.records
unfolding blank_row
can_read m bytes w =
    let front = take w.count w.row' in
    let reads : Reads front blank_row (reading_of front (length blank_row)) (records_of front (length blank_row) ++ drop (length (records_of front (length blank_row))) blank_row) = record { answer = refl; row = refl } in
    let back = read_back w.action w.records w.row w.answer w.row' w.writes w.wide w.count w.whole blank_row _ _ (lit≤ tt) reads in
    let r : Read front w.action w.records =
    record {
      row = blank_row;
      row' = _;
      answer = _;
      count = length w.records;
      reads = reads;
      whole = back.0;
      records_are = sym (ap (take (length w.records)) back.1 ∙ take_at w.records _ (length w.records) refl);
    } in
    subst (λ (x : List ℕ). Read x w.action w.records) (sym w.bytes_are) r

-- and the records that a host's bytes say are those of its message
pub wrote_says : (m : W.Message Addr) (bytes : List ℕ) → Wrote m bytes → said_by bytes ≡ m.gossip
wrote_says m bytes w = ap (map to_gossip) (sym (read_is bytes w.action w.records (can_read m bytes w))) ∙ w.holds

-- every message of at most 64 records, with addresses in range and numbers of 64 bits, can be written
pub can_write : (m : W.Message Addr) → length m.gossip ≤ message_records → (valid_action here m.action && every (valid_gossip here) m.gossip) ≡ true → AllWide (map from_gossip m.gossip)
    → (bytes : List ℕ) × Wrote m bytes
can_write m few ranged wide =
    let a = from_action m.action in
    let gs = map from_gossip m.gossip in
    let row : List ℕ = replicate (length (encode a gs)) 0 in
    let writes : Writes a gs row (writing_of a gs row) (row_after (writing_of a gs row) (encode a gs) row) = record { answer = refl; row = refl } in
    let count : length gs ≡ length m.gossip = length-map m.gossip from_gossip in
    let same : (valid_action here (to_action a) && every (valid_gossip here) (map to_gossip gs)) ≡ true =
    (λ i. valid_action here (to_from_action m.action i) && every (valid_gossip here) (to_from_gossips m.gossip i)) ∙ ranged in
    let room : length (encode a gs) ≤ length row = omega (arith, length-replicate {A = ℕ} (length (encode a gs)) 0) in
    let whole = (write_whole a gs row _ _ writes (length (encode a gs))).1 (omega arith, same, room, refl) in (
      take (length (encode a gs)) (row_after (writing_of a gs row) (encode a gs) row),
      record {
        action = a;
        records = gs;
        says = to_from_action m.action;
        holds = to_from_gossips m.gossip;
        wide = wide;
        row = row;
        row' = row_after (writing_of a gs row) (encode a gs) row;
        answer = writing_of a gs row;
        count = length (encode a gs);
        writes = writes;
        whole = whole;
        bytes_are = refl;
      },
    )

-- each datagram on the wire says what some message says that was read off an answer
abbrev Backed : List (W.Message Addr) → List (List ℕ) → Type 0
Backed ms wire = Each (λ bytes. Among (λ m. said_by bytes ≡ m.gossip) ms) wire

more-mail : (new ms : List (W.Message Addr)) (bytes : List ℕ) → Among (λ m. said_by bytes ≡ m.gossip) ms → Among (λ m. said_by bytes ≡ m.gossip) (new ++ ms)
more-mail [] ms bytes a = a
more-mail (x ∷ new) ms bytes a = there (more-mail new ms bytes a)

backed : {k : Topic} {first : ℕ → Seat} {h : List (Turn Addr)} {seats : ℕ → Seat} {ms : List (W.Message Addr)} {wire : List (List ℕ)} → Wires k first h seats ms wire → Backed ms wire
backed rests = nil
backed (makes {ms = ms} g j gossip events c s after b m) = each_map (λ bytes a. more-mail (mail s after) ms bytes a) (backed g)
backed (writes g bytes a) = cons (among-map (λ m w. wrote_says m bytes w) a) (backed g)

module _ (k : Topic) (ms : List (W.Message Addr)) (wire : List (List ℕ)) (back : Backed ms wire) where
  -- so what the wire says was said in a message
  was-said : (x : Addr) (n : ℕ) → SaidBy k wire x n → SaidIn k ms x n
  was-said x n a = each_at (λ bytes p q. among-map (λ m e. subst (Among (λ g. Names k x n g.event)) e q) p) back a

  brings : (c : Call Addr) → BringsBytes k c wire → Brings k c ms
  brings (Add a n ds) b = tt
  brings (Receive act gs ds lent) (bytes, action, records, read, says, holds, honest) =
      subst (InGossip k (SaidIn k ms)) (sym (ap (map to_gossip) (read_is bytes action records read)) ∙ holds) (each_map (λ g p. about-map k was-said g.event p) honest)
  brings (Step tick ds lent) b = tt
  brings (Timer tick lent) b = tt
  brings (Lends wait) b = b

-- a cabinet whose hosts exchange datagrams is one of the programs' cabinets: every theorem of those is one of it
pub wires_go : {k : Topic} {first : ℕ → Seat} {h : List (Turn Addr)} {seats : ℕ → Seat} {ms : List (W.Message Addr)} {wire : List (List ℕ)} → Wires k first h seats ms wire → Goes k first h seats ms
wires_go rests = programs.rests
wires_go {k} (makes {ms = ms} {wire = wire} g j gossip events c s after b m) = programs.makes (wires_go g) j gossip events c s after (brings k ms wire (backed g) c b) m
wires_go (writes g bytes a) = wires_go g

-- the network may bring whole datagrams as they were sent, to anyone, at any time and any number of times
pub unforged : (k : Topic) (bytes : List ℕ) (wire : List (List ℕ)) → Among (λ b. b ≡ bytes) wire → InGossip k (SaidBy k wire) (said_by bytes)
unforged k bytes wire a = all (said_by bytes) (λ g i. among-map (λ b e. subst (λ (y : List ℕ). Among (λ g'. g' ≡ g) (said_by y)) (sym e) i) a)
  where
    one : (l : Topic) (e : W.Event Addr) → Among (λ b. Among (λ g. g.event ≡ e) (said_by b)) wire → About l (SaidBy l wire) e
    one deaths W.Nothing b = tt
    one deaths (W.Joined f x n) b = tt
    one deaths (W.Recovered f x n) b = tt
    one deaths (W.Suspected f x n) b = tt
    one deaths (W.Deceased f x n) b = among-map (λ m c. among-map (λ g q. (f, q)) c) b
    one suspicions W.Nothing b = tt
    one suspicions (W.Joined f x n) b = tt
    one suspicions (W.Recovered f x n) b = tt
    one suspicions (W.Suspected f x n) b = among-map (λ m c. among-map (λ g q. (f, q)) c) b
    one suspicions (W.Deceased f x n) b = tt

    all : (gs : List (W.Gossip Addr)) → ((g : W.Gossip Addr) → Among (λ g'. g' ≡ g) gs → Among (λ b. Among (λ g'. g' ≡ g) (said_by b)) wire) → InGossip k (SaidBy k wire) gs
    all [] f = nil
    all (g ∷ gs) f = cons (one k g.event (among-map (λ m c. among-map (λ g' q. ap (λ (y : W.Gossip Addr). y.event) q) c) (f g (at_first refl)))) (all gs (λ g' i. f g' (there i)))

module _ (first : ℕ → Seat) (began : (j : ℕ) → Began (first j)) {h : List (Turn Addr)} {seats : ℕ → Seat} {ms : List (W.Message Addr)} {wire : List (List ℕ)} (g : Wires deaths first h seats ms wire) where
  abbrev Dead : Addr → ℕ → Type 0
  Dead = TimedOut here (programs.begins first) h

  -- each death that a datagram says which a host sent has timed out
  pub on_the_wire : Each (λ bytes. InGossip deaths Dead (said_by bytes)) wire
  on_the_wire =
      each_map (λ bytes a. each_at (λ m p e. subst (InGossip deaths (TimedOut here (programs.begins first) h)) (sym e) p) (programs_proved.on_its_way first began (wires_go g)) a) (backed g)

  -- whoever is listed in a controller's node before a further call, and isn't in the node that it handed back, has timed out, at it or before it
  pub strikes : (j : ℕ) (gossip events : List Gossip) (c : Call Addr) (s : Said) (after : Held) → BringsBytes deaths c wire → Made (lending (seats j) gossip events) c s after
      → (a : Addr) → M.lists here a (view_node (seats j).node) ≡ true → M.lists here a (view_node after.node) ≡ false
      → (n : ℕ) × TimedOut here (programs.begins first) (record { who = j; call = c } ∷ h) a n
  strikes j gossip events c s after b m = programs_proved.strikes first began (wires_go g) j gossip events c s after (brings deaths ms wire (backed g) c b) m
