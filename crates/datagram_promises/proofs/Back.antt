-- READING WHAT WAS WRITTEN GIVES THE ACTION AND ITS RECORDS BACK, by any two calls; and each input has one result.
-- Assumes nothing.
use Rattle.std.specs.Prelude.{◌≡◌, true, List, [], ◌∷◌, ◌++◌, map, ℕ, ◌≤◌, length, take, drop}
use Rattle.std.proofs.Common.{ap, sym, ◌∙◌, subst}
use Rattle.model.specs.Bounds.{message_records}
use Rattle.model.specs.Rows.{every}
use Rattle.model.specs.Words.{parts_of}
use Rattle.model.specs.Sound.{valid_gossip}
use Rattle.model.specs.Calls.{valid_action}
use Rattle.laws.specs.Bools.{and_split}
use Rattle.address.specs.Here.{here}
use Rattle.types.specs.declared.Action.{Action}
use Rattle.types.specs.declared.Action.TheVariants.{Ping, PingReq, Ack}
use Rattle.types.specs.declared.Event.{Event}
use Rattle.types.specs.declared.Event.TheVariants.{Nothing, Joined, Recovered, Suspected, Deceased}
use Rattle.types.specs.declared.Gossip.{Gossip}
use Rattle.types.specs.declared.Optional.TheVariants as optional
use Rattle.types.specs.Views.{to_gossip, to_action}
use Rattle.incoming.specs.declared.Reading.{Reading}
use Rattle.incoming.specs.declared.Reading.TheVariants as reading
use Rattle.incoming.specs.Datagram.{decode}
use Rattle.incoming.specs.Encode.{encode}
use Rattle.incoming.specs.Back.{Fit, Fits, none as no-gossip, more as one_more, FitOther, FitAction, Says, decode-encode}
use Rattle.outgoing.specs.declared.Writing.{Writing}
use Rattle.outgoing.specs.declared.Writing.TheVariants as writing
use Rattle.datagram.specs.Promises.{Reads, Writes}
use Rattle.datagram_promises.proofs.Exactly.{read_whole, read_row, write_whole, write_bytes}
use Rattle.datagram_promises.specs.Back.{Wide, AllWide, none, more}

fit : (e : Event) → valid_gossip here (to_gossip (record { event = e })) ≡ true → Wide (record { event = e }) → Fit e
unfolding valid_gossip Wide Fit parts_of
fit Nothing v w = tt
fit (Joined f s n) v w = let p = and_split (here.valid f) (here.valid s) v in (p.0, p.1, w)
fit (Recovered f s n) v w = let p = and_split (here.valid f) (here.valid s) v in (p.0, p.1, w)
fit (Suspected f s n) v w = let p = and_split (here.valid f) (here.valid s) v in (p.0, p.1, w)
fit (Deceased f s n) v w = let p = and_split (here.valid f) (here.valid s) v in (p.0, p.1, w)

fits : (gs : List Gossip) → every (valid_gossip here) (map to_gossip gs) ≡ true → AllWide gs → Fits gs
fits [] v none = no-gossip
fits (g ∷ gs) v (more w ws) = let p = and_split (valid_gossip here (to_gossip g)) (every (valid_gossip here) (map to_gossip gs)) v in one_more (fit g.event p.0 w) (fits gs p.1 ws)

fit_action : (a : Action) → valid_action here (to_action a) ≡ true → FitAction a
unfolding valid_action FitAction FitOther
fit_action (Ping f optional.Absent) v = ((and_split (here.valid f) true v).0, tt)
fit_action (Ping f (optional.Given b)) v = and_split (here.valid f) (here.valid b) v
fit_action (PingReq f s) v = and_split (here.valid f) (here.valid s) v
fit_action (Ack f optional.Absent) v = ((and_split (here.valid f) true v).0, tt)
fit_action (Ack f (optional.Given b)) v = and_split (here.valid f) (here.valid b) v

-- n bytes were written; whoever reads them into a row of 64 places or more is told the action and given its records
pub read_back : (a : Action) (gs : List Gossip) (out : List ℕ) (r : Writing) (out' : List ℕ) → Writes a gs out r out' → AllWide gs → (n : ℕ) → r ≡ writing.Whole n
    → (lent : List Gossip) (s : Reading) (lent' : List Gossip) → message_records ≤ length lent → Reads (take n out') lent s lent'
    → (s ≡ reading.Whole a (length gs)) × (lent' ≡ gs ++ drop (length gs) lent)
read_back a gs out r out' wrote wide n e lent s lent' room reads =
    let w = (write_whole a gs out r out' wrote n).0 e in
    let b : take n out' ≡ encode a gs = (write_bytes a gs out r out' wrote n e).0 in
    let v = and_split (valid_action here (to_action a)) (every (valid_gossip here) (map to_gossip gs)) w.1 in
    let d : Says (decode (take n out')) a gs = subst (λ (l : List ℕ). Says (decode l) a gs) (sym b) (decode-encode a gs (fit_action a v.0) (fits gs v.1 wide) w.0) in
    let c : length gs ≡ length (decode (take n out')).gossip = ap (λ (l : List Gossip). length l) (sym d.gossip) in
    let few : length (decode (take n out')).gossip ≤ message_records = subst (λ (k : ℕ). k ≤ message_records) c w.0 in
    let q : s ≡ reading.Whole a (length gs) = (read_whole (take n out') lent s lent' reads a (length gs)).1 (room, d.action, few, c) in
    (q, read_row (take n out') lent s lent' reads a (length gs) q ∙ ap (λ (l : List Gossip). l ++ drop (length l) lent) d.gossip)

-- UNIQUENESS: two results that meet the contract for the same input are equal
pub read_unique : (bytes : List ℕ) (lent : List Gossip) (r r' : Reading) (l l' : List Gossip) → Reads bytes lent r l → Reads bytes lent r' l' → (r ≡ r') × (l ≡ l')
read_unique bytes lent r r' l l' c c' = (c.answer ∙ sym c'.answer, c.row ∙ sym c'.row)

pub write_unique : (a : Action) (gs : List Gossip) (out : List ℕ) (r r' : Writing) (o o' : List ℕ) → Writes a gs out r o → Writes a gs out r' o' → (r ≡ r') × (o ≡ o')
write_unique a gs out r r' o o' c c' = (c.answer ∙ sym c'.answer, c.row ∙ sym c'.row)
