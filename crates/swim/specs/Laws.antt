-- From the calls by value, in arrays, to the calls over lent rows.
-- Assumes nothing.
use Rattle.std.proofs.Math.Path.{◌≡◌, ap}
use Rattle.std.specs.Prelude.{refl, Bool, not, ◌&&◌, ℕ, ◌-◌, ◌≤◌, ◌<◌, ltb}
use Rattle.std.proofs.Common.{sym, ◌∙◌, take_at, take_all}
use Rattle.std.proofs.Math.Bool.{true, false}
use mathlib.Core.List.{List, [], ◌∷◌, ◌++◌, map, append-nil}
use native.Mathlib.Omega.{arith}
use Rattle.std.proofs.Math.ListN.{length, take, drop, replicate, length-map, length-append, length-replicate, length-take}
use Rattle.std.proofs.Math.Seq.{take-append_seam}
use borrow.Author.Tests.{ltb-true, ltb-false, lt-ltb}
use Rattle.model.specs.declared.Refusal.{Refusal}
use Rattle.model.specs.declared.Refusal.TheVariants.{Unsound, ShortRow, ManyRecords, AddressRange}
use Rattle.model.specs.Rows.{pad_to, every}
use Rattle.model.specs.Bounds.{Room, message_room}
use Rattle.laws.specs.Bools.{drop-map}
use Rattle.laws.specs.Lists.{map-append}
use Rattle.address.specs.Here.{Addr, here}
use Rattle.model.specs.Words as W
use Rattle.model.specs.Node as M
use Rattle.model.specs.Sound.{sound, valid_gossip}
use Rattle.model.specs.Handler.{handle, stops_at}
use Rattle.model.specs.Calls as calls
use Rattle.types.specs.declared.Gossip.{Gossip}
use Rattle.types.specs.Views.{to_gossip, from_gossip, no_gossip, from_to_gossips}
use Rattle.message.specs.declared.Received.{Received}
use Rattle.message.specs.Answers.{received_of, lent_rows}
use Rattle.wait.specs.declared.Stepped.{Stepped}
use Rattle.timer_call.specs.declared.Ended.{Ended}
use Rattle.wait.specs.Views.{stepped_of, from_wait}
use Rattle.timer_call.specs.Views.{ended_of}
use Rattle.swim.specs.declared.Outcome.{Outcome}
use Rattle.swim.specs.Promises.{outcome_of, row_after, Ends}

-- the records of a padded array, written over a lent row
pub row-after : (n : ℕ) (gs : List (W.Gossip Addr)) (lent : List Gossip) → take (length gs) (pad_to n no_gossip (map from_gossip gs)) ++ drop (length gs) lent ≡ row_after gs lent
unfolding row_after
row-after n gs lent =
    let spoken : List Gossip = map from_gossip gs in
    let rest : map from_gossip (drop (length gs) (map to_gossip lent)) ≡ drop (length gs) lent =
    sym (drop-map from_gossip (length gs) (map to_gossip lent)) ∙ ap (drop (length gs)) (from_to_gossips lent) in
    (λ i. take_at spoken (replicate (n - length spoken) no_gossip) (length gs) (length-map gs from_gossip) i ++ sym rest i)
    ∙ sym (map-append from_gossip gs (drop (length gs) (map to_gossip lent)))

-- the third test fails, whatever comes after it
third : {B : Type 0} (a b : Bool) (r r' r'' : Refusal) (ts ts' : List (Bool × Refusal)) (refuse : Refusal → B) (go go' : B)
    → calls.first_of ((a, r) ∷ (b, r') ∷ (true, r'') ∷ ts) refuse go ≡ calls.first_of ((a, r) ∷ (b, r') ∷ (true, r'') ∷ ts') refuse go'
third true b r r' r'' ts ts' refuse go go' = refl
third false true r r' r'' ts ts' refuse go go' = refl
third false false r r' r'' ts ts' refuse go go' = refl

module _ (s : M.Stored Addr) (action : W.Action Addr) (ds : List ℕ) (lent : Room) where
  -- of more than 64 records, only how many there are plays a part: 4 comes before 5
  many : (gs gs' : List (W.Gossip Addr)) → 64 < length gs → 64 < length gs' → calls.message here s action gs ds lent ≡ calls.message here s action gs' ds lent
  unfolding calls.message
  many gs gs' m m' =
      (λ i. calls.first_of (tests (lt-ltb 64 (length gs) m i) gs) (calls.refuses s) (go gs))
      ∙ third (not (sound here s)) (calls.short message_room lent) Unsound ShortRow ManyRecords (after gs) (after gs') (calls.refuses s) (go gs) (go gs')
      ∙ (λ i. calls.first_of (tests (sym (lt-ltb 64 (length gs') m') i) gs') (calls.refuses s) (go gs'))
    where
      go : List (W.Gossip Addr) → calls.Outcome Addr
      go gs = calls.kept_message here s (stops_at here gs (M.loaded s) ds) ds (handle here action gs (M.loaded s) ds)

      after : List (W.Gossip Addr) → List (Bool × Refusal)
      after gs = (not (calls.valid_action here action && every (valid_gossip here) gs), AddressRange) ∷ []

      tests : Bool → List (W.Gossip Addr) → List (Bool × Refusal)
      tests t gs = (not (sound here s), Unsound) ∷ (calls.short message_room lent, ShortRow) ∷ (t, ManyRecords) ∷ after gs

  -- the array holds all that matters of a lent row
  whole : (ys : List Gossip) (t : Bool) → ltb 64 (length ys) ≡ t
      → calls.message here s action (lent_rows (pad_to 64 no_gossip (take 64 ys)) (length ys)) ds lent ≡ calls.message here s action (map to_gossip ys) ds lent
  unfolding lent_rows
  whole ys true e =
      let m : 64 < length ys = ltb-true 64 (length ys) e in
      let first : List Gossip = pad_to 64 no_gossip (take 64 ys) in
      let long : length (map to_gossip (take (length ys) first) ++ replicate (length ys - 64) (W.nothing {A = Addr})) ≡ length ys =
      length-append (map to_gossip (take (length ys) first)) (replicate (length ys - 64) W.nothing)
      ∙ omega (
        arith,
        m,
        length-map (take (length ys) first) to_gossip,
        length-replicate (length ys - 64) (W.nothing {A = Addr}),
        length-take (length ys) first,
        length-append (take 64 ys) (replicate (64 - length (take 64 ys)) no_gossip),
        length-replicate (64 - length (take 64 ys)) no_gossip,
        length-take 64 ys,
      ) in
      many _ (map to_gossip ys) (omega (arith, m, long)) (omega (arith, m, length-map ys to_gossip))
  whole ys false e =
      let few : length ys ≤ 64 = ltb-false 64 (length ys) e in
      let none_left : ◌≡◌ {A = ℕ} (length ys - 64) 0 = omega (arith, few) in
      let all : take (length ys) (pad_to 64 no_gossip (take 64 ys)) ≡ ys =
      ap (λ (l : List Gossip). take (length ys) (pad_to 64 no_gossip l)) (take_all 64 ys few) ∙ take-append_seam ys (replicate (64 - length ys) no_gossip) in
      (λ i. calls.message here s action (map to_gossip (all i) ++ replicate (none_left i) W.nothing) ds lent)
      ∙ ap (λ (gs : List (W.Gossip Addr)). calls.message here s action gs ds lent) (append-nil (map to_gossip ys))

  pub lent-message : (ys : List Gossip)
      → calls.message here s action (lent_rows (pad_to 64 no_gossip (take 64 ys)) (length ys)) ds lent ≡ calls.message here s action (map to_gossip ys) ds lent
  lent-message ys = whole ys (ltb 64 (length ys)) refl

-- what a call by value gives ends as its outcome says, once its records are written over the lent rows
module _ (gossip events ws us : List Gossip) where
  pub received_ends : (o : calls.Outcome Addr) (d : Received) → d ≡ received_of o → ws ≡ take d.written d.gossip ++ drop d.written gossip
      → us ≡ take d.reported d.events ++ drop d.reported events → Ends o gossip events (record { answer = d.answer; reported = d.reported }) ws us
  unfolding received_of outcome_of
  received_ends o d e ew eu =
      record {
        answer = λ i. record { answer = (e i).answer; reported = (e i).reported };
        spoken = ew ∙ (λ i. take (e i).written (e i).gossip ++ drop (e i).written gossip) ∙ row-after 64 (calls.packed o.messages) gossip;
        told = eu ∙ (λ i. take (e i).reported (e i).events ++ drop (e i).reported events) ∙ row-after 65 o.events events;
      }

  pub stepped-ends : (o : calls.StepOutcome Addr) (d : Stepped) → d ≡ stepped_of o → ws ≡ take d.written d.gossip ++ drop d.written gossip
      → us ≡ take d.reported d.events ++ drop d.reported events → Ends o.outcome gossip events (record { answer = d.answer; reported = d.reported }) ws us
  unfolding stepped_of outcome_of
  stepped-ends o d e ew eu =
      record {
        answer = λ i. record { answer = (e i).answer; reported = (e i).reported };
        spoken = ew ∙ (λ i. take (e i).written (e i).gossip ++ drop (e i).written gossip) ∙ row-after 256 (calls.packed o.outcome.messages) gossip;
        told = eu ∙ (λ i. take (e i).reported (e i).events ++ drop (e i).reported events) ∙ row-after 1 o.outcome.events events;
      }

pub stepped-waits : (o : calls.StepOutcome Addr) (d : Stepped) → d ≡ stepped_of o → d.wait ≡ from_wait o.wait
unfolding stepped_of
stepped-waits o d e = λ i. (e i).wait

module _ (events us : List Gossip) where
  pub ended-answer : (o : calls.Outcome Addr) (d : Ended) → d ≡ ended_of o → record { answer = d.answer; reported = d.reported } ≡ outcome_of o
  unfolding ended_of outcome_of
  ended-answer o d e = λ i. record { answer = (e i).answer; reported = (e i).reported }

  pub ended-told : (o : calls.Outcome Addr) (d : Ended) → d ≡ ended_of o → us ≡ take d.reported d.events ++ drop d.reported events → us ≡ row_after o.events events
  unfolding ended_of
  ended-told o d e eu = eu ∙ (λ i. take (e i).reported (e i).events ++ drop (e i).reported events) ∙ row-after 1 o.events events
