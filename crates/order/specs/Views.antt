-- How a row of 64 places carries the rules of the probing order, and the words of its contracts.
-- Assumes nothing.
use Rattle.std.specs.Prelude.{◌≡◌, Bool, false, List, [], ◌++◌, ℕ, ◌+◌, ◌-◌, ◌≤◌, length, take, drop, set, ltb, eqb}
use Rattle.std.proofs.Math.Option.{Option, none, some}
use Rattle.model.specs.declared.Refusal.{Refusal}
use Rattle.model.specs.Answers.{Answer, done, refused}
use Rattle.address.specs.Here.{Addr, here}
use Rattle.model.specs.Rows.{pick, pad_to}
use Rattle.model.specs.Members as list
use Rattle.model.specs.declared.Drew.{Drew}
use Rattle.model.specs.declared.Drew.TheVariants.{Used, Refused}
use Rattle.order.specs.declared.Shuffled.{Shuffled}
use Rattle.order.specs.declared.Order.{Order}
use Rattle.order.specs.declared.Turned.{Turned}
use Rattle.order.specs.declared.Exclusion.{Exclusion}
use Rattle.order.specs.declared.Exclusion.TheVariants.{Nobody, Peer}
use Rattle.order.specs.declared.Picks.{Picks}
use Rattle.order.specs.declared.Picked.{Picked}

-- how a rule's answer counts its draws, of which k were there
abbrev pub drew_of : {B : Type 0} → ℕ → Answer B → Drew
drew_of k (refused r) = Refused r
drew_of k (done b rest) = Used (k - length rest)

-- a shuffle of the first n, whose answer stands in a row; the places behind stay as they are
abbrev pub shuffled_row : List Addr → ℕ → Answer (List Addr) → List Addr
shuffled_row row n (refused r) = row
shuffled_row row n (done l rest) = l ++ drop n row

abbrev pub shuffled_as : List Addr → ℕ → ℕ → Answer (List Addr) → Shuffled
shuffled_as row n k x = record { row = shuffled_row row n x; drew = drew_of k x }

abbrev pub shuffled_of : List Addr → ℕ → List ℕ → ℕ → Shuffled
shuffled_of row n draws from = shuffled_as row n (length draws - from) (list.shuffle here.blank (take n row) (drop from draws))

-- an order of n addresses whose position is a place of it, or 0
pub record Ready (order : Order) (n : ℕ) : Type 0 where
  pub few : n ≤ 64
  pub long : length order.row ≡ 64
  pub place : order.position ≤ n - 1

-- the order as a list of the rules: its table is not read
abbrev pub view_order : Order → ℕ → list.Members Addr
view_order o n = record { table = []; order = take n o.row; position = o.position }

abbrev pub pack_order : Order → ℕ → list.Members Addr → Order
pack_order o n m = record { row = m.order ++ drop n o.row; position = m.position }

abbrev pub turned_order : Order → ℕ → Answer (list.Members Addr) → Order
turned_order o n (refused r) = o
turned_order o n (done m rest) = pack_order o n m

abbrev pub turned_as : Order → ℕ → ℕ → Answer (list.Members Addr) → Turned
turned_as o n k x = record { order = turned_order o n x; drew = drew_of k x }

abbrev pub turned_of : Order → ℕ → List ℕ → ℕ → Turned
turned_of o n draws from = turned_as o n (length draws - from) (list.advance here.blank (view_order o n) (drop from draws))

abbrev pub excluded : Exclusion → Option Addr
excluded Nobody = none
excluded (Peer e) = some e

abbrev pub picks_of : List Addr → Picks
picks_of l = record { row = pad_to 4 here.blank l; count = length l }

abbrev pub noted_of : Picks → Addr → Bool → Picks
noted_of p x over = pick over p (record { row = set p.row p.count x; count = p.count + 1 })

abbrev pub goes_further : ℕ → ℕ → ℕ → Bool
goes_further left count wanted = pick (eqb left 0) false (ltb count wanted)

abbrev pub picked_order : Order → ℕ → Answer (list.Picked Addr) → Order
picked_order o n (refused r) = o
picked_order o n (done p rest) = pack_order o n p.members

abbrev pub picked_row : Answer (list.Picked Addr) → Picks
picked_row (refused r) = picks_of []
picked_row (done p rest) = picks_of p.picks

abbrev pub picked_as : Order → ℕ → ℕ → Answer (list.Picked Addr) → Picked
picked_as o n k x = record { order = picked_order o n x; picks = picked_row x; drew = drew_of k x }

abbrev pub refused_pick : Order → Refusal → Picked
refused_pick o r = record { order = o; picks = picks_of []; drew = Refused r }

abbrev pub picked_of : Order → ℕ → Addr → Exclusion → ℕ → List ℕ → ℕ → Picked
picked_of o n own e wanted draws from =
    picked_as o n (length draws - from) (list.pick_from here.same here.blank own (excluded e) wanted (view_order o n) (drop from draws))
