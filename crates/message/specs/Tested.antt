-- The tests of a message call in their order, and what each of them gives.
-- Assumes nothing.
use Rattle.std.specs.Prelude.{◌≡◌, Bool, true, false, ◌&&◌, List, [], ◌∷◌, ◌++◌, map, ℕ, ◌-◌, ◌≤◌, ◌<◌, ltb}
use Rattle.std.proofs.Common.{ap, ◌∙◌, append-nil, arith, lt-ltb, le-ltb}
use Rattle.std.proofs.Math.Path.{sym}
use Rattle.std.proofs.Math.Bool.{not}
use lib.ListN.{length, take, replicate, length-append, length-replicate, length-map}
use Rattle.model.specs.declared.Refusal.{Refusal}
use Rattle.model.specs.declared.Refusal.TheVariants.{Unsound, ShortRow, ManyRecords, AddressRange}
use Rattle.model.specs.declared.Reply.TheVariants.{Refused}
use Rattle.model.specs.Bounds.{Room}
use Rattle.model.specs.Rows.{every}
use Rattle.address.specs.Here.{Addr, here}
use Rattle.model.specs.Words as W
use Rattle.model.specs.Node as M
use Rattle.model.specs.Handler as handler
use Rattle.model.specs.Sound.{sound, valid_gossip}
use Rattle.model.specs.Calls as calls
use Rattle.types.specs.declared.Gossip.{Gossip}
use Rattle.types.specs.Views.{to_gossip}
use Rattle.node.specs.declared.Node.{Node}
use Rattle.node.specs.Views.{view_node, stored_view}
use Rattle.node.specs.Rows.{loaded_view}
use Rattle.node.specs.Ends.{test_fails, test_passes}
use Rattle.message.specs.Answers.{refused_received, received_of, lent_rows}
use Rattle.message.specs.Outcomes.{refused_is}

-- how many records are lent
pub lent-count : (rows : List Gossip) (given : ℕ) → length rows ≡ 64 → length (lent_rows rows given) ≡ given
unfolding lent_rows
lent-count rows given long =
    length-append (map to_gossip (take given rows)) (replicate (given - 64) W.nothing)
    ∙ omega (arith, length-map (take given rows) to_gossip, length-replicate (given - 64) (W.nothing {A = Addr}), lib.ListN.length-take given rows)

-- no more than 64 are lent: they are the first of the row
pub lent_few : (rows : List Gossip) (given : ℕ) → given ≤ 64 → lent_rows rows given ≡ map to_gossip (take given rows)
unfolding lent_rows
lent_few rows given few =
    let k : given - 64 ≡ 0 = omega arith in
    ap (λ (k : ℕ). map to_gossip (take given rows) ++ replicate k W.nothing) k ∙ append-nil (map to_gossip (take given rows))

module _ (n : Node) (action : W.Action Addr) (rows : List Gossip) (given : ℕ) (draws : List ℕ) (lent : Room) (long : length rows ≡ 64) where
  abbrev s : M.Stored Addr
  s = stored_view n

  abbrev gs : List (W.Gossip Addr)
  gs = lent_rows rows given

  -- the rules on some records and a node
  abbrev ruled : List (W.Gossip Addr) → M.Node Addr → calls.Outcome Addr
  ruled l m = calls.kept_message here s (handler.stops_at here l m draws) draws (handler.handle here action l m draws)

  abbrev go : calls.Outcome Addr
  go = ruled gs (M.loaded s)

  abbrev one : Bool × Refusal
  one = (not (sound here s), Unsound)

  abbrev two : Bool × Refusal
  two = (calls.short Rattle.model.specs.Bounds.message_room lent, ShortRow)

  abbrev three : Bool × Refusal
  three = (ltb 64 (length gs), ManyRecords)

  abbrev four : Bool × Refusal
  four = (not (calls.valid_action here action && every (valid_gossip here) gs), AddressRange)

  abbrev whole : calls.Outcome Addr
  whole = calls.message here s action gs draws lent

  pub not_sound : sound here s ≡ false → refused_received n (Refused Unsound) ≡ received_of whole
  unfolding calls.message
  not_sound e = refused_is n (Refused Unsound) ∙ sym (ap received_of (test_fails one (two ∷ three ∷ four ∷ []) (calls.refuses s) go (ap not e)))

  module _ (e : sound here s ≡ true) where
    pub row-short : calls.short Rattle.model.specs.Bounds.message_room lent ≡ true → refused_received n (Refused ShortRow) ≡ received_of whole
    unfolding calls.message
    row-short p =
        refused_is n (Refused ShortRow)
        ∙ sym (ap received_of (test_passes one (two ∷ three ∷ four ∷ []) (calls.refuses s) go (ap not e) ∙ test_fails two (three ∷ four ∷ []) (calls.refuses s) go p))

    module _ (p : calls.short Rattle.model.specs.Bounds.message_room lent ≡ false) where
      pub too_many : 64 < given → refused_received n (Refused ManyRecords) ≡ received_of whole
      unfolding calls.message
      too_many h =
          refused_is n (Refused ManyRecords)
          ∙ sym
          (ap received_of
          (test_passes one (two ∷ three ∷ four ∷ []) (calls.refuses s) go (ap not e)
          ∙ test_passes two (three ∷ four ∷ []) (calls.refuses s) go p
          ∙ test_fails three (four ∷ []) (calls.refuses s) go (lt-ltb 64 (length gs) (omega (arith, lent-count rows given long)))))

      module _ (h : given ≤ 64) where
        passed : whole ≡ calls.first_of (four ∷ []) (calls.refuses s) go
        unfolding calls.message
        passed =
            test_passes one (two ∷ three ∷ four ∷ []) (calls.refuses s) go (ap not e)
            ∙ test_passes two (three ∷ four ∷ []) (calls.refuses s) go p
            ∙ test_passes three (four ∷ []) (calls.refuses s) go (le-ltb 64 (length gs) (omega (arith, lent-count rows given long)))

        pub out_of_range : (calls.valid_action here action && every (valid_gossip here) (map to_gossip (take given rows))) ≡ false → refused_received n (Refused AddressRange) ≡ received_of whole
        out_of_range v =
            refused_is n (Refused AddressRange)
            ∙ sym (ap received_of (passed ∙ test_fails four [] (calls.refuses s) go (ap (λ (l : List (W.Gossip Addr)). not (calls.valid_action here action && every (valid_gossip here) l)) (lent_few rows given h) ∙ ap not v)))

        pub in-range : (calls.valid_action here action && every (valid_gossip here) (map to_gossip (take given rows))) ≡ true
            → received_of (ruled (map to_gossip (take given rows)) (view_node n)) ≡ received_of whole
        in-range v =
            sym
            (ap received_of
            (passed
            ∙ test_passes four [] (calls.refuses s) go (ap (λ (l : List (W.Gossip Addr)). not (calls.valid_action here action && every (valid_gossip here) l)) (lent_few rows given h) ∙ ap not v)
            ∙ ap (λ (l : List (W.Gossip Addr)). ruled l (M.loaded s)) (lent_few rows given h)
            ∙ ap (λ (m : M.Node Addr). ruled (map to_gossip (take given rows)) m) (loaded_view n)))
