-- WHO IS REMEMBERED, OF THE PROGRAM. Of every run of calls of `swim` from the node that creation or a restart handed back: its row of the departed is what the removals of the run say,
-- and with `remember` on an address that is in it is admitted only above every number at which it was removed since it last came into it.
-- Assumes nothing.
use Rattle.std.specs.Prelude.{◌≡◌, true, false, List, [], ◌∷◌, ◌++◌, ℕ}
use Rattle.std.proofs.Math.Path.{sym}
use Rattle.std.proofs.Common.{ap, ◌∙◌}
use Rattle.std.proofs.Math.Option.{some}
use Rattle.model.specs.Departed.{gone, look_up}
use Rattle.model.specs.Node as M
use Rattle.address.specs.Here.{Addr, here, here_lawful}
use Rattle.history.specs.Moments.{Moment}
use Rattle.history.specs.Beginnings.{Beginning, own_of}
use Rattle.history.specs.Histories.{Call}
use Rattle.remembering.specs.Removals.{removals, row_by, since}
use Rattle.remembering.specs.Standing.{Takes}
use Rattle.remembering.specs.Entering.{asked}
use Rattle.remembering.proofs.Row as model
use Rattle.remembering.proofs.Counted as counted
use Rattle.remembering.specs.Counted.{times}
use Rattle.remembering.proofs.Above as above
use Rattle.remembering.specs.Above.{all_below, most}
use Rattle.remembering.proofs.Above.{greatest-since}
use Rattle.remembering.specs.Order.{lasts, newest}
use Rattle.remembering.proofs.Order.{ordered}
use Rattle.remembering.specs.Sane.{Sane}
use Rattle.remembering.proofs.Sane.{sane_row}
use Rattle.departed.specs.Views.{departed_view}
use Rattle.node.specs.declared.Node.{Node}
use Rattle.node.specs.Views.{stored_view, view_node}
use Rattle.node.specs.Rows.{loaded_view}
use Rattle.wait.specs.declared.Wait.{Wait}
use Rattle.promises.specs.Begun.{Begun}
use Rattle.promises.proofs.Begun.{begun-gave}
use Rattle.promises.specs.Runs.{Runs}
use Rattle.promises.specs.Demand3 as demand3
use Rattle.promises.proofs.Demand3 as demand3_proved
use Rattle.promises.specs.Remembered.{replay}

module _ (b : Beginning Addr) (tick : ℕ) (first : Node) (first-wait : Wait) (begun-by : Begun b tick first first-wait)
    (cs : List (Call Addr)) (node : Node) (wait : Wait) (runs : Runs first first-wait cs node wait) where
  ends : M.loaded (demand3.last b tick first first-wait begun-by cs node wait runs (own_of b)).node ≡ view_node node
  ends = (λ i. M.loaded (demand3_proved.replayed b tick first first-wait begun-by cs node wait runs (own_of b) i).node) ∙ loaded_view node

  -- "the row is exactly what the history of removals says": the row of the node that the program was handed back
  pub row_is : departed_view node.departed ≡ row_by here.same (removals here (replay b tick first first-wait begun-by cs node wait runs)) []
  unfolding view_node
  row_is = sym (ap (λ (s : M.Node Addr). s.departed) ends) ∙ model.row_is here here_lawful tick b _ (begun-gave begun-by) cs

  -- who is in it and in which order, by the addresses of the removals alone: each where it was removed last, the newest 128 of them
  pub row_ordered : gone (departed_view node.departed) ≡ newest 128 (lasts here.same (gone (removals here (replay b tick first first-wait begun-by cs node wait runs))))
  row_ordered = ap gone row_is ∙ ordered here.same here_lawful.test (removals here (replay b tick first first-wait begun-by cs node wait runs))

  -- and at which numbers: "the greatest number seen at a removal since the address last came into the row"
  pub row-greatest : (a : Addr) (d : ℕ) → look_up here.same a (departed_view node.departed) ≡ some d → most (since here.same a (removals here (replay b tick first first-wait begun-by cs node wait runs)) [] []) ≡ d
  row-greatest a d e = greatest-since here.same here_lawful.test a (removals here (replay b tick first first-wait begun-by cs node wait runs)) d (ap (look_up here.same a) (sym row_is) ∙ e)

  -- "distinct, in range, unused zero, count within 128"
  pub row_sane : Sane here (stored_view node).departed
  row_sane = sane_row here here_lawful (stored_view node) (demand3_proved.stays-sound b tick first first-wait begun-by cs node wait runs (own_of b))

  -- and the removals leave nothing out: as many as 01's ledger has departures, of every address
  pub removed_as_often : (a : Addr) → (demand3.ledger b tick first first-wait begun-by cs node wait runs a).departures ≡ times here here_lawful a (removals here (replay b tick first first-wait begun-by cs node wait runs))
  removed_as_often a = counted.removed_as_often here here_lawful a b tick _ (begun-gave begun-by) cs

  -- the number that a Joined or a Ping leaves, at every moment: by D "from the row where it has the address, else from the heap" with the setting on, with it off from the heap; of a listed address too
  pub takes_then : (ms ns : List (Moment Addr)) (m : Moment Addr) → (replay b tick first first-wait begun-by cs node wait runs) ≡ ms ++ (m ∷ ns) → Takes here m.deed m.before m.after
  takes_then ms ns m = above.takes_then here here_lawful b tick _ (begun-gave begun-by) cs ms ns m

  -- "an address that is in the row is admitted (Joined or by its Ping) only above every number at which it was removed since it last came into the row"
  pub admitted_above : (ms ns : List (Moment Addr)) (m : Moment Addr) → (replay b tick first first-wait begun-by cs node wait runs) ≡ ms ++ (m ∷ ns) → (a : Addr) (d : ℕ) → m.before.settings.remember ≡ true
      → look_up here.same a m.before.departed ≡ some d → asked m.deed ≡ true → M.lists here a m.before ≡ false → M.lists here a m.after ≡ true
      → all_below (M.numbered here a m.after) (since here.same a (removals here ms) [] []) ≡ true
  admitted_above ms ns m = above.admitted_above here here_lawful b tick _ (begun-gave begun-by) cs ms ns m
