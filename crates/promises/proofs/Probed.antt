-- NOBODY IS LEFT UNPROBED, of the program's own pings: in a stretch of a run of its calls in which nobody comes or goes and no ping request runs, 2n − 1 pings reach each of n peers,
-- each by a letter that one of the calls answered with.
-- Assumes nothing.
use Rattle.std.specs.Prelude.{◌≡◌, refl, true, false, List, [], ◌∷◌, ◌++◌, map, ℕ, ◌+◌, ◌-◌, ◌*◌, ◌≤◌, length}
use Rattle.std.proofs.Common.{ap, sym, ◌∙◌, subst, inl, inr, ⊎_elim}
use Rattle.std.proofs.Math.Option.{none, some}
use Rattle.address.specs.Here.{Addr, here, here_lawful}
use Rattle.model.specs.Rows.{has}
use Rattle.model.specs.Words as W
use Rattle.model.specs.Node as M
use Rattle.history.proofs.Rules.{never}
use Rattle.history.specs.Beginnings.{Beginning, own_of}
use Rattle.history.specs.Histories.{World, Call, outcome, trace}
use Rattle.types.specs.Views.{to_action, from_action}
use Rattle.node.specs.declared.Node.{Node}
use Rattle.node.specs.declared.Letter.{Letter}
use Rattle.node.specs.Rows.{loaded_view}
use Rattle.node.specs.Views.{view_node, from_message}
use Rattle.wait.specs.declared.Wait.{Wait}
use Rattle.probing.specs.Still.{NobodyMoves}
use Rattle.probing.specs.Stretch.{pings, pinged, pings_of, requests_of, pinged_along}
use Rattle.probing.proofs.Sent.{has_either, first-pings}
use Rattle.probing.proofs.Pinged as model
use Rattle.promises.specs.Begun.{Begun}
use Rattle.promises.proofs.Begun.{begun-gave}
use Rattle.promises.specs.Runs.{world, seen, Runs, rests, makes}
use Rattle.promises.proofs.Runs.{made_is}
use Rattle.promises.proofs.Demand3.{replayed}
use Rattle.promises.specs.Probed.{pinged_in, pinged_in_run, PingAmong, PingSent}

to_from_action : (a : W.Action Addr) → to_action (from_action a) ≡ a
to_from_action (W.Ping f none) = refl
to_from_action (W.Ping f (some x)) = refl
to_from_action (W.PingReq f s) = refl
to_from_action (W.Ack f none) = refl
to_from_action (W.Ack f (some x)) = refl

letters_ping : (ms : List (W.Message Addr)) → pinged_in (map from_message ms) ≡ pinged ms
letters_ping [] = refl
letters_ping (m ∷ ms) = λ i. pings (to_from_action m.action i) m.target ++ letters_ping ms i

run-pings : {n n' : Node} {w w' : Wait} {cs : List (Call Addr)} (runs : Runs n w cs n' w') → pinged_in_run runs ≡ pinged_along here cs (world n w)
run-pings (rests n w) = refl
run-pings (makes {cs = cs} h c s h' m rest) =
    let v = made_is h c s h' m in
    let now = ap pinged_in v.letters ∙ letters_ping (outcome here c (seen h)).outcome.messages in
    let later = run-pings rest ∙ ap (pinged_along here cs) v.world in
    λ i. now i ++ later i

ping_among : (a : Addr) (ls : List Letter) → has here.same a (pinged_in ls) ≡ true → PingAmong a ls
ping_among a [] e = never e
ping_among a (l ∷ ls) e = ⊎_elim (λ p. inl p) (λ h. inr (ping_among a ls h)) (first-pings here.same here_lawful.test a (to_action l.action) l.target (pinged_in ls) e)

ping_sent : (a : Addr) {n n' : Node} {w w' : Wait} {cs : List (Call Addr)} (runs : Runs n w cs n' w') → has here.same a (pinged_in_run runs) ≡ true → PingSent a runs
ping_sent a (rests n w) e = never e
ping_sent a (makes h c s h' m rest) e =
    ⊎_elim (λ p. inl (ping_among a s.letters p)) (λ p. inr (ping_sent a rest p)) (has_either here.same here_lawful.test a (pinged_in s.letters) (pinged_in_run rest) e)

module _ (b : Beginning Addr) (tick : ℕ) (first : Node) (first-wait : Wait) (begun-by : Begun b tick first first-wait)
    (cs : List (Call Addr)) (node : Node) (wait : Wait) (runs : Runs first first-wait cs node wait) where
  abbrev own : Addr
  own = own_of b

  -- the stretch begins at any node of the run: own address and n peers are listed in it
  among-pinged : (stretch : List (Call Addr)) (node' : Node) (wait' : Wait) (rest : Runs node wait stretch node' wait') (n : ℕ) (a : Addr) → length (view_node node).members.table ≡ n + 1
      → M.lists here own (view_node node) ≡ true → M.lists here a (view_node node) ≡ true → here.same own a ≡ false
      → NobodyMoves here (trace here stretch (world node wait)) → requests_of here stretch (world node wait) ≡ 0 → 2 * n - 1 ≤ pings_of here stretch (world node wait)
      → has here.same a (pinged_in_run rest) ≡ true
  among-pinged stretch node' wait' rest n a many mine there other nobody none-asked enough =
      ap (has here.same a) (run-pings rest)
      ∙ subst (λ (w : World Addr). M.loaded w.node ≡ view_node node → NobodyMoves here (trace here stretch w) → requests_of here stretch w ≡ 0 → 2 * n - 1 ≤ pings_of here stretch w
      → has here.same a (pinged_along here stretch w) ≡ true)
      (replayed b tick first first-wait begun-by cs node wait runs a)
      (λ e.
      model.nobody_unprobed here here_lawful b tick _ (begun-gave begun-by) cs stretch n a
      (subst (λ (s : M.Node Addr). length s.members.table ≡ n + 1) (sym e) many)
      (subst (λ (s : M.Node Addr). M.lists here own s ≡ true) (sym e) mine)
      (subst (λ (s : M.Node Addr). M.lists here a s ≡ true) (sym e) there)
      other)
      (loaded_view node) nobody none-asked enough

  -- one of its calls answered with a letter that is a Ping to the peer, and not one that was asked for
  pub nobody_unprobed : (stretch : List (Call Addr)) (node' : Node) (wait' : Wait) (rest : Runs node wait stretch node' wait') (n : ℕ) (a : Addr) → length (view_node node).members.table ≡ n + 1
      → M.lists here own (view_node node) ≡ true → M.lists here a (view_node node) ≡ true → here.same own a ≡ false
      → NobodyMoves here (trace here stretch (world node wait)) → requests_of here stretch (world node wait) ≡ 0 → 2 * n - 1 ≤ pings_of here stretch (world node wait)
      → PingSent a rest
  nobody_unprobed stretch node' wait' rest n a many mine there other nobody none-asked enough =
      ping_sent a rest (among-pinged stretch node' wait' rest n a many mine there other nobody none-asked enough)
