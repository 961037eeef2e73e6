-- The entries and departures among the changes of a history are those of demand 3's ledger, for every address.
-- Assumes nothing.
use Rattle.std.specs.Prelude.{◌≡◌, Bool, true, false, not, ◌&&◌, List, [], ◌∷◌, ◌++◌, ℕ, ◌+◌}
use Rattle.std.proofs.Math.Path.{refl, ap}
use Rattle.std.proofs.Common.{sym, ◌∙◌, arith}
use Rattle.model.specs.Rows.{one}
use Rattle.model.specs.Words as W
use Rattle.address.specs.Here.{Addr, here, here_lawful}
use Rattle.std.proofs.Math.Dec.{leb}
use Rattle.model.specs.Node.{Node, Stored, lists, numbered, state_of}
use Rattle.history.specs.Beginnings.{Beginning, Creation, Restart, own_of, Gave}
use Rattle.history.specs.Moments.{Deed, Told, Sender, Added, Ended, Other, Moment}
use Rattle.history.specs.Ledger.{Tally, inside, comes, goes, step, tally, begun}
use Rattle.history.specs.Walk.{Along}
use Rattle.history.proofs.Worlds.{walk, begins, first_good}
use Rattle.history.specs.Histories.{Call, trace, start}
use Rattle.accounts.specs.declared.Change.{Change}
use Rattle.accounts.specs.Changes.{whom, change_of, placed, changes, entries_in, departures_in}

module _ (a : Addr) where
  -- the ledger's tests pass for no address but the one that the rule was asked about
  comes-off : (d : Deed Addr) → here.same a (whom d) ≡ false → comes here a d ≡ false
  unfolding W.parts_of
  comes-off (Told W.Nothing) e = refl
  comes-off (Told (W.Joined f b n)) e = e
  comes-off (Told (W.Recovered f b n)) e = refl
  comes-off (Told (W.Suspected f b n)) e = refl
  comes-off (Told (W.Deceased f b n)) e = refl
  comes-off (Sender b) e = e
  comes-off (Added b n) e = e
  comes-off (Ended b n) e = refl
  comes-off Other e = refl

  goes-off : (d : Deed Addr) (s : Node Addr) → here.same a (whom d) ≡ false → goes here a d s ≡ false
  unfolding W.parts_of
  goes-off (Told W.Nothing) s e = refl
  goes-off (Told (W.Joined f b n)) s e = refl
  goes-off (Told (W.Recovered f b n)) s e = refl
  goes-off (Told (W.Suspected f b n)) s e = refl
  goes-off (Told (W.Deceased f b n)) s e = ap (λ (u : Bool). u && leb (numbered here a s) n) e
  goes-off (Sender b) s e = refl
  goes-off (Added b n) s e = refl
  goes-off (Ended b n) s e = ap (λ (u : Bool). u && (not (W.is_alive (state_of here a s)) && leb (numbered here a s) n)) e
  goes-off Other s e = refl

  -- so what the ledger counts of a moment is what its change says
  entry_is : (d : Deed Addr) (s : Node Addr) → one (comes here a d && not (lists here a s)) ≡ one (here.same a (whom d) && (comes here (whom d) d && not (lists here (whom d) s)))
  entry_is d s =
      (elim (here.same a (whom d)) as (λ u. here.same a (whom d) ≡ u → one (comes here a d && not (lists here a s)) ≡ one (u && (comes here (whom d) d && not (lists here (whom d) s)))) [
        | true ↦ λ e. ap (λ (x : Addr). one (comes here x d && not (lists here x s))) (here_lawful.test.same_eq a (whom d) e)
        | false ↦ λ e. ap (λ (u : Bool). one (u && not (lists here a s))) (comes-off d e)
      ]) refl

  departure_is : (d : Deed Addr) (s : Node Addr) → one (goes here a d s && lists here a s) ≡ one (here.same a (whom d) && (goes here (whom d) d s && lists here (whom d) s))
  departure_is d s =
      (elim (here.same a (whom d)) as (λ u. here.same a (whom d) ≡ u → one (goes here a d s && lists here a s) ≡ one (u && (goes here (whom d) d s && lists here (whom d) s))) [
        | true ↦ λ e. ap (λ (x : Addr). one (goes here x d s && lists here x s)) (here_lawful.test.same_eq a (whom d) e)
        | false ↦ λ e. ap (λ (u : Bool). one (u && lists here a s)) (goes-off d s e)
      ]) refl

  none-there : (u : Bool) → one (u && false) ≡ 0
  none-there true = refl
  none-there false = refl

  -- a moment's change in its place; one of a rule that was asked about nobody counts nothing
  placed_entries : (d : Deed Addr) (z : Bool) (c : Change) → c.enters ≡ (comes here (whom d) d && z) → entries_in a (placed d c) ≡ one (here.same a c.address && c.enters)
  placed_entries (Told e) z c h = omega arith
  placed_entries (Sender b) z c h = omega arith
  placed_entries (Added b n) z c h = omega arith
  placed_entries (Ended b n) z c h = omega arith
  placed_entries Other z c h = sym (ap (λ (u : Bool). one (here.same a c.address && u)) h ∙ none-there (here.same a c.address))

  placed_departures : (d : Deed Addr) (s : Node Addr) (z : Bool) (c : Change) → c.leaves ≡ (goes here (whom d) d s && z) → departures_in a (placed d c) ≡ one (here.same a c.address && c.leaves)
  placed_departures (Told e) s z c h = omega arith
  placed_departures (Sender b) s z c h = omega arith
  placed_departures (Added b n) s z c h = omega arith
  placed_departures (Ended b n) s z c h = omega arith
  placed_departures Other s z c h = sym (ap (λ (u : Bool). one (here.same a c.address && u)) h ∙ none-there (here.same a c.address))

  entries_append : (l m : List Change) → entries_in a (l ++ m) ≡ entries_in a l + entries_in a m
  entries_append [] m = omega arith
  entries_append (c ∷ l) m = omega (arith, entries_append l m)

  departures_append : (l m : List Change) → departures_in a (l ++ m) ≡ departures_in a l + departures_in a m
  departures_append [] m = omega arith
  departures_append (c ∷ l) m = omega (arith, departures_append l m)

  -- along moments that are fine the ledger grows by the changes' own count
  entries_along : (own : Addr) (ms : List (Moment Addr)) (t : Tally) → Along here a own ms t → (tally here a ms t).entries ≡ t.entries + entries_in a (changes ms)
  entries_along own [] t p = omega arith
  entries_along own (m ∷ ms) t p =
      let c = change_of m in
      let d = m.deed in
      let s = m.before in
      let i : one (comes here a d && not (inside t)) ≡ one (comes here a d && not (lists here a s)) = ap (λ (u : Bool). one (comes here a d && not u)) p.0.before in
      omega (arith, entries_along own ms (step here a m t) p.1, i, entry_is d s, placed_entries d (not (lists here (whom d) s)) c refl, entries_append (placed d c) (changes ms))

  departures_along : (own : Addr) (ms : List (Moment Addr)) (t : Tally) → Along here a own ms t → (tally here a ms t).departures ≡ t.departures + departures_in a (changes ms)
  departures_along own [] t p = omega arith
  departures_along own (m ∷ ms) t p =
      let c = change_of m in
      let d = m.deed in
      let s = m.before in
      let i : one (goes here a d s && inside t) ≡ one (goes here a d s && lists here a s) = ap (λ (u : Bool). one (goes here a d s && u)) p.0.before in
      omega (arith, departures_along own ms (step here a m t) p.1, i, departure_is d s, placed_departures d s (lists here (whom d) s) c refl, departures_append (placed d c) (changes ms))

-- Of every history from a fresh node and of every address: the entries that the ledger of demand 3 counts are the fresh node's own and those among the changes, and the
-- departures are those among the changes
module _ (b : Beginning Addr) (tick : ℕ) (node : Stored Addr) (gave : Gave here b node) (h : List (Call Addr)) (a : Addr) where
  abbrev pub history : List (Moment Addr)
  history = trace here h (start here b tick)

  fine : Along here a (own_of b) history (begun here a b)
  fine = (walk here here_lawful a (own_of b) h (start here b tick) (begun here a b) (begins here here_lawful a b tick (first_good here here_lawful gave))).fine

  pub entries_are : (tally here a history (begun here a b)).entries ≡ (begun here a b).entries + entries_in a (changes history)
  entries_are = entries_along a (own_of b) history (begun here a b) fine

  pub departures_are : (tally here a history (begun here a b)).departures ≡ departures_in a (changes history)
  departures_are = omega (arith, none_yet b, departures_along a (own_of b) history (begun here a b) fine)
    where
      none_yet : (c : Beginning Addr) → (begun here a c).departures ≡ 0
      none_yet (Creation settings own n) = refl
      none_yet (Restart settings own rows position) = refl
