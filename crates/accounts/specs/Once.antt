-- The calls that ask about one address: adding a peer, and an ended timer. Where their rules ran they have one moment.
-- Assumes nothing.
use Rattle.std.proofs.Math.Path.{◌≡◌, refl, ap}
use Rattle.std.proofs.Common.{sym, ◌∙◌, arith}
use Rattle.std.specs.Prelude.{ℕ}
use Rattle.std.proofs.Math.Bool.{true, false}
use mathlib.Core.List.{List, [], ◌∷◌, ◌++◌}
use borrow.Author.Tests.{not-false}
use Rattle.model.specs.Rows.{one}
use Rattle.model.specs.Answers.{Answer, done, refused, and_then}
use Rattle.laws.specs.After.{After, gives}
use Rattle.address.specs.Here.{Addr, here, here_lawful}
use Rattle.model.specs.Members as list
use Rattle.model.specs.Node as M
use Rattle.model.specs.Sound.{sound}
use Rattle.model.specs.Calls as calls
use Rattle.laws_node.specs.Good.{Good, FullRows, sound_good, stored_loaded}
use Rattle.laws_rules.specs.Keeps.{Keeps, add-keeps}
use Rattle.history.specs.Moments.{Deed, Added, Moment, moment_of, moment, silent, trace_add}
use Rattle.history.specs.Ledger.{carried}
use Rattle.history.specs.Did.{Did}
use Rattle.history.proofs.Rules.{add_did, already_did}
use Rattle.history.proofs.Worlds.{first_cases}
use Rattle.history.specs.Histories.{Add, moments_by, moments}
use Rattle.node.specs.declared.Node.{Node}
use Rattle.node.specs.Views.{view_node, pack_node, stored_view, unstored, answer_of}
use Rattle.node.specs.Rows.{ready_pack, view_pack, loaded_view, unstored_pack}
use Rattle.member.specs.Views.{view_members, Held}
use Rattle.accounts.specs.declared.Change.{Change}
use Rattle.accounts.specs.declared.Account.{Account}
use Rattle.accounts.specs.Changes.{whom, placed, change_of, changes, between, account_of}
use Rattle.accounts.specs.Turns.{pushed_of, between_is}
use Rattle.accounts.specs.Walking.{push_is}
use Rattle.accounts.specs.Audits.{has_run, resting}

-- one moment on a node, and the rows after it
pub record Once (s : M.Node Addr) (m : Node) (ms : List (Moment Addr)) (a : Addr) (k : ℕ) : Type 0 where
  pub deed : Deed Addr
  pub out : M.Out Addr
  pub is : ms ≡ moment_of deed s out ∷ []
  pub place : (c : Change) → placed deed c ≡ c ∷ []
  pub whose : whom deed ≡ a
  pub given : carried here (whom deed) deed ≡ k
  pub node : m ≡ pack_node out.node
  pub good : Good here out.node
  pub did : Did here (whom deed) s deed out

module _ (n m : Node) (ms : List (Moment Addr)) (a : Addr) (k : ℕ) (o : Once (M.loaded (stored_view n)) m ms a k) where
  pub once_held : Held m.members
  once_held = rw o.node (ready_pack o.out.node o.good).members

  -- what the two lists say is the call's account
  pub once_is : (x : Account) → x ≡ pushed_of (account_of []) (between (view_members n.members).table (view_members m.members).table a k) → x ≡ account_of (changes ms)
  unfolding view_node
  once_is x e =
      let s = M.loaded (stored_view n) in
      let before : (view_members n.members).table ≡ s.members.table = ap (λ (y : M.Node Addr). y.members.table) (sym (loaded_view n)) in
      let after : (view_members m.members).table ≡ o.out.node.members.table =
      ap (λ (y : Node). (view_members y.members).table) o.node ∙ ap (λ (y : M.Node Addr). y.members.table) (view_pack o.out.node o.good.whole) in
      let c : between (view_members n.members).table (view_members m.members).table a k ≡ change_of (moment_of o.deed s o.out) =
      (λ j. between (before j) (after j) (sym o.whose j) (sym o.given j)) ∙ between_is o.deed s o.out o.did in
      e
      ∙ push_is [] _ (omega arith)
      ∙ ap (λ (y : Change). account_of (y ∷ [])) c
      ∙ ap account_of (sym (ap changes o.is ∙ ap (λ (y : List Change). y ++ []) (o.place (change_of (moment_of o.deed s o.out)))))

-- adding a peer
module _ (n : Node) (full : FullRows (stored_view n)) (b : Addr) (k : ℕ) (ds : List ℕ) where
  abbrev s : M.Stored Addr
  s = stored_view n

  abbrev t : M.Node Addr
  t = M.loaded s

  abbrev out : calls.Outcome Addr
  out = calls.add_peer here s b k ds

  abbrev ms : calls.Outcome Addr → List (Moment Addr)
  ms o = moments_by here o.reply (trace_add here b k t ds) (silent (Added b k) t t)

  -- what the list's own rule gives
  abbrev joined : Answer (list.Members Addr) → calls.Outcome Addr
  joined x = calls.kept here s ds (and_then x λ m rest. done (record { node = M.with_members t m; messages = []; events = []; collected = 0 }) rest)

  abbrev traced_by : calls.Outcome Addr → Answer (list.Members Addr) → List (Moment Addr)
  traced_by o x = moments_by here o.reply (moment (Added b k) t (and_then x λ m rest. done (record { node = M.with_members t m; said = []; collected = 0 }) rest)) (silent (Added b k) t t)

  pub add_idle : has_run out.reply ≡ false → changes (moments here (Add b k ds) (resting n)) ≡ []
  unfolding calls.add_peer
  add_idle =
      first_cases (λ (o : calls.Outcome Addr). has_run o.reply ≡ false → changes (ms o) ≡ []) (calls.add_tests here s b) (calls.refuses s) _
      (λ r e. refl)
      (λ p. elim (M.lists here b t) as (λ u. let o = calls.or_already u s (calls.kept here s ds (calls.joins here b k t ds)) in has_run o.reply ≡ false → changes (ms o) ≡ []) [
        | true ↦ λ e. let z : ◌≡◌ {A = ℕ} 1 0 = ap one e in absurd (omega arith)
        | false ↦ by (list.add here.same b k t.members ds)
      ])
    where
      by : (x : Answer (list.Members Addr)) → has_run (joined x).reply ≡ false → changes (traced_by (joined x) x) ≡ []
      by (refused u) e = refl
      by (done m rest) e = let z : ◌≡◌ {A = ℕ} 1 0 = ap one e in absurd (omega arith)

  -- where the tests were passed the node is good
  module _ (sounds : sound here s ≡ true) where
    good : Good here t
    good = sound_good here here_lawful s full sounds

    already_once : M.lists here b t ≡ true → Once t (unstored s) (silent (Added b k) t t) b k
    already_once e =
        record {
          deed = Added b k;
          out = record { node = t; said = []; collected = 0 };
          is = refl;
          place = λ c. refl;
          whose = refl;
          given = refl;
          node = sym (ap unstored (stored_loaded here here_lawful s full sounds)) ∙ unstored_pack t;
          good = good;
          did = already_did here here_lawful b b k t good.whole e;
        }

    joined_once : (x : Answer (list.Members Addr)) → After (λ m. Keeps here t (M.with_members t m)) x → After (λ m. Did here b t (Added b k) (record { node = M.with_members t m; said = []; collected = 0 })) x
        → has_run (joined x).reply ≡ true → Once t (unstored (joined x).node) (traced_by (joined x) x) b k
    joined_once (refused u) g f e = let z : ◌≡◌ {A = ℕ} 0 1 = ap one e in absurd (omega arith)
    joined_once (done m rest) (gives g) (gives f) e =
        record {
          deed = Added b k;
          out = record { node = M.with_members t m; said = []; collected = 0 };
          is = refl;
          place = λ c. refl;
          whose = refl;
          given = refl;
          node = unstored_pack (M.with_members t m);
          good = g.good;
          did = f;
        }

  -- its rules ran: it was one moment
  pub add_once : has_run out.reply ≡ true → (sound here s ≡ true) × Once t (unstored out.node) (moments here (Add b k ds) (resting n)) b k
  unfolding calls.add_peer
  add_once =
      first_cases (λ (o : calls.Outcome Addr). has_run o.reply ≡ true → (sound here s ≡ true) × Once t (unstored o.node) (ms o) b k) (calls.add_tests here s b) (calls.refuses s) _
      (λ r e. let z : ◌≡◌ {A = ℕ} 0 1 = ap one e in absurd (omega arith))
      (λ p.
      let q : sound here s ≡ true = not-false (sound here s) p.0 in
      let v : here.valid b ≡ true = not-false (here.valid b) p.1.0 in
      (elim (M.lists here b t) as (λ u. M.lists here b t ≡ u → let o = calls.or_already u s (calls.kept here s ds (calls.joins here b k t ds)) in has_run o.reply ≡ true → (sound here s ≡ true) × Once t (unstored o.node) (ms o) b k) [
        | true ↦ λ l e. (q, already_once q l)
        | false ↦ λ l e. (q, joined_once q (list.add here.same b k t.members ds) (add-keeps here here_lawful b k t ds (good q) v l) (add_did here here_lawful b b k t ds (good q).whole l) e)
      ]) refl)

-- what a call answers
pub reply_is : (o : calls.Outcome Addr) → (answer_of o).reply ≡ o.reply
unfolding answer_of
reply_is o = refl

pub node_is : (o : calls.Outcome Addr) → (answer_of o).node ≡ unstored o.node
unfolding answer_of
node_is o = refl
