-- One rule of a message, run by itself on the rows: what it leaves, and that it is the moment's change.
-- Assumes nothing.
use Rattle.std.specs.Prelude.{◌≡◌, refl, Bool, true, false, not, ◌&&◌, List, ℕ, ◌+◌, ◌-◌, length, set, replicate}
use Rattle.std.proofs.Math.Path.{ap}
use Rattle.std.proofs.Common.{◌∙◌}
use Rattle.std.proofs.Math.Option.{Option, none, some}
use Rattle.model.specs.declared.Drew.TheVariants.{Used, Refused}
use Rattle.model.specs.Answers.{Answer, done, refused}
use Rattle.address.specs.Here.{Addr, here, here_lawful}
use Rattle.model.specs.Node as M
use Rattle.model.specs.Handler as handler
use Rattle.model.specs.Calls as calls
use Rattle.model.specs.declared.Cause.{Cause}
use Rattle.laws.specs.After.{After, gives}
use Rattle.laws_node.specs.Good.{Good}
use Rattle.laws_rules.specs.Keeps.{Keeps, quiet_keeps, more-keeps, gossip-keeps, admit-keeps}
use Rattle.history.specs.Moments.{Deed, moment_of}
use Rattle.history.specs.Ledger.{comes, goes, carried}
use Rattle.history.specs.Did.{Did}
use Rattle.types.specs.declared.Gossip.{Gossip}
use Rattle.types.specs.declared.Optional.TheVariants.{Absent, Given}
use Rattle.types.specs.Views.{to_optional, no_gossip}
use Rattle.node.specs.declared.Node.{Node}
use Rattle.node.specs.Views.{view_node, pack_node}
use Rattle.node.specs.Rows.{Ready, ready_pack, view_pack}
use Rattle.member.specs.Views.{view_members, Held}
use Rattle.message.specs.declared.gossip.Lent.{Lent}
use Rattle.message.specs.declared.gossip.Heard.{Heard}
use Rattle.message.specs.Views.{records_of, sender_rule, Heeded, heard_of}
use Rattle.accounts.specs.declared.Change.{Change}
use Rattle.accounts.specs.declared.Account.{Account}
use Rattle.accounts.specs.declared.Turn.{Turn}
use Rattle.accounts.specs.Changes.{whom, change_of, between}

abbrev pub only_record : Gossip → Lent
only_record g = record { rows = replicate 64 g; given = 1; sender = Absent }

abbrev pub only_sender : Addr → Lent
only_sender a = record { rows = replicate 64 no_gossip; given = 0; sender = Given a }

-- the rules of what is lent, on a node
abbrev pub rule_of : Lent → Node → List ℕ → Answer (M.Out Addr)
rule_of l n ds = M.and_more (handler.gossip here (records_of l.rows l.given) (view_node n) ds) (sender_rule (to_optional l.sender))

-- what a rule leaves: where it is refused, the node as it came
abbrev pub turn_of : Node → Addr → ℕ → List ℕ → Answer (M.Out Addr) → Turn
turn_of n a k ds (refused u) = record { node = n; change = between (view_node n).members.table (view_node n).members.table a k; drew = Refused u }
turn_of n a k ds (done o rest) = record { node = pack_node o.node; change = between (view_node n).members.table o.node.members.table a k; drew = Used (length ds - length rest) }

abbrev pub pushed_of : Account → Change → Account
pushed_of x c = record { changes = set x.changes x.count c; count = x.count + 1 }

-- l and l' say whether the address is listed before and after, g whether it goes and c whether it comes
enters_is : (l l' g c : Bool) → (l ≡ true → l' ≡ not g) → (l ≡ false → l' ≡ c) → (not l && l') ≡ (c && not l)
enters_is true l' g true p q = refl
enters_is true l' g false p q = refl
enters_is false l' g true p q = q refl
enters_is false l' g false p q = q refl

leaves_is : (l l' g c : Bool) → (l ≡ true → l' ≡ not g) → (l ≡ false → l' ≡ c) → (l && not l') ≡ (g && l)
leaves_is true l' true c p q = ap not (p refl)
leaves_is true l' false c p q = ap not (p refl)
leaves_is false l' true c p q = refl
leaves_is false l' false c p q = refl

-- what the two lists say of the address is the moment's change, in the ledger's words
pub between_is : (d : Deed Addr) (s : M.Node Addr) (o : M.Out Addr) → Did here (whom d) s d o
    → between s.members.table o.node.members.table (whom d) (carried here (whom d) d) ≡ change_of (moment_of d s o)
between_is d s o f =
    let a = whom d in
    let l = M.lists here a s in
    let l' = M.lists here a o.node in
    let enters = enters_is l l' (goes here a d s) (comes here a d) f.was f.new in
    let leaves = leaves_is l l' (goes here a d s) (comes here a d) f.was f.new in
    λ i. record {
      address = a;
      given = carried here a d;
      enters = enters i;
      leaves = leaves i;
      listed = l;
      state = M.state_of here a s;
      held = M.numbered here a s;
      number = M.numbered here a o.node;
    }

-- what is lent keeps the node good
sender_keeps : (o : Option Addr) (m : M.Node Addr) (ds : List ℕ) → Good here m → calls.valid_option here o ≡ true → After (λ (p : M.Out Addr). Keeps here m p.node) (sender_rule o m ds)
sender_keeps none m ds g v = quiet_keeps here here_lawful ds g
sender_keeps (some a) m ds g v = admit-keeps here here_lawful a m ds g v

pub rule-keeps : (l : Lent) (n : Node) (ds : List ℕ) → Ready n → Heeded l.rows l.given → calls.valid_option here (to_optional l.sender) ≡ true
    → After (λ (o : M.Out Addr). Keeps here (view_node n) o.node) (rule_of l n ds)
rule-keeps l n ds r h v =
    more-keeps here here_lawful (sender_rule (to_optional l.sender)) (gossip-keeps here here_lawful (records_of l.rows l.given) (view_node n) ds r.good h.valid)
    (λ m rest g. sender_keeps (to_optional l.sender) m rest g v)

module _ (n : Node) (r : Ready n) (ds : List ℕ) (at : Cause) (h : Heard) where
  -- the list of what was heard can be read
  pub heard-held : (x : Answer (M.Out Addr)) → After (λ (o : M.Out Addr). Keeps here (view_node n) o.node) x → h ≡ heard_of n ds at x → Held h.node.members
  heard-held (refused u) k e = rw e r.members
  heard-held (done o rest) (gives k) e = rw e (ready_pack o.node k.good).members

  pub turn_is : (x : Answer (M.Out Addr)) (a : Addr) (k : ℕ) (c : Change) → After (λ (o : M.Out Addr). Keeps here (view_node n) o.node) x → h ≡ heard_of n ds at x
      → c ≡ between (view_members n.members).table (view_members h.node.members).table a k → ◌≡◌ {A = Turn} (record { node = h.node; change = c; drew = h.drew }) (turn_of n a k ds x)
  unfolding view_node
  turn_is (refused u) a k c keeps e is =
      let change = is ∙ ap (λ (v : Heard). between (view_members n.members).table (view_members v.node.members).table a k) e in
      λ i. record { node = (e i).node; change = change i; drew = (e i).drew }
  turn_is (done o rest) a k c (gives keeps) e is =
      let change = is ∙ ap (λ (v : Heard). between (view_members n.members).table (view_members v.node.members).table a k) e
      ∙ ap (λ (m : M.Node Addr). between (view_members n.members).table m.members.table a k) (view_pack o.node keeps.good.whole) in
      λ i. record { node = (e i).node; change = change i; drew = (e i).drew }
