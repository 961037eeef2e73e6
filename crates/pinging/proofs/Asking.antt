-- The group is asked: after each peer the rest gives the answer of the whole.
-- Assumes nothing.
use mathlib.Core.Path.{◌≡◌, refl, ap, sym, ◌∙◌}
use mathlib.Core.List.{List, [], ◌∷◌, ◌++◌, map}
use Prim.Native.Nat.{ℕ, ◌+◌, ◌*◌, ◌≤◌, ◌<◌}
use native.Mathlib.Omega.{arith}
use native.Mathlib.Numerals.{add-one}
use lib.ListN.{length, get_or, take, drop, length-append, drop_of_length-le}
use lib.Seq.{drop-cons, get_or-take, length-take-le}
use Rattle.model.specs.Rows.{pad_to}
use Rattle.address.specs.Here.{Addr, here}
use Rattle.model.specs.Words as W
use Rattle.model.specs.Node as M
use Rattle.model.specs.Detector as D
use Rattle.model.specs.Calls.{packed}
use Rattle.laws_node.specs.Good.{Good}
use Rattle.laws_rules.specs.Keeps.{spread-keeps}
use Rattle.types.specs.declared.Action.TheVariants.{PingReq}
use Rattle.types.specs.Views.{from_gossip, no_gossip}
use Rattle.disseminate.specs.Fit.{most_chosen}
use Rattle.node.specs.declared.Node.{Node}
use Rattle.node.specs.Views.{view_node, pack_node}
use Rattle.node.specs.Rows.{Ready, ready_pack}
use Rattle.node.specs.Parts.{ready_is}
use Rattle.wait.specs.declared.mail.Mail.{Mail}
use Rattle.pinging.specs.declared.Asked.{Asked}
use Rattle.wait.specs.Views.{mail_of, PackedMail, posted}
use Rattle.pinging.specs.Views.{asked_one, asked_of}
use Rattle.node.specs.Rows.{view_pack}
use Rattle.wait.specs.Posting.{post_is, mail-packed, row-taken}

-- i of the group were asked
pub record Left (suspect : Addr) (row : List Addr) (count : ℕ) (n : Node) (ahead : Node) (mail : Mail) (i : ℕ) : Type 0 where
  pub s : M.Node Addr
  pub ms : List (W.Message Addr)
  pub good : Good here s
  pub node : ahead ≡ pack_node s
  pub mail_is : mail ≡ mail_of ms
  pub sent : length ms ≡ i
  pub written : length (packed ms) ≤ most_chosen * i
  pub within : i ≤ count
  pub few : count ≤ 4
  pub long : count ≤ length row
  pub rest : D.ask_each here suspect (drop i (take count row)) s ms ≡ D.ask_each here suspect (take count row) (view_node n) []

module _ {suspect : Addr} {row : List Addr} {count : ℕ} {n : Node} where
  pub left-start : (mail : Mail) → Ready n → mail ≡ mail_of [] → count ≤ 4 → count ≤ length row → Left suspect row count n n mail 0
  left-start mail r e f l =
      record {
        s = view_node n;
        ms = [];
        good = r.good;
        node = sym (ready_is n r);
        mail_is = e;
        sent = refl;
        written = omega arith;
        within = omega arith;
        few = f;
        long = l;
        rest = refl;
      }

  module _ {ahead : Node} {mail : Mail} {i : ℕ} (l : Left suspect row count n ahead mail i) where
    pub left_bounds : (mail.sent ≡ i) × (mail.written ≤ most_chosen * i)
    unfolding mail_of
    left_bounds = (ap (λ (x : Mail). x.sent) l.mail_is ∙ l.sent, omega (arith, ap (λ (x : Mail). x.written) l.mail_is, l.written))

    pub left-node : Ready ahead
    left-node = rw l.node (ready_pack l.s l.good)

    pub left-mail : PackedMail mail
    left-mail = rw l.mail_is (mail-packed l.ms (omega (arith, l.sent, l.within, l.few)) (omega (arith, l.written, l.within, l.few)))

    -- all were asked
    pub left_stop : count ≤ i → ◌≡◌ {A = Asked} (record { node = ahead; mail = mail }) (asked_of (D.ask_each here suspect (take count row) (view_node n) []))
    left_stop h =
        let none_left : drop i (take count row) ≡ [] = drop_of_length-le (take count row) {i = i} (omega (arith, length-take-le count row l.long, h)) in
        (λ j. record { node = l.node j; mail = l.mail_is j })
        ∙ ap (λ (x : List Addr). asked_of (D.ask_each here suspect x l.s l.ms)) (sym none_left)
        ∙ ap asked_of l.rest

    -- the next one is asked
    module _ (h : i < count) (k : Asked) (e : k ≡ asked_one ahead mail (get_or row i here.blank) suspect) (b : k.mail.written ≤ mail.written + most_chosen) where
      abbrev c : M.Spread Addr
      c = M.spread here l.s

      abbrev letter : W.Message Addr
      letter = record { target = get_or row i here.blank; action = W.PingReq l.s.own suspect; gossip = c.gossip }

      seen : view_node ahead ≡ l.s
      seen = ap view_node l.node ∙ view_pack l.s l.good.whole

      own_is : ahead.own ≡ l.s.own
      unfolding pack_node
      own_is = ap (λ (x : Node). x.own) l.node

      asked_is : k ≡ record { node = pack_node c.node; mail = mail_of (l.ms ++ (letter ∷ [])) }
      asked_is =
          e
          ∙ (λ j. record {
            node = pack_node (M.spread here (seen j)).node;
            mail = posted mail (get_or row i here.blank) (PingReq (own_is j) suspect) (pad_to 64 no_gossip (map from_gossip (M.spread here (seen j)).gossip)) (length (M.spread here (seen j)).gossip);
          })
          ∙ (λ j. record {
            node = pack_node c.node;
            mail = post_is l.ms letter mail (pad_to 64 no_gossip (map from_gossip c.gossip)) (length c.gossip) l.mail_is (row-taken c.gossip) refl (omega (arith, l.sent, h, l.few)) j;
          })

      next-written : length (packed (l.ms ++ (letter ∷ []))) ≤ most_chosen * (i + 1)
      unfolding mail_of
      next-written = omega (arith, ap (λ (x : Asked). x.mail.written) asked_is, b, left_bounds.1)

      next-rest : D.ask_each here suspect (drop (i + 1) (take count row)) c.node (l.ms ++ (letter ∷ [])) ≡ D.ask_each here suspect (take count row) (view_node n) []
      next-rest =
          let q : drop i (take count row) ≡ get_or row i here.blank ∷ drop (i + 1) (take count row) =
          drop-cons (take count row) i here.blank (omega (arith, length-take-le count row l.long, h))
          ∙ (λ j. get_or-take count row i here.blank h j ∷ drop (sym (add-one i) j) (take count row)) in
          sym (ap (λ (x : List Addr). D.ask_each here suspect x l.s l.ms) q) ∙ l.rest

      pub left-next : Left suspect row count n k.node k.mail (i + 1)
      left-next =
          record {
            s = c.node;
            ms = l.ms ++ (letter ∷ []);
            good = (spread-keeps here l.s l.good).good;
            node = ap (λ (x : Asked). x.node) asked_is;
            mail_is = ap (λ (x : Asked). x.mail) asked_is;
            sent = omega (arith, length-append l.ms (letter ∷ []), l.sent);
            written = next-written;
            within = omega (arith, h);
            few = l.few;
            long = l.long;
            rest = next-rest;
          }
