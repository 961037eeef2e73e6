-- NO MESSAGE THAT A NODE SENDS WITH GOSSIP THAT IT CHOSE IS LONGER THAN THE BUFFER.
-- Assumes nothing.
use Rattle.std.specs.Prelude.{◌≡◌, refl, true, List, [], ◌∷◌, ◌++◌, map, ℕ, ◌*◌, ◌≤◌, length}
use Rattle.std.proofs.Common.{ap, ◌∙◌, arith}
use Rattle.std.proofs.Math.Option.{none, some}
use Rattle.std.proofs.lemmas.List.{length-map}
use Rattle.model.specs.declared.Kind.TheVariants as kind
use Rattle.model.specs.Bounds.{greatest_size}
use Rattle.model.specs.Rows.{every}
use Rattle.model.specs.Members.{Members, addrs}
use Rattle.model.specs.Limit.{limit_of}
use Rattle.model.specs.Choose.{Terms, terms_of}
use Rattle.model.specs.Node as M
use Rattle.model.specs.Handler as handler
use Rattle.model.specs.Detector as detector
use Rattle.model.specs.Calls.{valid_action, valid_state}
use Rattle.model.specs.Sound.{valid_gossip}
use Rattle.model.specs.Words as W
use Rattle.model.specs.Words.{SendingPing, WaitingForPingAck, SendingPingReq, WaitingForPingReqAck, Declaring}
use Rattle.laws.specs.After.{After, halts, gives, after_then, after-when}
use Rattle.laws.specs.Bools.{and_split}
use Rattle.laws.specs.Ranges.{ranges}
use Rattle.laws_choose.specs.LimitLaws.{limit_most}
use Rattle.laws_choose.specs.ChooseLaws.{chosen_fit}
use Rattle.laws_list.specs.Picking.{Turned, pick-turned}
use Rattle.laws_node.specs.Good.{Good}
use Rattle.laws_rules.specs.Keeps.{spread-keeps, with-members, gossip-keeps, admit-keeps, more-keeps}
use Rattle.laws_rules.specs.KeepsCalls.{suspect-keeps}
use Rattle.address.specs.Here.{Addr, here, here_lawful}
use Rattle.types.specs.declared.Action.{Action}
use Rattle.types.specs.declared.Gossip.{Gossip}
use Rattle.types.specs.Views.{to_gossip, from_gossip, from_action, to_from_event}
use Rattle.disseminate.specs.Fit.{least_gossip, heap_least}
use Rattle.incoming.specs.Back.{Fits}
use Rattle.incoming.specs.Encode.{encode}
use Rattle.fits.specs.Sizes.{sizes, buffer}
use Rattle.fits.proofs.Sizes.{within_buffer}
use Rattle.fits.proofs.Chosen.{chosen-sizes}
use Rattle.fits.specs.Length.{sizes_of}
use Rattle.fits.proofs.Length.{encode_size}
use Rattle.fits.specs.Letters.{bytes_of, Chose, Each, Goes, nil, and}

sizes-same : (gs : List (W.Gossip Addr)) → sizes_of (map from_gossip gs) ≡ sizes here gs
sizes-same gs = ap (sizes here) (back gs)
  where
    back : (l : List (W.Gossip Addr)) → map to_gossip (map from_gossip l) ≡ l
    back [] = refl
    back (g ∷ l) = λ i. record { event = to_from_event g.event i } ∷ back l i

-- the sizes of what a good node chooses, and how many there are
spread_within : (s : M.Node Addr) → Good here s → (sizes here (M.spread here s).gossip ≤ s.settings.max_size) × (least_gossip * length (M.spread here s).gossip ≤ s.settings.max_size)
unfolding M.spread terms_of
spread_within s g =
    let t : Terms = terms_of s.settings.max_selected s.settings.max_size (limit_of (length s.members.table) s.settings.send_constant) in (
      chosen-sizes here t (limit_most (length s.members.table) s.settings.send_constant g.whole.few (ranges s.settings g.settings).constant) s.disseminator.alive s.disseminator.deceased (g.heaps kind.Alive) (g.heaps kind.Deceased),
      chosen_fit here least_gossip t s.disseminator.alive s.disseminator.deceased (heap_least kind.Alive s.disseminator.alive (g.heaps kind.Alive)) (heap_least kind.Deceased s.disseminator.deceased (g.heaps kind.Deceased)),
    )

-- GOSSIP WHOSE SIZES ADD UP TO 1169 AT MOST, 18 OR MORE EACH, MAKES NO MESSAGE LONGER THAN 1536 BYTES, WHATEVER THE ACTION
pub sizes-short : (a : Action) (gs : List Gossip) → Fits gs → sizes_of gs ≤ greatest_size → least_gossip * length gs ≤ greatest_size → length (encode a gs) ≤ buffer
sizes-short a gs fs h k =
    let w = within_buffer (length gs) (sizes_of gs) h k in
    omega (arith, encode_size a gs fs (omega (arith, w.1)), w.1)

-- so no message with what a good node chose
pub chose_short : (m : W.Message Addr) → Chose m → Fits (map from_gossip m.gossip) → length (bytes_of m) ≤ buffer
chose_short m c fs =
    let w = spread_within c.node c.good in
    let top : c.node.settings.max_size ≤ greatest_size = (ranges c.node.settings c.good.settings).most_size in
    sizes-short (from_action m.action) (map from_gossip m.gossip) fs
    (omega (arith, sizes-same m.gossip, ap (sizes here) c.is, w.0, top))
    (omega (arith, length-map m.gossip from_gossip, ap (λ (l : List (W.Gossip Addr)). length l) c.is, w.1, top))

each_more : {P : W.Message Addr → Type 0} (ms : List (W.Message Addr)) (m : W.Message Addr) → Each P ms → P m → Each P (ms ++ (m ∷ []))
each_more [] m nil p = and p nil
each_more (x ∷ ms) m (and q e) p = and q (each_more ms m e p)

answered : (target : Addr) (a : W.Action Addr) (o : M.Out Addr) → Good here o.node → Each Chose (handler.answer_to here target a o).messages
unfolding handler.answer_to
answered target a o g = and (record { node = o.node; good = g; is = refl }) nil

pub handle-goes : (action : W.Action Addr) (gs : List (W.Gossip Addr)) (s : M.Node Addr) (ds : List ℕ) → Good here s → valid_action here action ≡ true → every (valid_gossip here) gs ≡ true
    → After (λ e. Each (Goes action gs) e.messages) (handler.handle here action gs s ds)
unfolding handler.handle valid_action Goes handler.forwarded
handle-goes (W.Ping from by) gs s ds g v w =
    after_then
    (more-keeps here here_lawful (handler.admit here from) (gossip-keeps here here_lawful gs s ds g w) (λ s' rest g'. admit-keeps here here_lawful from s' rest g' (and_split _ _ v).0))
    (λ o rest k. gives (answered _ _ o k.good))
handle-goes (W.PingReq from suspect) gs s ds g v w = after_then (gossip-keeps here here_lawful gs s ds g w) (λ o rest k. gives (answered _ _ o k.good))
handle-goes (W.Ack from none) gs s ds g v w = after_then (gossip-keeps here here_lawful gs s ds g w) (λ o rest k. gives nil)
handle-goes (W.Ack from (some to)) gs s ds g v w = after_then (gossip-keeps here here_lawful gs s ds g w) (λ o rest k. gives (and (refl, refl) nil))

-- what a detector step sends
pinged_chose : (now : ℕ) (c : M.Node Addr) → Good here c → (s : M.Node Addr) (picks : List Addr) → Each Chose (detector.pinged here now (M.spread here c).gossip s picks).effect.messages
unfolding detector.pinged
pinged_chose now c g s [] = nil
pinged_chose now c g s (a ∷ picks) = and (record { node = c; good = g; is = refl }) nil

ask_chose : (b : Addr) (picks : List Addr) (s : M.Node Addr) (sent : List (W.Message Addr)) → Good here s → Each Chose sent → Each Chose (detector.ask_each here b picks s sent).messages
ask_chose b [] s sent g e = e
ask_chose b (x ∷ picks) s sent g e =
    ask_chose b picks (M.spread here s).node _ (spread-keeps here s g).good (each_more sent _ e (record { node = s; good = g; is = refl }))

turned_good : (own : Addr) (s : M.Node Addr) (m : Members Addr) → Good here s → Turned here.same here.blank own s.members m → Good here (M.with_members s m)
turned_good own s m g t = with-members here s m g t.whole (ap (λ (x : List _). every here.valid (addrs x)) t.table ∙ g.valid)

pub step_chose : (st : W.WaitState Addr) (now : ℕ) (s : M.Node Addr) (ds : List ℕ) → Good here s → valid_state here st ≡ true
    → After (λ e. Each Chose e.effect.messages) (detector.step here st now s ds)
unfolding valid_state detector.send_ping detector.waited detector.send_ping_req detector.pick_group detector.asked detector.declare
step_chose SendingPing now s ds g v =
    after_then (pick-turned here.same here.blank s.own none 1 s.members ds g.whole) (λ p rest t. gives (pinged_chose now s g _ p.picks))
step_chose (WaitingForPingAck b n) now s ds g v = gives nil
step_chose (SendingPingReq b n) now s ds g v =
    after_then (suspect-keeps here here_lawful b n s ds g v)
    (λ o rest k.
    after_then (pick-turned here.same here.blank o.node.own (some b) o.node.settings.ping_req_group_size o.node.members rest k.good.whole)
    (λ p rest₂ t. gives (ask_chose b p.picks _ [] (turned_good o.node.own o.node p.members k.good t) nil)))
step_chose (WaitingForPingReqAck b n) now s ds g v = gives nil
step_chose (Declaring b n) now s ds g v = after-when (λ _. halts) (λ _. gives nil)
