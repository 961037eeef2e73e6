-- How what a group was asked carries the model's effect.
-- Assumes nothing.
use Rattle.std.specs.Prelude.{[], ◌∷◌, map, ℕ, length}
use Rattle.model.specs.Rows.{pad_to}
use Rattle.address.specs.Here.{Addr, here}
use Rattle.model.specs.Words as W
use Rattle.model.specs.Node as M
use Rattle.model.specs.Detector as D
use Rattle.types.specs.declared.Event.TheVariants.{Suspected}
use Rattle.types.specs.declared.Action.TheVariants.{PingReq}
use Rattle.types.specs.Views.{from_gossip, no_gossip}
use Rattle.node.specs.declared.Node.{Node}
use Rattle.node.specs.Views.{view_node, pack_node}
use Rattle.wait.specs.declared.mail.Mail.{Mail}
use Rattle.wait.specs.Views.{mail_of, posted}
use Rattle.pinging.specs.declared.Asked.{Asked}
use Rattle.pinging.specs.declared.Suspicion.{Suspicion}

-- one peer of the group was asked
abbrev pub asked_one : Node → Mail → Addr → Addr → Asked
asked_one n m a suspect =
    let c = M.spread here (view_node n) in
    record {
      node = pack_node c.node;
      mail = posted m a (PingReq n.own suspect) (pad_to 64 no_gossip (map from_gossip c.gossip)) (length c.gossip);
    }

-- and all of it
abbrev pub asked_of : M.Effect Addr → Asked
asked_of e = record { node = pack_node e.node; mail = mail_of e.messages }

-- what is said of a suspect
abbrev pub suspicion_of : Addr → Addr → ℕ → Suspicion
suspicion_of own a n = record { target = a; number = n; gossip = record { event = Suspected own a n } }

-- a suspicion was reported, so many events collected for it, and the group asked
abbrev pub group_asked : Addr → ℕ → ℕ → W.Gossip Addr → ℕ → M.Effect Addr → D.Stepped Addr
group_asked a n tick g collected e =
    record {
      effect = record { node = e.node; messages = e.messages; events = g ∷ []; collected = collected };
      wait = D.enters (W.WaitingForPingReqAck a n) tick;
    }
