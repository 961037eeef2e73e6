-- What "was pinged" says, without the list of whom: one of the messages is a Ping to the peer that nobody asked for.
-- Assumes nothing.
use Rattle.std.specs.Prelude.{◌≡◌, refl, ◌⊎◌, Bool, true, false, List, [], ◌∷◌, ◌++◌}
use Rattle.std.proofs.Common.{sym, inl, inr, ⊎_elim}
use Rattle.std.proofs.Math.Option.{none, some}
use Rattle.model.specs.Rows.{pick, has, Test}
use Rattle.model.specs.Words.{Address, Lawful, Action, Ping, PingReq, Ack, Message}
use Rattle.history.proofs.Rules.{never}
use Rattle.history.specs.Histories.{World, Call, outcome, world_of}
use Rattle.probing.specs.Stretch.{pings, pinged, pinged_by, pinged_along}
use Rattle.probing.specs.Sent.{PingTo, Sent, SentAlong, this, later}

module _ {A : Type 0} (same : A → A → Bool) (test : Test same) (b : A) where
  pub has_either : (l m : List A) → has same b (l ++ m) ≡ true → (has same b l ≡ true) ⊎ (has same b m ≡ true)
  has_either [] m e = inr e
  has_either (x ∷ l) m e =
      (elim (same b x) as (λ u. pick u true (has same b (l ++ m)) ≡ true → (pick u true (has same b l) ≡ true) ⊎ (has same b m ≡ true)) [
        | true ↦ λ _. inl refl
        | false ↦ λ h. has_either l m h
      ]) e

  pub has_one : (x : A) → has same b (x ∷ []) ≡ true → x ≡ b
  has_one x e =
      (elim (same b x) as (λ u. same b x ≡ u → pick u true false ≡ true → x ≡ b) [
        | true ↦ λ q _. sym (test.same_eq b x q)
        | false ↦ λ q h. cc
      ]) refl e

  -- one message: it pings b, or b is pinged by the rest
  pub first-pings : (x : Action A) (target : A) (rest : List A) → has same b (pings x target ++ rest) ≡ true → PingTo b x target ⊎ (has same b rest ≡ true)
  first-pings (Ping from none) target rest e = ⊎_elim (λ h. inl (record { from = from; asks = refl; goes = has_one target h })) (λ h. inr h) (has_either (target ∷ []) rest e)
  first-pings (Ping from (some by)) target rest e = inr e
  first-pings (PingReq from suspect) target rest e = inr e
  first-pings (Ack from to) target rest e = inr e

  pub pinged-sent : (ms : List (Message A)) → has same b (pinged ms) ≡ true → Sent b ms
  pinged-sent [] e = never e
  pinged-sent (m ∷ ms) e = ⊎_elim (λ p. this p) (λ h. later (pinged-sent ms h)) (first-pings m.action m.target (pinged ms) e)

module _ {A : Type 0} (address : Address A) (lawful : Lawful address) (b : A) where
  pub along_sent : (h : List (Call A)) (w : World A) → has address.same b (pinged_along address h w) ≡ true → (SentAlong address lawful b) h w
  along_sent [] w e = never e
  along_sent (c ∷ h) w e =
      let w' = world_of address (outcome address c w) in
      ⊎_elim
      (λ z. this (pinged-sent address.same lawful.test b (outcome address c w).outcome.messages z))
      (λ z. later (along_sent h w' z))
      (has_either address.same lawful.test b (pinged_by address c w) (pinged_along address h w') e)
