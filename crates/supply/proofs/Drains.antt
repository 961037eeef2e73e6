-- A step from a fresh wait record, on a good node: it is refused for want of draws alone, it counts a send for every record of its message, and an alive heap that holds any gives one.
-- Assumes nothing.
use Rattle.std.specs.Prelude.{◌≡◌, Bool, true, ◌&&◌, ℕ, ◌+◌, ◌-◌, ◌≤◌, ◌<◌, min, ltb, leb}
use Rattle.std.proofs.Math.Path.{refl, ap}
use Rattle.std.proofs.Common.{◌∙◌, arith, leb-true}
use mathlib.Core.List.{List, [], ◌∷◌}
use Rattle.std.proofs.Math.Option.{none, some}
use Rattle.std.proofs.Math.ListN.{length}
use Rattle.model.specs.declared.Settings.{Settings}
use Rattle.model.specs.declared.State.TheVariants as state
use Rattle.model.specs.declared.Kind.TheVariants as kind
use Rattle.model.specs.Bounds.{wait_end, greatest_size}
use Rattle.model.specs.Answers.{Answer}
use Rattle.model.specs.Words.{Address, Lawful, Gossip, SendingPing}
use Rattle.model.specs.Choose.{Terms, terms_of, choose}
use Rattle.model.specs.Members.{Members}
use Rattle.model.specs.Node.{Node, stored, with_members, numbered, change, spread}
use Rattle.model.specs.Detector.{pinged, send_ping, step}
use Rattle.model.specs.Sound.{in_range}
use Rattle.model.specs.Calls.{valid_state}
use Rattle.laws.specs.After.{After, gives}
use Rattle.laws.specs.Bools.{and_split}
use Rattle.laws.specs.Ranges.{ranges}
use Rattle.laws_pick.specs.Picks.{Drawn, short, drawn, drawn_then, pick_ends}
use Rattle.laws_node.specs.Good.{Good}
use Rattle.laws_rules.specs.Keeps.{Keeps}
use Rattle.laws_rules.specs.KeepsCalls.{step_keeps}
use Rattle.supply.proofs.Entries.{update-length}
use Rattle.supply.specs.Owed.{owed}
use Rattle.supply.proofs.Owed.{choose_spends, choose_takes, entries_fit}
use Rattle.supply.specs.Drains.{limit_at, Drained, nobody, carries}

-- settings in range let one record of any size out
pub least_size_of : (c : Settings) → in_range c ≡ true → 111 ≤ c.max_size
unfolding in_range
least_size_of c e =
    let g : Bool =
    ltb c.ping_interval wait_end && ltb c.ping_timeout wait_end && ltb c.ping_req_timeout wait_end && ltb c.suspect_timeout wait_end
    && leb c.ping_req_group_size 4 && leb c.send_constant 8 && leb 1 c.max_selected && leb c.max_selected 64 in
    let p = and_split (g && leb 111 c.max_size) (leb c.max_size greatest_size) e in
    leb-true 111 c.max_size (and_split g (leb 111 c.max_size) p.0).1

-- what is known of an answer twice over
drawn_with : {B : Type 0} {P Q : B → Type 0} {x : Answer B} → Drawn P x → After Q x → Drawn (λ b. P b × Q b) x
drawn_with short h = short
drawn_with (drawn p) (gives q) = drawn (p, q)

module _ {A : Type 0} (address : Address A) where
  -- the row of the alive heap has as many places in use as it holds entries
  pub used-of : (s : Node A) → (stored address s).alive.used ≡ length s.disseminator.alive
  unfolding stored
  used-of s = refl

  -- a choosing, in a node
  record Chose (s s' : Node A) (gs : List (Gossip A)) : Type 0 where
    from-alive : ℕ
    from-deceased : ℕ
    alive : owed ((limit_at address) s) s'.disseminator.alive + from-alive ≡ owed ((limit_at address) s) s.disseminator.alive
    deceased : owed ((limit_at address) s) s'.disseminator.deceased + from-deceased ≡ owed ((limit_at address) s) s.disseminator.deceased
    some : 0 < length s.disseminator.alive → 1 ≤ from-alive
    shorter : length s'.disseminator.alive ≤ length s.disseminator.alive
    all : length gs ≡ from-alive + from-deceased

  module _ (texts : (a : A) → address.valid a ≡ true → address.chars a ≤ 47) where
    spread_chose : (s : Node A) → Good address s → Chose s (spread address s).node (spread address s).gossip
    unfolding spread terms_of
    spread_chose s g =
        let r = ranges s.settings g.settings in
        let t : Terms = terms_of s.settings.max_selected s.settings.max_size ((limit_at address) s) in
        let p = choose_spends address t s.disseminator.alive s.disseminator.deceased in
        record {
          from-alive = (choose address t s.disseminator.alive s.disseminator.deceased).from-alive;
          from-deceased = (choose address t s.disseminator.alive s.disseminator.deceased).from-deceased;
          alive = p.from-alive;
          deceased = p.from-deceased;
          some = choose_takes address t s.disseminator.alive s.disseminator.deceased
              (entries_fit address texts kind.Alive s.settings.max_size s.disseminator.alive (least_size_of s.settings g.settings) (g.heaps kind.Alive).entries)
              (omega (arith, r.least_selected));
          shorter = p.alive-less;
          all = p.all;
        }

    -- the rest of the step, with the peers that were picked
    pinged_drains : (now : ℕ) (gs : List (Gossip A)) (s : Node A) (m : Members A) (picks : List A) → Chose s (spread address s).node gs → m.table ≡ s.members.table
        → length picks ≡ min 1 (length s.members.table - 1) → (Drained address) s (pinged address now gs (with_members (spread address s).node m) picks)
    unfolding pinged change
    pinged_drains now gs s m [] c e l =
        record {
          from-alive = c.from-alive;
          from-deceased = c.from-deceased;
          alive = c.alive;
          deceased = c.deceased;
          some = c.some;
          shorter = c.shorter;
          message = nobody;
          target = l;
          listed = ap length e;
          spreads = refl;
        }
    pinged_drains now gs s m (a ∷ picks) c e l =
        record {
          from-alive = c.from-alive;
          from-deceased = c.from-deceased;
          alive = c.alive;
          deceased = c.deceased;
          some = c.some;
          shorter = c.shorter;
          message = carries c.all;
          target = omega (arith, l);
          listed = update-length address.same (record { addr = a; state = state.Pending; number = numbered address a (with_members (spread address s).node m) }) m ∙ ap length e;
          spreads = refl;
        }

    module _ (lawful : Lawful address) where
      ping_drains : (now : ℕ) (s : Node A) (ds : List ℕ) → Good address s → Drawn ((Drained address) s) (step address SendingPing now s ds)
      unfolding send_ping
      ping_drains now s ds g =
          drawn_then (pick_ends address.same address.blank s.own none 1 s.members ds g.whole)
          (λ p rest c.
          drawn
          (pinged_drains now (spread address s).gossip s p.members p.picks (spread_chose s g) c.table
          (omega (arith, c.many, g.whole.long))))

      -- and the node stays good
      pub fresh_drains : (now : ℕ) (s : Node A) (ds : List ℕ) → Good address s → Drawn (λ e. (Drained address) s e × Keeps address s e.effect.node) (step address SendingPing now s ds)
      unfolding valid_state
      fresh_drains now s ds g = drawn_with (ping_drains now s ds g) (step_keeps address lawful SendingPing now s ds g refl)
