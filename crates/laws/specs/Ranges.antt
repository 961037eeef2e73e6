-- What settings in range are.
-- Assumes nothing.
use Rattle.std.specs.Prelude.{◌≡◌, Bool, true, ◌&&◌, ◌≤◌, ltb, leb}
use Rattle.std.proofs.Common.{leb-true}
use Rattle.model.specs.declared.Settings.{Settings}
use Rattle.model.specs.Bounds.{wait_end, least_size, greatest_size}
use Rattle.model.specs.Sound.{in_range}
use Rattle.laws.specs.Bools.{and_split}

pub record Ranges (c : Settings) : Type 0 where
  pub group : c.ping_req_group_size ≤ 4
  pub constant : c.send_constant ≤ 8
  pub least_selected : 1 ≤ c.max_selected
  pub most_selected : c.max_selected ≤ 64
  pub most_size : c.max_size ≤ greatest_size

pub ranges : (c : Settings) → in_range c ≡ true → Ranges c
unfolding in_range
ranges c e =
    let waits : Bool =
    ltb c.ping_interval wait_end && ltb c.ping_timeout wait_end && ltb c.ping_req_timeout wait_end && ltb c.suspect_timeout wait_end in
    let a : Bool = waits && leb c.ping_req_group_size 4 in
    let b : Bool = a && leb c.send_constant 8 in
    let d : Bool = b && leb 1 c.max_selected in
    let f : Bool = d && leb c.max_selected 64 in
    let g : Bool = f && leb least_size c.max_size in
    let p₁ = and_split g (leb c.max_size greatest_size) e in
    let p₂ = and_split f (leb least_size c.max_size) p₁.0 in
    let p₃ = and_split d (leb c.max_selected 64) p₂.0 in
    let p₄ = and_split b (leb 1 c.max_selected) p₃.0 in
    let p₅ = and_split a (leb c.send_constant 8) p₄.0 in
    let p₆ = and_split waits (leb c.ping_req_group_size 4) p₅.0 in
    record {
      group = leb-true _ _ p₆.1;
      constant = leb-true _ _ p₅.1;
      least_selected = leb-true _ _ p₄.1;
      most_selected = leb-true _ _ p₃.1;
      most_size = leb-true _ _ p₁.1;
    }
