-- Nodes of rows and nodes of lists go over into each other: what one call leaves is what the next one is handed.
-- Assumes nothing.
use Rattle.std.specs.Prelude.{◌≡◌, refl, true, List, [], ◌∷◌, ◌++◌, map, ℕ, zero, suc, ◌-◌, length, take, replicate}
use Rattle.std.proofs.Common.{ap, sym, ◌∙◌}
use Rattle.std.proofs.lemmas.List.{length-map}
use Rattle.model.specs.Rows.{pad_to}
use Rattle.laws.specs.Bools.{take-map}
use Rattle.address.specs.Here.{Addr, here, here_lawful}
use Rattle.model.specs.declared.Kind.TheVariants as kind
use Rattle.model.specs.Words as W
use Rattle.model.specs.Node as M
use Rattle.model.specs.Lamps.{lamps_of}
use Rattle.model.specs.Sound.{sound}
use Rattle.laws_list.specs.Whole.{Whole}
use Rattle.laws_node.specs.Good.{Good, FullRows, sound_good, stored_loaded}
use Rattle.heap.specs.Views.{to_entry, from_entry}
use Rattle.heap.specs.Views as heaps
use Rattle.disseminate.specs.Views.{PackedHeaps}
use Rattle.member.specs.Views.{to_member, from_member, view_members, pack_with, Held, Counted}
use Rattle.member.specs.Views as members
use Rattle.member.specs.Packing as packing
use Rattle.laws.specs.Packing as rows
use Rattle.timers.specs.declared.Timer.{Timer}
use Rattle.timers.specs.Views.{to_timer, from_timer, no_timer}
use Rattle.timers.specs.Views as timers
use Rattle.departed.specs.declared.Departed.{Departed}
use Rattle.departed.specs.Views.{to_departed, from_departed, no_departed}
use Rattle.departed.specs.Views as departed
use Rattle.node.specs.declared.Node.{Node}
use Rattle.node.specs.Views.{view_node, pack_node, stored_view, unstored}

module _ {B W : Type 0} (f : B → W) where
  map-replicate : (n : ℕ) (b : B) → map f (replicate n b) ≡ replicate n (f b)
  map-replicate zero b = refl
  map-replicate (suc n) b = ap (λ (l : List W). f b ∷ l) (map-replicate n b)

  map-append : (l m : List B) → map f (l ++ m) ≡ map f l ++ map f m
  map-append [] m = refl
  map-append (b ∷ l) m = ap (λ (x : List W). f b ∷ x) (map-append l m)

  -- a map of a padded row is the padded row of the map
  pub map_pad : (places : ℕ) (b : B) (l : List B) → map f (pad_to places b l) ≡ pad_to places (f b) (map f l)
  map_pad places b l =
      map-append l (replicate (places - length l) b)
      ∙ ap (λ (x : List W). map f l ++ x) (map-replicate (places - length l) b)
      ∙ ap (λ (n : ℕ). map f l ++ replicate (places - n) (f b)) (sym (length-map l f))

map_id : {B : Type 0} (f : B → B) → ((b : B) → f b ≡ b) → (l : List B) → map f l ≡ l
map_id f h [] = refl
map_id f h (b ∷ l) = λ i. h b i ∷ map_id f h l i

map-map : {B C D : Type 0} (g : C → D) (f : B → C) (l : List B) → map g (map f l) ≡ map (λ x. g (f x)) l
map-map g f [] = refl
map-map g f (b ∷ l) = ap (λ (m : List _). g (f b) ∷ m) (map-map g f l)

-- the rows as they are, there and back
pub unstored-stored : (n : Node) → unstored (stored_view n) ≡ n
unfolding unstored stored_view
unstored-stored n =
    let t : map from_member (map to_member n.members.table) ≡ n.members.table = packing.from_to n.members.table in
    let a : map from_entry (map to_entry n.disseminator.alive.entries) ≡ n.disseminator.alive.entries = heaps.from_to_entries n.disseminator.alive.entries in
    let d : map from_entry (map to_entry n.disseminator.deceased.entries) ≡ n.disseminator.deceased.entries = heaps.from_to_entries n.disseminator.deceased.entries in
    let m : map from_timer (map to_timer n.timers.entries) ≡ n.timers.entries = map-map from_timer to_timer n.timers.entries ∙ map_id (λ (x : Timer). from_timer (to_timer x)) (λ b. refl) n.timers.entries in
    let e : map from_departed (map to_departed n.departed.entries) ≡ n.departed.entries = map-map from_departed to_departed n.departed.entries ∙ map_id (λ (x : Departed). from_departed (to_departed x)) (λ b. refl) n.departed.entries in
    λ i. record {
      settings = n.settings;
      own = n.own;
      members = record { table = t i; len = n.members.len; order = n.members.order; lamps = n.members.lamps };
      disseminator = record { alive = record { entries = a i; len = n.disseminator.alive.len }; deceased = record { entries = d i; len = n.disseminator.deceased.len } };
      timers = record { entries = m i; len = n.timers.len };
      departed = record { entries = e i; len = n.departed.len };
    }

-- the rows of a node of lists
pub unstored_pack : (s : M.Node Addr) → unstored (M.stored here s) ≡ pack_node s
unfolding unstored M.stored pack_node pack_with
unstored_pack s =
    let t = map_pad from_member 64 (W.blank_member here) s.members.table in
    let a = map_pad from_entry 128 W.unused s.disseminator.alive in
    let d = map_pad from_entry 128 W.unused s.disseminator.deceased in
    let m = map_pad from_timer 16 (W.no_timer here) s.timers in
    let e = map_pad from_departed 128 (W.no_departed here) s.departed in
    λ i. record {
      settings = s.settings;
      own = s.own;
      members = record { table = t i; len = length s.members.table; order = record { row = pad_to 64 here.blank s.members.order; position = s.members.position }; lamps = lamps_of here.same s.own s.members.table };
      disseminator = record { alive = record { entries = a i; len = length s.disseminator.alive }; deceased = record { entries = d i; len = length s.disseminator.deceased } };
      timers = record { entries = m i; len = length s.timers };
      departed = record { entries = e i; len = length s.departed };
    }

-- what the rows hold
pub loaded_view : (n : Node) → M.loaded (stored_view n) ≡ view_node n
unfolding M.loaded stored_view view_node view_members
loaded_view n =
    let t = take-map to_member n.members.len n.members.table in
    let a = take-map to_entry n.disseminator.alive.len n.disseminator.alive.entries in
    let d = take-map to_entry n.disseminator.deceased.len n.disseminator.deceased.entries in
    let m = take-map to_timer n.timers.len n.timers.entries in
    let e = take-map to_departed n.departed.len n.departed.entries in
    λ i. record {
      settings = n.settings;
      own = n.own;
      members = record { table = t i; order = take n.members.len n.members.order.row; position = n.members.order.position };
      disseminator = record { alive = a i; deceased = d i };
      timers = m i;
      departed = e i;
    }

-- what a test that was passed says of a node: it is good, and each part is as its functions ask
pub record Ready (n : Node) : Type 0 where
  pub good : Good here (view_node n)
  pub members : Held n.members
  pub lamps : Counted n.own n.members
  pub heaps : PackedHeaps n.disseminator
  pub timers : timers.Packed n.timers
  pub departed : departed.Packed n.departed

-- what is packed is read back
pub view_pack : (s : M.Node Addr) → Whole here.same s.members → view_node (pack_node s) ≡ s
unfolding pack_node view_node
view_pack s w =
    let t = packing.view_pack s.own s.members w.long in
    let a = heaps.view_pack s.disseminator.alive in
    let d = heaps.view_pack s.disseminator.deceased in
    let m = rows.view_pack to_timer from_timer (λ x. refl) 16 no_timer s.timers in
    let e = rows.view_pack to_departed from_departed (λ x. refl) 128 no_departed s.departed in
    λ i. record { settings = s.settings; own = s.own; members = t i; disseminator = record { alive = a i; deceased = d i }; timers = m i; departed = e i }

-- a good node's rows are ready
pub ready_pack : (s : M.Node Addr) → Good here s → Ready (pack_node s)
unfolding pack_node
ready_pack s g =
    record {
      good = rw (view_pack s g.whole) g;
      members = packing.held_pack s.own s.members g.whole;
      lamps = packing.counted_pack s.own s.members g.whole.long;
      heaps = record { alive = heaps.packed_pack s.disseminator.alive (g.heaps kind.Alive).few; deceased = heaps.packed_pack s.disseminator.deceased (g.heaps kind.Deceased).few };
      timers = rows.packed_pack to_timer from_timer 16 no_timer s.timers g.few;
      departed = rows.packed_pack to_departed from_departed 128 no_departed s.departed g.departed.few;
    }

-- arrays have their lengths, so the rows are full
pub full-rows : (n : Node) → length n.members.table ≡ 64 → length n.members.order.row ≡ 64 → length n.disseminator.alive.entries ≡ 128 → length n.disseminator.deceased.entries ≡ 128 → length n.timers.entries ≡ 16 → length n.departed.entries ≡ 128
    → FullRows (stored_view n)
unfolding stored_view
full-rows n a b c d e f =
    record {
      table = length-map n.members.table to_member ∙ a;
      order = b;
      alive = length-map n.disseminator.alive.entries to_entry ∙ c;
      deceased = length-map n.disseminator.deceased.entries to_entry ∙ d;
      timers = length-map n.timers.entries to_timer ∙ e;
      departed = length-map n.departed.entries to_departed ∙ f;
    }

-- a node that passes the test is ready, and it is the packed node that it holds
pub sound_pack : (n : Node) → FullRows (stored_view n) → sound here (stored_view n) ≡ true → pack_node (view_node n) ≡ n
sound_pack n f e =
    ap pack_node (sym (loaded_view n))
    ∙ sym (unstored_pack (M.loaded (stored_view n)))
    ∙ ap unstored (stored_loaded here here_lawful (stored_view n) f e)
    ∙ unstored-stored n

pub sound_ready : (n : Node) → FullRows (stored_view n) → sound here (stored_view n) ≡ true → Ready n
sound_ready n f e =
    let g : Good here (view_node n) = rw (sym (loaded_view n)) (sound_good here here_lawful (stored_view n) f e) in
    rw (sym (sound_pack n f e)) (ready_pack (view_node n) g)
