-- What is saved of a good node is restored, what is restored is good, and its image is the bytes that it came from. For any type of address and two forms of its bytes.
-- Assumes nothing.
use Rattle.std.proofs.Math.Path.{◌≡◌, refl, ap, sym}
use Rattle.std.proofs.Common.{◌∙◌, subst, arith, leb-true}
use Rattle.std.specs.Prelude.{Bool, not, ◌&&◌, List, [], ◌∷◌, map, ℕ, ◌^◌, ◌≤◌, ◌<◌, length, leb}
use Rattle.std.proofs.Math.Bool.{true, false}
use Rattle.std.proofs.lemmas.List.{length-map}
use Rattle.std.proofs.lemmas.Bool.{not-true}
use Rattle.model.specs.declared.State.TheVariants.{Alive}
use Rattle.model.specs.declared.Refusal.{Refusal}
use Rattle.model.specs.declared.Refusal.TheVariants.{Setting, WrongMark, WrongLength, OutOfRule}
use Rattle.model.specs.declared.Settings.{Settings}
use Rattle.model.specs.Rows.{one, pick, every, has, occurs}
use Rattle.model.specs.Words.{Address, Lawful, Member}
use Rattle.model.specs.Members as list
use Rattle.model.specs.Node.{Node, Stored, stored}
use Rattle.model.specs.Sound.{in_range, distinct, positioned}
use Rattle.model.specs.Calls.{Created, created, not_created, first_of}
use Rattle.laws.specs.Bools.{and_split, and_join}
use Rattle.laws.specs.Counts.{has_is}
use Rattle.laws_list.specs.Whole.{Whole}
use Rattle.laws_list.specs.Distinct.{once_distinct}
use Rattle.laws_node.specs.Good.{Good, le_positioned}
use Rattle.history.specs.Beginnings.{Restart, InRule, Gave, restarts}
use Rattle.history.proofs.Worlds.{first_good}
use Rattle.numbers.specs.Numbers.{Bytes}
use Rattle.image.specs.Image.{addr_in, own_in, entries_in, position_in, member_of, Saved, marked, sized, state_in_rule, address_in_rule, in_rule}
use Rattle.image.specs.Forms.{Forms, image_of, form_in, fields_in, said_by, in_version, Sure}
use Rattle.image.specs.Round.{Numbered, Savable}
use Rattle.image.proofs.Round.{entries_valid, members-addrs}
use Rattle.image.specs.Chosen.{Tells}
use Rattle.image.proofs.Chosen.{image-told}
use Rattle.saving.specs.Saving.{record_of, stands_in_order, saved_list, restored_node, restore}

-- what a list that is told by its records says, and what its records in probing order say
module _ {A : Type 0} (address : Address A) (lawful : Lawful address) where
  abbrev same : A → A → Bool
  same = address.same

  -- the record of an address that stands further down
  apart : (a x : A) → same a x ≡ false → same x a ≡ false
  apart a x e =
      (elim (same x a) as (λ u. same x a ≡ u → u ≡ false) [
        | true ↦ λ q. let z : same a a ≡ false = subst (λ (y : A). same a y ≡ false) (lawful.test.same_eq x a q) e in sym (lawful.test.same_refl a) ∙ z
        | false ↦ λ q. refl
      ]) refl

  below : (m : Member A) (t : List (Member A)) (l : List A) → has same m.addr l ≡ false → map (record_of address (m ∷ t)) l ≡ map (record_of address t) l
  below m t [] e = refl
  below m t (x ∷ l) e =
      (elim (same m.addr x) as (λ u. same m.addr x ≡ u → pick u true (has same m.addr l) ≡ false
      → map (record_of address (m ∷ t)) (x ∷ l) ≡ map (record_of address t) (x ∷ l)) [
        | true ↦ λ q h. let z : ◌≡◌ {A = ℕ} 0 1 = cc in absurd (omega arith)
        | false ↦ λ q h.
            let z = apart m.addr x q in
            let w = below m t l h in
            λ i. record { addr = x; state = pick (z i) m.state (list.held_state same x t); number = pick (z i) m.number (list.held same x t) } ∷ w i
      ]) refl e

  -- a list in probing order is its own records
  own-records : (t : List (Member A)) → distinct same (list.addrs t) ≡ true → map (record_of address t) (list.addrs t) ≡ t
  own-records [] e = refl
  own-records (m ∷ t) e =
      let p = and_split (not (has same m.addr (list.addrs t))) (distinct same (list.addrs t)) e in
      let r = lawful.test.same_refl m.addr in
      let w = below m t (list.addrs t) (not-true (has same m.addr (list.addrs t)) p.0) ∙ own-records t p.1 in
      λ i. record { addr = m.addr; state = pick (r i) m.state (list.held_state same m.addr t); number = pick (r i) m.number (list.held same m.addr t) } ∷ w i

  -- the addresses of the records in probing order
  order-addrs : (t : List (Member A)) (l : List A) → list.addrs (map (record_of address t) l) ≡ l
  order-addrs t [] = refl
  order-addrs t (x ∷ l) = ap (λ (r : List A). x ∷ r) (order-addrs t l)

  held_small : (a : A) (t : List (Member A)) → Numbered t → list.held same a t < 2 ^ 64
  held_small a [] n = omega arith
  held_small a (m ∷ t) n = elim (same a m.addr) as (λ u. pick u m.number (list.held same a t) < 2 ^ 64) [ true ↦ n.0 | false ↦ held_small a t n.1 ]

  -- an address that stands in a list of valid ones is valid
  valid_in : (x : A) (l : List A) → has same x l ≡ true → every address.valid l ≡ true → address.valid x ≡ true
  valid_in x [] h v = let z : ◌≡◌ {A = ℕ} 0 1 = cc in absurd (omega arith)
  valid_in x (y ∷ l) h v =
      let p = and_split (address.valid y) (every address.valid l) v in
      (elim (same x y) as (λ u. same x y ≡ u → pick u true (has same x l) ≡ true → address.valid x ≡ true) [
        | true ↦ λ q g. subst (λ (z : A). address.valid z ≡ true) (sym (lawful.test.same_eq x y q)) p.0
        | false ↦ λ q g. valid_in x l g p.1
      ]) refl h

  module _ (s : Node A) (w : Whole same s.members) (v : every address.valid (list.addrs s.members.table) ≡ true) where
    abbrev table : List (Member A)
    table = s.members.table

    abbrev order : List A
    order = s.members.order

    listed-alike : (a : A) → has same a order ≡ has same a (list.addrs table)
    listed-alike a = alike (has same a order) (has same a (list.addrs table)) (omega (arith, has_is same a order once_order, has_is same a (list.addrs table) (w.once a), w.counts a))
      where
        once_order : occurs same a order ≤ 1
        once_order = omega (arith, w.counts a, w.once a)

        alike : (x y : Bool) → one x ≡ one y → x ≡ y
        alike true true e = refl
        alike true false e = absurd (omega arith)
        alike false true e = absurd (omega arith)
        alike false false e = refl

    valid_order : (l : List A) → ((x : A) → has same x l ≡ true → has same x order ≡ true) → every address.valid l ≡ true
    valid_order [] h = refl
    valid_order (x ∷ l) h =
        let e : address.valid x ≡ true = valid_in x (list.addrs table) (sym (listed-alike x) ∙ h x (first x)) v in
        rw e (valid_order l (λ y q. h y (later y q)))
      where
        first : (y : A) → has same y (y ∷ l) ≡ true
        first y = ap (λ (u : Bool). pick u true (has same y l)) (lawful.test.same_refl y)

        later : (y : A) → has same y l ≡ true → has same y (x ∷ l) ≡ true
        later y q = elim (same y x) as (λ u. pick u true (has same y l) ≡ true) [ true ↦ refl | false ↦ q ]

    -- what the records in probing order say of an address is what the list says
    state_alike : (a : A) (l : List A) → list.held_state same a (map (record_of address table) l) ≡ pick (has same a l) (list.held_state same a table) Alive
    state_alike a [] = refl
    state_alike a (x ∷ l) =
        (elim (same a x) as (λ u. same a x ≡ u → pick u (list.held_state same x table) (list.held_state same a (map (record_of address table) l)) ≡ pick (pick u true (has same a l)) (list.held_state same a table) Alive) [
          | true ↦ λ q. ap (λ (y : A). list.held_state same y table) (sym (lawful.test.same_eq a x q))
          | false ↦ λ q. state_alike a l
        ]) refl

    number-alike : (a : A) (l : List A) → list.held same a (map (record_of address table) l) ≡ pick (has same a l) (list.held same a table) 0
    number-alike a [] = refl
    number-alike a (x ∷ l) =
        (elim (same a x) as (λ u. same a x ≡ u → pick u (list.held same x table) (list.held same a (map (record_of address table) l)) ≡ pick (pick u true (has same a l)) (list.held same a table) 0) [
          | true ↦ λ q. ap (λ (y : A). list.held same y table) (sym (lawful.test.same_eq a x q))
          | false ↦ λ q. number-alike a l
        ]) refl

    absent_state : (a : A) (t : List (Member A)) → list.held_state same a t ≡ pick (has same a (list.addrs t)) (list.held_state same a t) Alive
    absent_state a [] = refl
    absent_state a (m ∷ t) =
        elim (same a m.addr) as (λ u. pick u m.state (list.held_state same a t) ≡ pick (pick u true (has same a (list.addrs t))) (pick u m.state (list.held_state same a t)) Alive) [
          | true ↦ refl
          | false ↦ absent_state a t
        ]

    absent_number : (a : A) (t : List (Member A)) → list.held same a t ≡ pick (has same a (list.addrs t)) (list.held same a t) 0
    absent_number a [] = refl
    absent_number a (m ∷ t) =
        elim (same a m.addr) as (λ u. pick u m.number (list.held same a t) ≡ pick (pick u true (has same a (list.addrs t))) (pick u m.number (list.held same a t)) 0) [
          | true ↦ refl
          | false ↦ absent_number a t
        ]

    -- the same addresses, states, numbers and order
    pub listed_same : (a : A) → list.listed same a (stands_in_order address s.members) ≡ list.listed same a table
    listed_same a = ap (has same a) (order-addrs table order) ∙ listed-alike a

    pub state_same : (a : A) → list.held_state same a (stands_in_order address s.members) ≡ list.held_state same a table
    state_same a = state_alike a order ∙ ap (λ (u : Bool). pick u (list.held_state same a table) Alive) (listed-alike a) ∙ sym (absent_state a table)

    pub number_same : (a : A) → list.held same a (stands_in_order address s.members) ≡ list.held same a table
    number_same a = number-alike a order ∙ ap (λ (u : Bool). pick u (list.held same a table) 0) (listed-alike a) ∙ sym (absent_number a table)

    pub order_same : list.addrs (stands_in_order address s.members) ≡ order
    order_same = order-addrs table order

    numbered : Numbered table → (l : List A) → Numbered (map (record_of address table) l)
    numbered n [] = tt
    numbered n (x ∷ l) = (held_small x table n, numbered n l)

    -- a good node's list can be saved
    pub savable : address.valid s.own ≡ true → Numbered table → Savable address (saved_list address s)
    savable o n =
        let long : length (stands_in_order address s.members) ≡ length order = length-map order (record_of address table) in
        record {
          own_valid = o;
          numbers = numbered n order;
          few = omega (arith, long, w.long, w.few);
          valid = ap (every address.valid) (order-addrs table order) ∙ valid_order order (λ x h. h);
          once = ap (distinct same) (order-addrs table order) ∙ once_distinct same lawful.test order (λ a. omega (arith, w.counts a, w.once a));
          placed = ap (positioned s.members.position) long ∙ le_positioned s.members.position (length order) w.place;
        }

-- restoring
module _ {A : Type 0} (address : Address A) (lawful : Lawful address) (forms : Forms A) where
  -- bytes that are accepted: every test was passed
  six : (a b c d e g : Bool) → (a && b && c && d && e && g) ≡ true → (a ≡ true) × (b ≡ true) × (d ≡ true) × (e ≡ true) × (g ≡ true)
  six a b c d e g h =
      let p = and_split (a && b && c && d && e) g h in
      let q = and_split (a && b && c && d) e p.0 in
      let r = and_split (a && b && c) d q.0 in
      let t = and_split (a && b) c r.0 in
      let u = and_split a b t.0 in
      (u.0, u.1, r.1, q.1, p.1)

  pub record Accepted (bytes : List ℕ) (settings : Settings) : Type 0 where
    pub tells : Tells address forms bytes (said_by forms bytes)
    pub settings_in : in_range settings ≡ true

  kind_of : Created A → ℕ
  kind_of (not_created r) = 0
  kind_of (created s) = 1

  node_in : Stored A → Created A → Stored A
  node_in s (not_created r) = s
  node_in s (created t) = t

  passes : (u v w x : Bool) (a b c d : Refusal) (s node : Stored A) → first_of ((not u, a) ∷ (not v, b) ∷ (not w, c) ∷ (not x, d) ∷ []) not_created (created s) ≡ created node
      → (u ≡ true) × (v ≡ true) × (w ≡ true) × (x ≡ true) × (node ≡ s)
  unfolding kind_of node_in
  passes true true true true a b c d s node e = (refl, refl, refl, refl, sym (ap (node_in s) e))
  passes true true true false a b c d s node e = let z : ◌≡◌ {A = ℕ} 0 1 = ap kind_of e in absurd (omega arith)
  passes true true false x a b c d s node e = let z : ◌≡◌ {A = ℕ} 0 1 = ap kind_of e in absurd (omega arith)
  passes true false w x a b c d s node e = let z : ◌≡◌ {A = ℕ} 0 1 = ap kind_of e in absurd (omega arith)
  passes false v w x a b c d s node e = let z : ◌≡◌ {A = ℕ} 0 1 = ap kind_of e in absurd (omega arith)

  -- what restore accepts passed every test, and is the node of its list
  pub accepted : (bytes : List ℕ) (settings : Settings) (node : Stored A) → restore address forms bytes settings ≡ created node
      → Accepted bytes settings × (node ≡ stored address (restored_node address settings (said_by forms bytes)))
  unfolding restore
  accepted bytes settings node e =
      let p = passes (marked (form_in forms bytes) bytes) (sized (form_in forms bytes) bytes) (in_rule address (fields_in forms bytes) && in_version forms bytes) (in_range settings)
      WrongMark WrongLength OutOfRule Setting _ node e in
      let q = and_split (in_rule address (fields_in forms bytes)) (in_version forms bytes) p.2 in (
        record { tells = record { says = record { is_marked = p.0; is_sized = p.1; in-rule = q.0; says = refl }; in-version = q.1 }; settings_in = p.3 },
        p.4,
      )

  goes : (u v w x : Bool) (a b c d : Refusal) (s : Stored A) → u ≡ true → v ≡ true → w ≡ true → x ≡ true
      → first_of ((not u, a) ∷ (not v, b) ∷ (not w, c) ∷ (not x, d) ∷ []) not_created (created s) ≡ created s
  goes u v w x a b c d s e g h k = rw (e, g, h, k)

  -- bytes that say a list, with settings in range, are accepted
  pub restores : (bytes : List ℕ) (settings : Settings) (s : Saved A) → Tells address forms bytes s → in_range settings ≡ true
      → restore address forms bytes settings ≡ created (stored address (restored_node address settings s))
  unfolding restore
  restores bytes settings s t c =
      goes (marked (form_in forms bytes) bytes) (sized (form_in forms bytes) bytes) (in_rule address (fields_in forms bytes) && in_version forms bytes) (in_range settings)
      WrongMark WrongLength OutOfRule Setting _ t.says.is_marked t.says.is_sized (and_join t.says.in-rule t.in-version) c
      ∙ ap (λ (x : Saved A). created (stored address (restored_node address settings x))) t.says.says

  module _ (bytes : List ℕ) (settings : Settings) (a : Accepted bytes settings) where
    abbrev said : Saved A
    said = said_by forms bytes

    parts : (leb (length (entries_in (fields_in forms bytes))) 64 ≡ true) × (address.valid (own_in (fields_in forms bytes)) ≡ true) × (every (address_in_rule address) (entries_in (fields_in forms bytes)) ≡ true)
        × (distinct address.same (map addr_in (entries_in (fields_in forms bytes))) ≡ true) × (positioned (position_in (fields_in forms bytes)) (length (entries_in (fields_in forms bytes))) ≡ true)
    unfolding in_rule
    parts =
        six (leb (length (entries_in (fields_in forms bytes))) 64) (address.valid (own_in (fields_in forms bytes))) (every (state_in_rule address) (entries_in (fields_in forms bytes)))
        (every (address_in_rule address) (entries_in (fields_in forms bytes))) (distinct address.same (map addr_in (entries_in (fields_in forms bytes))))
        (positioned (position_in (fields_in forms bytes)) (length (entries_in (fields_in forms bytes)))) a.tells.says.in-rule

    -- what restore accepts is in rule
    pub in-rule : InRule address said.own said.rows said.position
    in-rule =
        let p = parts in
        let n = length-map (entries_in (fields_in forms bytes)) member_of in
        let e = members-addrs (entries_in (fields_in forms bytes)) in
        record {
          few = omega (arith, leb-true (length (entries_in (fields_in forms bytes))) 64 p.0, n);
          own_valid = p.1;
          valid = ap (every address.valid) e ∙ sym (entries_valid address (entries_in (fields_in forms bytes))) ∙ p.2;
          once = ap (distinct address.same) e ∙ p.3;
          placed = ap (positioned (position_in (fields_in forms bytes))) n ∙ p.4;
        }

    -- so it is a node that a history can begin at
    pub gave_restart : Gave address (Restart settings said.own said.rows said.position) (stored address (restored_node address settings said))
    gave_restart = restarts a.settings_in in-rule

    -- and good
    pub restored_good : Good address (restored_node address settings said)
    restored_good = first_good address lawful gave_restart

    -- the image of what was restored is the bytes that it came from
    pub saved_again : Sure address forms → Bytes bytes → image_of forms (saved_list address (restored_node address settings said)) ≡ bytes
    saved_again sure b =
        let p = parts in
        let e : distinct address.same (list.addrs said.rows) ≡ true = ap (distinct address.same) (members-addrs (entries_in (fields_in forms bytes))) ∙ p.3 in
        ap (λ (rows : List (Member A)). image_of forms (record { own = said.own; rows = rows; position = said.position })) (own-records address lawful said.rows e)
        ∙ image-told address forms sure bytes b said a.tells
