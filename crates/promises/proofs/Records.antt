-- AT WHICH RECORD A MESSAGE STOPS. For any type of address.
-- Assumes nothing.
use Rattle.std.specs.Prelude.{◌≡◌, ◌↔◌, ◌⊎◌, Bool, length, get_or, take}
use Rattle.std.proofs.Math.Path.{refl, ap, subst₂}
use Rattle.std.proofs.Common.{sym, ◌∙◌, subst, arith, length-take, lt-ltb, le-ltb, take-take, get_or-take}
use Rattle.std.proofs.Math.Logic.{inl, inr}
use mathlib.Core.List.{List, [], ◌∷◌, ◌++◌}
use Rattle.std.proofs.Math.Option.{Option, none, some}
use Prim.Native.Nat.{ℕ, zero, suc, ◌+◌, ◌<◌}
use Rattle.model.specs.declared.Cause.TheVariants.{Record, Sender}
use Rattle.model.specs.declared.Kind.TheVariants as kind
use Rattle.model.specs.declared.Refusal.{Refusal}
use Rattle.model.specs.declared.Refusal.TheVariants.{NumberEnd, ListFull, DrawsShort, AliveFull, DeceasedFull}
use Rattle.model.specs.Rows.{pick}
use Rattle.model.specs.Answers.{Answer, done, refused, and_then, full_of}
use Rattle.model.specs.Words.{Address, Gossip, nothing, Action, Ping, PingReq, Ack}
use Rattle.model.specs.Node as M
use Rattle.model.specs.Node.{Node, Out}
use Rattle.model.specs.Handler as handler
use Rattle.promises.specs.Firsts.{FirstFails}
use Rattle.promises.proofs.Firsts.{first-among}
use Rattle.promises.specs.Stops.{Push, item_wants, admit_wants, item_stops, full_for, StopsAt, AdmissionStops, at_admission, MessageStops, at_record, at_sender}
use Rattle.promises.proofs.Stopping.{item_exactly, admit_exactly}
use Rattle.promises.specs.Records.{Told}

full-among : (P : Refusal → Type 0) → P AliveFull → P DeceasedFull → {A : Type 0} (p : Option (Push A)) → P (full_for p)
full-among P nine thirteen none = nine
full-among P nine thirteen (some p) = elim p.heap as (λ k. P (full_of k)) [ kind.Alive ↦ nine | kind.Deceased ↦ thirteen ]

-- what holds of the refusals of an item or an admission holds of a message's
pub message-among : {A : Type 0} {address : Address A} {gs : List (Gossip A)} {s : Node A} {ds : List ℕ} {x : Refusal} {action : Action A} (P : Refusal → Type 0)
    → P NumberEnd → P ListFull → P DrawsShort → P AliveFull → P DeceasedFull → MessageStops address gs s ds x action → P x
message-among {address = address} {gs = gs} P six seven eight nine thirteen (at_record k h) =
    first-among P h.stops (six, (seven, (eight, (full-among P nine thirteen (item_wants address (get_or gs k nothing).event h.so_far.node).pushes, tt))))
message-among {address = address} P six seven eight nine thirteen (at_sender (at_admission {from = from} so_far left e f)) =
    first-among P f (six, (seven, (eight, (full-among P nine thirteen (admit_wants address from so_far.node).pushes, tt))))

-- ---- one rule after another: where it is refused, and where it gives something
never : {B C : Type 0} {x : Refusal} {b : B} {ds : List ℕ} → ◌≡◌ {A = Answer B} (refused x) (done b ds) → C
never e = let z : ◌≡◌ {A = ℕ} 0 1 = cc in absurd (omega arith)

then_done : {B C : Type 0} {a : Answer B} (f : B → List ℕ → C) (x : Refusal) → (and_then a (λ b rest. done (f b rest) rest) ≡ refused x) ↔ (a ≡ refused x)
then_done {a = refused y} f x = ((λ e. let z : y ≡ x = cc in ap refused z), (λ e. let z : y ≡ x = cc in ap refused z))
then_done {a = done b ds} f x = ((λ e. never (sym e)), (λ e. never (sym e)))

module _ {A : Type 0} (k : Node A → List ℕ → Answer (Out A)) where
  -- the first is refused, or the second is, on what the first gives
  more-refused : (a : Answer (Out A)) (x : Refusal) → (M.and_more a k ≡ refused x) ↔ ((a ≡ refused x) ⊎ ((o : Out A) × (rest : List ℕ) × (a ≡ done o rest) × (k o.node rest ≡ refused x)))
  unfolding M.and_more
  more-refused (refused y) x = (
    (λ e. inl (let z : y ≡ x = cc in ap refused z)),
    (λ h. elim h [ inl e ↦ (let z : y ≡ x = cc in ap refused z) | inr t ↦ never t.2 ]),
  )
  more-refused (done o rest) x = (
    (λ e. inr (o, rest, refl, (then_done _ x).0 e)),
    (λ h. elim h [
      | inl e ↦ never (sym e)
      | inr t ↦
          let o_is : o ≡ t.0 = cc in
          let rest_is : rest ≡ t.1 = cc in
          (then_done _ x).1 ((λ i. k (o_is i).node (rest_is i)) ∙ t.3)
    ]),
  )

  -- both give something
  more_done : (a : Answer (Out A)) (p : Out A) (left : List ℕ) → M.and_more a k ≡ done p left
      → (o : Out A) × (rest : List ℕ) × (a ≡ done o rest) × (q : Out A) × (k o.node rest ≡ done q left) × (q.node ≡ p.node)
  unfolding M.and_more
  more_done (refused y) p left e = never e
  more_done (done o rest) p left e =
      let r = second (k o.node rest) refl e in
      (o, rest, refl, r.0, r.1, r.2)
    where
      second : (b : Answer (Out A)) → k o.node rest ≡ b → and_then b (λ q rest₂. done (record { node = q.node; said = o.said ++ q.said; collected = o.collected + q.collected }) rest₂) ≡ done p left
          → (q : Out A) × (k o.node rest ≡ done q left) × (q.node ≡ p.node)
      second (refused y) f g = never g
      second (done q rest₂) f g =
          let same : record { node = q.node; said = o.said ++ q.said; collected = o.collected + q.collected } ≡ p = cc in
          let l : rest₂ ≡ left = cc in
          (q, f ∙ ap (done q) l, λ i. (same i).node)

module _ {A : Type 0} (address : Address A) (x : Refusal) where
  -- a record further on
  further : (g : Gossip A) (gs : List (Gossip A)) (s : Node A) (ds : List ℕ) (o : Out A) (rest : List ℕ) (k : ℕ)
      → handler.item address g.event s ds ≡ done o rest → StopsAt address gs o.node rest x k → StopsAt address (g ∷ gs) s ds x (suc k)
  unfolding M.and_more
  further g gs s ds o rest k e h =
      record {
        there = omega (arith, h.there);
        so_far = record { node = h.so_far.node; said = o.said ++ h.so_far.said; collected = o.collected + h.so_far.collected };
        left = h.left;
        through =
            (λ i. M.and_more (e i) (handler.gossip address (take k gs)))
            ∙ (λ i. and_then (h.through i) λ p rest₂. done (record { node = p.node; said = o.said ++ p.said; collected = o.collected + p.collected }) rest₂);
        stops = h.stops;
      }

  halted : (gs : List (Gossip A)) (s : Node A) (ds : List ℕ) → handler.gossip address gs s ds ≡ refused x → (k : ℕ) × StopsAt address gs s ds x k
  unfolding M.quiet
  halted [] s ds e = never (sym e)
  halted (g ∷ gs) s ds e =
      elim ((more-refused (handler.gossip address gs) (handler.item address g.event s ds) x).0 e) [
        | inl f ↦ (0, record { there = omega arith; so_far = record { node = s; said = []; collected = 0 }; left = ds; through = refl; stops = (item_exactly address x g.event s ds).0 f })
        | inr t ↦ let h = halted gs t.0.node t.1 t.3 in (suc h.0, further g gs s ds t.0 t.1 h.0 t.2 h.1)
      ]

  stopped : (gs : List (Gossip A)) (s : Node A) (ds : List ℕ) (k : ℕ) → StopsAt address gs s ds x k → handler.gossip address gs s ds ≡ refused x
  unfolding M.quiet
  stopped [] s ds k h = absurd (omega (arith, h.there))
  stopped (g ∷ gs) s ds zero h =
      let fresh : Out A = record { node = s; said = []; collected = 0 } in
      let told : done fresh ds ≡ done h.so_far h.left = h.through in
      let o_is : h.so_far ≡ fresh = cc in
      let rest_is : h.left ≡ ds = cc in
      let here : FirstFails x (item_stops address g.event s ds) = subst₂ (λ (o : Out A) (rest : List ℕ). FirstFails x (item_stops address g.event o.node rest)) o_is rest_is h.stops in
      (more-refused (handler.gossip address gs) (handler.item address g.event s ds) x).1 (inl ((item_exactly address x g.event s ds).1 here))
  stopped (g ∷ gs) s ds (suc k) h =
      let t = more_done (handler.gossip address (take k gs)) (handler.item address g.event s ds) h.so_far h.left h.through in
      (more-refused (handler.gossip address gs) (handler.item address g.event s ds) x).1 (inr (
        t.0,
        t.1,
        t.2,
        stopped gs t.0.node t.1 k (record {
          there = omega (arith, h.there);
          so_far = t.3;
          left = h.left;
          through = t.4;
          stops = rw t.5 h.stops;
        }),
      ))

  at-some_record : {action : Action A} (gs : List (Gossip A)) (s : Node A) (ds : List ℕ) → handler.gossip address gs s ds ≡ refused x → MessageStops address gs s ds x action
  at-some_record gs s ds e = let h = halted gs s ds e in at_record h.0 h.1

  -- and the message
  pub handle_exactly : (action : Action A) (gs : List (Gossip A)) (s : Node A) (ds : List ℕ) → (handler.handle address action gs s ds ≡ refused x) ↔ MessageStops address gs s ds x action
  unfolding handler.handle
  handle_exactly (Ping from by) gs s ds =
      let more = more-refused (handler.admit address from) (handler.gossip address gs s ds) x in (
        (λ e. elim (more.0 ((then_done _ x).0 e)) [
          | inl f ↦ at-some_record gs s ds f
          | inr t ↦ at_sender (at_admission t.0 t.1 t.2 ((admit_exactly address x from t.0.node t.1).0 t.3))
        ]),
        (λ h. (then_done _ x).1 (more.1 (elim h [
          | at_record k h ↦ inl (stopped gs s ds k h)
          | at_sender (at_admission o left e f) ↦ inr (o, left, e, (admit_exactly address x from o.node left).1 f)
        ]))),
      )
  handle_exactly (PingReq from suspect) gs s ds = (
    (λ e. at-some_record gs s ds ((then_done _ x).0 e)),
    (λ h. elim h [ at_record k h ↦ (then_done _ x).1 (stopped gs s ds k h) | at_sender x3 ↦ elim x3 [ ] ]),
  )
  handle_exactly (Ack from to) gs s ds = (
    (λ e. at-some_record gs s ds ((then_done _ x).0 e)),
    (λ h. elim h [ at_record k h ↦ (then_done _ x).1 (stopped gs s ds k h) | at_sender x3 ↦ elim x3 [ ] ]),
  )

  -- as many records as the rules get through: those before the one that stops, or all
  through_until : (gs : List (Gossip A)) (s : Node A) (ds : List ℕ) (k : ℕ) → StopsAt address gs s ds x k → handler.through address gs s ds ≡ k
  unfolding M.quiet
  through_until [] s ds k h = absurd (omega (arith, h.there))
  through_until (g ∷ gs) s ds zero h =
      let fresh : Out A = record { node = s; said = []; collected = 0 } in
      let told : done fresh ds ≡ done h.so_far h.left = h.through in
      let o_is : h.so_far ≡ fresh = cc in
      let rest_is : h.left ≡ ds = cc in
      let here : FirstFails x (item_stops address g.event s ds) = subst₂ (λ (o : Out A) (rest : List ℕ). FirstFails x (item_stops address g.event o.node rest)) o_is rest_is h.stops in
      ap (λ (y : Answer (Out A)). handler.count_on address y (handler.through address gs)) ((item_exactly address x g.event s ds).1 here)
  through_until (g ∷ gs) s ds (suc k) h =
      let t = more_done (handler.gossip address (take k gs)) (handler.item address g.event s ds) h.so_far h.left h.through in
      ap (λ (y : Answer (Out A)). handler.count_on address y (handler.through address gs)) t.2
      ∙ ap suc (through_until gs t.0.node t.1 k (record { there = omega (arith, h.there); so_far = t.3; left = h.left; through = t.4; stops = rw t.5 h.stops }))

  through_all : (gs : List (Gossip A)) (s : Node A) (ds : List ℕ) (o : Out A) (left : List ℕ) → handler.gossip address gs s ds ≡ done o left → handler.through address gs s ds ≡ length gs
  through_all [] s ds o left e = refl
  through_all (g ∷ gs) s ds o left e =
      let t = more_done (handler.gossip address gs) (handler.item address g.event s ds) o left e in
      ap (λ (y : Answer (Out A)). handler.count_on address y (handler.through address gs)) t.2 ∙ ap suc (through_all gs t.0.node t.1 t.3 left t.4)

  -- so the cause that is told is the true one
  record_told : (gs : List (Gossip A)) (s : Node A) (ds : List ℕ) (k : ℕ) → StopsAt address gs s ds x k → handler.stops_at address gs s ds ≡ Record k
  unfolding handler.stops_at handler.cause_at
  record_told gs s ds k h = ap (λ (j : ℕ). handler.cause_at j (length gs)) (through_until gs s ds k h) ∙ ap (λ (u : Bool). pick u (Record k) Sender) (lt-ltb k (length gs) h.there)

  sender_told : {action : Action A} (gs : List (Gossip A)) (s : Node A) (ds : List ℕ) → AdmissionStops address gs s ds x action → handler.stops_at address gs s ds ≡ Sender
  unfolding handler.stops_at handler.cause_at
  sender_told gs s ds (at_admission o left e f) =
      ap (λ (j : ℕ). handler.cause_at j (length gs)) (through_all gs s ds o left e) ∙ ap (λ (u : Bool). pick u (Record (length gs)) Sender) (le-ltb (length gs) (length gs) (omega arith))

  -- what stops at a record stops all that goes further
  cut : (gs : List (Gossip A)) (s : Node A) (ds : List ℕ) (k j : ℕ) → k < j → StopsAt address gs s ds x k → StopsAt address (take j gs) s ds x k
  cut gs s ds k j before h =
      record {
        there = omega (arith, before, h.there, length-take j gs);
        so_far = h.so_far;
        left = h.left;
        through = ap (λ (l : List (Gossip A)). handler.gossip address l s ds) (take-take k j gs (omega (arith, before))) ∙ h.through;
        stops = rw (get_or-take j gs k nothing before) h.stops;
      }

-- A refused message tells record k exactly if that record stops, and the sender exactly if its admission does
module _ {A : Type 0} (address : Address A) (x : Refusal) (action : Action A) (gs : List (Gossip A)) (s : Node A) (ds : List ℕ) where
  pub tells_record : (k : ℕ) → (Told address x action gs s ds) (Record k) ↔ StopsAt address gs s ds x k
  tells_record k = ((λ t. only_if ((handle_exactly address x action gs s ds).0 t.0) t.1), (λ h. ((handle_exactly address x action gs s ds).1 (at_record k h), record_told address x gs s ds k h)))
    where
      only_if : MessageStops address gs s ds x action → handler.stops_at address gs s ds ≡ Record k → StopsAt address gs s ds x k
      only_if (at_record j h) e =
          let same : Record j ≡ Record k = sym (record_told address x gs s ds j h) ∙ e in
          let j-is : j ≡ k = cc in
          subst (λ (i : ℕ). StopsAt address gs s ds x i) j-is h
      only_if (at_sender h) e = let apart : Sender ≡ Record k = sym (sender_told address x gs s ds h) ∙ e in let z : ◌≡◌ {A = ℕ} 0 1 = cc in absurd (omega arith)

  pub tells_sender : (Told address x action gs s ds) Sender ↔ AdmissionStops address gs s ds x action
  tells_sender = ((λ t. only_if ((handle_exactly address x action gs s ds).0 t.0) t.1), (λ h. ((handle_exactly address x action gs s ds).1 (at_sender h), sender_told address x gs s ds h)))
    where
      only_if : MessageStops address gs s ds x action → handler.stops_at address gs s ds ≡ Sender → AdmissionStops address gs s ds x action
      only_if (at_record j h) e = let apart : Record j ≡ Sender = sym (record_told address x gs s ds j h) ∙ e in let z : ◌≡◌ {A = ℕ} 0 1 = cc in absurd (omega arith)
      only_if (at_sender h) e = h

-- there is one such record at most
module _ {A : Type 0} (address : Address A) (gs : List (Gossip A)) (s : Node A) (ds : List ℕ) where
  not_before : (x y : Refusal) (k j : ℕ) → StopsAt address gs s ds x k → StopsAt address gs s ds y j → k < j → ⊥
  not_before x y k j h i before = never (sym (stopped address x (take j gs) s ds k (cut address x gs s ds k j before h)) ∙ i.through)

  pub one_record : (x y : Refusal) (k j : ℕ) → StopsAt address gs s ds x k → StopsAt address gs s ds y j → k ≡ j
  one_record x y k j h i = omega (arith, not_before x y k j h i, not_before y x j k i h)
