-- A verdict is carried out on the rows: the list changes, or that is refused; the news is pushed, or finds its heap full.
-- Assumes nothing.
use Rattle.std.specs.Prelude.{◌≡◌, Bool, true, false, length, drop, leb}
use Rattle.std.proofs.Math.Path.{refl, ap, sym}
use Rattle.std.proofs.Common.{◌∙◌, arith, leb-false}
use mathlib.Core.List.{List, [], ◌∷◌}
use Prim.Native.Nat.{ℕ, ◌+◌, ◌-◌, ◌≤◌}
use Rattle.model.specs.declared.Kind.{Kind}
use Rattle.model.specs.declared.Kind.TheVariants as kind
use Rattle.model.specs.declared.Refusal.{Refusal}
use Rattle.model.specs.declared.Drew.TheVariants.{Used, Refused}
use Rattle.model.specs.Rows.{one, pick}
use Rattle.model.specs.Answers.{Answer, done, refused, and_then, when, full_of}
use Rattle.address.specs.Here.{Addr, here}
use Rattle.model.specs.Words as W
use Rattle.model.specs.Heap.{push}
use Rattle.model.specs.Choose.{entry_of}
use Rattle.model.specs.Collect.{collects}
use Rattle.laws_choose.specs.Collecting.{cleared-length}
use Rattle.model.specs.Members as list
use Rattle.model.specs.Node as M
use Rattle.model.specs.Handler as handler
use Rattle.order.specs.Ends.{drew_refused, Done, drew_done}
use Rattle.member.specs.declared.Kept.{Kept}
use Rattle.member.specs.Views.{view_members, pack_members, kept_members}
use Rattle.heap.specs.declared.Heap.{Heap}
use Rattle.heap.specs.Views.{heap_view, pack_heap, Packed, view_length, pack_view}
use Rattle.disseminate.specs.declared.Disseminator.{Disseminator}
use Rattle.disseminate.specs.Views.{of_kind, emitted, pushed_to, view_disseminator, pack_disseminator, both-back}
use Rattle.disseminate.proofs.Pushing.{cleared_is, cleared_view, cleared_len, cleared-packed}
use Rattle.departed.specs.declared.DepartedRow.{DepartedRow}
use Rattle.departed.specs.Views.{departed_view, pack_departed}
use Rattle.rules.specs.Views.{collects_for, list_after_of}
use Rattle.node.specs.declared.Node.{Node}
use Rattle.node.specs.Views.{view_node, pack_node, with_lists, with_disseminator}
use Rattle.node.specs.Rows.{Ready}
use Rattle.node.specs.Parts.{ready_is}
use Rattle.message.specs.Views.{cleared_for, leaves_all, goes_to, finds_full, full_for, RoomFor, told_to, said_by}
use Rattle.message.specs.Drawn.{list_leaves}

-- what comes after an answer that was refused or not
when_then : (u : Bool) (full : Refusal) (x : M.Disseminator Addr) (rest : List ℕ) (f : M.Disseminator Addr → List ℕ → Answer (M.Out Addr)) → and_then (when u (refused full) (done x rest)) f ≡ when u (refused full) (f x rest)
unfolding when
when_then true full x rest f = refl
when_then false full x rest f = refl

no_truth : {A : Type 0} → ◌≡◌ {A = Bool} false true → A
no_truth e = let z : ◌≡◌ {A = ℕ} 0 1 = ap one e in absurd (omega arith)

-- a verdict that leaves all as it is
acts_quiet : (v : handler.Verdict Addr) → leaves_all v ≡ true → (s : M.Node Addr) (ds : List ℕ) → handler.act here v s ds ≡ M.quiet s ds
unfolding handler.act handler.list_after handler.row_after handler.news_of
acts_quiet handler.Skip e s ds = refl
acts_quiet handler.Unknown e s ds = refl
acts_quiet handler.Equal e s ds = refl
acts_quiet handler.Low e s ds = refl
acts_quiet handler.AtEnd e s ds = no_truth e
acts_quiet (handler.Refute n) e s ds = no_truth e
acts_quiet (handler.Enter a n) e s ds = no_truth e
acts_quiet (handler.Raise a n) e s ds = no_truth e
acts_quiet (handler.Recover a n) e s ds = no_truth e
acts_quiet (handler.Suspect a n) e s ds = no_truth e
acts_quiet (handler.Bury a n) e s ds = no_truth e

-- no old news: nothing is cleared
pub cleared-none : (w : handler.News Addr) (h : Heap) → cleared_for 0 w h ≡ h
cleared-none handler.Silent h = refl
cleared-none (handler.Emits k e) h = refl

-- a heap that news does not go to is as it came
pub told_elsewhere : (k : Kind) (w : handler.News Addr) (h : Heap) → goes_to k w ≡ false → told_to k w h ≡ h
told_elsewhere k handler.Silent h f = refl
told_elsewhere k (handler.Emits j e) h f = ap (λ (u : Bool). pick u (emitted h (record { event = e })) h) f

-- news of the living goes nowhere else
pub living-only : (w : handler.News Addr) → goes_to kind.Alive w ≡ true → goes_to kind.Deceased w ≡ false
living-only handler.Silent t = refl
living-only (handler.Emits kind.Alive e) t = refl
living-only (handler.Emits kind.Deceased e) t = no_truth t

-- and leaves the row of the departed
row_kept : (v : handler.Verdict Addr) (own : Addr) (t : List (W.Member Addr)) (row : List (W.Departed Addr)) → goes_to kind.Alive (handler.news_of here v own) ≡ true → handler.row_after here v t row ≡ row
unfolding handler.row_after handler.news_of
row_kept handler.Skip own t row e = refl
row_kept handler.Unknown own t row e = refl
row_kept handler.Equal own t row e = refl
row_kept handler.Low own t row e = refl
row_kept handler.AtEnd own t row e = refl
row_kept (handler.Refute n) own t row e = refl
row_kept (handler.Enter a n) own t row e = refl
row_kept (handler.Raise a n) own t row e = refl
row_kept (handler.Recover a n) own t row e = refl
row_kept (handler.Suspect a n) own t row e = refl
row_kept (handler.Bury a n) own t row e = no_truth e

pub row_stays : (n : Node) → Ready n → (v : handler.Verdict Addr) → goes_to kind.Alive (handler.news_of here v n.own) ≡ true
    → n.departed ≡ pack_departed (handler.row_after here v (view_members n.members).table (departed_view n.departed))
unfolding pack_node view_node
row_stays n r v e = sym (ap pack_departed (row_kept v n.own (view_members n.members).table (departed_view n.departed) e) ∙ ap (λ (y : Node). y.departed) (ready_is n r))

-- there is room in the heap that news goes to
pub room_for : (w : handler.News Addr) (k : Kind) (alive deceased : ℕ) → finds_full w alive deceased ≡ false → RoomFor k w (of_kind k alive deceased)
room_for handler.Silent k a d f = tt
room_for (handler.Emits kind.Alive e) kind.Alive a d f = λ _. leb-false 128 a f
room_for (handler.Emits kind.Alive e) kind.Deceased a d f = λ s. let z : ◌≡◌ {A = ℕ} 0 1 = ap one s in absurd (omega arith)
room_for (handler.Emits kind.Deceased e) kind.Alive a d f = λ s. let z : ◌≡◌ {A = ℕ} 0 1 = ap one s in absurd (omega arith)
room_for (handler.Emits kind.Deceased e) kind.Deceased a d f = λ _. leb-false 128 d f

-- the alive heap without what news outdates has so many entries less
pub cleared_fits : (on : Bool) (w : handler.News Addr) (h : Heap) → Packed h
    → Packed (cleared_for (collects_for on w (heap_view h)) w h) × ((cleared_for (collects_for on w (heap_view h)) w h).len ≡ h.len - collects_for on w (heap_view h))
cleared_fits on handler.Silent h p = (p, omega arith)
cleared_fits on (handler.Emits k e) h p = (cleared-packed on k (record { event = e }) h p, omega (arith, cleared_len on k (record { event = e }) h p))

-- a verdict that was carried out, and what the rows hold then
pub record Acted (x : Answer (M.Out Addr)) (w : handler.News Addr) (old : ℕ) (m : Node) (draws : List ℕ) (next : ℕ) : Type 0 where
  pub out : M.Out Addr
  pub rest : List ℕ
  pub is : x ≡ done out rest
  pub node : m ≡ pack_node out.node
  pub said : out.said ≡ said_by w
  pub collected : out.collected ≡ old
  pub left : drop next draws ≡ rest
  pub within : next ≤ length draws

-- a verdict that leaves all was carried out before it was begun
pub act-leaves : (n : Node) → Ready n → (v : handler.Verdict Addr) (draws : List ℕ) (used : ℕ) → used ≤ length draws → leaves_all v ≡ true → Acted (handler.act here v (view_node n) (drop used draws)) handler.Silent 0 n draws used
unfolding M.quiet
act-leaves n r v draws used h e =
    record {
      out = record { node = view_node n; said = []; collected = 0 };
      rest = drop used draws;
      is = acts_quiet v e (view_node n) (drop used draws);
      node = sym (ready_is n r);
      said = refl;
      collected = refl;
      left = refl;
      within = h;
    }

module _ (n : Node) (r : Ready n) (v : handler.Verdict Addr) (draws : List ℕ) (used : ℕ) (h : used ≤ length draws) (k : Kept) (is : k ≡ list_after_of n.own n.members v draws used) where
  abbrev x : Answer (list.Members Addr)
  x = handler.list_after here v (view_members n.members) (drop used draws)

  abbrev news : handler.News Addr
  news = handler.news_of here v n.own

  abbrev whole : Answer (M.Out Addr)
  whole = handler.act here v (view_node n) (drop used draws)

  -- the row of the departed after it
  abbrev pub gone_after : List (W.Departed Addr)
  gone_after = handler.row_after here v (view_members n.members).table (departed_view n.departed)

  abbrev telling : list.Members Addr → List ℕ → Answer (M.Out Addr)
  telling m rest = handler.tell here news (M.with_lists (view_node n) m gone_after) rest

  list_first : (y : Answer (list.Members Addr)) → x ≡ y → whole ≡ and_then y telling
  unfolding handler.act view_node
  list_first y e = ap (λ (z : Answer (list.Members Addr)). and_then z telling) e

  -- the list was refused
  pub act-refused : (u : Refusal) → k.drew ≡ Refused u → whole ≡ refused u
  act-refused u d = list_first (refused u) (drew_refused (length draws - used) x u (ap (λ (y : Kept). y.drew) (sym is) ∙ d))

  module _ (more : ℕ) (d : k.drew ≡ Used more) where
    listed : Done x draws used more
    listed = drew_done x draws used more h (list_leaves here v (view_members n.members) (drop used draws)) (ap (λ (y : Kept). y.drew) (sym is) ∙ d)

    pub drawn_within : used + more ≤ length draws
    drawn_within = listed.within

    kept : k.members ≡ pack_members n.own listed.gave
    kept = ap (λ (y : Kept). y.members) is ∙ ap (kept_members n.own n.members) listed.is

    then_tells : whole ≡ telling listed.gave listed.rest
    then_tells = list_first (done listed.gave listed.rest) listed.is

    abbrev on : Bool
    on = n.settings.collect

    abbrev living : Heap
    living = n.disseminator.alive

    -- how many the news outdates
    abbrev pub old_for : handler.News Addr → ℕ
    old_for w = collects_for on w (heap_view living)

    -- the heaps after the news, in the rules' words
    abbrev after_news : handler.News Addr → M.Disseminator Addr
    after_news handler.Silent = view_disseminator n.disseminator
    after_news (handler.Emits j e) = pushed_to on j (record { event = e }) (view_disseminator n.disseminator)

    heaps_are : (w : handler.News Addr) → record { alive = told_to kind.Alive w (cleared_for (old_for w) w living); deceased = told_to kind.Deceased w n.disseminator.deceased } ≡ pack_disseminator (after_news w)
    heaps_are handler.Silent = sym (both-back n.disseminator r.heaps)
    heaps_are (handler.Emits kind.Alive e) =
        let g : W.Gossip Addr = record { event = e } in
        let a = ap (λ (l : List (W.Entry Addr)). pack_heap (push W.unused W.sends_of l (entry_of here g))) (cleared_view on kind.Alive g living r.heaps.alive) in
        λ i. record { alive = a i; deceased = sym (pack_view n.disseminator.deceased r.heaps.deceased) i }
    heaps_are (handler.Emits kind.Deceased e) =
        λ i. record { alive = cleared_is on kind.Deceased (record { event = e }) living r.heaps.alive i; deceased = emitted n.disseminator.deceased (record { event = e }) }

    -- the rules count the entries of the list that a heap holds, the code has their number
    held_is : (j : Kind) (e : W.Event Addr) → length (M.heap_of j (M.collecting here on j (record { event = e }) (view_disseminator n.disseminator)))
        ≡ of_kind j (living.len - old_for (handler.Emits j e)) n.disseminator.deceased.len
    held_is kind.Alive e =
        let g : W.Gossip Addr = record { event = e } in
        omega (arith, cleared-length here kind.Alive g (heap_view living) on, view_length living r.heaps.alive)
    held_is kind.Deceased e = view_length n.disseminator.deceased r.heaps.deceased

    abbrev full : handler.News Addr → Bool
    full w = finds_full w (living.len - old_for w) n.disseminator.deceased.len

    -- what news leaves
    abbrev leaves : M.Node Addr → handler.News Addr → M.Out Addr
    leaves s w = record { node = M.with_disseminator s (after_news w); said = said_by w; collected = old_for w }

    -- news is told by what is asked of the heap's length
    tells : (w : handler.News Addr) (s : M.Node Addr) → s.disseminator ≡ view_disseminator n.disseminator → s.settings.collect ≡ on → (rest : List ℕ)
        → handler.tell here w s rest ≡ when (full w) (refused (full_for w)) (done (leaves s w) rest)
    unfolding M.emit M.pushed M.quiet when
    tells handler.Silent s q z rest = λ i. done (record { node = M.with_disseminator s (q i); said = []; collected = 0 }) rest
    tells (handler.Emits j e) s q z rest =
        let g : W.Gossip Addr = record { event = e } in
        let said : M.Disseminator Addr → List ℕ → Answer (M.Out Addr) = λ d rest₂. done (record { node = M.with_disseminator s d; said = g ∷ []; collected = old_for (handler.Emits j e) }) rest₂ in
        (λ i. and_then (M.pushed here (z i) j g (q i) rest) λ d rest₂. done (record { node = M.with_disseminator s d; said = g ∷ []; collected = collects here (z i) j g (q i).alive }) rest₂)
        ∙ ap (λ (h : ℕ). and_then (when (leb 128 h) (refused (full_of j)) (done (after_news (handler.Emits j e)) rest)) said) (held_is j e)
        ∙ when_then (full (handler.Emits j e)) (full_of j) (after_news (handler.Emits j e)) rest said

    -- the heap was full
    pub act-full : full news ≡ true → whole ≡ refused (full_for news)
    unfolding view_node when
    act-full f =
        then_tells
        ∙ tells news (M.with_lists (view_node n) listed.gave gone_after) refl refl listed.rest
        ∙ ap (λ (u : Bool). when u (refused (full_for news)) (done (leaves (M.with_lists (view_node n) listed.gave gone_after) news) listed.rest)) f

    -- all is carried out
    pub act_done : (p : DepartedRow) (a d : Heap) → p ≡ pack_departed gone_after → a ≡ told_to kind.Alive news (cleared_for (old_for news) news living) → d ≡ told_to kind.Deceased news n.disseminator.deceased → full news ≡ false
        → Acted whole news (old_for news) (with_disseminator (with_lists n k.members p) (record { alive = a; deceased = d })) draws (used + more)
    unfolding pack_node view_node when
    act_done p a d is-p is-a is-d f =
        let s = M.with_lists (view_node n) listed.gave gone_after in
        let t = sym (ap (λ (y : Node). y.timers) (ready_is n r)) in
        record {
          out = leaves s news;
          rest = listed.rest;
          is =
              then_tells
              ∙ tells news s refl refl listed.rest
              ∙ ap (λ (u : Bool). when u (refused (full_for news)) (done (leaves s news) listed.rest)) f;
          node = λ i. record { settings = n.settings; own = n.own; members = kept i; disseminator = (heaps a d is-a is-d) i; timers = t i; departed = is-p i };
          said = refl;
          collected = refl;
          left = listed.next;
          within = listed.within;
        }
      where
        heaps : (a d : Heap) → a ≡ told_to kind.Alive news (cleared_for (old_for news) news living) → d ≡ told_to kind.Deceased news n.disseminator.deceased → record { alive = a; deceased = d } ≡ pack_disseminator (after_news news)
        heaps a d is-a is-d = (λ i. record { alive = is-a i; deceased = is-d i }) ∙ heaps_are news
