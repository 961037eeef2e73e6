-- Adding a peer: each way out.
-- Assumes nothing.
use mathlib.Core.Path.{◌≡◌, refl, ap, sym, ◌∙◌}
use mathlib.Core.Bool.{Bool, true, false, not}
use mathlib.Core.List.{List, [], ◌∷◌}
use Prim.Native.Nat.{ℕ, ◌-◌}
use native.Mathlib.Omega.{arith}
use lib.ListN.{length}
use Rattle.model.specs.declared.Refusal.{Refusal}
use Rattle.model.specs.declared.Refusal.TheVariants.{Unsound, AddressRange}
use Rattle.model.specs.declared.Reply.TheVariants.{Done, Already, Refused}
use Rattle.model.specs.Answers as A
use Rattle.address.specs.Here.{Addr, here}
use Rattle.model.specs.Members as list
use Rattle.model.specs.Node as M
use Rattle.model.specs.Sound.{sound}
use Rattle.model.specs.Calls.{Outcome, unchanged, refuses, or_already, kept, joins, add_tests, add_peer}
use Rattle.model.specs.declared.Drew.{Drew}
use Rattle.model.specs.declared.Drew.TheVariants as drew
use Rattle.order.specs.Views.{drew_of}
use Rattle.member.specs.declared.Members.{Members}
use Rattle.member.specs.Views.{view_members, kept_members}
use Rattle.node.specs.declared.Node.{Node}
use Rattle.node.specs.declared.Answer.{Answer}
use Rattle.node.specs.Views.{view_node, stored_view, pack_node, with_members, plain_answer, answer_of}
use Rattle.node.specs.Rows.{Ready, loaded_view}
use Rattle.node.specs.Parts.{part-members}
use Rattle.node.specs.Ends.{test_fails, test_passes, unchanged_is, kept_is}

module _ (n : Node) (a : Addr) (number : ℕ) (draws : List ℕ) where
  abbrev s : M.Stored Addr
  s = stored_view n

  abbrev go : Outcome Addr
  go = or_already (M.lists here a (M.loaded s)) s (kept here s draws (joins here a number (M.loaded s) draws))

  abbrev first : Bool × Refusal
  first = (not (sound here s), Unsound)

  abbrev second : Bool × Refusal
  second = (not (here.valid a), AddressRange)

  pub add_unsound : sound here s ≡ false → plain_answer (Refused Unsound) n ≡ answer_of (add_peer here s a number draws)
  unfolding add_peer
  add_unsound e = sym (ap answer_of (test_fails first (second ∷ []) (refuses s) go (ap not e)) ∙ unchanged_is (Refused Unsound) n)

  module _ (e : sound here s ≡ true) where
    pub add_address : here.valid a ≡ false → plain_answer (Refused AddressRange) n ≡ answer_of (add_peer here s a number draws)
    unfolding add_peer
    add_address v =
        sym
        (ap answer_of (test_passes first (second ∷ []) (refuses s) go (ap not e) ∙ test_fails second [] (refuses s) go (ap not v))
        ∙ unchanged_is (Refused AddressRange) n)

    module _ (v : here.valid a ≡ true) where
      passed : add_peer here s a number draws ≡ or_already (M.lists here a (view_node n)) s (kept here s draws (joins here a number (view_node n) draws))
      unfolding add_peer
      passed =
          test_passes first (second ∷ []) (refuses s) go (ap not e)
          ∙ test_passes second [] (refuses s) go (ap not v)
          ∙ ap (λ (m : M.Node Addr). or_already (M.lists here a m) s (kept here s draws (joins here a number m draws))) (loaded_view n)

      pub add_already : M.lists here a (view_node n) ≡ true → plain_answer Already n ≡ answer_of (add_peer here s a number draws)
      add_already l =
          sym
          (ap answer_of (passed ∙ ap (λ (u : Bool). or_already u s (kept here s draws (joins here a number (view_node n) draws))) l)
          ∙ unchanged_is Already n)

      module _ (r : Ready n) (l : M.lists here a (view_node n) ≡ false) where
        -- what the list's answer makes of the node
        abbrev after : A.Answer (list.Members Addr) → A.Answer (M.Effect Addr)
        after x = A.and_then x λ m rest. A.done (record { node = M.with_members (view_node n) m; messages = []; events = []; collected = 0 }) rest

        reached : kept here s draws (after (list.add here.same a number (view_node n).members draws)) ≡ add_peer here s a number draws
        reached = sym (passed ∙ ap (λ (u : Bool). or_already u s (kept here s draws (joins here a number (view_node n) draws))) l)

        used-of : (x : A.Answer (list.Members Addr)) (used : ℕ) (m : Members) → drew_of (length draws) x ≡ drew.Used used → m ≡ kept_members n.own n.members x
            → plain_answer (Done used) (with_members n m) ≡ answer_of (kept here s draws (after x))
        used-of (A.refused u) used m d q = let z : ◌≡◌ {A = ℕ} 0 1 = ap drewn d in absurd (omega arith)
          where
            drewn : Drew → ℕ
            drewn (drew.Refused w) = 0
            drewn (drew.Used w) = 1
        used-of (A.done y rest) used m d q =
            let w : ◌≡◌ {A = ℕ} (length draws - length rest) used = cc in
            ap (λ (k : ℕ). plain_answer (Done k) (with_members n m)) (sym w)
            ∙ kept_is (Done (length draws - length rest)) (M.with_members (view_node n) y) (with_members n m) [] 0 (part-members n r y m q)

        refused_of : (x : A.Answer (list.Members Addr)) (u : Refusal) → drew_of (length draws) x ≡ drew.Refused u → plain_answer (Refused u) n ≡ answer_of (kept here s draws (after x))
        refused_of (A.refused w) u d = let z : w ≡ u = cc in ap (λ (k : Refusal). plain_answer (Refused k) n) (sym z) ∙ sym (unchanged_is (Refused w) n)
        refused_of (A.done y rest) u d = let z : ◌≡◌ {A = ℕ} 0 1 = sym (ap drewn d) in absurd (omega arith)
          where
            drewn : Drew → ℕ
            drewn (drew.Refused w) = 0
            drewn (drew.Used w) = 1

        pub add_kept : (used : ℕ) (m : Members) → drew_of (length draws) (list.add here.same a number (view_node n).members draws) ≡ drew.Used used
            → m ≡ kept_members n.own n.members (list.add here.same a number (view_node n).members draws)
            → plain_answer (Done used) (with_members n m) ≡ answer_of (add_peer here s a number draws)
        add_kept used m d q = used-of (list.add here.same a number (view_node n).members draws) used m d q ∙ ap answer_of reached

        pub add-refused : (u : Refusal) → drew_of (length draws) (list.add here.same a number (view_node n).members draws) ≡ drew.Refused u
            → plain_answer (Refused u) n ≡ answer_of (add_peer here s a number draws)
        add-refused u d = refused_of (list.add here.same a number (view_node n).members draws) u d ∙ ap answer_of reached
