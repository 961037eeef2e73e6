-- How a call ends that tests first: each refusal, and what is left as it came.
-- Assumes nothing.
use Rattle.std.specs.Prelude.{◌≡◌, Bool, true, false, List, [], ◌∷◌, ℕ, replicate}
use Rattle.std.proofs.Common.{ap, sym, ◌∙◌}
use Rattle.model.specs.declared.Refusal.{Refusal}
use Rattle.model.specs.declared.Reply.{Reply}
use Rattle.address.specs.Here.{Addr, here}
use Rattle.model.specs.Words as W
use Rattle.model.specs.Node as M
use Rattle.model.specs.Calls.{first_of, unchanged}
use Rattle.node.specs.declared.Node.{Node}
use Rattle.node.specs.Views.{stored_view, pack_node, no_letter, silent_answer, plain_answer, answer_of}
use Rattle.node.specs.Rows.{unstored-stored, unstored_pack}

-- the first test fails, or it is passed and the others go on
pub test_fails : {B : Type 0} (t : Bool × Refusal) (ts : List (Bool × Refusal)) (refuse : Refusal → B) (go : B) → t.0 ≡ true → first_of (t ∷ ts) refuse go ≡ refuse t.1
test_fails t ts refuse go e = ap (λ (u : Bool). elim u [ true ↦ refuse t.1 | false ↦ first_of ts refuse go ]) e

pub test_passes : {B : Type 0} (t : Bool × Refusal) (ts : List (Bool × Refusal)) (refuse : Refusal → B) (go : B) → t.0 ≡ false → first_of (t ∷ ts) refuse go ≡ first_of ts refuse go
test_passes t ts refuse go e = ap (λ (u : Bool). elim u [ true ↦ refuse t.1 | false ↦ first_of ts refuse go ]) e

-- an outcome that changes nothing is a plain answer with the node as it came
pub unchanged_is : (reply : Reply) (n : Node) → answer_of (unchanged reply (stored_view n)) ≡ plain_answer reply n
unfolding answer_of
unchanged_is reply n = λ i. record { reply = reply; node = unstored-stored n i; letters = replicate 4 no_letter; sent = 0; collected = 0 }

-- a kept call that sends nothing
pub kept_is : (reply : Reply) (s : M.Node Addr) (m : Node) (events : List (W.Gossip Addr)) (collected : ℕ) → m ≡ pack_node s
    → silent_answer reply m collected ≡ answer_of (record { reply = reply; node = M.stored here s; messages = []; events = events; collected = collected })
unfolding answer_of
kept_is reply s m events collected e = λ i. record { reply = reply; node = (e ∙ sym (unstored_pack s)) i; letters = replicate 4 no_letter; sent = 0; collected = collected }
