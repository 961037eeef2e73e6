-- What a call leaves of a node in words: its words after a kept call, and else what was there.
-- Assumes nothing.
use Rattle.std.specs.Prelude.{◌≡◌, Bool, eqb}
use Rattle.std.proofs.Common.{ap, sym, ◌∙◌, eq-eqb, ne_eqb}
use Rattle.model.specs.declared.Reply.{Reply}
use Rattle.model.specs.Rows.{pick}
use Rattle.node.specs.declared.Node.{Node}
use Rattle.cwords.specs.Reading.{Rows, node_of}
use Rattle.cwords.specs.Writing.{rows_of, code_of}
use Rattle.cwords.specs.Back.{Puts}

-- the first where a call was kept, else the second
abbrev pub kept : {A : Type 0} → Reply → A → A → A
kept r x y = pick (eqb (code_of r) 0) x y

-- a node after a call: its words, and that the next call reads exactly it
pub record Leaves (reply : Reply) (node : Node) (before after : Rows) : Type 0 where
  pub words : after ≡ kept reply (rows_of node) before
  pub again : node_of after ≡ kept reply node (node_of before)

pub kept_not : {A : Type 0} (r : Reply) (x y : A) → (code_of r ≡ 0 → ⊥) → y ≡ kept r x y
kept_not r x y h = sym (ap (λ (t : Bool). pick t x y) (ne_eqb (code_of r) 0 h))

pub kept_so : {A : Type 0} (r : Reply) (x y : A) → code_of r ≡ 0 → x ≡ kept r x y
kept_so r x y h = sym (ap (λ (t : Bool). pick t x y) (eq-eqb (code_of r) 0 h))

pub stays : (r : Reply) (n : Node) (before : Rows) → (code_of r ≡ 0 → ⊥) → Leaves r n before before
stays r n before h = record { words = kept_not r (rows_of n) before h; again = kept_not r n (node_of before) h }

pub goes : (r : Reply) (n : Node) (before after : Rows) → code_of r ≡ 0 → Puts n after → Leaves r n before after
goes r n before after h p =
    record { words = p.words ∙ kept_so r (rows_of n) before h; again = p.back ∙ kept_so r n (node_of before) h }
