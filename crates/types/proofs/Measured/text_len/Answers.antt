-- `types::Measured::text_len` meets its contract: an address that is the same has the same text.
-- Assumes nothing.
use mathlib.Core.Path.{◌≡◌, ap, sym, ◌∙◌}
use native.Mathlib.Omega.{arith}
use Rattle.address.specs.Here.{here, here_lawful, here_chars}
use borrow.Author.Rules.{rules}
use Rattle.types.proofs.Measured.text_len.Goals as goal

pub returns-then-same : goal.returns-then-same
returns-then-same c =
    let a = c.args in
    let e : a.self.chars ≡ here.chars a.a = c.requires ∙ ap here.chars (sym (here_lawful.test.same_eq _ _ (sym c.same.ensures ∙ c.if-same.true))) in
    (e, omega (arith, e, here_chars a.a))
